use Rattle.std.proofs.Common.{◌≡◌, ◌++◌, drop, flat_map}
use Rattle.std.specs.Prelude.{codes, decimal, string_bytes}
use Rattle.gd_grammar.specs.Mark.{place_text}
use Rattle.gd_frozen.specs.Written.{row_written, trees_written, frame_written, walk_written}
use Rattle.gd_frozen.proofs.writing.push_keys.Given as goal

abbrev pub invariant-loop-key : goal.invariant-loop-key
invariant-loop-key l = string_bytes l.out ++ flat_map (λ x. codes "," ++ place_text x) (drop l.key-index l.keys) ≡ string_bytes l.fn.out ++ flat_map (λ x. codes "," ++ place_text x) l.keys
