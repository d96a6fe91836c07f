use Rattle.std.proofs.Common.{◌≡◌, ◌++◌, drop, flat_map}
use Rattle.std.specs.Prelude.{codes, decimal, string_bytes}
use Rattle.gd_grammar.specs.Mark.{place_text}
use Rattle.gd_frozen.specs.Written.{row_written, trees_written, frame_written, walk_written}
use Rattle.gd_frozen.proofs.writing.push_more_walks.Given as goal

abbrev pub invariant-loop-walk : goal.invariant-loop-walk
invariant-loop-walk l = string_bytes l.out ++ flat_map (λ x. codes ";" ++ walk_written x) (drop l.walk-index l.walks) ≡ string_bytes l.fn.out ++ flat_map (λ x. codes ";" ++ walk_written x) l.walks
