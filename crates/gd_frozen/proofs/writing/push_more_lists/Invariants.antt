use Rattle.std.proofs.Common.{◌≡◌, ◌++◌, drop, flat_map}
use Rattle.std.specs.Prelude.{codes, decimal, string_bytes}
use Rattle.gd_grammar.specs.Mark.{place_text}
use Rattle.gd_frozen.specs.Written.{row_written, trees_written, frame_written, walk_written}
use Rattle.gd_frozen.proofs.writing.push_more_lists.Given as goal

abbrev pub invariant-loop-trees : goal.invariant-loop-trees
invariant-loop-trees l = string_bytes l.out ++ flat_map (λ x. codes "," ++ trees_written x) (drop l.trees-index l.lists) ≡ string_bytes l.fn.out ++ flat_map (λ x. codes "," ++ trees_written x) l.lists
