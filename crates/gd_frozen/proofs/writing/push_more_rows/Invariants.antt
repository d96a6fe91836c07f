use Rattle.std.proofs.Common.{◌≡◌, ◌++◌, drop, flat_map}
use Rattle.std.specs.Prelude.{codes, decimal, string_bytes}
use Rattle.gd_grammar.specs.Mark.{place_text}
use Rattle.gd_frozen.specs.Written.{row_written, trees_written, frame_written, walk_written}
use Rattle.gd_frozen.proofs.writing.push_more_rows.Given as goal

abbrev pub invariant-loop-row : goal.invariant-loop-row
invariant-loop-row l = string_bytes l.out ++ flat_map (λ x. codes ";" ++ row_written x) (drop l.row-index l.rows) ≡ string_bytes l.fn.out ++ flat_map (λ x. codes ";" ++ row_written x) l.rows
