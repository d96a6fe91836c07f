use Rattle.std.proofs.Common.{◌≡◌, ◌++◌, map, drop}
use Rattle.gd_defs.specs.Reply.{row_mark}
use Rattle.gd_frozen.specs.Meaning.{row_of}
use Rattle.gd_window.specs.Laws.{defined}
use Rattle.gd_window.specs.declared.row.Row.{Row}
use Rattle.gd_thawed.proofs.freezing.rows_at.Given as goal

abbrev pub invariant-loop-row : goal.invariant-loop-row
invariant-loop-row l = map row_of l.marks.items ++ map (λ (r : Row). row_mark (defined r)) (drop l.row-index l.rows) ≡ map (λ (r : Row). row_mark (defined r)) l.rows
