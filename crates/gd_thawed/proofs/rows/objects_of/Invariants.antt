use Rattle.std.proofs.Common.{◌≡◌, ◌++◌, map, drop}
use Rattle.gd_window.specs.declared.row.Row.{Row}
use Rattle.gd_thawed.proofs.rows.objects_of.Given as goal

abbrev pub invariant-loop-row : goal.invariant-loop-row
invariant-loop-row l = l.ids.items ++ map (λ (r : Row). r.id) (drop l.row-index l.rows) ≡ map (λ (r : Row). r.id) l.rows
