use Rattle.std.proofs.Common.{◌≡◌, drop}
use Rattle.gd_window.specs.Rows.{keys_cmp}
use Rattle.gd_window.proofs.compare.keys_order.Given as goal

abbrev pub invariant-loop-place : goal.invariant-loop-place
invariant-loop-place l = keys_cmp (drop l.place l.order) (drop l.place l.a) (drop l.place l.b) ≡ keys_cmp l.order l.a l.b
