use Rattle.std.proofs.Common.{ℕ, List, Contains, subst}
use Rattle.std.specs.Bool.{Decides}
use Rattle.gd_disk.specs.Recorded.{from_on}
use Rattle.gd_disk.proofs.Stops.{in_other}
use Rattle.gd_disk.proofs.failing.Failing.has.Goals as goal

pub returns-else-is_from_on : goal.returns-else-is_from_on
returns-else-is_from_on c =
    let s = c.self.inside in
    let listed = subst (λ (l : List ℕ). Decides c.is_among.result (Contains l c.args.number)) c.deref.ensures.value c.is_among.ensures in
    subst (λ (l : List ℕ). Decides c.is_among.result (Contains l c.args.number)) c.self.view_is (in_other (from_on s.stop) s.numbers.items c.args.number c.is_from_on.result c.is_among.result c.if-is_from_on.false c.is_from_on.ensures listed)
