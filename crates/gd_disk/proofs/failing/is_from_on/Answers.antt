use Rattle.std.proofs.Common.{ℕ, Contains, Option, sym, subst, arith}
use Rattle.std.proofs.Math.Dec.{leb}
use Rattle.std.specs.Bool.{Decides}
use Rattle.gd_disk.specs.Recorded.{from_on}
use Rattle.gd_disk.proofs.Stops.{from_on_decides}
use Rattle.gd_disk.proofs.failing.is_from_on.Goals as goal

pub returns-in-Some : goal.returns-in-Some
returns-in-Some c =
    subst (λ (s : Option ℕ). Decides (leb c.in-Some.after c.args.number) (Contains (from_on s) c.args.number)) (sym c.in-Some.is) (from_on_decides c.in-Some.after c.args.number (omega (arith, c.ranges.number.fits)))
