use Rattle.std.proofs.Common.{◌≡◌, subst}
use Rattle.std.specs.Option.{is_some}
use Rattle.gd_core_laws.specs.Bounds.{kept_of}
use Rattle.gd_writer.specs.Outcomes.{is_stored}
use Rattle.gd_writer.specs.Side.{SideValue}
use Rattle.gd_crew.proofs.Rounds.{told_locked}
use Rattle.gd_crew.proofs.writers.Held.receipt.Goals as goal

pub returns : goal.returns
returns g c =
    let d = g.D.Disk in
    record {
      stored = subst (λ (s : SideValue _ _). is_some c.receipt.result ≡ is_stored (kept_of s.outcomes c.args.line)) c.self.view_is c.receipt.ensures.stored;
      told = told_locked d.content d.moment d.images d.images_since d.faults g.C.Clock.may g.L.Round.named c.self.inside.side c.self.invariant c.receipt.result c.receipt.ensures.receipt;
    }
