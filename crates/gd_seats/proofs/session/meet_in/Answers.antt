use Rattle.std.proofs.Common.{sym, ap, subst}
use mathlib.Core.List.{IsPrefix}
use Rattle.gd_seats.specs.Session.{reads}
use Rattle.gd_seats.specs.Calls.{HasEntered}
use Rattle.gd_seats.proofs.Later.{has_entered}
use Rattle.gd_seats.proofs.Readings.{holds_later}
use Rattle.gd_seats.proofs.session.meet_in.Goals as goal

pub returns-in-Ok : goal.returns-in-Ok
returns-in-Ok c =
    let view = c.session.view_is in (
      subst (λ s. HasEntered s.seat c.leave-seat.result) view (has_entered c.session.inside.seat c.leave-seat.result c.in-Ok.entered c.in-Ok.ensures c.leave-seat.ensures),
      ap reads view,
    )

pub invariant_of-result : goal.invariant_of-result
invariant_of-result c =
    let old = c.session.inside.seat.entered in
    let new = c.leave-seat.result.entered in
    holds_later c.session.inside.state old new (subst (λ l. IsPrefix old l) (sym (ap (λ s. s.entered) c.leave-seat.ensures)) c.in-Ok.ensures.2) c.session.invariant
