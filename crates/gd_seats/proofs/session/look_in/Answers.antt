use Rattle.std.proofs.Common.{List, sym, ap, subst, ◌∙◌}
use mathlib.Core.List.{IsPrefix}
use Rattle.gd_prim.specs.declared.Batch.{Batch}
use Rattle.gd_mql.specs.Requests.{read_set_view}
use Rattle.gd_seats.specs.Calls.{LooksAs}
use Rattle.gd_seats.proofs.Later.{has_entered}
use Rattle.gd_seats.proofs.Readings.{holds_later, looks_in}
use Rattle.gd_seats.proofs.session.look_in.Goals as goal

pub returns-in-Ok : goal.returns-in-Ok
returns-in-Ok c =
    let old = c.session.inside.seat in
    let seat = c.leave-seat.result in
    subst (λ s. LooksAs s (record { seat = seat; held = c.session.inside.state.reading }) (read_set_view c.args.request.now) c.seen_at.result) c.session.view_is
    (looks_in old seat c.store.result.now c.session.inside.state (read_set_view c.args.request.now) c.requests-latest.result c.seen_at.result (c.store.ensures ∙ sym (ap (λ s. s.entered) c.leave-seat.ensures)) c.requests-latest.ensures.count
    (has_entered old seat c.in-Ok.entered c.in-Ok.ensures c.leave-seat.ensures) c.seen_at.ensures.ok c.seen_at.ensures.err)

pub invariant_of-result : goal.invariant_of-result
invariant_of-result c =
    let old = c.session.inside.seat.entered in
    let new = c.leave-seat.result.entered in
    holds_later c.session.inside.state old new (subst (λ l. IsPrefix old l) (sym (ap (λ s. s.entered) c.leave-seat.ensures)) c.in-Ok.ensures.2) c.session.invariant
