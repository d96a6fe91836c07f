use Rattle.std.proofs.Common.{◌+◌, ◌≤◌, List, length, sym, ap, subst, ◌∙◌}
use mathlib.Core.List.{IsPrefix}
use Rattle.gd_prim.specs.declared.Batch.{Batch}
use Rattle.gd_read.specs.Session.{HoldsGoing}
use Rattle.gd_seats.specs.Session.{SessionValue, left_of}
use Rattle.gd_seats.specs.Calls.{SlicesAs}
use Rattle.gd_seats.proofs.Later.{has_entered}
use Rattle.gd_seats.proofs.Readings.{holds_later, slices_in, less_in}
use Rattle.gd_seats.proofs.session.slice_in.Goals as goal

pub returns-in-Ok-clause-slices : goal.returns-in-Ok-clause-slices
returns-in-Ok-clause-slices g c =
    let old = c.session.inside.seat in
    let seat = c.leave-seat.result in
    subst (λ (s : SessionValue). SlicesAs s (record { seat = seat; held = c.slice-sliced.new.self.reading }) c.args.slicing.line c.answer_of.result) c.session.view_is
    (slices_in old seat c.store.result.now c.session.inside.state c.slice-sliced.new.self c.args.slicing.line c.slice-sliced.result c.answer_of.result c.session.invariant (c.store.ensures ∙ sym (ap (λ s. s.entered) c.leave-seat.ensures))
    (has_entered old seat c.in-Ok.entered c.in-Ok.ensures c.leave-seat.ensures) c.slice-sliced.ensures.slices c.answer_of.ensures.ok c.answer_of.ensures.err)

pub returns-in-Ok-clause-less : goal.returns-in-Ok-clause-less
returns-in-Ok-clause-less g c = λ n past.
    let old = c.session.inside.seat in
    let seat = c.leave-seat.result in
    subst (λ (s : SessionValue). c.slice-sliced.new.steps + left_of n (record { seat = seat; held = c.slice-sliced.new.self.reading }) ≤ c.args.slicing.steps + left_of n s) c.session.view_is
    (less_in n old seat c.store.result.now c.session.inside.state c.slice-sliced.new.self c.args.slicing.steps c.slice-sliced.new.steps c.session.invariant (c.store.ensures ∙ sym (ap (λ s. s.entered) c.leave-seat.ensures))
    (subst (λ (l : List Batch). IsPrefix old.entered l) (sym c.store.ensures) c.in-Ok.ensures.2) (c.slice-sliced.ensures.less n past))

pub slice-sliced-requires-clause-going : goal.slice-sliced-requires-clause-going
slice-sliced-requires-clause-going g c =
    let old = c.session.inside.seat.entered in
    holds_later c.session.inside.state old c.store.result.now (subst (λ (l : List Batch). IsPrefix old l) (sym c.store.ensures) c.in-Ok.ensures.2) c.session.invariant

pub invariant_of-result : goal.invariant_of-result
invariant_of-result g c =
    let old = c.session.inside.seat.entered in
    let going = holds_later c.session.inside.state old c.store.result.now (subst (λ (l : List Batch). IsPrefix old l) (sym c.store.ensures) c.in-Ok.ensures.2) c.session.invariant in
    subst (λ (l : List Batch). HoldsGoing l (length l) c.slice-sliced.new.self) (c.store.ensures ∙ sym (ap (λ s. s.entered) c.leave-seat.ensures)) (c.slice-sliced.ensures.still (length c.store.result.now) going)
