use Rattle.std.proofs.Common.{List, None, ◌≤◌, sym, ap, subst, ◌∙◌}
use Rattle.std.specs.Prelude.{IfSome}
use mathlib.Core.List.{IsPrefix}
use Rattle.gd_prim.specs.declared.Batch.{Batch}
use Rattle.gd_mql.specs.Requests.{read_set_view}
use Rattle.gd_seats.specs.Session.{seen_of}
use Rattle.gd_seats.specs.Calls.{HasEntered, HasBegunAt, IsRefusedAt}
use Rattle.gd_seats.proofs.Later.{has_entered}
use Rattle.gd_seats.proofs.Readings.{has_begun, is_refused, shown_is, seen_within}
use Rattle.gd_seats.proofs.session.begin_in.Goals as goal

pub returns-in-Ok-begun-clause-begins : goal.returns-in-Ok-begun-clause-begins
returns-in-Ok-begun-clause-begins g c =
    let seat = c.leave-seat.result in
    let state = c.in-Ok-begun.state in
    let same = c.store-store.ensures ∙ sym (ap (λ s. s.entered) c.leave-seat.ensures) in
    let dateline = c.unwrap-dateline.result in
    let request = read_set_view c.args.beginning.request in (
      subst (λ s. HasEntered s.seat seat) c.session.view_is (has_entered c.session.inside.seat seat c.in-Ok.entered c.in-Ok.ensures c.leave-seat.ensures),
      subst (λ n. HasBegunAt n (record { seat = seat; held = state.reading }) request dateline) (shown_is c.args.beginning.at (record { seat = seat; held = state.reading }) c.store-store.result.now c.shown_at-shown.result same c.shown_at-shown.ensures.this c.shown_at-shown.ensures.all)
          (has_begun seat c.store-store.result.now c.shown_at-shown.result request state dateline same c.in-Ok-begun.ensures.begins (sym c.dateline.ensures ∙ c.unwrap-dateline.ensures)),
    )

pub returns-in-Err-begun-clause-begins : goal.returns-in-Err-begun-clause-begins
returns-in-Err-begun-clause-begins g c =
    let seat = c.leave-seat.result in
    let fault = c.in-Err-begun.fault in
    let same = c.store-store.ensures ∙ sym (ap (λ s. s.entered) c.leave-seat.ensures) in
    let request = read_set_view c.args.beginning.request in
    rw c.new.ensures (
      subst (λ s. HasEntered s.seat seat) c.session.view_is (has_entered c.session.inside.seat seat c.in-Ok.entered c.in-Ok.ensures c.leave-seat.ensures),
      subst (λ n. IsRefusedAt n (record { seat = seat; held = None }) request fault) (shown_is c.args.beginning.at (record { seat = seat; held = None }) c.store-store.result.now c.shown_at-shown.result same c.shown_at-shown.ensures.this c.shown_at-shown.ensures.all)
          (is_refused seat c.store-store.result.now c.shown_at-shown.result request fault same c.in-Err-begun.ensures.begins),
    )

pub shown_at-shown-requires : goal.shown_at-shown-requires
shown_at-shown-requires g c =
    let old = c.session.inside.seat in
    seen_within c.args.beginning.at old c.store-store.result.now (subst (λ (l : List Batch). IsPrefix old.entered l) (sym c.store-store.ensures) c.in-Ok.ensures.2) (subst (λ (l : List Batch). IsPrefix old.told l) (sym c.store-store.ensures) c.in-Ok.ensures.3)
    (subst (λ s. IfSome c.args.beginning.at (λ n. n ≤ seen_of s.seat)) (sym c.session.view_is) c.requires.seen)
