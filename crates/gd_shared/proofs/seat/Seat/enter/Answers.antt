use Rattle.std.proofs.Common.{rules, refl, sym, ap, ◌∙◌, subst}
use mathlib.Core.List.{IsPrefix}
use Rattle.left_right.specs.Sides.{view as known}
use Rattle.gd_shared.specs.Published.{Takes}
use Rattle.gd_shared.proofs.Fronts.{begins_itself, begins_then}
use Rattle.gd_shared.proofs.Table.{may_take, still_seated, taken_seated}
use Rattle.gd_shared.proofs.seat.Seat.enter.Goals as goal
use Rattle.gd_shared.proofs.seat.Seat.enter.Goals.{in-Ok+else-begins, in-Err}

pub enter_as-requires : goal.enter_as-requires
enter_as-requires c copy = may_take _ _ copy copy refl (begins_itself copy.front.list) (λ of_store. of_store)

pub returns-then-begins : goal.returns-then-begins
returns-then-begins c =
    let seat = c.self.inside in
    let keeps = c.self.invariant in
    let copy = c.in-Ok.reading.part.value in
    let takes : Takes (known seat.reader.place) copy (known c.in-Ok.reading.place) = search rules in
    let goes = takes.1 keeps.last keeps.knows in
    let entered : IsPrefix seat.entered.list copy.store = subst (IsPrefix seat.entered.list) takes.0 (begins_then seat.entered.list keeps.last.list copy.front.list keeps.goes_on.1 goes.1) in
    let told : IsPrefix seat.told.list copy.front.list = search rules in
    let view = c.self.view_is in (
      sym goes.0 ∙ (sym keeps.goes_on.0 ∙ ap (λ q. q.history) view),
      ap (λ q. q.turned_away) view,
      subst (λ l. IsPrefix l copy.store) (ap (λ q. q.entered) view) entered,
      subst (λ l. IsPrefix l copy.store) (ap (λ q. q.told) view) (subst (IsPrefix seat.told.list) takes.0 told),
    )

pub invariant_of-result-2 : goal.invariant_of-result-2
invariant_of-result-2 c =
    let seat = c.self.inside in
    elim c.match-enter_as.branch [
      | in-Ok+else-begins w ↦
          let takes : Takes (known seat.reader.place) w.in-Ok.reading.part.value (known w.in-Ok.reading.place) = search (rules, w.in-Ok.ensures) in
          still_seated (known w.in-Ok.reading.place) (known c.match-enter_as.reader.place) seat.entered seat.told (ap (λ r. known r.place) w.reader-is ∙ w.leave-reader.ensures.1)
          (taken_seated (known seat.reader.place) (known w.in-Ok.reading.place) w.in-Ok.reading.part.value seat.entered seat.told takes c.self.invariant)
      | in-Err w ↦ still_seated (known seat.reader.place) (known c.match-enter_as.reader.place) seat.entered seat.told (ap (λ r. known r.place) w.reader-is ∙ w.in-Err.ensures.1) c.self.invariant
    ]
