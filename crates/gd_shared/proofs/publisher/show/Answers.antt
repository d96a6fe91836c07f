use Rattle.std.proofs.Common.{rules, ◌≡◌, ◌++◌, [], drop, length, sym, ap, ◌∙◌, subst, Some}
use Rattle.std.specs.Mem.{manually_drop_value}
use Rattle.left_right.specs.Sides.{view as known}
use Rattle.gd_shared.specs.Published.{added, IsPublisher}
use Rattle.gd_shared.specs.declared.published.Published.{Published}
use Rattle.gd_shared.proofs.Pending.{all_of, all_recorded, recorded, not_shown, all_shown}
use Rattle.gd_shared.proofs.publisher.show.Goals as goal

pub invariant_of-publisher : goal.invariant_of-publisher
invariant_of-publisher g c =
    let p = c.publisher.inside in
    let before = manually_drop_value p.copies in
    let shown : Published = before.desk.shown.value in
    let ops = drop before.behind before.log.items in
    let f = c.extend.new.self in
    let after = c.turn-copies.result.0 in
    let grown : f.list ≡ p.front.list ++ drop (length p.front.list) (all_of shown ops) = search rules in
    let history : f.history ≡ p.front.history = c.extend.ensures.history ∙ ap (λ h. h.history) c.copy-front.ensures in
    let all = all_recorded shown _ ops _ p.front _ c.publisher.invariant f grown in
    let next : after.desk.shown.value ≡ record { store = f.list; front = f } = search rules in
    let none : drop after.behind after.log.items ≡ [] = search rules in
    let knows : known after.desk.place ≡ Some f = search rules in
    subst (λ u. IsPublisher u.desk.shown.value (known u.desk.place) (drop u.behind u.log.items) p.counter f p.total) (sym c.new_unchecked-copies.ensures)
    (all_shown shown _ ops p.counter f p.total (recorded shown _ ops p.counter p.front p.total c.publisher.invariant f history all) after.desk.shown.value (known after.desk.place) (drop after.behind after.log.items) all next knows none)

pub invariant_of-publisher-in-Err-shown : goal.invariant_of-publisher-in-Err-shown
invariant_of-publisher-in-Err-shown g c =
    let p = c.publisher.inside in
    let before = manually_drop_value p.copies in
    let shown : Published = before.desk.shown.value in
    let ops = drop before.behind before.log.items in
    let f = c.extend.new.self in
    let after = c.turn-copies.result.0 in
    let grown : f.list ≡ p.front.list ++ drop (length p.front.list) (all_of shown ops) = search rules in
    let history : f.history ≡ p.front.history = c.extend.ensures.history ∙ ap (λ h. h.history) c.copy-front.ensures in
    let all = all_recorded shown _ ops _ p.front _ c.publisher.invariant f grown in
    let same : after.desk.shown.value ≡ shown = search rules in
    let left : added (drop after.behind after.log.items) ≡ added ops = search rules in
    let knows : known after.desk.place ≡ known before.desk.place = search rules in
    subst (λ u. IsPublisher u.desk.shown.value (known u.desk.place) (drop u.behind u.log.items) p.counter f p.total) (sym c.new_unchecked-copies.ensures)
    (not_shown shown _ ops p.counter f p.total (recorded shown _ ops p.counter p.front p.total c.publisher.invariant f history all) after.desk.shown.value (known after.desk.place) (drop after.behind after.log.items) same knows left)

pub returns-in-Ok-shown-clause-shown : goal.returns-in-Ok-shown-clause-shown
returns-in-Ok-shown-clause-shown g c =
    let p = c.publisher.inside in
    let before = manually_drop_value p.copies in
    let shown : Published = before.desk.shown.value in
    let ops = drop before.behind before.log.items in
    let f = c.extend.new.self in
    let after = c.turn-copies.result.0 in
    let grown : f.list ≡ p.front.list ++ drop (length p.front.list) (all_of shown ops) = search rules in
    let all = all_recorded shown _ ops _ p.front _ c.publisher.invariant f grown in
    let next : after.desk.shown.value ≡ record { store = f.list; front = f } = search rules in
    let none : drop after.behind after.log.items ≡ [] = search rules in
    let kept = c.new_unchecked-copies.ensures in
    (ap (λ u. u.desk.shown.value.store) kept ∙ (ap (λ q. q.store) next ∙ (all ∙ ap (λ q. q.shown ++ q.pending) c.publisher.view_is)), ap (λ u. added (drop u.behind u.log.items)) kept ∙ ap added none)

pub turn-copies-requires-clause-all : goal.turn-copies-requires-clause-all
turn-copies-requires-clause-all g c =
    let p = c.publisher.inside in
    let before = manually_drop_value p.copies in
    let shown : Published = before.desk.shown.value in
    let ops = drop before.behind before.log.items in
    let f = c.extend.new.self in
    let grown : f.list ≡ p.front.list ++ drop (length p.front.list) (all_of shown ops) = search rules in
    let copies : before ≡ c.into_inner-copies.result = search rules in
    ap (λ h. h.list) c.copy.ensures ∙ all_recorded shown _ ops _ p.front _ c.publisher.invariant f grown ∙ ap (λ w. w.desk.shown.value.store ++ added (drop w.behind w.log.items)) copies
