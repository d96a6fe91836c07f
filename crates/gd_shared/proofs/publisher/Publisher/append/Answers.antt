use Rattle.std.proofs.Common.{rules, ◌≡◌, ◌++◌, ◌∷◌, [], drop, ◌+◌, sym, ap, ◌∙◌, subst}
use Rattle.std.specs.Mem.{manually_drop_value}
use Rattle.left_right.specs.Sides.{view as known}
use Rattle.gd_shared.specs.Published.{added, IsPublisher}
use Rattle.gd_shared.specs.declared.published.Op.TheVariants.{Add}
use Rattle.gd_shared.proofs.Pending.{appended, added_one}
use Rattle.gd_shared.proofs.publisher.Publisher.append.Goals as goal

pub invariant_of-self : goal.invariant_of-self
invariant_of-self c =
    let p = c.self.inside in
    let before = manually_drop_value p.copies in
    let after = c.append.new.self in
    let more : drop after.behind after.log.items ≡ drop before.behind before.log.items ++ Add c.args.batch ∷ [] = search rules in
    let desk : after.desk ≡ before.desk = c.append.ensures.desk ∙ ap (λ (x : _). x.desk) c.deref_mut.ensures.value in
    subst (λ d. IsPublisher d.shown.value (known d.place) (drop after.behind after.log.items) p.counter p.front (p.total + 1)) (sym desk)
    (appended before.desk.shown.value (known before.desk.place) (drop before.behind before.log.items) p.counter p.front p.total c.self.invariant (drop after.behind after.log.items) c.args.batch more)

pub returns-in-Ok-clause-pending : goal.returns-in-Ok-clause-pending
returns-in-Ok-clause-pending c =
    let before = manually_drop_value c.self.inside.copies in
    let after = c.append.new.self in
    let more : drop after.behind after.log.items ≡ drop before.behind before.log.items ++ Add c.args.batch ∷ [] = search rules in
    ap added more ∙ (added_one (drop before.behind before.log.items) c.args.batch ∙ ap (λ q. q.pending ++ c.args.batch ∷ []) c.self.view_is)
