use Rattle.std.proofs.Common.{rules, ◌≡◌, ◌++◌, ◌∷◌, [], drop, ap, ◌∙◌}
use Rattle.gd_shared.specs.Published.{added}
use Rattle.gd_shared.specs.declared.published.Op.TheVariants.{Close}
use Rattle.gd_shared.proofs.Pending.{may_show, added_none}
use Rattle.gd_shared.proofs.publisher.turn.Goals as goal

pub publish_as-copies-requires : goal.publish_as-copies-requires
publish_as-copies-requires g c next is =
    let before = c.args.copies in
    let after = c.append.new.self in
    let more : drop after.behind after.log.items ≡ drop before.behind before.log.items ++ Close c.args.front ∷ [] = search rules in
    may_show before.desk.shown.value after.desk.shown.value next (drop before.behind before.log.items) (drop after.behind after.log.items) c.args.front _ _ c.requires.shown c.requires.history c.requires.all
    (ap (λ d. d.shown.value) c.append.ensures.desk) more is

pub returns-in-Err : goal.returns-in-Err
returns-in-Err g c =
    let before = c.args.copies in
    let after = c.append.new.self in
    let left = c.publish_as-copies.result.0 in
    let more : drop after.behind after.log.items ≡ drop before.behind before.log.items ++ Close c.args.front ∷ [] = search rules in
    let same : drop left.behind left.log.items ≡ drop after.behind after.log.items = search rules in
    let shown : left.desk.shown.value ≡ after.desk.shown.value = search rules in
    let desk = c.append.ensures.desk in
    (shown ∙ ap (λ d. d.shown.value) desk, ap added (same ∙ more) ∙ added_none (drop before.behind before.log.items) c.args.front, search rules)
