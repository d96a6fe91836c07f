use Rattle.std.proofs.Common.{rules, ◌≡◌, [], drop}
use Rattle.left_right.specs.Sides.{view as known}
use Rattle.gd_shared.specs.Published.{Takes}
use Rattle.gd_shared.specs.declared.published.Published.{Published}
use Rattle.gd_shared.proofs.Table.{may_repeat}
use Rattle.gd_shared.proofs.Pending.{new_publisher}
use Rattle.gd_shared.proofs.sharing.published.Goals as goal

pub publish_as-copies-requires : goal.publish_as-copies-requires
publish_as-copies-requires g c next is =
    let copies = c.in_ok-copies.copies in
    let none : drop copies.behind copies.log.items ≡ [] = search rules in
    may_repeat _ _ copies.desk.shown.value next (drop copies.behind copies.log.items) none is

pub new-requires : goal.new-requires
new-requires g c =
    let f = c.in-Ok.both.1 in
    let after = c.publish_as-copies.result.0 in
    let shown : Published = after.desk.shown.value in
    let is : shown ≡ record { store = c.args.first; front = f } = search rules in
    let none : drop after.behind after.log.items ≡ [] = search rules in
    let all : f.list ≡ c.args.first = search rules in
    let takes : Takes (known c.in_ok-copies.copies.desk.place) shown (known after.desk.place) = search rules in
    new_publisher shown (known after.desk.place) (drop after.behind after.log.items) c.in-Ok.both.0 f c.requests-total.result c.args.first is all none takes.2 c.in-Ok.ensures.counter
    c.requests-total.ensures.count
