use Rattle.std.proofs.Common.{◌≡◌, ◌≤◌, ◌<◌, ◌+◌, ◌-◌, ◌∙◌, length, drop, refl, subst, arith, rules}
use Rattle.gd_follow_laws.specs.Given.{past, Agrees}
use Rattle.gd_follow.specs.Node.{node_of, Appended}
use Rattle.gd_follow.proofs.Nodes.{answered_of, rest_of}
use Rattle.gd_follow.proofs.node.Node.take.Goals as goal

pub returns-clause-answered : goal.returns-clause-answered
returns-clause-answered g c =
    let list = c.args.self.now.list in
    let group = c.args.group.now in
    let batches = c.batches-batches.result.now in
    let known = c.requests-entries.result - c.args.from in
    let begins : c.args.from ≤ length list = search rules in
    let agrees : Agrees list c.args.from group = search rules in
    let some : length list < c.args.from + length group = search rules in
    let same : batches ≡ group = search rules in
    let many : known ≡ length list - c.args.from = search rules in
    let is = rest_of batches known (length batches - known) refl ∙ (λ i. drop (many i) (same i)) in
    let appended = subst (λ l. Appended list l c.append_past.result (node_of c.append_past.new.self)) is c.append_past.ensures.appended in
    answered_of list (record { from = c.args.from; group = group }) c.append_past.result (node_of c.append_past.new.self) begins agrees some appended
