use Rattle.std.proofs.Common.{◌≡◌, ◌∙◌, ◌+◌, ◌<◌, ◌^◌, length, codes, sym, ap, arith}
use Rattle.gd_follow_laws.specs.World.{Run}
use Rattle.gd_follow.specs.Node.{node_of}
use Rattle.gd_following.specs.Replies.{word_line}
use Rattle.gd_following.proofs.Gives.{group_reply, taken_long, given_counted}
use Rattle.gd_following.proofs.giving.answer_group.Goals as goal

pub given_line-requires-clause-taken : goal.given_line-requires-clause-taken
given_line-requires-clause-taken g c = λ is.
    let run : Run = record { from = c.args.from; group = c.args.group.now } in
    let long = taken_long (node_of c.args.node.now) (node_of c.give-given.new.self) run c.give-given.result is c.give-given.ensures.gave in
    let many : c.requests-entries.result ≡ c.args.from + length c.args.group.now = omega (arith, long, c.requests-entries.ensures.count, ap length c.store.ensures) in
    let few : c.args.from + length c.args.group.now < 2 ^ 32 = omega (arith, many, c.requests-entries.ensures.few) in
    c.requires.taken few ∙ ap (λ n. word_line n c.args.line (codes "taken")) (sym many)

pub returns-clause-replies : goal.returns-clause-replies
returns-clause-replies g c =
    let many : c.requests-entries.result ≡ length (node_of c.give-given.new.self).list = omega (arith, c.requests-entries.ensures.count, ap length c.store.ensures) in
    group_reply (node_of c.args.node.now) (node_of c.give-given.new.self) (record { from = c.args.from; group = c.args.group.now }) c.args.line c.requests-entries.result c.give-given.result _
    c.give-given.ensures.gave many c.given_line.ensures

pub returns-clause-counted : goal.returns-clause-counted
returns-clause-counted g c = given_counted c.args.line c.requests-entries.result c.give-given.result _ _ _ c.given_line.ensures c.give-given.ensures.cause
