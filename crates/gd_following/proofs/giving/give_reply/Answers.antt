use Rattle.std.proofs.Common.{◌≡◌, length, sym, ap, subst, arith, rules}
use Rattle.gd_follow.specs.Node.{node_of}
use Rattle.gd_following.specs.Replies.{GiveReply}
use Rattle.gd_following.proofs.Gives.{bad_given}
use Rattle.gd_following.proofs.giving.give_reply.Goals as goal

pub returns-in-Err-BadBytes-clause-replies : goal.returns-in-Err-BadBytes-clause-replies
returns-in-Err-BadBytes-clause-replies g c =
    let node = node_of c.args.node.now in
    let many : c.requests-entries.result ≡ length node.list = omega (arith, c.requests-entries.ensures.count, ap length c.store.ensures) in
    subst (λ reply. GiveReply node c.args.line c.args.from c.args.bytes.now reply node) (sym c.made.ensures)
    (bad_given node c.args.line c.args.from c.args.bytes.now c.in-Err-BadBytes.offset c.requests-entries.result c.refusal_line.result (search rules) many c.refusal_line.ensures)
