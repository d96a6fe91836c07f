use Rattle.std.proofs.Common.{sym, subst}
use Rattle.gd_following.specs.Given.{TellsAsk}
use Rattle.gd_following.proofs.Answered.{ask_told}
use Rattle.gd_following.proofs.answering.answer_ask.Goals as goal

pub returns : goal.returns
returns g c =
    let list = c.args.node.now.list in
    subst (λ reply. TellsAsk list c.args.line c.args.from c.args.most reply) (sym c.made.ensures) (ask_told list c.args.line c.args.from c.args.most c.ask_reply.result c.ask_reply.ensures)
