use Rattle.std.proofs.Common.{ap, ◌∙◌}
use Rattle.std.proofs.lemmas.Result.{IfOk-weaker}
use Rattle.gd_defs.specs.Lines as printed
use Rattle.gd_defs.specs.Reply.{within_reply}
use Rattle.gd_sessions.proofs.lines.frozen_line.Goals as goal

pub returns : goal.returns
returns c = IfOk-weaker c.within_reply.result _ _
    (λ bytes is. is ∙ ap (within_reply c.args.dateline c.args.line) (c.in_ok-made.ensures.line ∙ ap (printed.ok_line c.args.dateline c.args.line) c.in_ok-told.ensures)) c.within_reply.ensures
