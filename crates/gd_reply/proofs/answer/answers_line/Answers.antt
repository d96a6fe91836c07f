use Rattle.std.proofs.Common.{◌++◌, map, codes, ap, ◌∙◌}
use Rattle.std.proofs.lemmas.Result.{IfOk-weaker}
use Rattle.gd_defs.specs.Reply.{within_reply}
use Rattle.gd_reply.specs.Answers.{joined}
use Rattle.gd_reply.proofs.Several.{several_line}
use Rattle.gd_reply.proofs.answer.answers_line.Goals as goal

pub returns : goal.returns
returns c =
    let texts = map (λ t. t.now) c.args.texts.now in
    let made = c.in_ok-extend_from_slice.ensures.items
    ∙ ap (λ zs. zs ++ codes "]}") (c.in_ok-push_joined.ensures ∙ ap (λ zs. zs ++ joined texts) (c.in_ok-push.ensures.items ∙ ap (λ zs. zs ++ codes "[") c.in_ok-bytes.ensures)) in
    IfOk-weaker c.within_reply.result _ _ (λ bytes is js are. is ∙ ap (within_reply c.args.dateline c.args.line) (made ∙ several_line c.args.dateline c.args.line texts js are)) c.within_reply.ensures
