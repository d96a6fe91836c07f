use Rattle.std.proofs.Common.{◌++◌, codes, ap, ◌∙◌, option_map}
use Rattle.std.proofs.lemmas.Result.{IfOk-weaker}
use Rattle.gd_defs.specs.Reply.{within_reply}
use Rattle.gd_json.specs.View.{view}
use Rattle.gd_reply.proofs.Found.{line_told}
use Rattle.gd_reply.proofs.answer.found_line.Goals as goal

pub returns : goal.returns
returns c =
    let outcome = c.args.outcome.now in
    let made = c.in_ok-push.ensures.items ∙ ap (λ zs. zs ++ codes "}") (c.in_ok-extend_from_slice.ensures.items ∙ ap (λ zs. zs ++ outcome) c.in_ok-bytes.ensures) in
    IfOk-weaker c.within_reply.result _ _ (λ bytes is expected told. is ∙ ap (within_reply c.args.dateline c.args.line) made ∙ line_told c.args.dateline c.args.line (option_map view c.args.cursor.now) outcome expected told) c.within_reply.ensures
