use Rattle.std.proofs.Common.{◌≡◌, ◌-◌, ◌∙◌, ap, take, drop, map}
use Rattle.gd_gen.specs.Replies.{reply_lines, result_of}
use Rattle.gd_gen.proofs.Results.{summarized}
use Rattle.gd_gen.proofs.summary.summary_of_lines.Goals as goal

pub returns : goal.returns
returns c =
    let last : c.skip.new.self ≡ drop (c.args.count - 20) (reply_lines c.args.output.now) = c.skip.ensures ∙ ap (λ n. drop (c.args.count - 20) n) c.new-lines.ensures in
    c.in_ok-line.ensures ∙ summarized _ _ _ _ _ c.requires.lines c.requires.enough last c.in_ok-counts.ensures.found
    (c.in_ok-linked.ensures.found ∙ ap (λ n. map result_of (take 10 n)) c.in_ok-counts.ensures.later)
