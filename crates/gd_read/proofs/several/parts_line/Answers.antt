use Rattle.std.proofs.Common.{◌∙◌, ap, map}
use Rattle.std.proofs.lemmas.Result.{IfOk-weaker}
use Rattle.gd_defs.specs.Reply.{answer_item}
use Rattle.gd_read.specs.Several.{part_request, answer_among}
use Rattle.gd_read.proofs.Together.{owed_several, texts_printed}
use Rattle.gd_read.proofs.several.parts_line.Goals as goal

pub returns : goal.returns
returns c = IfOk-weaker c.answers_line.result _ _
    (λ bytes is batches below go.
    is (map (λ p. answer_item (answer_among batches (part_request p))) c.args.parts.now)
    (ap (map (λ t. t.now)) c.as_slice.ensures.value ∙ c.in_ok-texts.ensures batches go ∙ texts_printed batches c.args.parts.now)
    ∙ owed_several batches c.args.dateline c.args.line c.args.parts.now below)
    c.answers_line.ensures
