use Rattle.std.proofs.Common.{◌∷◌, [], ◌∙◌, ap, map, arith}
use Rattle.std.proofs.lemmas.List.{take_all, map-append}
use Rattle.gd_read.specs.Several.{part_request, text_among}
use Rattle.gd_read.proofs.Together.{texts_more}
use Rattle.gd_read.proofs.several.texts_of.Goals as goal

pub loop-part-preserved : goal.loop-part-preserved
loop-part-preserved c = λ batches go.
    ap (map (λ t. t.now)) c.in_ok-push-in-Answered.ensures.items
    ∙ map-append (λ t. t.now) c.loop-part.texts.items (c.as_slice.result ∷ [])
    ∙ texts_more batches c.args.parts.now c.loop-part.part-index c.part-item.result c.in-Answered.request c.in-Answered.text (map (λ t. t.now) c.loop-part.texts.items) c.as_slice.result.now
    c.loop-part-test.true c.part-item.is c.in-Answered.is c.as_slice.ensures.value go (c.loop-part.invariant batches go)

pub returns : goal.returns
returns c = λ batches go. c.loop-part.invariant batches go ∙ ap (map (λ part. text_among batches (part_request part))) (take_all c.loop-part.part-index c.args.parts.now (omega arith))
