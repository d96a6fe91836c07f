use Rattle.std.proofs.Common.{Option, Some, List, take, subst, ap, ◌∙◌}
use Rattle.gd_prim.specs.declared.Batch.{Batch}
use Rattle.gd_frozen.specs.declared.frozen.FrozenReading.{FrozenReading}
use Rattle.gd_read.specs.Freezing.{ReadingFreezes}
use Rattle.gd_read.proofs.Frozen.{freezes_some}
use Rattle.gd_read.proofs.session.text_over.Goals as goal

pub returns-in_ok-frozen_text-in-Some : goal.returns-in_ok-frozen_text-in-Some
returns-in_ok-frozen_text-in-Some c =
    freezes_some c.args.store.now c.args.reading.now c.in-Some.frozen c.in_ok-frozen_text-in-Some.field-0.items
    (subst (λ (bs : List Batch). ReadingFreezes bs c.args.reading.now (Some c.in-Some.frozen)) (c.view-view.ensures ∙ ap (λ n. take n c.args.store.now) c.dateline-dateline.ensures)
    (subst (λ (o : Option FrozenReading). ReadingFreezes c.view-view.result c.args.reading.now o) c.in-Some.is c.in_ok-frozen.ensures))
    c.in_ok-frozen_text-in-Some.ensures.spelled
