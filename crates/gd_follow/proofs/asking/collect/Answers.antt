use Rattle.std.proofs.Common.{◌∙◌, ◌++◌, ◌∷◌, [], ◌+◌, List, ap, sym, refl}
use Rattle.gd_prim.specs.declared.Batch.{Batch}
use Rattle.gd_follow.proofs.Stores.{run_more}
use Rattle.gd_follow.proofs.asking.collect.Goals as goal

pub loop-place-preserved : goal.loop-place-preserved
loop-place-preserved c =
    let l = c.loop-place in
    c.in_ok-push.ensures.items ∙ ap (λ (bs : List Batch). bs ++ c.in_ok-batch_at.field-0 ∷ []) l.invariant
    ∙ sym (run_more c.args.store.now c.args.from l.place (c.args.from + l.place) c.in_ok-batch_at.field-0 refl c.in_ok-batch_at.ensures)
