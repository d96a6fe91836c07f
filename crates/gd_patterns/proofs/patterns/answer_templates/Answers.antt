use Rattle.std.proofs.Common.{◌≡◌, List, sym, subst}
use Rattle.gd_prim.specs.declared.Batch.{Batch}
use Rattle.gd_patterns.specs.Patterns.{Loads}
use Rattle.gd_patterns.proofs.Replied.{all_more, taken_more, front_more}
use Rattle.gd_patterns.proofs.Ends.{begun_as, if_opened}
use Rattle.gd_patterns.proofs.patterns.answer_templates.Goals as goal

pub returns-in-Ok-clause-ends : goal.returns-in-Ok-clause-ends
returns-in-Ok-clause-ends g c =
    let store = c.in-Ok.store in
    let told = g.D.Disk.content c.args.disk in
    let old = g.K.Sink.held c.args.sink.now in
    let new = g.K.Sink.held c.answer_opened-end.new.sink in
    let left = g.S.Source.left c.args.source.now in
    let more : (l : List Batch) → l ≡ store → Loads told l = λ l is. subst (λ (bs : List Batch). Loads told bs) (sym is) c.in-Ok.ensures.means in
    begun_as c.answer_opened-end.result _ _ _ _ _ _ _
    (all_more (λ l. l ≡ store) (Loads told) more old new left)
    (taken_more (λ l. l ≡ store) (Loads told) more old new left)
    (front_more (λ l. l ≡ store) (Loads told) more old new left)
    c.answer_opened-end.ensures.ends

pub returns-in-Ok-clause-opened : goal.returns-in-Ok-clause-opened
returns-in-Ok-clause-opened g c = if_opened c.answer_opened-end.result _ (c.in-Ok.store, c.in-Ok.ensures.means)
