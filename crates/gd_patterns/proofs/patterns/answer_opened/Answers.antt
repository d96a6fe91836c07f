use Rattle.std.proofs.Common.{◌≡◌, ◌∙◌, List}
use Rattle.gd_prim.specs.declared.Batch.{Batch}
use Rattle.gd_patterns.proofs.Replied.{all_answered, taken_answered, front_answered, all_more, taken_more, front_more}
use Rattle.gd_patterns.proofs.Ends.{ended_as, ended_between, ended_ok, ended_causes}
use Rattle.gd_patterns.proofs.patterns.answer_opened.Goals as goal

pub returns-clause-ends : goal.returns-clause-ends
returns-clause-ends g c =
    let bs = c.new-newest.result in
    let store = c.args.store in
    let after = c.answer_all-end.new.answers in
    let old = g.K.Sink.held c.args.sink.now in
    let new = g.K.Sink.held c.answer_all-end.new.sink in
    let left = g.S.Source.left c.args.source.now in
    let more : (l : List Batch) → l ≡ bs → l ≡ store = λ l is. is ∙ c.new-newest.ensures in
    rw c.ended.ensures
    (ended_as c.answer_all-end.result _ _ _ _ _ _ _
    (λ all. all_more (λ l. l ≡ bs) (λ l. l ≡ store) more old new left (all_answered bs after old new left all))
    (λ taken. taken_more (λ l. l ≡ bs) (λ l. l ≡ store) more old new left (taken_answered bs after old new left taken))
    (λ front. front_more (λ l. l ≡ bs) (λ l. l ≡ store) more old new left (front_answered bs after old new left front))
    c.answer_all-end.ensures.ends)

pub returns-clause-at_end : goal.returns-clause-at_end
returns-clause-at_end g c = rw c.ended.ensures (ended_ok c.answer_all-end.result _ c.answer_all-end.ensures.at_end)

pub returns-clause-sent : goal.returns-clause-sent
returns-clause-sent g c = rw c.ended.ensures (ended_between c.answer_all-end.result _ c.answer_all-end.ensures.sent)

pub returns-clause-caused : goal.returns-clause-caused
returns-clause-caused g c = rw c.ended.ensures (ended_causes c.answer_all-end.result _ _ _ _ c.answer_all-end.ensures.caused)
