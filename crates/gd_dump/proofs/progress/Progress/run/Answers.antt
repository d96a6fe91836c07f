use Rattle.std.proofs.Common.{◌≡◌, ◌∙◌, ◌++◌, List, Ok, subst, ap, append_assoc}
use Rattle.std.proofs.lemmas.Result.{err_from_is_err_and}
use Rattle.gd_prim.specs.declared.Batch.{Batch}
use Rattle.gd_dump.specs.Progress.{IsNext, ended}
use Rattle.gd_dump.proofs.Runs.{runs_more, runs_stop, line_shorter}
use Rattle.gd_dump.proofs.progress.Progress.run.Goals as goal

pub returns-in_err-next : goal.returns-in_err-next
returns-in_err-next c =
    let l = c.loop-batch in
    let p = err_from_is_err_and c.from_residual.result c.from_residual.ensures.1 in
    let (more, is, runs) = l.invariant in
    rw (p.1, p.2) (runs_stop c.in_err-next.field-0.0 c.args.self.now l.self c.next.new.self c.args.bytes.now l.rest.now c.args.given.now.items l.given.items more is runs c.in_err-next.ensures)

pub loop-batch-smaller : goal.loop-batch-smaller
loop-batch-smaller c =
    let l = c.loop-batch in
    line_shorter l.self c.next.new.self l.rest.now c.in-Some.behind.now c.in-Some.batch (subst (λ o. IsNext l.self c.next.new.self l.rest.now (Ok o)) c.in-Some.is c.in_ok-next.ensures)

pub loop-batch-preserved : goal.loop-batch-preserved
loop-batch-preserved c =
    let l = c.loop-batch in
    let (more, is, runs) = l.invariant in
    let line = subst (λ o. IsNext l.self c.next.new.self l.rest.now (Ok o)) c.in-Some.is c.in_ok-next.ensures in
    let given : c.keep.new.given.items ≡ c.args.given.now.items ++ (more ++ ended c.in-Some.batch) = c.in_ok-keep-in-Some.ensures ∙ ap (λ (xs : List Batch). xs ++ ended c.in-Some.batch) is ∙ append_assoc c.args.given.now.items more (ended c.in-Some.batch) in
    (more ++ ended c.in-Some.batch, given, runs_more c.args.self.now l.self c.next.new.self c.args.bytes.now l.rest.now c.in-Some.behind.now more c.in-Some.batch runs line)
