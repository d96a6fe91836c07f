use Rattle.std.proofs.Common.{List, subst}
use Rattle.std.proofs.lemmas.Result.{IfOk-weaker}
use Rattle.gd_prim.specs.declared.Batch.{Batch}
use Rattle.gd_runs.specs.Core as core
use Rattle.gd_read.specs.Reading.{reading_view, Replies}
use Rattle.gd_read.proofs.States.{replies_over, goes_still, less_over}
use Rattle.gd_read.proofs.session.slice_over.Goals as goal

pub returns-clause-reply : goal.returns-clause-reply
returns-clause-reply g c = IfOk-weaker c.slice.result _ _
    (λ progress replies.
    replies_over c.args.store.now c.args.line c.dateline.result c.args.reading.now progress c.dateline.ensures
    (subst (λ (bs : List Batch). Replies (core.owed_line bs c.args.line (reading_view c.args.reading.now)) progress) c.view-view.ensures replies))
    c.slice.ensures.reply

pub returns-clause-still : goal.returns-clause-still
returns-clause-still g c = IfOk-weaker c.slice.result _ _
    (λ progress going. λ unfinished shown goes.
    goes_still c.args.store.now c.view-view.result c.dateline.result shown c.args.reading.now c.slice.new.self c.view-view.ensures c.dateline.ensures c.slice.ensures.same (going unfinished) goes)
    c.slice.ensures.still

pub returns-clause-less : goal.returns-clause-less
returns-clause-less g c = λ n past.
    less_over n c.args.store.now c.view-view.result c.dateline.result c.args.reading.now c.slice.new.self c.args.steps.now c.slice.new.steps c.view-view.ensures c.dateline.ensures c.slice.ensures.same (c.slice.ensures.less n past)
