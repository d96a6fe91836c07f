use Rattle.std.proofs.Common.{◌∙◌, sym}
use Rattle.gd_top.specs.Held.{Loads}
use Rattle.gd_top.proofs.Kept.{keeps_refused, stays_refused}
use Rattle.gd_top.proofs.Patterned.{answers_print, answers_cause, answers_tell, answers_done, answers_between}
use Rattle.gd_top.proofs.templates.templates_over.Goals as goal

pub returns-clause-prints : goal.returns-clause-prints
returns-clause-prints g c =
    let run = c.answer_templates-end in
    let d = g.D.Disk in
    rw c.status_of.ensures
    (answers_print (Loads (d.content c.args.disk)) _ (g.S.Source.left c.args.source.now) (g.K.Sink.held c.args.sink.now) (g.K.Sink.held run.new.sink) _
    (λ still. (record { source = still.0; sink = still.1 }, stays_refused d.content d.moment d.images d.images_since c.args.disk run.result.1 run.ensures.kept))
    run.result.0 run.ensures.ends)

pub returns-clause-at_end : goal.returns-clause-at_end
returns-clause-at_end g c = λ is. answers_done _ c.answer_templates-end.result.0 c.answer_templates-end.ensures.at_end (sym c.status_of.ensures ∙ is)

pub returns-clause-sent : goal.returns-clause-sent
returns-clause-sent g c = λ is. answers_between _ c.answer_templates-end.result.0 c.answer_templates-end.ensures.sent (sym c.status_of.ensures ∙ is)

pub returns-clause-causes : goal.returns-clause-causes
returns-clause-causes g c =
    let run = c.answer_templates-end in
    rw c.status_of.ensures (answers_cause _ _ _ _ (g.D.Disk.content c.args.disk) run.result.0 run.ensures.caused run.ensures.opened run.ensures.refused)

pub returns-clause-tells : goal.returns-clause-tells
returns-clause-tells g c = rw c.status_of.ensures (answers_tell c.answer_templates-end.result.0)

pub returns-clause-kept : goal.returns-clause-kept
returns-clause-kept g c =
    let run = c.answer_templates-end in
    let d = g.D.Disk in
    keeps_refused d.content d.moment d.images d.images_since c.args.disk run.result.1 run.ensures.kept
