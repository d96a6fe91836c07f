use Rattle.std.proofs.Common.{◌∙◌, sym, subst, refl}
use Rattle.std.specs.Io.KnownBytes.{Keeps}
use Rattle.gd_top.specs.Held.{Loads}
use Rattle.gd_top.specs.Kept.{StaysTold}
use Rattle.gd_top.proofs.Dumped.{dump_prints, dump_causes, dump_tells, dump_sent, keeps_same}
use Rattle.gd_top.proofs.Kept.{keeps_refused, stays_refused}
use Rattle.gd_top.proofs.dump.dump_over.Goals as goal

pub returns-clause-prints : goal.returns-clause-prints
returns-clause-prints g c =
    let run = c.dump-end in
    let d = g.D.Disk in
    let sink = c.args.sink.now in
    rw c.status_of.ensures
    (dump_prints (Loads (d.content c.args.disk)) c.args.from (g.K.Sink.held sink) (g.K.Sink.held run.new.sink) _ _
    (λ same. (same, stays_refused d.content d.moment d.images d.images_since c.args.disk run.result.1 run.ensures.kept))
    (λ same. subst (λ k. Keeps (g.K.Sink.held sink) (g.K.Sink.held k)) (sym same) (keeps_same (g.K.Sink.held sink)))
    run.result.0 run.ensures.prints)

pub returns-clause-sent : goal.returns-clause-sent
returns-clause-sent g c = λ is. dump_sent _ c.dump-end.result.0 c.dump-end.ensures.sent (sym c.status_of.ensures ∙ is)

pub returns-clause-causes : goal.returns-clause-causes
returns-clause-causes g c =
    let run = c.dump-end in
    let d = g.D.Disk in
    let sink = c.args.sink.now in
    rw c.status_of.ensures
    (dump_causes c.args.from (g.K.Sink.held sink) (g.K.Sink.held run.new.sink) (d.content c.args.disk) _ _ _ run.result.0 run.ensures.prints run.ensures.caused run.ensures.refused)

pub returns-clause-tells : goal.returns-clause-tells
returns-clause-tells g c = rw c.status_of.ensures (dump_tells c.args.from c.dump-end.result.0)

pub returns-clause-kept : goal.returns-clause-kept
returns-clause-kept g c =
    let run = c.dump-end in
    let d = g.D.Disk in
    keeps_refused d.content d.moment d.images d.images_since c.args.disk run.result.1 run.ensures.kept
