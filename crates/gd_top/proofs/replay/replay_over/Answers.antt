use Rattle.std.proofs.Common.{◌∙◌, sym}
use Rattle.std.specs.Option.{is_some}
use Rattle.gd_base.specs.Counts.{RoseBy}
use Rattle.gd_log.specs.Opening.{IsKept}
use Rattle.gd_runs.specs.Core.{State}
use Rattle.gd_threads.specs.PassedOn.{Tells}
use Rattle.gd_replay.specs.Kept.{HasBatches}
use Rattle.gd_replay.specs.Stops.{Leaves}
use Rattle.gd_top.specs.Ends.{IsIdle}
use Rattle.gd_top.specs.Held.{Loads}
use Rattle.gd_top.specs.Kept.{StaysTold}
use Rattle.gd_top.proofs.Replayed.{events_print, ends_unbegun, idle_is, events_at_end, events_tells, events_keep, events_causes, fewer_rose}
use Rattle.gd_top.proofs.replay.replay_over.Goals as goal

pub returns-clause-prints : goal.returns-clause-prints
returns-clause-prints g c =
    let run = c.replay-end in
    let source = c.args.source.now in
    let sink = c.args.sink.now in
    let d = g.D.Disk in
    rw c.status_of.ensures
    (events_print (is_some (d.content c.args.disk)) (g.C.Clock.may c.args.clock) (Loads (g.D.Disk.content c.args.disk)) (λ (t : State). Tells (d.content c.args.disk) → Leaves (d.images run.result.1) t)
    (RoseBy (g.D.Disk.faults c.args.disk) (g.D.Disk.faults run.result.1))
    (IsIdle source run.new.source sink run.new.sink × StaysTold (d.content c.args.disk) (d.content run.result.1) (d.images c.args.disk) (d.images run.result.1)) (g.S.Source.left source) (g.K.Sink.held sink) (g.K.Sink.held run.new.sink) (λ m n less rose. fewer_rose (d.faults c.args.disk) (d.faults run.result.1) m n less rose) run.result.0
    (ends_unbegun d.content d.moment d.images d.images_since c.args.disk run.result.1 run.result.0 run.ensures.kept _ _ _ _ _ (idle_is source run.new.source sink run.new.sink) run.ensures.ends))

pub returns-clause-at_end : goal.returns-clause-at_end
returns-clause-at_end g c = λ is. events_at_end c.replay-end.result.0 _ c.replay-end.ensures.at_end (sym c.status_of.ensures ∙ is)

pub returns-clause-causes : goal.returns-clause-causes
returns-clause-causes g c =
    let run = c.replay-end in
    let d = g.D.Disk in
    rw c.status_of.ensures
    (events_causes _ _ _ _ (HasBatches (d.content run.result.1) (d.images run.result.1)) (λ file. IsKept d.content d.moment d.images d.images_since file c.args.disk run.result.1) (d.content c.args.disk) run.result.0 run.ensures.caused run.ensures.kept)

pub returns-clause-tells : goal.returns-clause-tells
returns-clause-tells g c = rw c.status_of.ensures (events_tells c.replay-end.result.0)

pub returns-clause-kept : goal.returns-clause-kept
returns-clause-kept g c =
    let run = c.replay-end in
    let d = g.D.Disk in
    events_keep d.content d.moment d.images d.images_since c.args.disk run.result.1 run.result.0 run.ensures.kept g.met.D.Disk.reads_one

pub returns-clause-sent : goal.returns-clause-sent
returns-clause-sent g c = λ is. events_at_end c.replay-end.result.0 _ c.replay-end.ensures.sent (sym c.status_of.ensures ∙ is)
