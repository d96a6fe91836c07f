use Rattle.std.proofs.Common.{◌∙◌, sym}
use Rattle.gd_base.specs.Counts.{RoseBy}
use Rattle.gd_following.specs.Runs.{HasBatches}
use Rattle.gd_log.specs.Opening.{IsKept}
use Rattle.gd_top.specs.Follows.{LeavesNode}
use Rattle.gd_top.specs.Held.{Loads}
use Rattle.gd_top.proofs.Followed.{node_prints, node_causes, node_tells, node_done, node_between, node_keeps, node_stays}
use Rattle.gd_top.proofs.follow.follow_over.Goals as goal

pub returns-clause-prints : goal.returns-clause-prints
returns-clause-prints g c =
    let run = c.follow-end in
    let d = g.D.Disk in
    rw c.status_of.ensures
    (node_prints (Loads (d.content c.args.disk)) (LeavesNode (d.content c.args.disk) (d.images run.result.1)) (RoseBy (d.faults c.args.disk) (d.faults run.result.1)) _ (g.S.Source.left c.args.source.now) (g.K.Sink.held c.args.sink.now) (g.K.Sink.held run.new.sink) _
    (λ still. still) run.result.0
    (node_stays d.content d.moment d.images d.images_since c.args.disk run.result.1 run.ensures.told run.result.0 (HasBatches (d.images run.result.1)) _ _ _ _ _ run.ensures.kept (λ still. record { source = still.0; sink = still.1 }) run.ensures.ends))

pub returns-clause-at_end : goal.returns-clause-at_end
returns-clause-at_end g c = λ is. node_done _ c.follow-end.result.0 c.follow-end.ensures.at_end (sym c.status_of.ensures ∙ is)

pub returns-clause-sent : goal.returns-clause-sent
returns-clause-sent g c = λ is. node_between _ c.follow-end.result.0 c.follow-end.ensures.sent (sym c.status_of.ensures ∙ is)

pub returns-clause-causes : goal.returns-clause-causes
returns-clause-causes g c =
    let run = c.follow-end in
    let d = g.D.Disk in
    rw c.status_of.ensures
    (node_causes _ _ _ _ (HasBatches (d.images run.result.1)) (λ f. IsKept d.content d.moment d.images d.images_since f c.args.disk run.result.1) (d.content c.args.disk) run.result.0 run.ensures.caused run.ensures.kept)

pub returns-clause-tells : goal.returns-clause-tells
returns-clause-tells g c = rw c.status_of.ensures (node_tells c.follow-end.result.0)

pub returns-clause-kept : goal.returns-clause-kept
returns-clause-kept g c =
    let run = c.follow-end in
    let d = g.D.Disk in
    node_keeps d.content d.moment d.images d.images_since c.args.disk run.result.1 run.ensures.told g.met.D.Disk.reads_one run.result.0 run.ensures.kept
