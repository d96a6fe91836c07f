use denote.Param.Send.{sendable}
use Rattle.std.proofs.Crossing.{crosses}
use Rattle.gd_crew.proofs.Crosses.{worker_send}
use Rattle.gd_crew.proofs.Shares.{held_field}
use Rattle.gd_crew.proofs.round.run_workers.Goals as goal

pub for_each_mut-requires-send-T : goal.for_each_mut-requires-send-T
for_each_mut-requires-send-T g c κs within = search (sendable, worker_send)

pub for_each_mut-requires-sync-F : goal.for_each_mut-requires-sync-F
for_each_mut-requires-sync-F g c κs within =
    let held = held_field _ _ _ g.L.Round g.D.Disk g.C.Clock c.type_bounds.send-L c.type_bounds.send-D c.type_bounds.send-C in
    let rt = c.type_bounds.sync-R in
    let gate = c.type_bounds.sync-G in
    search (sendable, crosses, held) depth 80 fits 5000
