use Rattle.std.proofs.Common.{refl}
use Rattle.gd_base.specs.Counts.{RoseBy}
use Rattle.gd_words.specs.Verbs.{verb_in}
use Rattle.gd_top.specs.Ends.{IsIdle}
use Rattle.gd_top.specs.Kept.{StaysTold}
use Rattle.gd_top.proofs.Framed.{printed_weaker, printed_at, printed_refused}
use Rattle.gd_top.proofs.Kept.{keeps_nothing, keeps_shelved, stays_same, stays_shelved}
use Rattle.gd_top.proofs.Caused.{shelf_tells}
use Rattle.gd_top.proofs.Weaker.{causes_same, rose_added, rose_device}
use Rattle.gd_top.proofs.opening.run_in_file.Goals as goal

pub returns-in-Ok-clause-prints : goal.returns-in-Ok-clause-prints
returns-in-Ok-clause-prints g c =
    let f = g.F.Shelf in
    let d = g.F.Device.Disk in
    let run = c.run_over-status in
    let source = c.args.source.now in
    let sink = c.args.sink.now in
    let path = c.args.path.now in
    let may = g.C.Clock.may c.args.clock in
    let idle = IsIdle source run.new.source sink run.new.sink in
    let inner = idle × StaysTold (d.content c.in-Ok.device) (d.content run.result.1) (d.images c.in-Ok.device) (d.images run.result.1) in
    let outer = idle × StaysTold (f.content c.args.shelf.now path) (f.content c.put_back.new.self path) (f.images c.args.shelf.now path) (f.images c.put_back.new.self path) in
    let still : inner → outer = λ unbegun. (
      unbegun.0,
      stays_shelved (f.content c.args.shelf.now path) (f.content c.put_back.new.self path) (d.content c.in-Ok.device) (d.content run.result.1)
          (f.images c.args.shelf.now path) (f.images c.put_back.new.self path) (d.images c.in-Ok.device) (d.images run.result.1) c.in-Ok.ensures.holds c.put_back.ensures.holds unbegun.1,
    ) in
    let left = g.S.Source.left source in
    let now = g.S.Source.left run.new.source in
    let held_old = g.K.Sink.held sink in
    let held_new = g.K.Sink.held run.new.sink in
    let verb = verb_in c.args.command.now in
    let old = f.faults c.args.shelf.now in
    let new = f.faults c.put_back.new.self in
    let before = d.faults c.in-Ok.device in
    let after = d.faults run.result.1 in
    printed_at run.result.0 may inner outer still left now held_old held_new verb (f.content c.args.shelf.now) (f.images c.put_back.new.self) path (RoseBy old new)
    (printed_weaker run.result.0 may inner outer still left now held_old held_new verb (d.content c.in-Ok.device) (f.content c.args.shelf.now path) (d.images run.result.1) (f.images c.put_back.new.self path) (RoseBy before after) (RoseBy old new)
    c.in-Ok.ensures.holds.content c.put_back.ensures.holds.fewer
    (λ n. rose_added old (f.faults c.open_at.new.self) new before after n c.open_at.ensures.later c.in-Ok.ensures.count c.put_back.ensures.count)
    run.ensures.prints)

pub returns-in-Ok-clause-causes : goal.returns-in-Ok-clause-causes
returns-in-Ok-clause-causes g c =
    let f = g.F.Shelf in
    let d = g.F.Device.Disk in
    let run = c.run_over-status in
    causes_same run.result.0 _ _ _ _ _ (f.content c.args.shelf.now c.args.path.now) (d.content c.in-Ok.device) c.in-Ok.ensures.holds.content
    (rose_device (f.faults c.args.shelf.now) (f.faults c.open_at.new.self) (f.faults c.put_back.new.self) (d.faults c.in-Ok.device) (d.faults run.result.1) c.open_at.ensures.later c.in-Ok.ensures.count c.put_back.ensures.count)
    run.ensures.causes

pub returns-in-Ok-clause-kept : goal.returns-in-Ok-clause-kept
returns-in-Ok-clause-kept g c =
    let f = g.F.Shelf in
    let d = g.F.Device.Disk in
    let run = c.run_over-status in
    let path = c.args.path.now in
    keeps_shelved (f.content c.args.shelf.now path) (f.content c.put_back.new.self path) (d.content c.in-Ok.device) (d.content run.result.1) (f.images c.args.shelf.now path) (f.images c.put_back.new.self path) (d.images c.in-Ok.device) (d.images run.result.1)
    c.in-Ok.ensures.holds c.put_back.ensures.holds run.ensures.kept

pub returns-in-Err-clause-prints : goal.returns-in-Err-clause-prints
returns-in-Err-clause-prints g c =
    let f = g.F.Shelf in
    let source = c.args.source.now in
    let sink = c.args.sink.now in
    let path = c.args.path.now in
    let may = g.C.Clock.may c.args.clock in
    let idle = IsIdle source source sink sink × StaysTold (f.content c.args.shelf.now path) (f.content c.open_at.new.self path) (f.images c.args.shelf.now path) (f.images c.open_at.new.self path) in
    let left = g.S.Source.left source in
    let held = g.K.Sink.held sink in
    let verb = verb_in c.args.command.now in
    let rises = RoseBy (f.faults c.args.shelf.now) (f.faults c.open_at.new.self) in
    rw c.of_shelf.ensures
    (printed_at _ may idle idle (λ i. i) left left held held verb (f.content c.args.shelf.now) (f.images c.open_at.new.self) path rises
    (printed_refused may rises idle left left held held verb c.in-Err.fault (f.content c.args.shelf.now path) (f.images c.open_at.new.self path) (
      record { source = refl; sink = refl },
      stays_same (f.content c.args.shelf.now path) (f.content c.open_at.new.self path) (f.images c.args.shelf.now path) (f.images c.open_at.new.self path)
          c.in-Err.ensures.refused.content c.in-Err.ensures.refused.fewer,
    )))

pub returns-in-Err-clause-kept : goal.returns-in-Err-clause-kept
returns-in-Err-clause-kept g c =
    let f = g.F.Shelf in
    keeps_nothing (f.content c.args.shelf.now c.args.path.now) (f.content c.open_at.new.self c.args.path.now) (f.images c.args.shelf.now c.args.path.now) (f.images c.open_at.new.self c.args.path.now)
    c.in-Err.ensures.refused.content c.in-Err.ensures.refused.fewer

pub returns-in-Err-clause-tells : goal.returns-in-Err-clause-tells
returns-in-Err-clause-tells g c = rw c.of_shelf.ensures (shelf_tells (verb_in c.args.command.now) c.in-Err.fault)
