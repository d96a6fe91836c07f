use Rattle.std.proofs.Common.{arith, ap, ◌∙◌}
use Rattle.std.specs.List.{All}
use Rattle.gd_crew.specs.declared.worker.Worker.{Worker}
use Rattle.gd_crew.specs.Ready.{lent}
use Rattle.gd_crew.specs.Joined.{HasWorked}
use Rattle.gd_crew.specs.Collected.{IsOfTable}
use Rattle.gd_crew.proofs.Hired.{lent_push}
use Rattle.gd_crew.proofs.Taken.{workers_more, all_but_last}
use Rattle.gd_crew.proofs.collect.dismiss.Goals as goal

pub dismiss_sessions-requires-clause-room : goal.dismiss_sessions-requires-clause-room
dismiss_sessions-requires-clause-room c =
    let inv = c.loop-worker.invariant in
    let more = ap lent c.in-Some.ensures.items ∙ lent_push c.pop.new.self.items c.in-Some.worker in
    let count = inv.count in
    let same = inv.capacity in
    let room = c.requires.room in
    omega (arith, more, count, same, room)

pub loop-worker-preserved : goal.loop-worker-preserved
loop-worker-preserved c =
    let inv = c.loop-worker.invariant in
    let now = c.loop-worker.workers.items in
    let rest = c.pop.new.self.items in
    let w = c.in-Some.worker in
    let items = c.in-Some.ensures.items in
    let table = c.args.shown.now.history in
    let one = c.dismiss_sessions.ensures in
    let many = ap lent items ∙ lent_push rest w in
    let count = inv.count in
    let more = one.count in
    record {
      table = (all_but_last (λ (v : Worker). All (IsOfTable table) v.seated.items) now rest w items inv.table).0;
      idle = one.idle;
      count = omega (arith, many, count, more);
      capacity = one.capacity ∙ inv.capacity;
      takes = workers_more c.args.first table c.args.shown.now.list c.args.workers.items now rest w c.args.worked.now.items c.loop-worker.worked.items c.dismiss_sessions.new.worked.items items inv.left inv.takes one.worked;
      left = λ reads all. (all_but_last (HasWorked table reads) now rest w items (inv.left reads all)).0;
    }
