use Rattle.std.proofs.Common.{arith, ap, length, length-append, ◌∷◌, [], ◌∙◌}
use Rattle.gd_crew.specs.Joined.{HasRead}
use Rattle.gd_crew.specs.Collected.{IsOfTable}
use Rattle.gd_crew.proofs.Taken.{sessions_more, all_but_last}
use Rattle.gd_crew.proofs.collect.dismiss_sessions.Goals as goal

pub loop-one-preserved : goal.loop-one-preserved
loop-one-preserved c =
    let inv = c.loop-one.invariant in
    let now = c.loop-one.seated.items in
    let rest = c.pop.new.self.items in
    let s = c.in-Some.one in
    let items = c.in-Some.ensures.items in
    let table = c.args.shown.now.history in
    let one = c.dismiss_session.ensures in
    let many = ap length items ∙ length-append rest (s ∷ []) in
    let count = inv.count in
    let more = one.count in
    record {
      table = (all_but_last (IsOfTable table) now rest s items inv.table).0;
      idle = one.idle;
      count = omega (arith, many, count, more);
      capacity = one.capacity ∙ inv.capacity;
      takes = sessions_more c.args.first table c.args.shown.now.list c.args.seated.items now rest s c.args.worked.now.items c.loop-one.worked.items c.dismiss_session.new.worked.items items inv.left inv.takes one.worked;
      left = λ reads all. (all_but_last (HasRead table reads) now rest s items (inv.left reads all)).0;
    }
