use Rattle.std.proofs.Common.{map}
use Rattle.gd_crew.specs.Seated.{reply_view}
use Rattle.gd_crew.proofs.Taken.{replies_more, replies_left}
use Rattle.gd_crew.proofs.collect.keep_replies.Goals as goal

pub loop-read-init : goal.loop-read-init
loop-read-init c = record { takes = λ reads batches limit list front all are. are; left = λ reads list all. all }

pub loop-read-preserved : goal.loop-read-preserved
loop-read-preserved c =
    let inv = c.loop-read.invariant in
    let items = c.in-Some.ensures.items in
    let all = map reply_view c.args.replies.items in
    record {
      takes = replies_more c.args.first all c.loop-read.replies.items c.pop.new.self.items c.in-Some.read c.args.worked.now.items c.loop-read.worked.items c.keep_reply.new.worked.items items inv.left inv.takes c.keep_reply.ensures;
      left = replies_left all c.loop-read.replies.items c.pop.new.self.items c.in-Some.read items inv.left;
    }
