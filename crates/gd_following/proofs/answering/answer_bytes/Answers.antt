use Rattle.gd_following.specs.Read.{line_view}
use Rattle.gd_following.proofs.Answered.{asked_reply, fault_reply}
use Rattle.gd_following.proofs.answering.answer_bytes.Goals as goal

pub returns-in-Ok : goal.returns-in-Ok
returns-in-Ok g c =
    let d = g.D.Disk in
    asked_reply d.content d.images d.faults c.args.node.now c.answer_asked.new.node c.args.line c.args.bytes.now _ (line_view c.in-Ok.asked) c.in-Ok.ensures.asked c.answer_asked.ensures.replies c.answer_asked.ensures.counted c.answer_asked.ensures.on

pub returns-in-Err : goal.returns-in-Err
returns-in-Err g c =
    let d = g.D.Disk in
    fault_reply d.content d.images d.faults c.args.node.now c.args.line c.args.bytes.now _ c.in-Err.fault c.in-Err.ensures.asked c.refuse.ensures
