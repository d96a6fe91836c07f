use Rattle.std.proofs.Common.{[], refl}
use Rattle.gd_mql.specs.Requests.{write_view}
use Rattle.gd_reply.specs.Replies.{reply_text}
use Rattle.gd_sessions.proofs.Goes.{one_kept}
use Rattle.gd_sessions.proofs.Ran.{writes_none, writes_told}
use Rattle.gd_sessions.proofs.writing.write.Goals as goal

pub returns-in-Err-clause-writes : goal.returns-in-Err-clause-writes
returns-in-Err-clause-writes g c =
    writes_none (g.C.Clock.may c.args.side.now.clock) g.D.Disk.faults c.args.side.now c.write.new.self c.args.line c.args.bytes (write_view c.args.request.now) c.args.held.now (reply_text c.no_memory.result)
    c.in-Err.ensures.err c.requires.none c.no_memory.ensures

pub returns-in-Ok-clause-writes : goal.returns-in-Ok-clause-writes
returns-in-Ok-clause-writes g c =
    let does = c.in-Ok.ensures.ok in
    let mid = c.write.new.self in
    let one = one_kept c.args.side.now.outcomes mid.outcomes c.args.line does.kept c.requires.none does.outcomes in
    rw c.tell.ensures.side
    (writes_told (g.C.Clock.may c.args.side.now.clock) g.D.Disk.faults c.args.side.now (record mid { outcomes = [] }) c.args.line c.args.bytes (write_view c.args.request.now) does.kept c.args.held.now c.tell.new.held (reply_text c.tell.result)
    does.step refl (c.tell.ensures.told does.kept one) does.fault (c.tell.ensures.reply does.kept one))
