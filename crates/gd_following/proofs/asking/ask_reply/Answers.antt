use Rattle.std.proofs.Common.{rules}
use Rattle.gd_following.proofs.Answered.{ahead_told}
use Rattle.gd_following.proofs.asking.ask_reply.Goals as goal

pub returns-in-Err-CursorAhead : goal.returns-in-Err-CursorAhead
returns-in-Err-CursorAhead g c = ahead_told c.args.node.now.list c.args.line c.args.from c.args.most c.requests-entries.result c.in-Err-CursorAhead.asked _ c.ahead_line.result (rw c.in-Err-CursorAhead.field-0-is at c.in-Err-CursorAhead.ensures.asks) (search rules) c.ahead_line.ensures
