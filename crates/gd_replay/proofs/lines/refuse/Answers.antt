use Rattle.gd_reply.specs.Replies.{reply_text}
use Rattle.gd_replay.proofs.Answered.{tells_fault_of}
use Rattle.gd_replay.proofs.lines.refuse.Goals as goal

pub returns : goal.returns
returns c = tells_fault_of c.args.line c.args.fault c.fault_line.result (reply_text c.made.result) c.fault_line.ensures.refusal c.fault_line.ensures.memory c.made.ensures
