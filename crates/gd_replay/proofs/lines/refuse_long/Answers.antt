use Rattle.gd_reply.specs.Replies.{reply_text}
use Rattle.gd_replay.proofs.Answered.{tells_long}
use Rattle.gd_replay.proofs.lines.refuse_long.Goals as goal

pub returns : goal.returns
returns c = tells_long c.args.line c.long_line.result (reply_text c.made.result) c.long_line.ensures c.made.ensures
