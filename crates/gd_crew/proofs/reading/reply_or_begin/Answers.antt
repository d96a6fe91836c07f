use Rattle.gd_mql.specs.Requests.{read_set_view}
use Rattle.gd_crew.proofs.Turned.{found_reply, no_reply}
use Rattle.gd_crew.proofs.reading.reply_or_begin.Goals as goal

pub returns-in-Ok-Some : goal.returns-in-Ok-Some
returns-in-Ok-Some g c = λ before looked. found_reply before c.args.session.now c.args.line (read_set_view c.args.request.now) c.args.look c.args.looked c.in-Ok-Some.bytes.items looked c.requires.none c.requires.looked c.requires.right (rw c.in-Ok-Some.field-0-is at c.in-Ok-Some.ensures.right)

pub returns-in-Err : goal.returns-in-Err
returns-in-Err g c = λ before looked. no_reply before c.args.session.now c.args.line c.args.looked.snapshot c.args.looked.snapshot (read_set_view c.args.request.now) looked c.requires.none
