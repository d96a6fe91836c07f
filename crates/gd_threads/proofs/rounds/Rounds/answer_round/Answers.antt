use Rattle.gd_round_lines.specs.Replies.{reply_texts}
use Rattle.gd_threads.proofs.Passed.{passed}
use Rattle.gd_threads.proofs.rounds.Rounds.answer_round.Goals as goal

pub returns-in-Err : goal.returns-in-Err
returns-in-Err g c =
    let d = g.D.Disk in
    passed d.content d.moment d.images d.images_since d.faults g.C.Clock.may c.args.lines.now c.args.self.now c.pass_over.new.self (reply_texts c.pass_over.result) c.pass_over.ensures.keeps c.pass_over.ensures.lines c.pass_over.ensures.replies
