use Rattle.std.proofs.Common.{ℕ, List, [], subst}
use Rattle.std.proofs.lemmas.Result.{on_ok_weaker}
use Rattle.gd_round_lines.specs.Works.{IsAsked, IsAskedAt, Pushes}
use Rattle.gd_reply.specs.Replies.{reply_text}
use Rattle.gd_runs.specs.Explained.{memory_line}
use Rattle.gd_round_lines.proofs.Read.{takes_read, takes_write, takes_told, takes_unread, not_whole, within_read, within_write, within_told, within_unread}
use Rattle.gd_round_lines.proofs.work.Works.push.Goals as goal

pub returns-in-Read-clause-takes : goal.returns-in-Read-clause-takes
returns-in-Read-clause-takes c =
    on_ok_weaker c.push_read.result (λ pushes line bytes at asks. takes_read line bytes c.args.self.now c.push_read.new.self c.in-Read.read (subst (IsAsked line bytes) c.in-Read.is asks) pushes) c.push_read.ensures

pub returns-in-Read-clause-within : goal.returns-in-Read-clause-within
returns-in-Read-clause-within c =
    on_ok_weaker c.push_read.result (λ pushes first line above at within. within_read first line c.args.self.now c.push_read.new.self c.in-Read.read (memory_line c.in-Read.read.line) above (subst (IsAskedAt line) c.in-Read.is at) pushes within) c.push_read.ensures

pub returns-in-Write-clause-takes : goal.returns-in-Write-clause-takes
returns-in-Write-clause-takes c =
    on_ok_weaker c.push_write.result (λ pushes line bytes at asks. takes_write line bytes c.args.self.now c.push_write.new.self c.in-Write.write (subst (IsAskedAt line) c.in-Write.is at).0 (subst (IsAsked line bytes) c.in-Write.is asks) pushes) c.push_write.ensures

pub returns-in-Write-clause-within : goal.returns-in-Write-clause-within
returns-in-Write-clause-within c =
    on_ok_weaker c.push_write.result (λ pushes first line above at within. within_write first line c.args.self.now c.push_write.new.self c.in-Write.write (memory_line c.in-Write.write.line) above (subst (IsAskedAt line) c.in-Write.is at) pushes within) c.push_write.ensures

pub returns-in-Told-clause-takes : goal.returns-in-Told-clause-takes
returns-in-Told-clause-takes c =
    on_ok_weaker c.push_reply.result (λ pushes line bytes at asks. let is = subst (IsAsked line bytes) c.in-Told.is asks in takes_told line bytes c.args.self.now c.push_reply.new.self c.in-Told.reply is.0 is.1 pushes) c.push_reply.ensures

pub returns-in-Told-clause-within : goal.returns-in-Told-clause-within
returns-in-Told-clause-within c =
    on_ok_weaker c.push_reply.result (λ pushes first line above at within. within_told first line c.args.self.now c.push_reply.new.self (reply_text c.in-Told.reply) above pushes within) c.push_reply.ensures

pub returns-in-Unread-clause-takes : goal.returns-in-Unread-clause-takes
returns-in-Unread-clause-takes c =
    on_ok_weaker c.push_reply-in-Unread.result (λ pushes line bytes at asks. takes_unread line bytes c.args.self.now c.push_reply-in-Unread.new.self c.in-Unread.line (subst (IsAsked line bytes) c.in-Unread.is asks)
    (subst (λ (t : List ℕ). Pushes (not_whole c.args.self.now) c.push_reply-in-Unread.new.self [] [] t) c.no_memory.ensures pushes)) c.push_reply-in-Unread.ensures

pub returns-in-Unread-clause-within : goal.returns-in-Unread-clause-within
returns-in-Unread-clause-within c =
    on_ok_weaker c.push_reply-in-Unread.result (λ pushes first line above at within. within_unread first line c.args.self.now c.push_reply-in-Unread.new.self (reply_text c.no_memory.result) above pushes within) c.push_reply-in-Unread.ensures
