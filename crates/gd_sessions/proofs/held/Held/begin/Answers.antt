use Rattle.gd_mql.specs.Requests.{read_set_view}
use Rattle.gd_sessions.proofs.Begun.{tells_begun, tells_refused}
use Rattle.gd_sessions.proofs.held.Held.begin.Goals as goal

pub returns-in_ok-reply-in-Ok-clause-begins : goal.returns-in_ok-reply-in-Ok-clause-begins
returns-in_ok-reply-in-Ok-clause-begins g c =
    rw c.enter.ensures
    (tells_begun c.args.store.now c.args.shown c.args.line (read_set_view c.args.request) c.in_ok-reply-in-Ok.reply.items c.in-Ok.state c.in-Ok.ensures.begins c.in_ok-reply-in-Ok.ensures)

pub returns-in_ok-reply-in-Err-clause-begins : goal.returns-in_ok-reply-in-Err-clause-begins
returns-in_ok-reply-in-Err-clause-begins g c =
    rw (c.enter-in-Err.ensures, c.none.ensures)
    (tells_refused c.args.store.now c.args.shown c.args.line (read_set_view c.args.request) c.in_ok-reply-in-Err.reply.items c.in-Err.fault c.in-Err.ensures.begins c.in_ok-reply-in-Err.ensures.memory c.in_ok-reply-in-Err.ensures.refused)

pub returns-in_ok-reply-in-Ok-clause-first : goal.returns-in_ok-reply-in-Ok-clause-first
returns-in_ok-reply-in-Ok-clause-first g c = rw c.enter.ensures c.in-Ok.ensures.first

pub returns-in_ok-reply-in-Err-clause-first : goal.returns-in_ok-reply-in-Err-clause-first
returns-in_ok-reply-in-Err-clause-first g c = rw (c.enter-in-Err.ensures, c.none.ensures) (λ n due. tt)
