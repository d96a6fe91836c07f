use Rattle.std.proofs.Common.{Err, subst, sym}
use Rattle.gd_mql.specs.Requests.{read_set_view}
use Rattle.gd_seats.specs.Calls.{LooksAs}
use Rattle.gd_crew.specs.Reading.{RepliesAtOnce, bytes_of}
use Rattle.gd_crew.proofs.Turned.{refused_cursor, look_entered, looks_from, away}
use Rattle.gd_crew.proofs.reading.look_read.Goals as goal

pub reply_or_begin-requires-clause-right : goal.reply_or_begin-requires-clause-right
reply_or_begin-requires-clause-right g c = look_entered c.args.session.now c.look.new.self (read_set_view c.args.request.now) c.args.look c.in-Ok.ensures.looks.0 c.requires.right

pub returns-in-Ok : goal.returns-in-Ok
returns-in-Ok g c = c.reply_or_begin.ensures c.args.session.now (looks_from c.args.session.now c.look.new.self (read_set_view c.args.request.now) c.in-Ok.looked c.in-Ok.ensures.looks)

pub returns-in-Err-Read : goal.returns-in-Err-Read
returns-in-Err-Read g c =
    let old = c.args.session.now in let new = c.look.new.self in
    subst (λ o. RepliesAtOnce old new c.args.line (read_set_view c.args.request.now) c.seen-at.result (bytes_of o)) (sym c.ok-reply.ensures.value)
    (refused_cursor old new c.args.line c.seen-at.result (read_set_view c.args.request.now) c.in-Err-Read.fault c.line.result c.in-Err-Read.field-0 c.in-Err-Read.field-0-is c.requires.none c.in-Err-Read.ensures.looks c.seen-at.ensures c.line.ensures.refused c.line.ensures.memory)

pub returns-in-Err-Shut : goal.returns-in-Err-Shut
returns-in-Err-Shut g c =
    let old = c.args.session.now in let new = c.look.new.self in
    away old new (subst (λ e. LooksAs old new (read_set_view c.args.request.now) (Err e)) c.in-Err-Shut.field-0-is c.in-Err-Shut.ensures.looks)
