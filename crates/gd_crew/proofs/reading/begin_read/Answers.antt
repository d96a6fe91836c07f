use Rattle.std.proofs.Common.{Err, subst, sym}
use Rattle.std.specs.Result.{result_ok}
use Rattle.gd_mql.specs.Requests.{read_set_view}
use Rattle.gd_runs.specs.Request.{ReadSet}
use Rattle.gd_seats.specs.Calls.{BeginsAs}
use Rattle.gd_crew.specs.Reading.{BeginsReading, RepliesAtOnce, bytes_of}
use Rattle.gd_crew.proofs.Turned.{refused_reply, begins_now, away}
use Rattle.gd_crew.proofs.reading.begin_read.Goals as goal

pub returns-in-Err-Read : goal.returns-in-Err-Read
returns-in-Err-Read g c =
    let old = c.args.session.now in let new = c.begin.new.self in
    subst (λ o. RepliesAtOnce old new c.args.line (read_set_view c.args.request.now) c.seen-at.result (bytes_of o)) (sym c.ok-reply.ensures.value)
    (subst (λ (q : ReadSet). RepliesAtOnce old new c.args.line q c.seen-at.result (bytes_of (result_ok c.line.result))) c.in-Ok.ensures
    (refused_reply old new c.args.line c.seen-at.result (read_set_view c.in-Ok.request) c.in-Err-Read.fault c.line.result c.in-Err-Read.field-0 c.in-Err-Read.field-0-is c.in-Err-Read.ensures.begins c.seen-at.ensures c.line.ensures.refused c.line.ensures.memory))

pub returns-in-Ok-begin : goal.returns-in-Ok-begin
returns-in-Ok-begin g c =
    let old = c.args.session.now in let new = c.begin.new.self in
    subst (λ (q : ReadSet). BeginsReading old new q c.seen.result) c.in-Ok.ensures
    (begins_now old new (read_set_view c.in-Ok.request) c.seen.result _ c.in-Ok-begin.ensures.begins c.seen.ensures)

pub returns-in-Err-Shut : goal.returns-in-Err-Shut
returns-in-Err-Shut g c =
    let old = c.args.session.now in let new = c.begin.new.self in
    away old new (subst (λ e. BeginsAs old new (read_set_view c.in-Ok.request) (Err e)) c.in-Err-Shut.field-0-is c.in-Err-Shut.ensures.begins)
