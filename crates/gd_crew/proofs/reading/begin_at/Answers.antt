use Rattle.std.proofs.Common.{Err, subst, sym}
use Rattle.std.specs.Result.{result_ok}
use Rattle.gd_mql.specs.Requests.{read_set_view}
use Rattle.gd_runs.specs.Request.{ReadSet}
use Rattle.gd_seats.specs.Calls.{BeginsOver}
use Rattle.gd_crew.specs.Reading.{BeginsReading, RepliesAtOnce, bytes_of}
use Rattle.gd_crew.proofs.Turned.{refused_later, begins_later, away_later, no_reply}
use Rattle.gd_crew.proofs.reading.begin_at.Goals as goal

pub returns-in-Ok-begin_at : goal.returns-in-Ok-begin_at
returns-in-Ok-begin_at g c = λ before looked.
    let old = c.args.session.now in let new = c.begin_at.new.self in
    subst (λ (q : ReadSet). BeginsReading before new q c.args.at) c.in-Ok.ensures (begins_later before old new (read_set_view c.in-Ok.request) c.args.at _ looked c.in-Ok-begin_at.ensures.begins)

pub returns-in-Err-Read : goal.returns-in-Err-Read
returns-in-Err-Read g c = λ before looked.
    let old = c.args.session.now in let new = c.begin_at.new.self in
    subst (λ o. RepliesAtOnce before new c.args.line (read_set_view c.args.request.now) c.args.at (bytes_of o)) (sym c.ok-reply.ensures.value)
    (subst (λ (q : ReadSet). RepliesAtOnce before new c.args.line q c.args.at (bytes_of (result_ok c.line.result))) c.in-Ok.ensures
    (refused_later before old new c.args.line c.args.at (read_set_view c.in-Ok.request) c.in-Err-Read.fault c.line.result c.in-Err-Read.field-0 c.in-Err-Read.field-0-is looked c.in-Err-Read.ensures.begins c.line.ensures.refused c.line.ensures.memory))

pub returns-in-Err-Shut : goal.returns-in-Err-Shut
returns-in-Err-Shut g c = λ before looked.
    let old = c.args.session.now in let new = c.begin_at.new.self in
    away_later before old new c.args.at looked (subst (λ e. BeginsOver c.args.at old new (read_set_view c.in-Ok.request) (Err e)) c.in-Err-Shut.field-0-is c.in-Err-Shut.ensures.begins)

pub returns-in_default : goal.returns-in_default
returns-in_default g c = λ before looked. no_reply before c.args.session.now c.args.line c.args.at 0 (read_set_view c.args.request.now) looked c.requires.none
