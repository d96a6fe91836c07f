use Rattle.std.proofs.Common.{◌≡◌, ◌∙◌, ap, inr, ⊎_elim, arith}
use Rattle.gd_base.specs.Counts.{Rose, RoseBy}
use Rattle.gd_threads.specs.Served.{state_at}
use Rattle.gd_top.specs.Opened.{HoldsAs}
use Rattle.gd_top.specs.Stops.{status_of}
use Rattle.gd_top.specs.declared.stop.Stop.TheVariants as stop
use Rattle.gd_top.proofs.Caused.{stop_tells}
use Rattle.gd_top.proofs.Counted.{served_whole, served_stopped, ends_cause, ends_tell}
use Rattle.gd_top.proofs.serve.serve_all.Goals as goal

pub returns-in-Ok-clause-prints : goal.returns-in-Ok-clause-prints
returns-in-Ok-clause-prints g c = λ cache some begun.
    let k = g.K.Sink.held in
    let d = g.D.Disk in
    let first = c.args.rounds.now in
    let last = c.serve_rounds.new.rounds in
    let may = g.C.Clock.may first.side.clock in
    served_whole may (λ loaded. loaded ≡ first.side.history.loaded) (HoldsAs may (state_at last.side)) (RoseBy (d.faults first.side.log.disk) (d.faults last.side.log.disk)) ⊥
    (g.S.Source.left c.args.source.now) (g.S.Source.left c.serve_rounds.new.source) (k c.args.sink.now) (k c.finish.new.sink)
    cache c.finish.result (k c.serve_rounds.new.sink) first.keeping last.keeping some begun c.serve_rounds.ensures.caches c.in-Ok.ensures.served
    (λ none. let (is, same) = c.finish.ensures.off (ap (λ v. v.caches) c.keeping.ensures ∙ none) in (is, ap k same))
    (rw c.keeping.ensures at c.finish.ensures.done) (rw c.keeping.ensures at c.finish.ensures.front) c.finish.ensures.ends

pub returns-in-Ok-clause-rounds_sent : goal.returns-in-Ok-clause-rounds_sent
returns-in-Ok-clause-rounds_sent g c other = inr (c.finish.ensures.sent (⊎_elim (λ done. done) (λ fault. absurd (other fault)) c.finish.ensures.ends))

pub returns-in-Ok-clause-causes : goal.returns-in-Ok-clause-causes
returns-in-Ok-clause-causes g c =
    ends_cause c.finish.result _ (Rose (g.K.Sink.faults c.args.sink.now) (g.K.Sink.faults c.finish.new.sink)) _ c.finish.ensures.ends
    (λ fault. let rose = c.finish.ensures.failed fault in let later = c.serve_rounds.ensures.sink_later in omega (arith, rose, later))

pub returns-in-Ok-clause-tells : goal.returns-in-Ok-clause-tells
returns-in-Ok-clause-tells g c = ends_tell c.finish.result c.finish.ensures.ends

pub returns-in-Err-clause-prints : goal.returns-in-Err-clause-prints
returns-in-Err-clause-prints g c = λ cache some begun.
    let k = g.K.Sink.held in
    let d = g.D.Disk in
    let first = c.args.rounds.now in
    let last = c.serve_rounds.new.rounds in
    let may = g.C.Clock.may first.side.clock in
    rw c.of_stop.ensures
    (served_stopped may (λ loaded. loaded ≡ first.side.history.loaded) (HoldsAs may (state_at last.side)) (RoseBy (d.faults first.side.log.disk) (d.faults last.side.log.disk)) ⊥
    (g.S.Source.left c.args.source.now) (g.S.Source.left c.serve_rounds.new.source) (k c.args.sink.now) (k c.serve_rounds.new.sink) cache c.in-Err.stop
    (λ is. c.in-Err.ensures.rounds (cc)) (λ is. c.in-Err.ensures.rounds_taken (cc)) c.in-Err.ensures.front)

pub returns-in-Err-clause-rounds_sent : goal.returns-in-Err-clause-rounds_sent
returns-in-Err-clause-rounds_sent g c other = c.in-Err.ensures.rounds_sent (λ failed. let same : c.in-Err.stop ≡ stop.SinkFault = cc in other (c.of_stop.ensures ∙ ap status_of same))

pub returns-in-Err-clause-tells : goal.returns-in-Err-clause-tells
returns-in-Err-clause-tells g c = rw c.of_stop.ensures (stop_tells c.in-Err.stop)
