use Rattle.std.proofs.Common.{◌≡◌, ◌≤◌, ◌-◌, ◌++◌, length, drop, flat_map, refl, sym, subst, arith, append_assoc, length-drop}
use Rattle.std.specs.Io.KnownBytes.{Appends}
use Rattle.std.proofs.KnownBytes.{Appends-trans}
use Rattle.gd_prim.specs.WellFormed.{max_moment}
use Rattle.gd_dump_laws.specs.Dump.{batch_text, dump_head, dump_end}
use Rattle.gd_outside.specs.Gains.{GainsFront}
use Rattle.gd_outside.proofs.Fronts.{at_err, front_first, front_second}
use Rattle.gd_dump.proofs.Outcomes.{at_ok, err_so, ok_so}
use Rattle.gd_batches.proofs.Histories.{IsKept, history_kept, each_behind}
use Rattle.gd_dump.proofs.Lines.{batches_fit}
use Rattle.gd_dump.proofs.dump.write_dump.Goals as goal

pub returns-in_err-send_head-clause-front : goal.returns-in_err-send_head-clause-front
returns-in_err-send_head-clause-front g c =
    let h = drop c.args.from c.args.store.now in
    let rest = flat_map batch_text h ++ dump_end (length h) in
    at_err c.from_residual.result (subst (λ w. GainsFront (g.K.Sink.held c.args.sink.now) (g.K.Sink.held c.send_head.new.sink) w) (sym (append_assoc (dump_head c.args.from) (flat_map batch_text h) (dump_end (length h))))
    (front_first _ _ (dump_head c.args.from) rest c.in_err-send_head.ensures.front))

pub returns-in_err-send_batches-clause-front : goal.returns-in_err-send_batches-clause-front
returns-in_err-send_batches-clause-front g c =
    let h = drop c.args.from c.args.store.now in
    let front = front_second (g.K.Sink.held c.args.sink.now) (g.K.Sink.held c.send_head.new.sink) (g.K.Sink.held c.send_batches.new.sink) (dump_head c.args.from) (flat_map batch_text h) c.in_ok-send_head.ensures.all c.in_err-send_batches.ensures.front in
    at_err c.from_residual-in_err-send_batches.result (front_first _ _ (dump_head c.args.from ++ flat_map batch_text h) (dump_end (length h)) front)

pub returns-clause-all : goal.returns-clause-all
returns-clause-all g c =
    let h = drop c.args.from c.args.store.now in
    let both = Appends-trans (g.K.Sink.held c.args.sink.now) (g.K.Sink.held c.send_head.new.sink) (g.K.Sink.held c.send_batches.new.sink) (dump_head c.args.from) (flat_map batch_text h) c.in_ok-send_head.ensures.all c.in_ok-send_batches.ensures.all in
    let count : c.requests-have.result - c.args.from ≡ length h = omega (arith, c.requests-have.ensures.count, length-drop c.args.from c.args.store.now) in
    ok_so c.send_end.result (λ last. Appends-trans (g.K.Sink.held c.args.sink.now) (g.K.Sink.held c.send_batches.new.sink) (g.K.Sink.held c.send_end.new.sink) (dump_head c.args.from ++ flat_map batch_text h) (dump_end (length h)) both
    (subst (λ n. Appends (g.K.Sink.held c.send_batches.new.sink) (g.K.Sink.held c.send_end.new.sink) (dump_end n)) count last)) c.send_end.ensures.all

pub returns-clause-front : goal.returns-clause-front
returns-clause-front g c =
    let h = drop c.args.from c.args.store.now in
    let both = Appends-trans (g.K.Sink.held c.args.sink.now) (g.K.Sink.held c.send_head.new.sink) (g.K.Sink.held c.send_batches.new.sink) (dump_head c.args.from) (flat_map batch_text h) c.in_ok-send_head.ensures.all c.in_ok-send_batches.ensures.all in
    let count : c.requests-have.result - c.args.from ≡ length h = omega (arith, c.requests-have.ensures.count, length-drop c.args.from c.args.store.now) in
    err_so c.send_end.result (λ last. front_second (g.K.Sink.held c.args.sink.now) (g.K.Sink.held c.send_batches.new.sink) (g.K.Sink.held c.send_end.new.sink) (dump_head c.args.from ++ flat_map batch_text h) (dump_end (length h)) both
    (subst (λ n. GainsFront (g.K.Sink.held c.send_batches.new.sink) (g.K.Sink.held c.send_end.new.sink) (dump_end n)) count last)) c.send_end.ensures.front

pub returns-clause-dump : goal.returns-clause-dump
returns-clause-dump g c early =
    let store = c.args.store.now in
    let h = drop c.args.from store in
    let kept = each_behind IsKept c.args.from store (history_kept store c.requests-have.ensures.history) in
    at_ok c.send_end.result (record { first = c.ranges.from.fits; each = batches_fit h kept (each_behind (λ b. b.moment ≤ max_moment) c.args.from store early) c.in_ok-send_batches.ensures.fits }, refl)
