use Rattle.std.proofs.Common.{◌^◌, ◌∙◌, refl, inl, inr, arith}
use Rattle.std.specs.Io.KnownBytes.{prepend_known}
use Rattle.gd_threads.specs.Served.{state_at}
use Rattle.gd_outside.proofs.Fronts.{at_err}
use Rattle.gd_top.proofs.Counted.{serves_kept}
use Rattle.gd_top.proofs.Known.{more_known, done_known, part_known, rounds_stopped, front_known, counted_on, input_too_much, input_failed, sink_stopped, begun}
use Rattle.gd_input.proofs.Taken.{taken_known, none_taken}
use Rattle.gd_top.proofs.rounds.serve_rounds.Goals as goal

pub loop-round-init : goal.loop-round-init
loop-round-init g c =
    let start = begun (g.C.Clock.may c.args.rounds.now.side.clock) (g.K.Sink.held c.args.sink.now) (g.D.Disk.faults c.args.rounds.now.side.log.disk) c.args.rounds.now c.new-reader.result (g.S.Source.left c.args.source.now) c.new-reader.ensures c.requires in
    record {
      upto = start.upto;
      caches = refl;
      advances = start.advances;
      given = none_taken (g.S.Source.given c.args.source.now) c.new-reader.result c.new-reader.ensures;
      counted = start.counted;
      loaded = refl;
      told = refl;
      clock = refl;
      sent = inl refl;
      bounded = start.bounded;
      source_later = omega arith;
      sink_later = omega arith;
      disk_later = omega arith;
    }

pub returns-in_err-round-clause-rounds : goal.returns-in_err-round-clause-rounds
returns-in_err-round-clause-rounds g c is =
    rounds_stopped c.args.rounds.now.side.history.loaded (g.C.Clock.may c.args.rounds.now.side.clock) (g.K.Sink.held c.args.sink.now) (g.K.Sink.held c.loop-round.sink)
    (g.D.Disk.faults c.args.rounds.now.side.log.disk) (g.D.Disk.faults c.loop-round.rounds.side.log.disk) c.args.rounds.now.keeping c.loop-round.rounds.keeping (state_at c.loop-round.rounds.side) c.loop-round.rounds.lines (g.S.Source.left c.args.source.now)
    (prepend_known c.loop-round.reader.bytes (g.S.Source.left c.loop-round.source)) (g.S.Source.left c.read_round.new.source) c.read_round.new.self.bytes c.loop-round.invariant.upto
    (c.in_err-round.ensures.stopped (inl (input_failed c.from_residual.result c.in_err-round.field-0.0 _ refl is c.from_residual.ensures.1)))

pub returns-in_err-round-clause-rounds_taken : goal.returns-in_err-round-clause-rounds_taken
returns-in_err-round-clause-rounds_taken g c is =
    rounds_stopped c.args.rounds.now.side.history.loaded (g.C.Clock.may c.args.rounds.now.side.clock) (g.K.Sink.held c.args.sink.now) (g.K.Sink.held c.loop-round.sink)
    (g.D.Disk.faults c.args.rounds.now.side.log.disk) (g.D.Disk.faults c.loop-round.rounds.side.log.disk) c.args.rounds.now.keeping c.loop-round.rounds.keeping (state_at c.loop-round.rounds.side) c.loop-round.rounds.lines (g.S.Source.left c.args.source.now)
    (prepend_known c.loop-round.reader.bytes (g.S.Source.left c.loop-round.source)) (g.S.Source.left c.read_round.new.source) c.read_round.new.self.bytes c.loop-round.invariant.upto
    (c.in_err-round.ensures.stopped (inr (input_too_much c.from_residual.result c.in_err-round.field-0.0 _ refl is c.from_residual.ensures.1)))

pub returns-in_err-round-clause-front : goal.returns-in_err-round-clause-front
returns-in_err-round-clause-front g c = at_err c.from_residual.result
    (front_known c.args.rounds.now.side.history.loaded (g.C.Clock.may c.args.rounds.now.side.clock) (g.K.Sink.held c.args.sink.now) (g.K.Sink.held c.loop-round.sink)
    (g.D.Disk.faults c.args.rounds.now.side.log.disk) (g.D.Disk.faults c.loop-round.rounds.side.log.disk) c.args.rounds.now.keeping c.loop-round.rounds.keeping (state_at c.loop-round.rounds.side) c.loop-round.rounds.lines (g.S.Source.left c.args.source.now)
    (prepend_known c.loop-round.reader.bytes (g.S.Source.left c.loop-round.source)) c.loop-round.invariant.upto)

pub returns-in_err-round-clause-too_much : goal.returns-in_err-round-clause-too_much
returns-in_err-round-clause-too_much g c is =
    let advances = c.read_round.ensures.since (g.S.Source.left c.args.source.now) 0 c.loop-round.invariant.advances in
    taken_known (g.S.Source.left c.args.source.now) (g.S.Source.left c.read_round.new.source) (g.S.Source.given c.args.source.now) (g.S.Source.given c.read_round.new.source) c.read_round.new.self (2 ^ 40) advances
    (c.read_round.ensures.counted (g.S.Source.given c.args.source.now) c.loop-round.invariant.given)
    (c.in_err-round.ensures.too_much (input_too_much c.from_residual.result c.in_err-round.field-0.0 _ refl is c.from_residual.ensures.1))

pub returns-in_err-answer_round-clause-front : goal.returns-in_err-answer_round-clause-front
returns-in_err-answer_round-clause-front g c = at_err c.from_residual-in_err-answer_round.result
    (part_known c.args.rounds.now.side.history.loaded (g.C.Clock.may c.args.rounds.now.side.clock) (g.C.Clock.may c.loop-round.rounds.side.clock) c.loop-round.invariant.clock (g.K.Sink.held c.args.sink.now) (g.K.Sink.held c.loop-round.sink) (g.K.Sink.held c.answer_round.new.sink)
    (g.D.Disk.faults c.args.rounds.now.side.log.disk) (g.D.Disk.faults c.loop-round.rounds.side.log.disk) (g.D.Disk.faults c.answer_round.new.rounds.side.log.disk) c.args.rounds.now.keeping c.loop-round.rounds.keeping c.answer_round.new.rounds.keeping
    (state_at c.loop-round.rounds.side) c.loop-round.rounds.lines (state_at c.answer_round.new.rounds.side) c.answer_round.new.rounds.lines (g.S.Source.left c.args.source.now)
    (prepend_known c.loop-round.reader.bytes (g.S.Source.left c.loop-round.source)) (prepend_known c.read_round.new.self.bytes (g.S.Source.left c.read_round.new.source))
    c.in_ok-round.round c.deref.result.now c.deref.ensures.value c.loop-round.invariant.upto c.in_ok-round.ensures.round c.in_err-answer_round.ensures.front)

pub returns-then-round-clause-served : goal.returns-then-round-clause-served
returns-then-round-clause-served g c =
    done_known c.args.rounds.now.side.history.loaded (g.C.Clock.may c.args.rounds.now.side.clock) (g.C.Clock.may c.loop-round.rounds.side.clock) c.loop-round.invariant.clock (g.K.Sink.held c.args.sink.now) (g.K.Sink.held c.loop-round.sink) (g.K.Sink.held c.answer_round.new.sink)
    (g.D.Disk.faults c.args.rounds.now.side.log.disk) (g.D.Disk.faults c.loop-round.rounds.side.log.disk) (g.D.Disk.faults c.answer_round.new.rounds.side.log.disk) c.args.rounds.now.keeping c.loop-round.rounds.keeping c.answer_round.new.rounds.keeping
    (state_at c.loop-round.rounds.side) c.loop-round.rounds.lines (state_at c.answer_round.new.rounds.side) c.answer_round.new.rounds.lines (g.S.Source.left c.args.source.now)
    (prepend_known c.loop-round.reader.bytes (g.S.Source.left c.loop-round.source)) (prepend_known c.read_round.new.self.bytes (g.S.Source.left c.read_round.new.source))
    c.in_ok-round.round c.deref.result.now c.deref.ensures.value c.loop-round.invariant.upto c.in_ok-round.ensures.round c.in_ok-answer_round.ensures.all c.if-round.true

pub returns-then-round-clause-done : goal.returns-then-round-clause-done
returns-then-round-clause-done g c =
    serves_kept (g.C.Clock.may c.args.rounds.now.side.clock) _ _ _ (g.K.Sink.held c.args.sink.now) (g.K.Sink.held c.answer_round.new.sink) c.args.rounds.now.keeping c.answer_round.new.rounds.keeping (g.S.Source.left c.args.source.now)
    (
    done_known c.args.rounds.now.side.history.loaded (g.C.Clock.may c.args.rounds.now.side.clock) (g.C.Clock.may c.loop-round.rounds.side.clock) c.loop-round.invariant.clock (g.K.Sink.held c.args.sink.now) (g.K.Sink.held c.loop-round.sink) (g.K.Sink.held c.answer_round.new.sink)
    (g.D.Disk.faults c.args.rounds.now.side.log.disk) (g.D.Disk.faults c.loop-round.rounds.side.log.disk) (g.D.Disk.faults c.answer_round.new.rounds.side.log.disk) c.args.rounds.now.keeping c.loop-round.rounds.keeping c.answer_round.new.rounds.keeping
    (state_at c.loop-round.rounds.side) c.loop-round.rounds.lines (state_at c.answer_round.new.rounds.side) c.answer_round.new.rounds.lines (g.S.Source.left c.args.source.now)
    (prepend_known c.loop-round.reader.bytes (g.S.Source.left c.loop-round.source)) (prepend_known c.read_round.new.self.bytes (g.S.Source.left c.read_round.new.source))
    c.in_ok-round.round c.deref.result.now c.deref.ensures.value c.loop-round.invariant.upto c.in_ok-round.ensures.round c.in_ok-answer_round.ensures.all c.if-round.true)

pub returns-in_err-answer_round-clause-rounds_sent : goal.returns-in_err-answer_round-clause-rounds_sent
returns-in_err-answer_round-clause-rounds_sent g c other = absurd (other (sink_stopped c.from_residual-in_err-answer_round.result c.from_residual-in_err-answer_round.ensures.1))

pub returns-in_err-answer_round-clause-loaded : goal.returns-in_err-answer_round-clause-loaded
returns-in_err-answer_round-clause-loaded g c = c.answer_round.ensures.loaded ∙ c.loop-round.invariant.loaded

pub returns-in_err-answer_round-clause-told : goal.returns-in_err-answer_round-clause-told
returns-in_err-answer_round-clause-told g c = c.answer_round.ensures.told ∙ c.loop-round.invariant.told

pub returns-then-round-clause-loaded : goal.returns-then-round-clause-loaded
returns-then-round-clause-loaded g c = c.answer_round.ensures.loaded ∙ c.loop-round.invariant.loaded

pub returns-then-round-clause-told : goal.returns-then-round-clause-told
returns-then-round-clause-told g c = c.answer_round.ensures.told ∙ c.loop-round.invariant.told

pub loop-round-preserved : goal.loop-round-preserved
loop-round-preserved g c = record {
  upto = more_known c.args.rounds.now.side.history.loaded (g.C.Clock.may c.args.rounds.now.side.clock) (g.C.Clock.may c.loop-round.rounds.side.clock) c.loop-round.invariant.clock (g.K.Sink.held c.args.sink.now) (g.K.Sink.held c.loop-round.sink) (g.K.Sink.held c.answer_round.new.sink)
      (g.D.Disk.faults c.args.rounds.now.side.log.disk) (g.D.Disk.faults c.loop-round.rounds.side.log.disk) (g.D.Disk.faults c.answer_round.new.rounds.side.log.disk) c.args.rounds.now.keeping c.loop-round.rounds.keeping c.answer_round.new.rounds.keeping
      (state_at c.loop-round.rounds.side) c.loop-round.rounds.lines (state_at c.answer_round.new.rounds.side) c.answer_round.new.rounds.lines (g.S.Source.left c.args.source.now)
      (prepend_known c.loop-round.reader.bytes (g.S.Source.left c.loop-round.source)) (prepend_known c.read_round.new.self.bytes (g.S.Source.left c.read_round.new.source))
      c.in_ok-round.round c.deref.result.now c.deref.ensures.value c.loop-round.invariant.upto c.in_ok-round.ensures.round c.in_ok-answer_round.ensures.all c.if-round.false;
  advances = c.read_round.ensures.since (g.S.Source.left c.args.source.now) 0 c.loop-round.invariant.advances;
  given = c.read_round.ensures.counted (g.S.Source.given c.args.source.now) c.loop-round.invariant.given;
  counted = counted_on c.loop-round.rounds.lines _ _ c.loop-round.reader.consumed c.read_round.new.self.consumed c.loop-round.invariant.counted (omega (arith, c.deref.ensures.len, c.in_ok-round.ensures.few)) (c.in_ok-round.ensures.forward c.if-round.false) c.in_ok-answer_round.ensures.next;
  caches = c.answer_round.ensures.caches ∙ c.loop-round.invariant.caches;
  loaded = c.answer_round.ensures.loaded ∙ c.loop-round.invariant.loaded;
  told = c.answer_round.ensures.told ∙ c.loop-round.invariant.told;
  clock = c.answer_round.ensures.clock ∙ c.loop-round.invariant.clock;
  sent = inr c.in_ok-answer_round.ensures.sent;
  bounded = c.read_round.ensures.bounded;
  source_later = omega (arith, c.loop-round.invariant.source_later, c.read_round.ensures.later);
  sink_later = omega (arith, c.loop-round.invariant.sink_later, c.answer_round.ensures.later);
  disk_later = omega (arith, c.loop-round.invariant.disk_later, c.answer_round.ensures.disk_later);
}

pub returns-then-round-clause-caches : goal.returns-then-round-clause-caches
returns-then-round-clause-caches g c = c.answer_round.ensures.caches ∙ c.loop-round.invariant.caches

pub returns-in_err-answer_round-clause-caches : goal.returns-in_err-answer_round-clause-caches
returns-in_err-answer_round-clause-caches g c = c.answer_round.ensures.caches ∙ c.loop-round.invariant.caches
