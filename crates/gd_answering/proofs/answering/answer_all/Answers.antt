use Rattle.std.proofs.Common.{ℕ, Err, ap, arith, ◌^◌, subst}
use Rattle.std.specs.Io.KnownBytes.{prepend_known}
use Rattle.std.proofs.lemmas.Result.{err_from_is_err_and}
use Rattle.gd_input.specs.Line.{HasAtMost}
use Rattle.gd_input.specs.Pieces.{Known, TakesPieceWithin}
use Rattle.gd_input.proofs.Taken.{taken_known as taken_at_least, none_taken}
use Rattle.gd_input.proofs.Gathering.{advances_on}
use Rattle.gd_answering.proofs.Pieces.{some_bytes}
use Rattle.gd_answering.proofs.Upto.{on_start, on_more, on_reaches, front_reaches}
use Rattle.gd_answering.proofs.Known.{begun_advances, begun_bounded, begun_upto, front_begun, more_known, done_known, front_known, taken_known, sink_ends, read_ends, read_causes, rose_since}
use Rattle.gd_answering.proofs.answering.answer_all.Goals as goal

pub returns-in_err-flush-clause-ends : goal.returns-in_err-flush-clause-ends
returns-in_err-flush-clause-ends g c =
    let p = err_from_is_err_and c.from_residual.result c.from_residual.ensures.1 in
    sink_ends c.from_residual.result p.0 p.2 p.1 _ _ _
    (front_begun g.A.Answers.answers c.args.answers.now (g.K.Sink.held c.args.sink.now) (g.K.Sink.held c.flush.new.self) (g.S.Source.left c.args.source.now) c.flush.ensures.bytes)

pub loop-piece-init : goal.loop-piece-init
loop-piece-init g c =
    let old = g.K.Sink.held c.args.sink.now in
    let held = g.K.Sink.held c.flush.new.self in
    let left = g.S.Source.left c.args.source.now in
    record {
      upto = begun_upto g.A.Answers.answers c.args.answers.now old held c.new-reader.result left c.new-reader.ensures c.flush.ensures.bytes;
      on = on_start g.A.Answers.answers c.args.answers.now held old c.flush.ensures.bytes;
      advances = begun_advances c.new-reader.result left c.new-reader.ensures;
      given = none_taken (g.S.Source.given c.args.source.now) c.new-reader.result c.new-reader.ensures;
      counted = omega arith;
      bounded = begun_bounded c.new-reader.result c.new-reader.ensures;
      sent = c.in_ok-flush.ensures.sent;
      source_later = omega arith;
      sink_later = c.flush.ensures.cause.later;
    }

pub returns-in_err-piece-clause-ends : goal.returns-in_err-piece-clause-ends
returns-in_err-piece-clause-ends g c =
    let p = err_from_is_err_and c.from_residual-in_err-piece.result c.from_residual-in_err-piece.ensures.1 in
    let x = g.S.Source.left c.args.source.now in
    let y = prepend_known c.loop-piece.reader.bytes (g.S.Source.left c.loop-piece.source) in
    read_ends c.from_residual-in_err-piece.result p.0 c.in_err-piece.field-0.0 p.2 p.1 _ _ _
    (taken_known g.A.Answers.answers c.args.answers.now g.A.Answers.most c.loop-piece.answers (g.K.Sink.held c.args.sink.now) (g.K.Sink.held c.loop-piece.sink) c.loop-piece.line x y c.loop-piece.invariant.upto)

pub returns-in_err-piece-clause-caused : goal.returns-in_err-piece-clause-caused
returns-in_err-piece-clause-caused g c =
    let inv = c.loop-piece.invariant in
    let p = err_from_is_err_and c.from_residual-in_err-piece.result c.from_residual-in_err-piece.ensures.1 in
    let fault = c.in_err-piece.field-0.0 in
    let x = g.S.Source.left c.args.source.now in
    let y = prepend_known c.loop-piece.reader.bytes (g.S.Source.left c.loop-piece.source) in
    let z = prepend_known c.read_line_within.new.self.bytes (g.S.Source.left c.read_line_within.new.source) in
    read_causes c.from_residual-in_err-piece.result p.0 fault p.2 p.1 _ _ _
    (λ e. rose_since (g.S.Source.faults c.args.source.now) (g.S.Source.faults c.loop-piece.source) (g.S.Source.faults c.read_line_within.new.source) inv.source_later (c.in_err-piece.ensures.failed (ap Err e)))
    (λ e. taken_at_least x (g.S.Source.left c.read_line_within.new.source) (g.S.Source.given c.args.source.now) (g.S.Source.given c.read_line_within.new.source) c.read_line_within.new.self (2 ^ 40) (advances_on x y z 0 c.loop-piece.reader.consumed c.read_line_within.new.self.consumed inv.advances c.read_line_within.ensures.advances)
    (c.read_line_within.ensures.counted (g.S.Source.given c.args.source.now) inv.given) (c.in_err-piece.ensures.too_much (ap Err e)))

pub returns-in_err-line-clause-ends : goal.returns-in_err-line-clause-ends
returns-in_err-line-clause-ends g c =
    let p = err_from_is_err_and c.from_residual-in_err-line.result c.from_residual-in_err-line.ensures.1 in
    let x = g.S.Source.left c.args.source.now in
    let y = prepend_known c.loop-piece.reader.bytes (g.S.Source.left c.loop-piece.source) in
    let z = prepend_known c.read_line_within.new.self.bytes (g.S.Source.left c.read_line_within.new.source) in
    sink_ends c.from_residual-in_err-line.result p.0 p.2 p.1 _ _ _
    (front_known g.A.Answers.answers c.args.answers.now g.A.Answers.most c.loop-piece.answers (g.K.Sink.held c.args.sink.now) (g.K.Sink.held c.loop-piece.sink) c.loop-piece.line
    c.take_piece.new.answers (g.K.Sink.held c.take_piece.new.sink) x y z c.in_ok-piece.piece c.loop-piece.invariant.upto (subst (λ (n : ℕ). Known y z (TakesPieceWithin n c.in_ok-piece.piece)) c.most.ensures.most c.in_ok-piece.ensures.line) c.in_err-line.ensures.front)

pub returns-in_err-line-clause-reaches : goal.returns-in_err-line-clause-reaches
returns-in_err-line-clause-reaches g c =
    let some = some_bytes g.A.Answers.most c.in_ok-piece.piece.line (subst (λ (n : ℕ). HasAtMost n c.in_ok-piece.piece.line) c.most.ensures.most c.in_ok-piece.ensures.short) in
    front_reaches g.A.Answers.answers c.args.answers.now c.loop-piece.answers c.take_piece.new.answers (g.K.Sink.held c.args.sink.now) (g.K.Sink.held c.loop-piece.sink) (g.K.Sink.held c.take_piece.new.sink) c.loop-piece.line some.0
    c.loop-piece.invariant.on (c.in_err-line.ensures.front some.0 some.1)

pub returns-then-not-by_newline-clause-ends : goal.returns-then-not-by_newline-clause-ends
returns-then-not-by_newline-clause-ends g c =
    let x = g.S.Source.left c.args.source.now in
    let y = prepend_known c.loop-piece.reader.bytes (g.S.Source.left c.loop-piece.source) in
    let z = prepend_known c.read_line_within.new.self.bytes (g.S.Source.left c.read_line_within.new.source) in
    done_known g.A.Answers.answers c.args.answers.now g.A.Answers.most c.loop-piece.answers (g.K.Sink.held c.args.sink.now) (g.K.Sink.held c.loop-piece.sink) c.loop-piece.line
    c.take_piece.new.answers (g.K.Sink.held c.take_piece.new.sink) c.in_ok-line.line x y z c.in_ok-piece.piece c.if-not-by_newline.true c.loop-piece.invariant.upto (subst (λ (n : ℕ). Known y z (TakesPieceWithin n c.in_ok-piece.piece)) c.most.ensures.most c.in_ok-piece.ensures.line) c.in_ok-line.ensures.prints

pub returns-then-not-by_newline-clause-reaches : goal.returns-then-not-by_newline-clause-reaches
returns-then-not-by_newline-clause-reaches g c =
    let some = some_bytes g.A.Answers.most c.in_ok-piece.piece.line (subst (λ (n : ℕ). HasAtMost n c.in_ok-piece.piece.line) c.most.ensures.most c.in_ok-piece.ensures.short) in
    let old = g.K.Sink.held c.args.sink.now in
    let new = g.K.Sink.held c.take_piece.new.sink in
    on_reaches g.A.Answers.answers c.args.answers.now c.take_piece.new.answers old new c.in_ok-line.line
    (on_more g.A.Answers.answers c.args.answers.now c.loop-piece.answers c.take_piece.new.answers old (g.K.Sink.held c.loop-piece.sink) new c.loop-piece.line c.in_ok-line.line some.0 c.loop-piece.invariant.on (c.in_ok-line.ensures.prints some.0 some.1))

pub loop-piece-preserved : goal.loop-piece-preserved
loop-piece-preserved g c =
    let inv = c.loop-piece.invariant in
    let some = some_bytes g.A.Answers.most c.in_ok-piece.piece.line (subst (λ (n : ℕ). HasAtMost n c.in_ok-piece.piece.line) c.most.ensures.most c.in_ok-piece.ensures.short) in
    let old = g.K.Sink.held c.args.sink.now in
    let mid = g.K.Sink.held c.loop-piece.sink in
    let new = g.K.Sink.held c.take_piece.new.sink in
    let x = g.S.Source.left c.args.source.now in
    let y = prepend_known c.loop-piece.reader.bytes (g.S.Source.left c.loop-piece.source) in
    let z = prepend_known c.read_line_within.new.self.bytes (g.S.Source.left c.read_line_within.new.source) in
    record {
      upto = more_known g.A.Answers.answers c.args.answers.now g.A.Answers.most c.loop-piece.answers old mid c.loop-piece.line
          c.take_piece.new.answers new c.in_ok-line.line x y z c.in_ok-piece.piece c.if-not-by_newline.false inv.upto (subst (λ (n : ℕ). Known y z (TakesPieceWithin n c.in_ok-piece.piece)) c.most.ensures.most c.in_ok-piece.ensures.line) c.in_ok-line.ensures.prints;
      on = on_more g.A.Answers.answers c.args.answers.now c.loop-piece.answers c.take_piece.new.answers old mid new c.loop-piece.line c.in_ok-line.line some.0 inv.on (c.in_ok-line.ensures.prints some.0 some.1);
      advances = advances_on x y z 0 c.loop-piece.reader.consumed c.read_line_within.new.self.consumed inv.advances c.read_line_within.ensures.advances;
      given = c.read_line_within.ensures.counted (g.S.Source.given c.args.source.now) inv.given;
      counted = omega (arith, c.in_ok-line.ensures.few, inv.counted, c.in_ok-piece.ensures.forward c.if-not-by_newline.false);
      bounded = c.read_line_within.ensures.bounded;
      sent = c.in_ok-line.ensures.sent inv.sent;
      source_later = omega (arith, inv.source_later, c.read_line_within.ensures.later);
      sink_later = omega (arith, inv.sink_later, c.take_piece.ensures.later);
    }
