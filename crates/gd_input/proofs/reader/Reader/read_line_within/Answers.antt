use Rattle.std.proofs.Common.{arith}
use Rattle.std.specs.Io.KnownBytes.{prepend_known}
use Rattle.gd_input.proofs.Reading.{chunk_counted, filled, longer, by_newline, advanced_past, at_end}
use Rattle.gd_input.proofs.reader.Reader.read_line_within.Goals as goal

pub returns-then-not-branch-clause-line : goal.returns-then-not-branch-clause-line
returns-then-not-branch-clause-line g c =
    let start = prepend_known c.args.self.now.bytes (g.S.Source.left c.args.source.now) in
    let now = prepend_known c.loop-line.self.bytes (g.S.Source.left c.loop-line.source) in
    let held = c.fill.new.self in
    let source = g.S.Source.left c.fill.new.source in
    let end = c.in_ok-fill.ensures.at_end c.if-not-branch.true in
    let reading = filled c.args.most start now (prepend_known held.bytes source) c.args.self.now.consumed c.loop-line.self.consumed held.consumed c.loop-line.line c.loop-line.invariant.reading c.fill.ensures.kept c.fill.ensures.same in
    at_end c.args.most start source held.bytes c.args.self.now.consumed held.consumed c.loop-line.line c.ended.result reading end.0 end.1 c.ended.ensures.kept

pub returns-then-piece-clause-line : goal.returns-then-piece-clause-line
returns-then-piece-clause-line g c =
    let start = prepend_known c.args.self.now.bytes (g.S.Source.left c.args.source.now) in
    let now = prepend_known c.loop-line.self.bytes (g.S.Source.left c.loop-line.source) in
    let held = c.fill.new.self in
    let source = g.S.Source.left c.fill.new.source in
    let m = c.args.self.now.consumed in
    let reading = filled c.args.most start now (prepend_known held.bytes source) m c.loop-line.self.consumed held.consumed c.loop-line.line c.loop-line.invariant.reading c.fill.ensures.kept c.fill.ensures.same in
    by_newline c.args.most start source held c.take_chunk.new.self m c.loop-line.line c.in_ok-piece.piece c.ended-then-piece.result reading c.in_ok-piece.ensures.chunk c.if-piece.true c.ended-then-piece.ensures.kept

pub returns-then-piece-clause-advances : goal.returns-then-piece-clause-advances
returns-then-piece-clause-advances g c =
    let start = prepend_known c.args.self.now.bytes (g.S.Source.left c.args.source.now) in
    let now = prepend_known c.loop-line.self.bytes (g.S.Source.left c.loop-line.source) in
    let held = c.fill.new.self in
    let source = g.S.Source.left c.fill.new.source in
    let m = c.args.self.now.consumed in
    let reading = filled c.args.most start now (prepend_known held.bytes source) m c.loop-line.self.consumed held.consumed c.loop-line.line c.loop-line.invariant.reading c.fill.ensures.kept c.fill.ensures.same in
    advanced_past c.args.most start source held c.take_chunk.new.self m c.loop-line.line c.in_ok-piece.piece reading c.in_ok-piece.ensures.chunk c.if-piece.true

pub loop-line-preserved : goal.loop-line-preserved
loop-line-preserved g c =
    let start = prepend_known c.args.self.now.bytes (g.S.Source.left c.args.source.now) in
    let now = prepend_known c.loop-line.self.bytes (g.S.Source.left c.loop-line.source) in
    let held = c.fill.new.self in
    let source = g.S.Source.left c.fill.new.source in
    let m = c.args.self.now.consumed in
    let reading = filled c.args.most start now (prepend_known held.bytes source) m c.loop-line.self.consumed held.consumed c.loop-line.line c.loop-line.invariant.reading c.fill.ensures.kept c.fill.ensures.same in
    record {
      reading = longer c.args.most start source held c.take_chunk.new.self m c.loop-line.line c.in_ok-piece.piece reading c.in_ok-piece.ensures.chunk c.if-piece.false;
      counts = λ before rose. chunk_counted c.args.most c.fill.new.self c.take_chunk.new.self c.loop-line.line c.in_ok-piece.piece (g.S.Source.given c.fill.new.source) c.in_ok-piece.ensures.chunk before (c.fill.ensures.counted before (c.loop-line.invariant.counts before rose));
      bounded = c.take_chunk.ensures.bounded;
      later = omega (arith, c.loop-line.invariant.later, c.fill.ensures.later);
    }

pub returns-then-piece-clause-counted : goal.returns-then-piece-clause-counted
returns-then-piece-clause-counted g c before rose =
    chunk_counted c.args.most c.fill.new.self c.take_chunk.new.self c.loop-line.line c.in_ok-piece.piece (g.S.Source.given c.fill.new.source) c.in_ok-piece.ensures.chunk before (c.fill.ensures.counted before (c.loop-line.invariant.counts before rose))
