use Rattle.std.proofs.Common.{◌≡◌, ◌<◌, List, length, refl, sym, subst, arith, rules}
use Rattle.std.specs.Io.KnownBytes.{prepend_known}
use Rattle.std.proofs.lemmas.Grind.{common_steps}
use Rattle.gd_input.specs.declared.line.RoundLine.{RoundLine}
use Rattle.gd_input.specs.Pieces.{Known}
use Rattle.gd_input.proofs.Gathering.{Gathering, at_start, advances_not, advances_on, since, stopped, blank_ends, last, pushed, full, one_more_short}
use Rattle.gd_input.proofs.reader.Reader.read_round.Goals as goal

pub loop-self-init : goal.loop-self-init
loop-self-init g c =
    let start = prepend_known c.args.self.now.bytes (g.S.Source.left c.args.source.now) in
    record {
      gathering = subst (λ (lines : List RoundLine). Known start start (Gathering lines)) (sym c.new-lines.ensures.items) (at_start start);
      advances = advances_not start c.args.self.now.consumed;
      short = first_of (search rules, grind (arith, common_steps));
      few = first_of (search rules, grind (arith, common_steps));
      forward = first_of (search rules, grind (arith, common_steps));
      counts = λ before rose. rose;
      bounded = c.allocator.ensures.bounded;
      later = omega arith;
    }

pub returns-in_err-line-clause-advances : goal.returns-in_err-line-clause-advances
returns-in_err-line-clause-advances g c = advances_on _ _ _ _ _ _ c.loop-self.invariant.advances c.read_line.ensures.advances

pub returns-then-is_blank-clause-advances : goal.returns-then-is_blank-clause-advances
returns-then-is_blank-clause-advances g c = advances_on _ _ _ _ _ _ c.loop-self.invariant.advances c.read_line.ensures.advances

pub returns-in_err-push-clause-advances : goal.returns-in_err-push-clause-advances
returns-in_err-push-clause-advances g c = advances_on _ _ _ _ _ _ c.loop-self.invariant.advances c.read_line.ensures.advances

pub returns-then-not-by_newline-clause-advances : goal.returns-then-not-by_newline-clause-advances
returns-then-not-by_newline-clause-advances g c = advances_on _ _ _ _ _ _ c.loop-self.invariant.advances c.read_line.ensures.advances

pub returns-in_err-line-clause-since : goal.returns-in_err-line-clause-since
returns-in_err-line-clause-since g c = since _ _ _ _ (advances_on _ _ _ _ _ _ c.loop-self.invariant.advances c.read_line.ensures.advances)

pub returns-then-is_blank-clause-since : goal.returns-then-is_blank-clause-since
returns-then-is_blank-clause-since g c = since _ _ _ _ (advances_on _ _ _ _ _ _ c.loop-self.invariant.advances c.read_line.ensures.advances)

pub returns-in_err-push-clause-since : goal.returns-in_err-push-clause-since
returns-in_err-push-clause-since g c = since _ _ _ _ (advances_on _ _ _ _ _ _ c.loop-self.invariant.advances c.read_line.ensures.advances)

pub returns-then-not-by_newline-clause-since : goal.returns-then-not-by_newline-clause-since
returns-then-not-by_newline-clause-since g c = since _ _ _ _ (advances_on _ _ _ _ _ _ c.loop-self.invariant.advances c.read_line.ensures.advances)

pub returns-clause-since : goal.returns-clause-since
returns-clause-since g c = since _ _ _ _ c.loop-self.invariant.advances

pub returns-in_err-line-clause-stopped : goal.returns-in_err-line-clause-stopped
returns-in_err-line-clause-stopped g c is =
    let few : length c.loop-self.lines.items < 256 = omega (arith, c.loop-self.lines.ok) in
    (first_of (search rules, grind (arith, common_steps)), stopped _ _ _ c.loop-self.lines.items c.loop-self.invariant.gathering c.in_err-line.ensures.stopped few)

pub returns-then-is_blank-clause-round : goal.returns-then-is_blank-clause-round
returns-then-is_blank-clause-round g c =
    let few : length c.loop-self.lines.items < 256 = omega (arith, c.loop-self.lines.ok) in
    blank_ends _ _ _ c.loop-self.lines.items _ c.in_ok-line.field-0 c.is_blank.result c.loop-self.invariant.gathering c.in_ok-line.ensures.line few c.is_blank.ensures c.if-is_blank.true refl refl

pub returns-then-not-by_newline-clause-round : goal.returns-then-not-by_newline-clause-round
returns-then-not-by_newline-clause-round g c =
    let few : length c.loop-self.lines.items < 256 = omega (arith, c.loop-self.lines.ok) in
    last _ _ _ c.loop-self.lines.items _ c.in_ok-line.field-0 c.is_blank.result c.loop-self.invariant.gathering c.in_ok-line.ensures.line few c.is_blank.ensures c.if-is_blank.false c.if-not-by_newline.true c.in_ok-push.ensures.items refl

pub loop-self-preserved : goal.loop-self-preserved
loop-self-preserved g c =
    let few : length c.loop-self.lines.items < 256 = omega (arith, c.loop-self.lines.ok) in
    record {
      gathering = rw c.in_ok-push.ensures.items (pushed _ _ _ c.loop-self.lines.items c.in_ok-line.field-0 c.is_blank.result c.loop-self.invariant.gathering c.in_ok-line.ensures.line few c.is_blank.ensures c.if-is_blank.false c.if-not-by_newline.false);
      advances = advances_on _ _ _ _ _ _ c.loop-self.invariant.advances c.read_line.ensures.advances;
      short = one_more_short c.loop-self.lines.items c.in_ok-line.field-0.line _ c.loop-self.invariant.short c.in_ok-line.ensures.short c.in_ok-push.ensures.items;
      few = omega (arith, c.in_ok-push.ensures.len);
      forward = omega (arith, c.in_ok-push.ensures.len, c.loop-self.invariant.forward, c.in_ok-line.ensures.forward c.if-not-by_newline.false);
      counts = λ before rose. c.read_line.ensures.counted before (c.loop-self.invariant.counts before rose);
      bounded = c.read_line.ensures.bounded;
      later = omega (arith, c.loop-self.invariant.later, c.read_line.ensures.later);
    }

pub returns-clause-round : goal.returns-clause-round
returns-clause-round g c =
    let count : length c.loop-self.lines.items ≡ 256 = omega (arith, c.loop-self.lines.ok, c.loop-self.invariant.few) in
    full _ _ c.loop-self.lines.items _ c.loop-self.invariant.gathering count refl refl
