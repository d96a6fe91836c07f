use Rattle.std.proofs.Common.{◌≡◌, ◌<◌, ◌+◌, length, inr, refl, arith}
use Rattle.gd_bytes.specs.Group.{spelling}
use Rattle.gd_follow.specs.Asks.{run_of}
use Rattle.gd_follow.proofs.Stores.{there_is, run_bytes}
use Rattle.gd_follow.proofs.asking.longest.Goals as goal

pub returns-then-total-gt-PART_LIMIT : goal.returns-then-total-gt-PART_LIMIT
returns-then-total-gt-PART_LIMIT c =
    let l = c.loop-count in
    let h = c.args.store.now in
    let there : c.args.from + l.count < length h = omega (arith, c.if-count-entries.false, c.requests-entries.ensures.count) in
    let (b, is) = there_is h (c.args.from + l.count) there in
    let more = run_bytes h c.args.from l.count (c.args.from + l.count) l.total b refl is l.invariant.total in
    let bytes = c.batch_length-total.ensures.length b is in
    record {
      few = omega (arith, c.loop-count-test.true);
      within = l.invariant.within;
      small = omega (arith, l.invariant.total, l.invariant.small);
      longest = inr (inr (omega (arith, more, bytes, c.if-total-gt-PART_LIMIT.true)));
    }

pub loop-count-preserved : goal.loop-count-preserved
loop-count-preserved c =
    let l = c.loop-count in
    let h = c.args.store.now in
    let there : c.args.from + l.count < length h = omega (arith, c.if-count-entries.false, c.requests-entries.ensures.count) in
    let (b, is) = there_is h (c.args.from + l.count) there in
    let more = run_bytes h c.args.from l.count (c.args.from + l.count) l.total b refl is l.invariant.total in
    let bytes = c.batch_length-total.ensures.length b is in
    let total : l.total + c.batch_length-total.result ≡ length (spelling (run_of h c.args.from (l.count + 1))) = omega (arith, more, bytes) in
    record { within = omega (arith, there); total = total; small = omega (arith, c.if-total-gt-PART_LIMIT.false) }
