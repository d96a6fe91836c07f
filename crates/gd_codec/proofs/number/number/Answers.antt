use Rattle.std.proofs.Common.{◌≡◌, ◌-◌, ◌∙◌, ℕ, sym, ap, arith}
use Rattle.std.proofs.lemmas.Result.{err_from_is_err_and}
use Rattle.gd_grammar.specs.Reading.{number_from, number_at}
use Rattle.gd_codec.proofs.Stops.{stopped_same}
use Rattle.gd_grammar.proofs.Ranges.{below_56, below_more, byte_small, number_more}
use Rattle.gd_codec.proofs.Stops.{number_stops}
use Rattle.gd_codec.proofs.number.number.Goals as goal

pub loop-place-init : goal.loop-place-init
loop-place-init c = let whole : c.args.size - 0 ≡ c.args.size = omega arith in record { left = ap (λ (k : ℕ). number_from c.args.ranges.now k 0 c.args.bytes.now) whole; small = omega arith }

pub next_byte-requires-clause-fits : goal.next_byte-requires-clause-fits
next_byte-requires-clause-fits c = below_56 c.loop-place.n c.loop-place.place c.loop-place.invariant.small (omega arith)

pub returns-in_err-byte : goal.returns-in_err-byte
unfolding number_at
returns-in_err-byte c =
    let l = c.loop-place in
    let p = err_from_is_err_and c.from_residual.result c.from_residual.ensures.1 in
    let stopped = number_stops c.in_err-byte.field-0.0 c.args.ranges.now c.args.size l.place l.n l.rest.now c.loop-place-test.true c.in_err-byte.ensures in
    rw (p.1, p.2) (stopped_same c.in_err-byte.field-0.0 _ _ l.invariant.left stopped)

pub overflow_mul-n : goal.overflow_mul-n
overflow_mul-n c = let small = below_56 c.loop-place.n c.loop-place.place c.loop-place.invariant.small (omega arith) in omega (arith, small)

pub overflow_add-n : goal.overflow_add-n
overflow_add-n c =
    let l = c.loop-place in
    let small = below_56 l.n l.place l.invariant.small (omega arith) in
    let byte = byte_small c.args.ranges.now (c.args.size - 1 - l.place) l.n c.in_ok-byte.byte l.rest.now c.in_ok-byte.after.now c.in_ok-byte.ensures in
    omega (arith, small, byte)

pub loop-place-preserved : goal.loop-place-preserved
loop-place-preserved c =
    let l = c.loop-place in
    let byte = byte_small c.args.ranges.now (c.args.size - 1 - l.place) l.n c.in_ok-byte.byte l.rest.now c.in_ok-byte.after.now c.in_ok-byte.ensures in
    record {
      left = number_more c.args.ranges.now c.args.size l.place l.n c.in_ok-byte.byte c.from.result l.rest.now c.in_ok-byte.after.now c.loop-place-test.true c.in_ok-byte.ensures c.from.ensures ∙ l.invariant.left;
      small = below_more l.n c.from.result l.place l.invariant.small (omega (arith, byte));
    }

pub returns : goal.returns
unfolding number_at
returns c =
    let l = c.loop-place in
    let done : c.args.size - l.place ≡ 0 = omega arith in
    sym l.invariant.left ∙ ap (λ (k : ℕ). number_from c.args.ranges.now k l.n l.rest.now) done
