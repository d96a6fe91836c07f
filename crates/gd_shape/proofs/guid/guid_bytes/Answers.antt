use Rattle.std.proofs.Common.{◌≡◌, ◌+◌, ◌-◌, ◌/◌, set, suc, subst, sym, arith}
use Rattle.gd_shape.proofs.Guids.{EndsIn, one_more, all_written}
use Rattle.gd_shape.proofs.guid.guid_bytes.Goals as goal

pub loop-done-preserved : goal.loop-done-preserved
loop-done-preserved c =
    let l = c.loop-done in
    let place = c.args.place in
    let few = 8 - (l.done + 1) in
    let more : 8 - l.done ≡ suc few = omega arith in
    let at : 25 + few ≡ 32 - l.done = omega arith in
    let next = one_more place l.left few l.bytes (omega arith) (subst (λ n. EndsIn place l.left n l.bytes) more l.invariant.ends) in
    record {
      within = omega arith;
      ends = subst (λ k. EndsIn place (l.left / 16) few (set l.bytes k c.hex_digit.result)) at (subst (λ d. EndsIn place (l.left / 16) few (set l.bytes (25 + few) d)) (sym c.hex_digit.ensures) next);
    }

pub returns : goal.returns
returns c =
    let l = c.loop-done in
    let none : 8 - l.done ≡ 0 = omega arith in
    all_written c.args.place l.left l.bytes c.ranges.place.fits (subst (λ n. EndsIn c.args.place l.left n l.bytes) none l.invariant.ends)
