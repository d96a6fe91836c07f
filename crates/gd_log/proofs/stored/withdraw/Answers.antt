use Rattle.std.proofs.Common.{◌≡◌, ◌-◌, ℕ, length, take, ◌∙◌, ap, arith, length-take}
use Rattle.gd_log.proofs.Absorbs.{one_less}
use Rattle.gd_log.proofs.stored.withdraw.Goals as goal

pub retract_last-requires : goal.retract_last-requires
retract_last-requires c =
    let l = c.loop-place in
    omega (arith, c.requires, ap length l.invariant.is, length-take (length c.args.store.now - l._place) c.args.store.now)

pub loop-place-preserved : goal.loop-place-preserved
loop-place-preserved c =
    let l = c.loop-place in
    record {
      within = omega arith;
      is = one_less c.args.store.now l.store c.retract_last.new.self l._place l.invariant.is c.retract_last.ensures (omega (arith, c.requires));
    }

pub returns : goal.returns
returns c =
    let l = c.loop-place in
    let same : l._place ≡ c.args.count = omega (arith, l.invariant.within) in
    l.invariant.is ∙ ap (λ (n : ℕ). take (length c.args.store.now - n) c.args.store.now) same
