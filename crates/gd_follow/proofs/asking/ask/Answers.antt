use Rattle.std.proofs.Common.{◌∙◌, ◌<◌, ◌≤◌, length, refl, sym, subst, arith}
use Rattle.gd_codec.specs.Writable.{MayWrite}
use Rattle.gd_follow_laws.specs.World.{IsRun}
use Rattle.gd_follow.proofs.Stores.{there_is, run_may, run_is, too_large}
use Rattle.gd_follow.proofs.asking.ask.Goals as goal

pub returns-then-count-eq0-clause-asks : goal.returns-then-count-eq0-clause-asks
returns-then-count-eq0-clause-asks c =
    let h = c.args.store.now in
    let there : c.args.from < length h = omega (arith, c.if-from-have.false, c.if-from-have-2.false, c.requests-have.ensures.count) in
    let (b, is) = there_is h c.args.from there in
    let bytes = c.batch_length.ensures.length b is in
    let (total, large) = too_large h c.args.from c.args.most c.longest-count.result b c.requires.some there is c.if-count-eq0.true c.longest-count.ensures in
    (b, is, refl, omega (arith, bytes, total), omega (arith, bytes, total, large))

pub returns-clause-may : goal.returns-clause-may
returns-clause-may c early =
    let h = c.args.store.now in
    let n = c.longest-count in
    let few : n.result ≤ 256 = omega (arith, n.ensures.few, c.requires.few) in
    let may = run_may h c.args.from n.result c.requests-have.ensures.history early (omega (arith, c.if-count-eq0.false)) few n.ensures.within in
    subst MayWrite (sym (c.of.ensures ∙ c.in_ok-batches.ensures)) may

pub returns-clause-of_list : goal.returns-clause-of_list
returns-clause-of_list c =
    let h = c.args.store.now in
    let few : c.args.from ≤ length h = omega (arith, c.if-from-have.false, c.requests-have.ensures.count) in
    subst (λ g. IsRun h (record { from = c.args.from; group = g })) (sym (c.of.ensures ∙ c.in_ok-batches.ensures)) (run_is h c.args.from c.longest-count.result few)
