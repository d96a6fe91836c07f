use Rattle.std.proofs.Common.{◌≡◌, ◌∙◌, ◌<◌, true, false, sym, length, rules}
use Rattle.gd_iter_core.specs.Owed.{has_id}
use Rattle.gd_or.proofs.Members.{any_yes, any_no}
use Rattle.gd_or.proofs.branch.ask_any.Goals as goal

pub returns-then-has-clause-gives : goal.returns-then-has-clause-gives
returns-then-has-clause-gives g c =
    let there : c.loop-branch.branch-index < length c.args.branches.now = search rules in
    let has : has_id ((g.I.Iter.walk c.branch-item.result.iter).set c.args.world.now) c.args.id ≡ true = sym c.has.ensures.has ∙ c.if-has.true in
    c.loop-branch.invariant.left
    ∙ any_yes (λ b. (g.I.Iter.walk b.iter).set c.args.world.now) c.args.branches.now c.loop-branch.branch-index c.branch-item.result c.args.id there c.branch-item.is has

pub loop-branch-preserved : goal.loop-branch-preserved
loop-branch-preserved g c =
    let there : c.loop-branch.branch-index < length c.args.branches.now = search rules in
    let lacks : has_id ((g.I.Iter.walk c.branch-item.result.iter).set c.args.world.now) c.args.id ≡ false = sym c.has.ensures.has ∙ c.if-has.false in
    record {
      left = c.loop-branch.invariant.left
          ∙ any_no (λ b. (g.I.Iter.walk b.iter).set c.args.world.now) c.args.branches.now c.loop-branch.branch-index c.branch-item.result c.args.id there c.branch-item.is lacks;
      work = search rules;
      few = search rules;
      later = search rules;
    }
