use Rattle.std.proofs.Common.{◌∙◌, ◌<◌, ◌≤◌, ap, sym, length, arith, rules}
use Rattle.gd_iter_core.specs.Owed.{Walk, ids_from}
use Rattle.gd_or.specs.Or.{part}
use Rattle.gd_or.proofs.Members.{map-set, front-set, take_all, part_restarted}
use Rattle.gd_or.proofs.branch.restart_all.Goals as goal

pub loop-k-preserved : goal.loop-k-preserved
loop-k-preserved g c =
    let there : c.loop-k.k < length c.loop-k.branches = search rules in
    record {
      front = front-set (λ b. part c.args.at (g.I.Iter.owed b.iter c.args.world.now) b.head) (λ b. ids_from c.args.at ((g.I.Iter.walk b.iter).set c.args.world.now)) c.loop-k.branches c.loop-k.k c.restart.new.self there
          (part_restarted c.args.at _ _ _ c.restart.ensures.head (c.restart.ensures.owed ∙ ap (λ (v : Walk g.row.W.Denot). ids_from c.args.at (v.set c.args.world.now)) (sym c.restart.ensures.walk)))
          c.loop-k.invariant.front;
      sets = map-set (λ b. ids_from c.args.at ((g.I.Iter.walk b.iter).set c.args.world.now)) c.loop-k.branches c.loop-k.k c.index-branches-k.result c.restart.new.self there
          (ap (λ (v : Walk g.row.W.Denot). ids_from c.args.at (v.set c.args.world.now)) c.restart.ensures.walk) ∙ c.loop-k.invariant.sets;
      walk = map-set (λ b. g.I.Iter.walk b.iter) c.loop-k.branches c.loop-k.k c.index-branches-k.result c.restart.new.self there c.restart.ensures.walk ∙ c.loop-k.invariant.walk;
      work = omega (arith, c.loop-k.invariant.work, c.restart.ensures.work);
      later = search rules;
    }

pub returns-clause-owed : goal.returns-clause-owed
returns-clause-owed g c =
    let past : length c.loop-k.branches ≤ c.loop-k.k = search rules in
    sym (take_all (λ b. part c.args.at (g.I.Iter.owed b.iter c.args.world.now) b.head) c.loop-k.branches c.loop-k.k past)
    ∙ (c.loop-k.invariant.front
    ∙ (take_all (λ b. ids_from c.args.at ((g.I.Iter.walk b.iter).set c.args.world.now)) c.loop-k.branches c.loop-k.k past ∙ c.loop-k.invariant.sets))
