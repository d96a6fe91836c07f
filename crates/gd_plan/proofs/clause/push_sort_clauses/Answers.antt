use Rattle.std.proofs.Common.{◌+◌, drop, map, option_map, arith}
use Rattle.gd_template.specs.View.{parts}
use Rattle.gd_plan.specs.Seen.{sort_key_view}
use Rattle.gd_plan.proofs.Fronts.{key_walked, keys_walked}
use Rattle.gd_plan.proofs.clause.push_sort_clauses.Goals as goal

pub loop-key-preserved : goal.loop-key-preserved
loop-key-preserved c =
    key_walked (map parts c.loop-key.clauses.items) (option_map parts c.in_ok-clause.clause) c.args.sort.now c.loop-key.key-index c.key-item.result _ _
    (omega (arith, c.loop-key-test.true)) c.key-item.is c.loop-key.invariant
    (c.in_ok-clause.ensures (map sort_key_view (drop (c.loop-key.key-index + 1) c.args.sort.now)))
    c.in_ok-push_clause.ensures

pub returns : goal.returns
returns c = keys_walked c.loop-key.clauses.items c.args.sort.now c.loop-key.key-index _ (omega (arith, c.loop-key-test.false)) c.loop-key.invariant
