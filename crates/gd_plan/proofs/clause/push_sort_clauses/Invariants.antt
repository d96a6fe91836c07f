use Rattle.std.proofs.Common.{◌≡◌, map, drop}
use Rattle.gd_defs.specs.Plan as plan
use Rattle.gd_template.specs.View.{parts}
use Rattle.gd_plan.specs.Making.{in_front}
use Rattle.gd_plan.specs.Seen.{sort_key_view}
use Rattle.gd_plan.proofs.clause.push_sort_clauses.Given as goal

abbrev pub invariant-loop-key : goal.invariant-loop-key
invariant-loop-key l =
    in_front (map parts l.clauses.items) (plan.sort_clauses (map sort_key_view (drop l.key-index l.sort)))
    ≡ in_front (map parts l.initial.clauses.items) (plan.sort_clauses (map sort_key_view l.sort))
