use Rattle.std.proofs.Common.{◌≡◌, map, drop}
use Rattle.gd_defs.specs.Plan as plan
use Rattle.gd_template.specs.View.{parts}
use Rattle.gd_plan.specs.Asked.{members_view}
use Rattle.gd_plan.specs.Making.{in_front}
use Rattle.gd_plan.specs.Seen.{sort_key_view}
use Rattle.gd_plan.proofs.template.+template.Given as goal

abbrev pub invariant-clauses_of-loop-member : goal.invariant-clauses_of-loop-member
invariant-clauses_of-loop-member l =
    in_front (map parts l.clauses.items) (plan.clauses_of (map sort_key_view l.sort) (members_view (drop l.member-index l.members)))
    ≡ in_front (map parts l.initial.clauses.items) (plan.clauses_of (map sort_key_view l.sort) (members_view l.members))
