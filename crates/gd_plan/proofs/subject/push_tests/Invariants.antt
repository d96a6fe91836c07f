use Rattle.std.proofs.Common.{◌≡◌, ◌++◌, map, drop}
use Rattle.gd_template.specs.Seen.{constraint_of}
use Rattle.gd_plan.specs.Asked.{members_view}
use Rattle.gd_plan.specs.Subjects.{tests_on}
use Rattle.gd_plan.proofs.subject.push_tests.Given as goal

abbrev pub invariant-loop-member : goal.invariant-loop-member
invariant-loop-member l =
    map constraint_of l.constraints.items ++ tests_on l.subject (members_view (drop l.member-index l.members))
    ≡ map constraint_of l.initial.constraints.items ++ tests_on l.subject (members_view l.members)
