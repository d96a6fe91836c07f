use Rattle.gd_plan.proofs.clause.sort_clause.Goals as goal

pub returns-in-Value : goal.returns-in-Value
returns-in-Value c = λ more. rw c.in-Value.is (c.value_sort_clause.ensures more c.in-Value.descending)
