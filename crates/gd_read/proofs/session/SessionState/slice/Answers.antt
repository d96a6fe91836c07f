use Rattle.gd_read.proofs.States.{less_none}
use Rattle.gd_read.proofs.session.SessionState.slice.Goals as goal

pub returns-in-Ok-Unfinished-clause-less : goal.returns-in-Ok-Unfinished-clause-less
returns-in-Ok-Unfinished-clause-less g c = λ n past. rw c.in-Some.is (c.slice_over.ensures.less n past)

pub returns-in-Ok-Reply-clause-less : goal.returns-in-Ok-Reply-clause-less
returns-in-Ok-Reply-clause-less g c = λ n past. rw (c.end.ensures, c.in-Some.is) (less_none _ _ _ _ (c.slice_over.ensures.less n past))

pub returns-in-Err-clause-less : goal.returns-in-Err-clause-less
returns-in-Err-clause-less g c = λ n past. rw (c.end-in-Err.ensures, c.in-Some.is) (less_none _ _ _ _ (c.slice_over.ensures.less n past))
