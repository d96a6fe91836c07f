-- What a run that answers templates prints for its input, for each status.
use Rattle.std.specs.Prelude.{◌≡◌, ◌⊎◌, ℕ, List, true, Option, IfSome}
use Rattle.gd_prim.specs.declared.Batch.{Batch}
use Rattle.gd_patterns.specs.Patterns.{AnsweredAll, AnsweredTaken, AnsweredFront}
use Rattle.gd_top.specs.declared.status.Status.{Status}
use Rattle.gd_top.specs.declared.status.Status.TheVariants as status
use Rattle.gd_top.specs.Ends.{is_refused}

-- A run of templates with this status printed, over one list with which it may begin, a line for each line of the input, which is its answer or says that there was no memory; or for those before which it stopped; or a front of that where the sink failed. Without memory it may also not have begun, and where its store was not opened it did not begin.
pub record PrintsAnswers (s : Status) (begins : List Batch → Type 0) (unbegun : Type 0) (left held_old held_new : Option (List ℕ)) : Type 0 where
  pub done : s ≡ status.Done → IfSome left (AnsweredAll begins held_old held_new)
  pub between : (s ≡ status.ReadFault) ⊎ (s ≡ status.TooMuch) → IfSome left (AnsweredTaken begins held_old held_new)
  pub within : s ≡ status.SinkFault → IfSome left (AnsweredFront begins held_old held_new)
  pub memory : s ≡ status.Memory → unbegun ⊎ IfSome left (AnsweredTaken begins held_old held_new)
  pub nothing : is_refused s ≡ true → unbegun
