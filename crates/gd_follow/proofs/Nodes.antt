-- What a node's list and doubt are.
use Rattle.std.proofs.Common.{◌≡◌, ◌∙◌, inl, inr, ℕ, ◌+◌, ◌≤◌, ◌<◌, zero, suc, Bool, true, false, if◌then◌else◌, List, [], ◌∷◌, ◌++◌, length, take, drop, ◌-◌, refl, Option, Some, None, Result, Ok, Err, slice_get, sym, ap, subst, arith}
use Rattle.gd_prim.specs.declared.Batch.{Batch}
use Rattle.gd_log.specs.State.{IsHeld}
use Rattle.gd_log.specs.Stored.{Holds}
use Rattle.gd_follow_laws.specs.World as world
use Rattle.gd_follow_laws.specs.Given as outcome
use Rattle.gd_follow.specs.declared.answer.Given.{Given}
use Rattle.gd_follow.specs.declared.answer.Given.TheVariants as given
use Rattle.gd_follow.specs.declared.answer.GiveFault.{GiveFault}
use Rattle.gd_follow.specs.declared.answer.GiveFault.TheVariants as fault
use Rattle.gd_follow.specs.Node.{Ends, Appended, Answered, Gave}

-- a log without a doubt that holds the batches
pub held_holds : (co : Option (List ℕ)) (im : List ℕ → Type 0) (gate : ℕ) (next : Option ℕ) (bs : List Batch) → next ≡ None → IsHeld co im gate bs → Holds co im gate next bs None
held_holds co im gate next bs none held = subst (λ (n : Option ℕ). Holds co im gate n bs None) (sym none) held

-- the list once the doubt is ended
pub settled_list : (node : world.Node) (list more new : List Batch) (counts : Bool) → node.list ≡ list → node.doubt ≡ Some more → new ≡ (if counts then list ++ more else list) → world.Settled node new
settled_list node list more new true list_is doubt_is is = inr (more, doubt_is, is ∙ ap (λ l. l ++ more) (sym list_is))
settled_list node list more new false list_is doubt_is is = inl (is ∙ sym list_is)

-- what stands at a number stands below the length
pub there_below : (xs : List Batch) (k : ℕ) (b : Batch) → slice_get xs k ≡ Some b → k < length xs
there_below [] k b is = cc
there_below (x ∷ xs) zero b is = omega arith
there_below (x ∷ xs) (suc k) b is = let further = there_below xs k b is in omega (arith, further)

-- the doubt is ended, and then the group is answered
pub gave_of : (node mid new : world.Node) (run : world.Run) (result : Result Given GiveFault) → Ends node (Ok tt) mid → Answered mid.list run result new → Gave node run result new
gave_of node mid new run result (list, settled, same) answered = by result (subst (λ l. Answered l run result new) (ap (λ (n : world.Node). n.list) same) answered)
  where
    by : (result : Result Given GiveFault) → Answered list run result new → Gave node run result new
    by (Ok given.Gap) a = (list, settled, a)
    by (Ok given.Known) a = (list, settled, a)
    by (Ok given.Taken) a = (list, settled, a)
    by (Err (fault.Fork at)) a = (list, settled, a)
    by (Err (fault.Unfit entry)) a = (list, settled, a)
    by (Err fault.DiskMaybe) a = (list, settled, a)
    by (Err fault.Memory) a = inr (list, settled, a)
    by (Err fault.DiskNo) a = absurd a

-- what a node gives is a step of the world in which it follows
pub gave_step : (node new : world.Node) (run : world.Run) (result : Result Given GiveFault) → Gave node run result new → world.Gives node run new
gave_step node new run (Ok given.Gap) (list, settled, (comes, is)) = inr (inr (outcome.gap, (list, settled, comes, is)))
gave_step node new run (Ok given.Known) (list, settled, (comes, is)) = inr (inr (outcome.known, (list, settled, comes, is)))
gave_step node new run (Ok given.Taken) (list, settled, (comes, is)) = inr (inr (outcome.taken, (list, settled, comes, inl is)))
gave_step node new run (Err (fault.Fork at)) (list, settled, (comes, is)) = inr (inr (outcome.fork at, (list, settled, comes, is)))
gave_step node new run (Err (fault.Unfit entry)) (list, settled, (comes, is)) = inr (inr (outcome.unfit entry, (list, settled, comes, is)))
gave_step node new run (Err fault.DiskMaybe) (list, settled, (comes, is)) = inr (inr (outcome.taken, (list, settled, comes, inr (inl is))))
gave_step node new run (Err fault.Memory) (inl same) = inl same
gave_step node new run (Err fault.Memory) (inr other) = inr (inl other)
gave_step node new run (Err fault.DiskNo) (some, same) = inl same

-- the doubt could not be ended
pub gave_none : (node mid : world.Node) (run : world.Run) (e : GiveFault) → Ends node (Err e) mid → Gave node run (Err e) mid
gave_none node mid run fault.DiskNo ends = ends
gave_none node mid run fault.Memory ends = inl ends
gave_none node mid run (fault.Fork at) ends = absurd ends
gave_none node mid run (fault.Unfit entry) ends = absurd ends
gave_none node mid run fault.DiskMaybe ends = absurd ends

-- what stands behind the list was appended, or not
pub answered_of : (list : List Batch) (run : world.Run) (result : Result Given GiveFault) (after : world.Node) → run.from ≤ length list → outcome.Agrees list run.from run.group → length list < run.from + length run.group
    → Appended list (outcome.past list run.from run.group) result after → Answered list run result after
answered_of list run (Ok given.Taken) after begins agrees some (follow, is) = ((begins, agrees, some, follow), is)
answered_of list run (Ok given.Known) after begins agrees some appended = absurd appended
answered_of list run (Ok given.Gap) after begins agrees some appended = absurd appended
answered_of list run (Err (fault.Unfit entry)) after begins agrees some (unfit, is) = ((begins, agrees, some, unfit), is)
answered_of list run (Err fault.DiskMaybe) after begins agrees some (follow, is) = ((begins, agrees, some, follow), is)
answered_of list run (Err fault.Memory) after begins agrees some is = is
answered_of list run (Err (fault.Fork at)) after begins agrees some appended = absurd appended
answered_of list run (Err fault.DiskNo) after begins agrees some appended = absurd appended

-- the rest of a list, as a slice from a place on
all_taken : (xs : List Batch) → take (length xs) xs ≡ xs
all_taken [] = refl
all_taken (x ∷ xs) = ap (λ l. x ∷ l) (all_taken xs)

none_of : (n : ℕ) → take {A = Batch} n [] ≡ []
none_of zero = refl
none_of (suc n) = refl

pub rest_of : (xs : List Batch) (n k : ℕ) → k ≡ length xs - n → take k (drop n xs) ≡ drop n xs
rest_of [] zero k is = none_of k
rest_of [] (suc n) k is = none_of k
rest_of (x ∷ xs) zero k is =
    let all : k ≡ length (x ∷ xs) = omega (arith, is) in
    ap (λ (m : ℕ). take m (x ∷ xs)) all ∙ all_taken (x ∷ xs)
rest_of (x ∷ xs) (suc n) k is = rest_of xs n k (omega (arith, is))
