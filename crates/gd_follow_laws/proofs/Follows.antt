-- In every world the node's list begins the primary's, and no group forks or is unfit.
use Rattle.std.proofs.Common.{◌≡◌, inl, inr, ⊎_elim, ℕ, zero, suc, ◌+◌, ◌-◌, ◌<◌, ◌≤◌, true, List, [], ◌∷◌, ◌++◌, length, take, drop, Option, Some, None, slice_get, sym, ◌∙◌, ap, subst, arith, append_assoc, length-append}
use Rattle.std.specs.List.{AllByRecursion}
use Rattle.std.proofs.lemmas.List.{append-nil}
use Rattle.gd_prim.specs.declared.Batch.{Batch}
use Rattle.gd_prim.specs.History.{prims_of, is_history}
use Rattle.gd_prim.specs.WellFormed.{may_follow}
use Rattle.gd_follow_laws.specs.Given.{past, IsUnfitAt, Outcome, gap, fork, known, unfit, taken, Comes}
use Rattle.gd_follow_laws.specs.World.{Node, Run, IsRun, World, Settled, certain, After, Answers, Gives, Step, Begins, Reached}
use Rattle.gd_follow_laws.proofs.Lists.{longer, get_front, get_behind, drop_front, split_at, each_there, each_so, history_follows, history_more}

-- the one list begins the other
abbrev pub IsFront : List Batch → List Batch → Type 0
IsFront list whole = (rest : List Batch) × (whole ≡ list ++ rest)

-- a group of the whole list that does not begin behind the front holds the batches that the front holds
run_agrees : (whole list : List Batch) (run : Run) (at : ℕ) (b c : Batch) → IsFront list whole → IsRun whole run → run.from ≤ at → slice_get list at ≡ Some b → slice_get run.group (at - run.from) ≡ Some c → b ≡ c
run_agrees whole list run at b c (rest, front_is) (front, more, whole_is, long) from mine theirs =
    let one : slice_get whole at ≡ Some b = ap (λ l. slice_get l at) front_is ∙ get_front list rest at b mine in
    let place : at ≡ length front + (at - run.from) = omega (arith, long, from) in
    let two : slice_get whole at ≡ Some c = ap (λ l. slice_get l at) (whole_is ∙ append_assoc front run.group more) ∙ get_behind front (run.group ++ more) (at - run.from) at place ∙ get_front run.group more (at - run.from) c theirs in
    cc (one, two)

-- what of it stands behind the front goes on with the whole list
run_past : (whole list : List Batch) (run : Run) → IsFront list whole → IsRun whole run → run.from ≤ length list → length list < run.from + length run.group → IsFront (list ++ past list run.from run.group) whole
run_past whole list run (rest, front_is) (front, more, whole_is, long) from some =
    let sum = length-append front run.group in
    let (t, group_is, rest_is) = longer (front ++ run.group) more list rest (sym whole_is ∙ front_is) (omega (arith, sum, long, some)) in
    let (u, list_is, tail_is) = longer list t front run.group (sym group_is) (omega (arith, long, from)) in
    let count : length list - run.from ≡ length u = omega (arith, ap length list_is, length-append front u, long) in
    let past_is : past list run.from run.group ≡ t = ap (drop (length list - run.from)) tail_is ∙ drop_front u t (length list - run.from) count in
    (more, front_is ∙ ap (λ l. list ++ l) rest_is ∙ sym (append_assoc list t more) ∙ ap (λ l. (list ++ l) ++ more) (sym past_is))

-- behind a front of a history what goes on with it may follow
past_fits : (whole list more : List Batch) (at : ℕ) → is_history whole ≡ true → IsFront (list ++ more) whole → IsUnfitAt list more at → ⊥
past_fits whole list more at history (rest, whole_is) u =
    let (ys, more_is, long) = split_at more u.count u.batch u.here in
    let there : whole ≡ (list ++ take u.count more) ++ u.batch ∷ (ys ++ rest) =
    whole_is ∙ ap (λ l. (list ++ l) ++ rest) more_is ∙ regroup list (take u.count more) (u.batch ∷ ys) rest in
    let may = history_follows (list ++ take u.count more) u.batch (ys ++ rest) (sym (ap is_history there) ∙ history) in
    let count : length (list ++ take u.count more) ≡ length list + u.count = omega (arith, length-append list (take u.count more), long) in
    let no = ap (λ n. may_follow (prims_of (list ++ take u.count more)) n u.batch) count ∙ u.unfit in
    cc (may, no)
  where
    regroup : (a b c d : List Batch) → (a ++ (b ++ c)) ++ d ≡ (a ++ b) ++ (c ++ d)
    regroup a b c d = simp append_assoc

-- ---- what holds in each world

-- what the doubt may add
abbrev doubted : Option (List Batch) → List Batch
doubted None = []
doubted (Some more) = more

-- The primary has a history, the node's list, with what is in doubt, begins it, and each answer holds batches of it.
pub record Holds (w : World) : Type 0 where
  pub history : is_history w.primary ≡ true
  pub front : IsFront (w.node.list ++ doubted w.node.doubt) w.primary
  pub runs : AllByRecursion (IsRun w.primary) w.answers

-- the node's list alone begins the primary's
pub list_front : (w : World) → Holds w → IsFront w.node.list w.primary
list_front w h = let (rest, is) = h.front in (doubted w.node.doubt ++ rest, is ∙ append_assoc w.node.list (doubted w.node.doubt) rest)

-- and so does each list that it may have once the doubt is ended
pub settled_front : (w : World) (list : List Batch) → Holds w → Settled w.node list → IsFront list w.primary
settled_front w list h (inl is) = let (rest, front_is) = list_front w h in (rest, front_is ∙ ap (λ l. l ++ rest) (sym is))
settled_front w list h (inr (more, doubt_is, is)) = let (rest, front_is) = h.front in (rest, front_is ∙ ap (λ d. (w.node.list ++ doubted d) ++ rest) doubt_is ∙ ap (λ l. l ++ rest) (sym is))

-- a group that begins some answer comes to no fork and no unfit batch
pub no_fork : (whole list : List Batch) (run : Run) (at : ℕ) → IsFront list whole → IsRun whole run → Comes list run.from run.group (fork at) → ⊥
no_fork whole list run at front is (from, f) = f.differ (run_agrees whole list run at f.mine f.theirs front is f.behind f.here f.there)

pub no_unfit : (whole list : List Batch) (run : Run) (at : ℕ) → is_history whole ≡ true → IsFront list whole → IsRun whole run → Comes list run.from run.group (unfit at) → ⊥
no_unfit whole list run at history front is (from, agrees, some, u) = past_fits whole list (past list run.from run.group) at history (run_past whole list run front is from some) u

-- ---- each step keeps it

more_front : (list whole : List Batch) (b : Batch) → IsFront list whole → IsFront list (whole ++ b ∷ [])
more_front list whole b (rest, is) = (rest ++ b ∷ [], ap (λ l. l ++ b ∷ []) is ∙ append_assoc list rest (b ∷ []))

more_run : (whole : List Batch) (run : Run) (b : Batch) → IsRun whole run → IsRun (whole ++ b ∷ []) run
more_run whole run b (front, rest, is, long) = (front, rest ++ b ∷ [], ap (λ l. l ++ b ∷ []) is ∙ append_assoc (front ++ run.group) rest (b ∷ []), long)

certain_holds : (w : World) (list : List Batch) → Holds w → IsFront list w.primary → Holds (record { primary = w.primary; node = certain list; answers = w.answers })
certain_holds w list h (rest, is) = record { history = h.history; front = (rest, is ∙ ap (λ l. l ++ rest) (sym (append-nil list))); runs = h.runs }

given_holds : (w : World) (run : Run) (after : Node) → Holds w → IsRun w.primary run → Gives w.node run after → Holds (record { primary = w.primary; node = after; answers = w.answers })
given_holds w run after h is (inl same) = subst (λ (n : Node). Holds (record { primary = w.primary; node = n; answers = w.answers })) (sym same) (record { history = h.history; front = h.front; runs = h.runs })
given_holds w run after h is (inr (inl (list, settled, same))) = subst (λ (n : Node). Holds (record { primary = w.primary; node = n; answers = w.answers })) (sym same) (certain_holds w list h (settled_front w list h settled))
given_holds w run after h is (inr (inr (o, (list, settled, comes, then)))) = by o comes then
  where
    stays : after ≡ certain list → Holds (record { primary = w.primary; node = after; answers = w.answers })
    stays same = subst (λ (n : Node). Holds (record { primary = w.primary; node = n; answers = w.answers })) (sym same) (certain_holds w list h (settled_front w list h settled))

    by : (o : Outcome) → Comes list run.from run.group o → After list run o after → Holds (record { primary = w.primary; node = after; answers = w.answers })
    by gap comes then = stays then
    by (fork at) comes then = stays then
    by known comes then = stays then
    by (unfit at) comes then = stays then
    by taken (from, agrees, some, follow) then =
        let goes = run_past w.primary list run (settled_front w list h settled) is from some in
        ⊎_elim
        (λ same. subst (λ (n : Node). Holds (record { primary = w.primary; node = n; answers = w.answers })) (sym same) (certain_holds w (list ++ past list run.from run.group) h goes))
        (λ other. ⊎_elim
        (λ same. subst (λ (n : Node). Holds (record { primary = w.primary; node = n; answers = w.answers })) (sym same) (record { history = h.history; front = goes; runs = h.runs }))
        stays
        other)
        then

step_holds : (v w : World) → Holds v → Step v w → Holds w
step_holds v w h (inl (b, may, is)) = subst Holds (sym is) (record { history = history_more v.primary b h.history may; front = more_front (v.node.list ++ doubted v.node.doubt) v.primary b h.front; runs = each_so (IsRun v.primary) (IsRun (v.primary ++ b ∷ [])) v.answers (λ run r. more_run v.primary run b r) h.runs })
step_holds v w h (inr (inl (run, of, is))) = subst Holds (sym is) (record { history = h.history; front = h.front; runs = (of, h.runs) })
step_holds v w h (inr (inr (inl (number, run, there, (after, gives, is))))) = subst Holds (sym is) (given_holds v run after h (each_there (IsRun v.primary) v.answers number run h.runs there) gives)
step_holds v w h (inr (inr (inr (list, settled, is)))) = subst Holds (sym is) (certain_holds v list h (settled_front v list h settled))

begun_holds : (w : World) → Begins w → Holds w
begun_holds w (history, node_is, none) = record { history = history; front = (w.primary, sym (ap (λ (n : Node). (n.list ++ doubted n.doubt) ++ w.primary) node_is)); runs = subst (λ (rs : List Run). AllByRecursion (IsRun w.primary) rs) (sym none) tt }

-- In each world it holds.
pub holds : (n : ℕ) (w : World) → Reached n w → Holds w
holds zero w begun = begun_holds w begun
holds (suc n) w (v, reached, step) = step_holds v w (holds n v reached) step

-- ---- the law

-- The node's list begins the primary's.
pub follows : (n : ℕ) (w : World) → Reached n w → IsFront w.node.list w.primary
follows n w reached = list_front w (holds n w reached)

-- No answer that was ever given comes to a fork or to an unfit batch, whatever the node's doubt comes to.
pub never : (n : ℕ) (w : World) (number : ℕ) (run : Run) (after : Node) (at : ℕ) → Reached n w → slice_get w.answers number ≡ Some run → (Answers w.node run (fork at) after → ⊥) × (Answers w.node run (unfit at) after → ⊥)
never n w number run after at reached there =
    let h = holds n w reached in
    let is = each_there (IsRun w.primary) w.answers number run h.runs there in (
      λ (list, settled, comes, then). no_fork w.primary list run at (settled_front w list h settled) is comes,
      λ (list, settled, comes, then). no_unfit w.primary list run at h.history (settled_front w list h settled) is comes,
    )
