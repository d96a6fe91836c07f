-- An event keeps the batches that there were in front.
use Rattle.std.proofs.Common.{◌≡◌, ℕ, List, [], ◌∷◌, ◌++◌, Bool, true, false, Option, Some, None, Result, Ok, Err, nat_lt, ⊎_elim, refl, sym, ap, subst, ◌∙◌, append-nil, append_assoc, IsTrue}
use Rattle.gd_prim.specs.declared.Batch.{Batch}
use Rattle.gd_defs.specs.Lines.{Refusal}
use Rattle.gd_defs.specs.Write.{WriteRequest}
use Rattle.gd_sessions.specs.PassedOn.{one_member}
use Rattle.gd_runs.specs.Request.{ReadSet}
use Rattle.gd_runs.specs.Legal.{Entry, History, batches, with_entry}
use Rattle.gd_runs.specs.Core as core
use Rattle.gd_runs.specs.Core.{Event, Reading, State, opened, reading_of, Settles, Writable, WriteStep, stores, stores_late, refuses, doubts, leaves_doubt, lacks_memory, lacks_memory_settled, BeginStep, SliceStep, LearnStep}
use Rattle.gd_runs.specs.Replay.{LacksMemory}
use Rattle.gd_runs.proofs.Rounds.{batches_more}
use Rattle.gd_replay_laws.specs.Steps.{StepOver, Takes}
use Rattle.gd_replay_laws.proofs.Below.{freeze_same, thaw_same}
use Rattle.gd_replay.specs.Kept.{Grows}

pub grows_same : (bs : List Batch) → Grows bs bs
grows_same bs = record { more = []; is = sym (append-nil bs) }

pub grows_then : (a b c : List Batch) → Grows a b → Grows b c → Grows a c
grows_then a b c first second = record {
  more = first.more ++ second.more;
  is = second.is ∙ (ap (λ (bs : List Batch). bs ++ second.more) first.is ∙ append_assoc a first.more second.more);
}

-- the batches of two states
abbrev Goes : State → State → Type 0
Goes s t = Grows (batches s.history) (batches t.history)

-- a state that is another one with the same history
stays : (s u t : State) → u.history ≡ s.history → t ≡ u → Goes s t
stays s u t same is = subst (λ (v : State). Goes s v) (sym is) (subst (λ (h : History). Grows (batches s.history) (batches h)) (sym same) (grows_same (batches s.history)))

-- ---- a write

entry : (h : History) (e : Entry) → Grows (batches h) (batches (with_entry h e))
entry h e = record { more = e.batch ∷ []; is = batches_more h (e ∷ []) }

settled : (s t : State) → Settles s t → Goes s t
settled s t settles = by s.doubt refl
  where
    by : (d : Option Entry) → s.doubt ≡ d → Goes s t
    by None is = stays s (record s { doubt = None }) t refl (rw is at settles)
    by (Some a) is = ⊎_elim
        (λ none. subst (λ (v : State). Goes s v) (sym none) (grows_same (batches s.history)))
        (λ some. ⊎_elim
        (λ now. subst (λ (v : State). Goes s v) (sym now) (entry s.history a))
        (λ late. subst (λ (v : State). Goes s v) (sym late) (entry s.history a))
        some)
        (rw is at settles)

stored : (s t : State) (e : Entry) → Settles s t → Grows (batches s.history) (batches (with_entry t.history e))
stored s t e settles = grows_then (batches s.history) (batches t.history) (batches (with_entry t.history e)) (settled s t settles) (entry t.history e)

write_goes : (may : ℕ → Bool) (s : State) (k bytes i : ℕ) (w : WriteRequest) (line : List ℕ) (u : State) → WriteStep may s k bytes i w line u → Goes s u
write_goes may s k bytes i w _ _ (stores t e can) = stored s t e can.settled
write_goes may s k bytes i w _ _ (stores_late t e can) = stored s t e can.settled
write_goes may s k bytes i w _ _ (refuses t moment f settles does) = settled s t settles
write_goes may s k bytes i w _ _ (doubts t e can) = settled s t can.settled
write_goes may s k bytes i w _ _ (leaves_doubt e is) = grows_same (batches s.history)
write_goes may s k bytes i w _ _ lacks_memory = grows_same (batches s.history)
write_goes may s k bytes i w _ _ (lacks_memory_settled t settles) = settled s t settles

-- ---- each event

begin_goes : (s : State) (k i : ℕ) (r : ReadSet) (line : List ℕ) (t : State) → BeginStep s k i r line t → Goes s t
begin_goes s k i r line t step = by (reading_of (batches s.history) s.shown r) refl
  where
    by : (o : Result Reading (ℕ × Refusal)) → reading_of (batches s.history) s.shown r ≡ o → Goes s t
    by (Ok reading) is = stays s (core.entered s i (Some reading)) t refl (rw is at step).1
    by (Err f) is = stays s (core.entered s i None) t refl (rw is at step).1

slice_goes : (s : State) (k i : ℕ) (line : List ℕ) (t : State) → SliceStep one_member s k i line t → Goes s t
slice_goes s k i line t step = by (s.sessions i).reading refl
  where
    by : (o : Option Reading) → (s.sessions i).reading ≡ o → Goes s t
    by None is = stays s s t refl (rw is at step).1
    by (Some r) is = ⊎_elim
        (λ more. stays s (core.entered s i (Some r)) t refl more.1)
        (λ done. stays s (core.entered s i None) t refl done.1)
        (rw is at step)

learn_goes : (s : State) (k i m : ℕ) (line : List ℕ) (t : State) → LearnStep s k i m line t → Goes s t
learn_goes s k i m line t step = by (nat_lt s.shown m) refl
  where
    by : (b : Bool) → nat_lt s.shown m ≡ b → Goes s t
    by true is = stays s s t refl (rw is at step).1
    by false is = stays s (core.learnt s i m) t refl (rw is at step).1

-- a store that was opened with batches has them
opened_with : (bs cs : List Batch) → Grows bs cs → Grows bs (batches (opened cs).history)
opened_with bs cs grows = subst (Grows bs) (sym (append-nil cs)) grows

step_goes : (told : Bool) (may : ℕ → Bool) (s : State) (k bytes : ℕ) (e : Event) (line : List ℕ) (t : State) → IsTrue told → StepOver told one_member may s k bytes e line t → Goes s t
step_goes told may s k bytes (core.begin i r) line t tells step = begin_goes s k i r line t step
step_goes told may s k bytes (core.slice i n) line t tells step = slice_goes s k i line t step
step_goes told may s k bytes (core.write i w) line t tells step = write_goes may s k bytes i w line t step
step_goes told may s k bytes (core.learn i m) line t tells step = learn_goes s k i m line t step
step_goes told may s k bytes (core.freeze i) line t tells step = stays s t t (freeze_same one_member s k i line t step).0 refl
step_goes told may s k bytes (core.thaw i r frozen) line t tells step = stays s t t (thaw_same one_member s k i r frozen line t step).0 refl
step_goes told may s k bytes core.reopen line t tells step = ⊎_elim
    (λ without. subst (λ (v : State). Goes s v) (sym without) (opened_with (batches s.history) (batches s.history) (grows_same (batches s.history))))
    (λ (e, doubt, with_it). subst (λ (v : State). Goes s v) (sym with_it) (opened_with (batches s.history) (batches s.history ++ e.batch ∷ []) (record { more = e.batch ∷ []; is = refl })))
    (step.0 tells).1

-- ---- without memory

lacks_goes : (s : State) (e : Event) (t : State) → LacksMemory s e t → Goes s t
lacks_goes s (core.begin i r) t lacks = ⊎_elim
    (λ none. stays s s t refl none)
    (λ some. ⊎_elim (λ drops. stays s (core.with_session s i _) t refl drops) (λ enters. stays s (core.entered s i None) t refl enters) some)
    lacks
lacks_goes s (core.slice i n) t lacks = ⊎_elim (λ none. stays s s t refl none) (λ enters. stays s (core.entered s i None) t refl enters) lacks
lacks_goes s (core.thaw i r frozen) t lacks = ⊎_elim (λ none. stays s s t refl none) (λ refused. stays s (core.refused_thaw s i) t refl refused) lacks
lacks_goes s (core.write i w) t lacks = stays s s t refl lacks
lacks_goes s (core.learn i m) t lacks = stays s s t refl lacks
lacks_goes s (core.freeze i) t lacks = stays s s t refl lacks
lacks_goes s core.reopen t lacks = stays s s t refl lacks

-- an event that is taken, or for which no memory was found
pub takes_grows : (told : Bool) (may : ℕ → Bool) (s : State) (k bytes : ℕ) (e : Event) (line : List ℕ) (t : State) → IsTrue told → Takes told one_member may s k bytes e line t → Grows (batches s.history) (batches t.history)
takes_grows told may s k bytes e line t tells takes = ⊎_elim (λ taken. step_goes told may s k bytes e line t tells taken) (λ lacks. lacks_goes s e t lacks.1) takes
