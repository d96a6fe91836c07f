-- No line of a run has the number of what stood before it.
use Rattle.std.proofs.Common.{◌≡◌, ℕ, zero, suc, ◌+◌, ◌<◌, List, [], ◌∷◌, Bool, true, false, Option, Some, None, Result, Ok, Err, slice_get, nat_lt, ⊎_elim, refl, sym, subst, arith}
use Rattle.gd_prim.specs.declared.Batch.{Batch}
use Rattle.gd_bytes.specs.Frozen.{Frozen}
use Rattle.gd_defs.specs.History.{prims_at}
use Rattle.gd_defs.specs.Asked.{Asked, Unknown, asked_query}
use Rattle.gd_runs.specs.Owed.{MembersOf}
use Rattle.gd_defs.specs.Lines.{Refusal}
use Rattle.gd_defs.specs.Write.{WriteRequest}
use Rattle.gd_runs.specs.Request.{ReadRequest, ReadSet, one_query, queries}
use Rattle.gd_runs.specs.Legal.{Entry, History, batches, with_entry}
use Rattle.gd_runs.specs.Explained.{entry_at}
use Rattle.gd_runs.specs.Core as core
use Rattle.gd_runs.specs.Core.{Event, Reading, State, opened, reading_of, Settles, Writable, WriteStep, stores, stores_late, refuses, doubts, leaves_doubt, lacks_memory, lacks_memory_settled, BeginStep, SliceStep, LearnStep, FreezeStep, ThawsAs, ThawStep}
use Rattle.gd_runs.specs.Replay.{LacksMemory}
use Rattle.gd_runs.proofs.Rounds.{entry_cases, some_same, no_some, slot}
use Rattle.gd_replay_laws.specs.Steps.{StepOver, Takes}
use Rattle.gd_replay_laws.specs.Runs.{LineOver, AreBelow}

-- ---- the same store

pub later : (k : ℕ) (s : State) → AreBelow k s → AreBelow (k + 1) s
later k s below = record {
  entries = λ e x at. let small = below.entries e x at in omega (arith, small);
  doubted = λ x at. let small = below.doubted x at in omega (arith, small);
}

same : (k : ℕ) (s t : State) → AreBelow k s → t.history ≡ s.history → t.doubt ≡ s.doubt → AreBelow k t
same k s t below history doubt = record {
  entries = λ e x at. below.entries e x (subst (λ (h : History). entry_at h e ≡ Some x) history at);
  doubted = λ x at. below.doubted x (subst (λ (d : Option Entry). d ≡ Some x) doubt at);
}

-- a state that is another one, or has other sessions
stays : (k : ℕ) (s u t : State) → AreBelow k s → u.history ≡ s.history → u.doubt ≡ s.doubt → t ≡ u → AreBelow (k + 1) t
stays k s u t below history doubt is = subst (AreBelow (k + 1)) (sym is) (later k u (same k s u below history doubt))

-- ---- a write

no_doubt : (k : ℕ) (x : Entry) → None ≡ Some x → x.line < k
no_doubt k x is = no_some is

the_one : (a : Entry) (i : ℕ) (x : Entry) → slice_get (a ∷ []) i ≡ Some x → x ≡ a
the_one a zero x at = sym (some_same at)
the_one a (suc i) x at = no_some at

-- an entry more, of a line below
one_more : (k : ℕ) (h : History) (a : Entry) → ((e : ℕ) (x : Entry) → entry_at h e ≡ Some x → x.line < k) → a.line < k → (e : ℕ) (x : Entry) → entry_at (with_entry h a) e ≡ Some x → x.line < k
one_more k h a before small e x at = ⊎_elim
    (λ old. before e x old)
    (λ (i, place, new). subst (λ (y : Entry). y.line < k) (sym (the_one a i x new)) small)
    (entry_cases h (a ∷ []) e x at)

pub settles_below : (k : ℕ) (s t : State) → AreBelow k s → Settles s t → AreBelow k t
settles_below k s t below settles = by s.doubt refl
  where
    by : (d : Option Entry) → s.doubt ≡ d → AreBelow k t
    by None is = subst (AreBelow k) (sym (rw is at settles)) (record { entries = below.entries; doubted = no_doubt k })
    by (Some a) is = ⊎_elim
        (λ none. subst (AreBelow k) (sym none) (record { entries = below.entries; doubted = no_doubt k }))
        (λ some. ⊎_elim
        (λ now. subst (AreBelow k) (sym now) (record { entries = one_more k s.history a below.entries (below.doubted a is); doubted = no_doubt k }))
        (λ late. subst (AreBelow k) (sym late) (record { entries = one_more k s.history a below.entries (below.doubted a is); doubted = no_doubt k }))
        some)
        (rw is at settles)

-- an entry of line k
of_line : (may : ℕ → Bool) (s : State) (k bytes : ℕ) (w : WriteRequest) (t : State) (a : Entry) → Writable may s k bytes w t a → a.line < k + 1
of_line may s k bytes w t a can = omega (arith, can.line)

written : (may : ℕ → Bool) (s : State) (k bytes : ℕ) (w : WriteRequest) (t : State) (a : Entry) → AreBelow k s → Writable may s k bytes w t a → (e : ℕ) (x : Entry) → entry_at (with_entry t.history a) e ≡ Some x → x.line < k + 1
written may s k bytes w t a below can = one_more (k + 1) t.history a (later k t (settles_below k s t below can.settled)).entries (of_line may s k bytes w t a can)

write_below : (may : ℕ → Bool) (s : State) (k bytes i : ℕ) (w : WriteRequest) (line : List ℕ) (u : State) → AreBelow k s → WriteStep may s k bytes i w line u → AreBelow (k + 1) u
write_below may s k bytes i w _ _ below (stores t e can) = record { entries = written may s k bytes w t e below can; doubted = (later k t (settles_below k s t below can.settled)).doubted }
write_below may s k bytes i w _ _ below (stores_late t e can) = record { entries = written may s k bytes w t e below can; doubted = (later k t (settles_below k s t below can.settled)).doubted }
write_below may s k bytes i w _ _ below (refuses t moment f settles does) = later k t (settles_below k s t below settles)
write_below may s k bytes i w _ _ below (doubts t e can) = record {
  entries = (later k t (settles_below k s t below can.settled)).entries;
  doubted = λ x at. subst (λ (y : Entry). y.line < k + 1) (some_same at) (of_line may s k bytes w t e can);
}
write_below may s k bytes i w _ _ below (leaves_doubt e is) = later k s below
write_below may s k bytes i w _ _ below lacks_memory = later k s below
write_below may s k bytes i w _ _ below (lacks_memory_settled t settles) = later k t (settles_below k s t below settles)

-- ---- each event

begin_below : (s : State) (k i : ℕ) (r : ReadSet) (line : List ℕ) (t : State) → AreBelow k s → BeginStep s k i r line t → AreBelow (k + 1) t
begin_below s k i r line t below step = by (reading_of (batches s.history) s.shown r) refl
  where
    by : (o : Result Reading (ℕ × Refusal)) → reading_of (batches s.history) s.shown r ≡ o → AreBelow (k + 1) t
    by (Ok reading) is = stays k s (core.entered s i (Some reading)) t below refl refl (rw is at step).1
    by (Err f) is = stays k s (core.entered s i None) t below refl refl (rw is at step).1

slice_below : (members : MembersOf) (s : State) (k i : ℕ) (line : List ℕ) (t : State) → AreBelow k s → SliceStep members s k i line t → AreBelow (k + 1) t
slice_below members s k i line t below step = by (s.sessions i).reading refl
  where
    by : (o : Option Reading) → (s.sessions i).reading ≡ o → AreBelow (k + 1) t
    by None is = stays k s s t below refl refl (rw is at step).1
    by (Some r) is = ⊎_elim
        (λ more. stays k s (core.entered s i (Some r)) t below refl refl more.1)
        (λ done. stays k s (core.entered s i None) t below refl refl done.1)
        (rw is at step)

learn_below : (s : State) (k i m : ℕ) (line : List ℕ) (t : State) → AreBelow k s → LearnStep s k i m line t → AreBelow (k + 1) t
learn_below s k i m line t below step = by (nat_lt s.shown m) refl
  where
    by : (b : Bool) → nat_lt s.shown m ≡ b → AreBelow (k + 1) t
    by true is = stays k s s t below refl refl (rw is at step).1
    by false is = stays k s (core.learnt s i m) t below refl refl (rw is at step).1

-- a store that was just opened has no entry
no_entry : (bs : List Batch) (e : ℕ) (x : Entry) → entry_at (record { loaded = bs; entries = [] }) e ≡ Some x → ⊥
no_entry bs e x at = let (i, place, there) = slot bs [] e x at in no_some there

pub opened_below : (k : ℕ) (bs : List Batch) → AreBelow k (opened bs)
opened_below k bs = record { entries = λ e x at. absurd (no_entry bs e x at); doubted = no_doubt k }

-- a state has the batches of another, and what is in doubt there
abbrev pub HasSame : State → State → Type 0
HasSame s t = (t.history ≡ s.history) × (t.doubt ≡ s.doubt)

has_same : (s u t : State) → HasSame s u → t ≡ u → HasSame s t
has_same s u t has is = subst (HasSame s) (sym is) has

pub freeze_same : (members : MembersOf) (s : State) (k i : ℕ) (line : List ℕ) (t : State) → FreezeStep members s k i line t → HasSame s t
freeze_same members s k i line t step = by (s.sessions i).reading refl
  where
    by : (o : Option Reading) → (s.sessions i).reading ≡ o → HasSame s t
    by None is = has_same s s t (refl, refl) (rw is at step).1
    by (Some r) is = has_same s s t (refl, refl) (rw is at step).0

thaws_same : (members : MembersOf) (s : State) (k i : ℕ) (r : ReadRequest) (bytes : List ℕ) (f : Frozen) (line : List ℕ) (t : State) → ThawsAs members s k i r bytes f line t → HasSame s t
thaws_same members s k i r bytes f line t step = by (nat_lt s.shown f.dateline) refl
  where
    refused : t ≡ core.refused_thaw s i → HasSame s t
    refused is = has_same s (core.refused_thaw s i) t (refl, refl) is

    asked : (o : Result Asked Unknown) → nat_lt s.shown f.dateline ≡ false → asked_query (prims_at (batches s.history) f.dateline) r.query ≡ o → HasSame s t
    asked (Err u) shown is = refused (rw is at (rw shown at step)).1
    asked (Ok q) shown is = ⊎_elim
        (λ (fit, tells, thawed). has_same s (core.entered s i (Some _)) t (refl, refl) thawed)
        (λ (unfit, tells, same). refused same)
        (rw is at (rw shown at step))

    by : (b : Bool) → nat_lt s.shown f.dateline ≡ b → HasSame s t
    by true is = refused (rw is at step).1
    by false is = asked (asked_query (prims_at (batches s.history) f.dateline) r.query) is refl

pub thaw_same : (members : MembersOf) (s : State) (k i : ℕ) (r : ReadSet) (frozen line : List ℕ) (t : State) → ThawStep members s k i r frozen line t → HasSame s t
thaw_same members s k i (one_query r) frozen line t step = ⊎_elim
    (λ (f, spelled, thaws). thaws_same members s k i r frozen f line t thaws)
    (λ (n, bad, tells, same). has_same s (core.refused_thaw s i) t (refl, refl) same)
    step
thaw_same members s k i (queries rs) frozen line t step = has_same s s t (refl, refl) step.1

same_below : (k : ℕ) (s t : State) → AreBelow k s → HasSame s t → AreBelow (k + 1) t
same_below k s t below has = later k t (same k s t below has.0 has.1)

step_below : (told : Bool) (members : MembersOf) (may : ℕ → Bool) (s : State) (k bytes : ℕ) (e : Event) (line : List ℕ) (t : State) → AreBelow k s → StepOver told members may s k bytes e line t → AreBelow (k + 1) t
step_below told members may s k bytes (core.begin i r) line t below step = begin_below s k i r line t below step
step_below told members may s k bytes (core.slice i n) line t below step = slice_below members s k i line t below step
step_below told members may s k bytes (core.write i w) line t below step = write_below may s k bytes i w line t below step
step_below told members may s k bytes (core.learn i m) line t below step = learn_below s k i m line t below step
step_below told members may s k bytes (core.freeze i) line t below step = same_below k s t below (freeze_same members s k i line t step)
step_below told members may s k bytes (core.thaw i r frozen) line t below step = same_below k s t below (thaw_same members s k i r frozen line t step)
step_below told members may s k bytes core.reopen line t below (told_step, (loaded, tells, anew)) = subst (AreBelow (k + 1)) (sym anew) (opened_below (k + 1) loaded)

-- ---- without memory

lacks_below : (s : State) (k : ℕ) (e : Event) (t : State) → AreBelow k s → LacksMemory s e t → AreBelow (k + 1) t
lacks_below s k (core.begin i r) t below lacks = ⊎_elim
    (λ none. stays k s s t below refl refl none)
    (λ some. ⊎_elim (λ drops. stays k s (core.with_session s i _) t below refl refl drops) (λ enters. stays k s (core.entered s i None) t below refl refl enters) some)
    lacks
lacks_below s k (core.slice i n) t below lacks = ⊎_elim (λ none. stays k s s t below refl refl none) (λ enters. stays k s (core.entered s i None) t below refl refl enters) lacks
lacks_below s k (core.thaw i r frozen) t below lacks = ⊎_elim (λ none. stays k s s t below refl refl none) (λ refused. stays k s (core.refused_thaw s i) t below refl refl refused) lacks
lacks_below s k (core.write i w) t below lacks = stays k s s t below refl refl lacks
lacks_below s k (core.learn i m) t below lacks = stays k s s t below refl refl lacks
lacks_below s k (core.freeze i) t below lacks = stays k s s t below refl refl lacks
lacks_below s k core.reopen t below lacks = stays k s s t below refl refl lacks

-- an event that is taken, or for which no memory was found
pub takes_below : (told : Bool) (members : MembersOf) (may : ℕ → Bool) (s : State) (k bytes : ℕ) (e : Event) (line : List ℕ) (t : State) → AreBelow k s → Takes told members may s k bytes e line t → AreBelow (k + 1) t
takes_below told members may s k bytes e line t below takes = ⊎_elim (λ taken. step_below told members may s k bytes e line t below taken) (λ lacks. lacks_below s k e t below lacks.1) takes

pub line_below : (told : Bool) (members : MembersOf) (may : ℕ → Bool) (s t : State) (k : ℕ) (bytes reply : List ℕ) → AreBelow k s → LineOver told members may s k bytes reply t → AreBelow (k + 1) t
line_below told members may s t k bytes reply below step = ⊎_elim
    (λ (f, no_event, told, is). stays k s s t below refl refl is)
    (λ some. ⊎_elim
    (λ (e, event, taken). step_below told members may s k _ e reply t below taken)
    (λ (told, without). ⊎_elim (λ is. stays k s s t below refl refl is) (λ (e, event, lacks). lacks_below s k e t below lacks) without)
    some)
    step
