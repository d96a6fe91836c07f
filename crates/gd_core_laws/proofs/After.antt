-- What follows for the disk, for parts of an input, and for the core's own writes.
use Rattle.std.proofs.Common.{◌≡◌, refl, ℕ, zero, suc, ◌+◌, ◌≤◌, ◌<◌, inl, inr, ⊎_elim, Bool, true, false, cond, List, [], ◌∷◌, ◌++◌, length, take, flat_map, nat_lt, Option, Some, None, slice_get, sym, subst, ap, ◌∙◌, arith}
use Rattle.std.specs.Prelude.{filter}
use Rattle.gd_prim.specs.declared.Batch.{Batch}
use Rattle.gd_prim.specs.Builtin.{builtin}
use Rattle.gd_prim.specs.WellFormed.{all_follow}
use Rattle.gd_bytes.specs.File.{StandsFor, MayStandFor}
use Rattle.gd_defs.specs.Write.{WriteRequest, ChangeFault}
use Rattle.gd_tree.specs.Json.{Json}
use Rattle.gd_runs.specs.Owed.{MembersOf}
use Rattle.gd_runs.specs.Legal.{Entry, History, batches}
use Rattle.gd_runs.specs.Explained.{Numbered, Run, SameSession, TakesIn, IsExplainedBy, MayBeLeft, StandsWith, told_dateline, lines_of, lines_within, ExplainsRounds}
use Rattle.gd_runs.specs.Core.{State, opened, WriteStep, stores, stores_late, refuses, doubts, leaves_doubt, lacks_memory, lacks_memory_settled}
use Rattle.gd_runs.specs.Side.{Kept, kept_stored, kept_refused, doubt_groups, Told, WriteLine, AreInOrder, session_lines, session_outcomes, WriteKeeps, told_of}
use Rattle.gd_runs.proofs.Rounds.{no_some, some_same, get_cases, get_within, batches_more, stored_told}
use Rattle.gd_core_laws.specs.Serve.{LinesServed}
use Rattle.gd_core_laws.specs.Served.{IsDoubted}
use Rattle.gd_core_laws.specs.Round.{StandsAt, kept_reply}
use Rattle.gd_runs.specs.Side as keeps
use Rattle.gd_core_laws.specs.Threads.{RoundsServed}
use Rattle.gd_core_laws.proofs.Sorted.{from_filter}
use Rattle.gd_core_laws.proofs.SideHistory.{more_legal}
use Rattle.gd_core_laws.proofs.Whole.{RoundsRise, lines_rise, lines_served}
use Rattle.gd_core_laws.proofs.Threads.{stands_at_first, rounds_stand}

-- ---- the disk

-- what is in doubt was left so, and files that may have it stand for the history, with or without it
pub files_hold : (loaded : List Batch) (may : ℕ → Bool) (given : List Numbered) (output : List ℕ) (h : History) (runs : List Run) (doubt : Option Entry) → IsExplainedBy loaded may given output h runs
    → IsDoubted may h runs doubt → MayBeLeft may h runs doubt × ((file : List ℕ) → MayStandFor (batches h) (doubt_groups doubt) file → StandsWith h doubt file)
files_hold loaded may given output h runs None ex doubted = (tt, λ file stands. stands)
files_hold loaded may given output h runs (Some e) ex d = (
  record {
    run = d.run;
    doubt = d.old;
    legal = more_legal may h e ex.legal d.after (λ n x at same. let (r, there, does, may_be) = ex.entries n x at in (d.old.last n x r at there).2 same);
    moment = d.moment;
  },
  λ file stands. ⊎_elim (λ old. inl old) (λ more. inr (subst (StandsFor file) (sym (batches_more h (e ∷ []))) more)) stands,
)

-- ---- parts of an input

filter_rise : (p : Numbered → Bool) (ls : List Numbered) → RoundsRise ls → RoundsRise (filter p ls)
filter_rise p [] rise = rise
filter_rise p (c ∷ ls) rise = by (p c) (filter_rise p ls (λ i j a b le at_a at_b. rise (suc i) (suc j) a b (omega (arith, le)) at_a at_b))
  where
    front : (i j : ℕ) (a b : Numbered) → i ≤ j → slice_get (c ∷ filter p ls) i ≡ Some a → slice_get (c ∷ filter p ls) j ≡ Some b → RoundsRise (filter p ls) → a.round ≤ b.round
    front zero zero a b le at_a at_b rest = let same = ap (λ (m : Numbered). m.round) (some_same (sym at_a ∙ at_b)) in omega (arith, same)
    front zero (suc j) a b le at_a at_b rest = let (m, there) = from_filter p ls j b at_b in rise 0 (suc m) a b (omega arith) at_a there
    front (suc i) zero a b le at_a at_b rest = absurd (omega (arith, le))
    front (suc i) (suc j) a b le at_a at_b rest = rest i j a b (omega (arith, le)) at_a at_b

    by : (t : Bool) → RoundsRise (filter p ls) → RoundsRise (cond t (c ∷ filter p ls) (filter p ls))
    by true rest = λ i j a b le at_a at_b. front i j a b le at_a at_b rest
    by false rest = rest

-- the first so many rounds of an input, served through the core on one thread
pub served_rounds_explained : (members : MembersOf) (may : ℕ → Bool) (loaded : List Batch) (n : ℕ) (input output : List ℕ) (t : State) → all_follow builtin 0 loaded ≡ true
    → LinesServed members may (opened loaded) 0 (lines_within n input) output t → ExplainsRounds n loaded may input output t.history
served_rounds_explained members may loaded n input output t follow steps =
    let (runs, served) = lines_served members may loaded (lines_within n input) output t follow (filter_rise (λ (l : Numbered). nat_lt l.round n) (lines_of input) (lines_rise input)) steps in
    (runs, served.explained)

-- and on threads
pub some_rounds_explained : (loaded : List Batch) (may : ℕ → Bool) (rounds : List (List Numbered)) (n : ℕ) (input output : List ℕ) (t : State) → all_follow builtin 0 loaded ≡ true → flat_map (λ (ls : List Numbered). ls) rounds ≡ lines_within n input
    → RoundsServed may (opened loaded) [] 0 rounds output t → ExplainsRounds n loaded may input output t.history
some_rounds_explained loaded may rounds n input output t follow are steps =
    let (runs, st) = rounds_stand loaded may rounds [] [] (opened loaded) [] 0 output t (stands_at_first loaded may follow) (λ k r at. no_some at) steps in
    let all : StandsAt loaded may (lines_within n input) output t.history t.shown t.doubt runs = subst (λ (ls : List Numbered). StandsAt loaded may ls output t.history t.shown t.doubt runs) are st in
    (runs, all.explained)

-- ---- the lower bound of a read in a round

-- a number that is not below what was shown when the round began, nor below what earlier lines of its session told in the round, takes in what it has to
pub takes_in_round : (loaded : List Batch) (may : ℕ → Bool) (before : List Numbered) (printed : List ℕ) (h : History) (shown : ℕ) (doubt : Option Entry) (runs more : List Run) (round : ℕ)
    → StandsAt loaded may before printed h shown doubt runs → ((j : ℕ) (r : Run) → slice_get more j ≡ Some r → r.line.round ≡ round) → (j : ℕ) (r : Run) (m : ℕ) → slice_get more j ≡ Some r → shown ≤ m
    → ((i : ℕ) (q : Run) (d : ℕ) → i < j → slice_get more i ≡ Some q → SameSession q r → told_dateline q.line.bytes q.outcome ≡ Some d → d ≤ m)
    → TakesIn (length h.loaded) (runs ++ more) (length runs + j) r m
takes_in_round loaded may before printed h shown doubt runs more round st this j r m at above in_round = record {
  loaded = let least = st.least in omega (arith, least, above);
  rounds = λ k q d there later told. ⊎_elim
      (λ old. let it = st.told k q d old (stored_told q.line.bytes q.outcome d told) in omega (arith, it, above))
      (λ (i, place, fresh). let one = this i q fresh in let two = this j r at in absurd (omega (arith, one, two, later)))
      (get_cases runs more k q there);
  session = λ k q d earlier there same told. ⊎_elim
      (λ old. let it = st.told k q d old told in omega (arith, it, above))
      (λ (i, place, fresh). in_round i q d (omega (arith, place, earlier)) fresh same told)
      (get_cases runs more k q there);
}

-- ---- the core's writes

-- a write step of the core is a write behind the lock: it prints the reply of the outcome that is kept, and makes the same history, doubt and number shown
pub record IsKept (may : ℕ → Bool) (s : State) (k bytes : ℕ) (w : WriteRequest) (line : List ℕ) (t : State) : Type 0 where
  pub kept : Kept
  pub state : State
  pub step : WriteKeeps may s k bytes w kept state
  pub reply : line ≡ kept_reply k kept
  pub history : t.history ≡ state.history
  pub shown : t.shown ≡ state.shown
  pub doubt : t.doubt ≡ state.doubt

pub write_is_kept : (may : ℕ → Bool) (s : State) (k bytes i : ℕ) (w : WriteRequest) (line : List ℕ) (t : State) → WriteStep may s k bytes i w line t → IsKept may s k bytes w line t
write_is_kept may s k bytes i w _ _ (stores t e can) = record { kept = _; state = _; step = keeps.stores t e can; reply = refl; history = refl; shown = refl; doubt = refl }
write_is_kept may s k bytes i w _ _ (stores_late t e can) = record { kept = _; state = _; step = keeps.stores_late t e can; reply = refl; history = refl; shown = refl; doubt = refl }
write_is_kept may s k bytes i w _ _ (refuses t moment f ends does) = record { kept = _; state = _; step = keeps.refuses t moment f ends does; reply = refl; history = refl; shown = refl; doubt = refl }
write_is_kept may s k bytes i w _ _ (doubts t e can) = record { kept = _; state = _; step = keeps.doubts t e can; reply = refl; history = refl; shown = refl; doubt = refl }
write_is_kept may s k bytes i w _ _ (leaves_doubt e is) = record { kept = _; state = _; step = keeps.leaves_doubt e is; reply = refl; history = refl; shown = refl; doubt = refl }
write_is_kept may s k bytes i w _ _ lacks_memory = record { kept = _; state = _; step = keeps.lacks_memory; reply = refl; history = refl; shown = refl; doubt = refl }
write_is_kept may s k bytes i w _ _ (lacks_memory_settled t ends) = record { kept = _; state = _; step = keeps.lacks_memory_settled t ends; reply = refl; history = refl; shown = refl; doubt = refl }

-- ---- why the side has to keep that no number is above its history

-- one refusal over seven batches is in order by itself, whatever the history has, and agrees with any history
pub refusal_alone : (f : ChangeFault) → AreInOrder (told_of 0 (kept_refused f 7) ∷ [])
refusal_alone f = record {
  lines = λ i j a b at_a at_b less same. one i j a b at_a at_b less;
  rise = λ i j m n a b at_a at_b less num_a num_b. absurd (one i j a b at_a at_b less);
  above = λ i j e n a b at_a at_b less ent_a num_b. absurd (one i j a b at_a at_b less);
}
  where
    one : (i j : ℕ) (a b : Told) → slice_get (told_of 0 (kept_refused f 7) ∷ []) i ≡ Some a → slice_get (told_of 0 (kept_refused f 7) ∷ []) j ≡ Some b → i < j → ⊥
    one i j a b at_a at_b less = let within = get_within (told_of 0 (kept_refused f 7) ∷ []) j b at_b in omega (arith, within, less)

-- but with a write that is then stored as entry 0 it is not
pub out_of_order : (f : ChangeFault) (r : Json) → AreInOrder (told_of 0 (kept_refused f 7) ∷ told_of 1 (kept_stored 0 r) ∷ []) → ⊥
out_of_order f r order = let rise = order.rise 0 1 7 0 (told_of 0 (kept_refused f 7)) (told_of 1 (kept_stored 0 r)) refl refl (omega arith) refl refl in omega (arith, rise)

-- ---- why the outcomes of a session are only in order once the caller has written

-- two write lines of one session
abbrev two_lines : WriteRequest → List WriteLine
two_lines w = record { line = 0; session = 0; request = w; bytes = 1 } ∷ record { line = 1; session = 0; request = w; bytes = 1 } ∷ []

-- where no memory was found for the first, the outcomes are not those of its first write lines
pub passed_over : (w : WriteRequest) (kept : Kept) (h : History) (n : ℕ) → session_outcomes (record { history = h; shown = 0; doubt = None; faults = 0; lines = two_lines w }) 0 (told_of 1 kept ∷ [])
    ≡ take n (session_lines (record { history = h; shown = 0; doubt = None; faults = 0; lines = two_lines w }) 0) → ⊥
passed_over w kept h n is = by n is
  where
    by : (n : ℕ) → ◌≡◌ {A = List ℕ} (1 ∷ []) (take n (0 ∷ 1 ∷ [])) → ⊥
    by zero e = cc
    by (suc m) e = cc
