-- Where lines were left unrun: with memory lines for them the history explains an output that begins with what was printed.
use Rattle.std.proofs.Common.{◌≡◌, refl, ℕ, zero, suc, ◌+◌, ◌≤◌, inl, inr, Bool, true, List, [], ◌∷◌, ◌++◌, length, take, drop, flat_map, Some, slice_get, sym, subst, ap, ◌∙◌, arith, append-nil, append_assoc}
use Rattle.std.proofs.lemmas.List.{take-append-drop}
use Rattle.gd_prim.specs.declared.Batch.{Batch}
use Rattle.gd_prim.specs.Builtin.{builtin}
use Rattle.gd_prim.specs.WellFormed.{all_follow}
use Rattle.gd_runs.specs.Owed.{MembersOf}
use Rattle.gd_runs.specs.Explained.{Numbered, Run, memory_line, lines_of, Explains, ExplainsFront, lines_within}
use Rattle.gd_runs.specs.Explained as outcome
use Rattle.gd_runs.specs.Core.{State, opened}
use Rattle.gd_runs.specs.Side.{Told, WriteLine}
use Rattle.gd_runs.proofs.Rounds.{no_some, some_same, get_left}
use Rattle.gd_runs.proofs.LineMore.{run_of}
use Rattle.gd_core_laws.specs.Serve.{LinesServed}
use Rattle.gd_core_laws.specs.Served.{IsServed}
use Rattle.gd_core_laws.specs.Round.{write_lines, StandsAt, LineCame, lacks_memory}
use Rattle.gd_core_laws.specs.Writes.{CallerWrites}
use Rattle.gd_core_laws.specs.Threads.{RoundServed, RoundsServed}
use Rattle.gd_core_laws.proofs.Whole.{RoundsRise, upto_next, lines_rise, lines_served}
use Rattle.gd_core_laws.proofs.Threads.{are_new, round_stands, rounds_stand, stands_at_first}
use Rattle.gd_core_laws.proofs.LockRun.{history_begins, lock_begins}

-- what is served on one thread stands as between rounds
pub served_stands : (loaded : List Batch) (may : ℕ → Bool) (given : List Numbered) (output : List ℕ) (s : State) (runs : List Run) → IsServed loaded may given output s runs → StandsAt loaded may given output s.history s.shown s.doubt runs
served_stands loaded may given output s runs inv = record { explained = inv.explained; least = inv.least; most = inv.most; told = inv.told; doubted = inv.doubted }

-- the caller passes over all of its writes
pub callers_pass : (may : ℕ → Bool) (ls : List WriteLine) (s : State) (outcomes : List Told) → CallerWrites may s outcomes ls s outcomes
callers_pass may [] s outcomes = (refl, refl)
callers_pass may (a ∷ ls) s outcomes = inl (callers_pass may ls s outcomes)

module _ (loaded : List Batch) (may : ℕ → Bool) (before : List Numbered) (printed : List ℕ) (s : State) (runs : List Run) (st : StandsAt loaded may before printed s.history s.shown s.doubt runs) (l : Numbered) where
  abbrev this : Run
  this = run_of l outcome.no_memory (memory_line (length runs))

  -- a round of one line that is not run
  pub unrun : RoundServed may s runs l.round (l ∷ []) (memory_line (length runs) ++ 10 ∷ []) s (this ∷ [])
  unrun = record {
    here = λ j m at. here j m at;
    shown = s.shown;
    above = omega arith;
    below = st.most;
    shows = inr refl;
    faults = 0;
    joined = s;
    joined_faults = 0;
    joined_most = 0;
    at_join = [];
    new = [];
    history = history_begins loaded may before printed s.history s.shown s.doubt runs st;
    lock = lock_begins s.history s.shown s.doubt 0 0 (length runs) (l ∷ []) (are_new loaded may before printed s.history s.shown s.doubt runs 0 (l ∷ []) st);
    most = st.most;
    outcomes = [];
    caller = callers_pass may (write_lines (length runs) (l ∷ [])) s [];
    lines = refl;
    replies = sym (append-nil (memory_line (length runs) ++ 10 ∷ []));
    came = λ j r at. came j r at;
    reads = λ j m r at is. none_read j m r at is;
  }
    where
      here : (j : ℕ) (m : Numbered) → slice_get (l ∷ []) j ≡ Some m → m.round ≡ l.round
      here zero m at = ap (λ (n : Numbered). n.round) (sym (some_same at))
      here (suc j) m at = no_some at

      came : (j : ℕ) (r : Run) → slice_get (this ∷ []) j ≡ Some r → LineCame (length s.history.loaded) (runs ++ this ∷ []) s.history s.shown (write_lines (length runs) (l ∷ [])) [] (length runs + j) r
      came zero r at = lacks_memory (λ u w is i t none. no_some none) (ap (λ (q : Run). q.outcome) (sym (some_same at))) (ap (λ (q : Run). q.reply) (sym (some_same at)) ∙ ap memory_line (omega arith))
      came (suc j) r at = no_some at

      apart : (m : ℕ) → outcome.no_memory ≡ outcome.answered m → ⊥
      apart m is = cc

      none_read : (j m : ℕ) (r : Run) → slice_get (this ∷ []) j ≡ Some r → r.outcome ≡ outcome.answered m → s.shown ≤ m
      none_read zero m r at is = absurd (apart m (ap (λ (q : Run). q.outcome) (some_same at) ∙ is))
      none_read (suc j) m r at is = no_some at

-- lines that are not run
pub rest_stands : (loaded : List Batch) (may : ℕ → Bool) (rest before : List Numbered) (printed : List ℕ) (s : State) (runs : List Run) → StandsAt loaded may before printed s.history s.shown s.doubt runs → RoundsRise (before ++ rest)
    → (out : List ℕ) × (all : List Run) × StandsAt loaded may (before ++ rest) (printed ++ out) s.history s.shown s.doubt all
rest_stands loaded may [] before printed s runs st rise = (
  [],
  runs,
  subst (λ (ls : List Numbered). StandsAt loaded may ls (printed ++ []) s.history s.shown s.doubt runs) (sym (append-nil before))
      (subst (λ (o : List ℕ). StandsAt loaded may before o s.history s.shown s.doubt runs) (sym (append-nil printed)) st),
)
rest_stands loaded may (l ∷ rest) before printed s runs st rise =
    let this = run_of l outcome.no_memory (memory_line (length runs)) in
    let one = memory_line (length runs) ++ 10 ∷ [] in
    let upto = upto_next before rest l runs st.explained.lines rise in
    let first = round_stands loaded may before printed s runs l.round (l ∷ []) one s (this ∷ []) st upto (unrun loaded may before printed s runs st l) in
    let lines : (before ++ l ∷ []) ++ rest ≡ before ++ l ∷ rest = append_assoc before (l ∷ []) rest in
    let (out, all, end) = rest_stands loaded may rest (before ++ l ∷ []) (printed ++ one) s (runs ++ this ∷ []) first.stands (subst RoundsRise (sym lines) rise) in (
      one ++ out,
      all,
      subst (λ (ls : List Numbered). StandsAt loaded may ls (printed ++ (one ++ out)) s.history s.shown s.doubt all) lines
          (subst (λ (o : List ℕ). StandsAt loaded may ((before ++ l ∷ []) ++ rest) o s.history s.shown s.doubt all) (append_assoc printed one out) end),
    )

-- the history explains an output that begins with what was printed, and with what was due for lines that were run and was not printed
pub front_explained : (loaded : List Batch) (may : ℕ → Bool) (front rest : List Numbered) (input output due : List ℕ) (s : State) (runs : List Run) → StandsAt loaded may front (output ++ due) s.history s.shown s.doubt runs
    → front ++ rest ≡ lines_of input → ExplainsFront loaded may input output s.history
front_explained loaded may front rest input output due s runs st are =
    let (out, all, end) = rest_stands loaded may rest front (output ++ due) s runs st (subst RoundsRise (sym are) (lines_rise input)) in
    let whole : StandsAt loaded may (lines_of input) (output ++ (due ++ out)) s.history s.shown s.doubt all =
    subst (λ (ls : List Numbered). StandsAt loaded may ls (output ++ (due ++ out)) s.history s.shown s.doubt all) are
    (subst (λ (o : List ℕ). StandsAt loaded may (front ++ rest) o s.history s.shown s.doubt all) (append_assoc output due out) end) in
    (due ++ out, (all, whole.explained))

front_rise : (front rest : List Numbered) → RoundsRise (front ++ rest) → RoundsRise front
front_rise front rest rise i j a b le at_a at_b = rise i j a b le (get_left front rest i a at_a) (get_left front rest j b at_b)

-- on one thread, where the first n lines were run
pub served_front_explained : (members : MembersOf) (may : ℕ → Bool) (loaded : List Batch) (n : ℕ) (input output due : List ℕ) (t : State) → all_follow builtin 0 loaded ≡ true
    → LinesServed members may (opened loaded) 0 (take n (lines_of input)) (output ++ due) t → ExplainsFront loaded may input output t.history
served_front_explained members may loaded n input output due t follow steps =
    let whole : take n (lines_of input) ++ drop n (lines_of input) ≡ lines_of input = take-append-drop n (lines_of input) in
    let (runs, served) = lines_served members may loaded (take n (lines_of input)) (output ++ due) t follow (front_rise (take n (lines_of input)) (drop n (lines_of input)) (subst RoundsRise (sym whole) (lines_rise input))) steps in
    front_explained loaded may (take n (lines_of input)) (drop n (lines_of input)) input output due t runs (served_stands loaded may (take n (lines_of input)) (output ++ due) t runs served) whole

-- on threads, where the first rounds were run
pub rounds_front_explained : (loaded : List Batch) (may : ℕ → Bool) (rounds : List (List Numbered)) (rest : List Numbered) (input output due : List ℕ) (t : State) → all_follow builtin 0 loaded ≡ true
    → flat_map (λ (ls : List Numbered). ls) rounds ++ rest ≡ lines_of input → RoundsServed may (opened loaded) [] 0 rounds (output ++ due) t → ExplainsFront loaded may input output t.history
rounds_front_explained loaded may rounds rest input output due t follow are steps =
    let (runs, st) = rounds_stand loaded may rounds [] [] (opened loaded) [] 0 (output ++ due) t (stands_at_first loaded may follow) (λ k r at. no_some at) steps in
    front_explained loaded may (flat_map (λ (ls : List Numbered). ls) rounds) rest input output due t runs st are
