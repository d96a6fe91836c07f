-- A served core and one line more, of whatever it came to.
use Rattle.std.proofs.Common.{◌≡◌, refl, ℕ, zero, suc, ◌+◌, ◌≤◌, inl, inr, ⊎_elim, Bool, List, [], ◌∷◌, ◌++◌, length, Option, Some, None, slice_get, sym, subst, ap, ◌∙◌, arith}
use Rattle.std.proofs.lemmas.List.{append-nil}
use Rattle.gd_prim.specs.declared.Batch.{Batch}
use Rattle.gd_runs.specs.Legal.{Entry, History, size, with_entries, AreEntriesAfter, IsEntryAfter}
use Rattle.gd_runs.specs.Explained.{entry_at, Numbered, Run, Outcome, Prints, HasNumber, TakesIn, MayBe, DoesLine, MayBeEntry, IsExplainedBy, IsRoundAfter, IsOldDoubt, session_of, cursor_dateline, ask_dateline, line_dateline, told_dateline}
use Rattle.gd_runs.specs.Explained as outcome
use Rattle.gd_runs.specs.Core.{State}
use Rattle.gd_runs.proofs.Rounds.{some_same, no_some, get_left, get_right, get_within, get_cases, stored_told, one_round_more}
use Rattle.gd_runs.proofs.LineMore.{UptoRound, run_of}
use Rattle.gd_core_laws.specs.Served.{IsServed, IsDoubted, IsDoubtOf}

pub nothing_more : (h : History) → with_entries h [] ≡ h
nothing_more h = ap (λ (es : List Entry). record { loaded = h.loaded; entries = es }) (append-nil h.entries)

-- ---- the line and what it left

-- What a line came to, and what it left: the entries that it made are the last ones, its number lies between what was shown and what there is, and the state takes in what it told.
pub record Leaves (may : ℕ → Bool) (runs : List Run) (s : State) (l : Numbered) (o : Outcome) (reply : List ℕ) (new : List Entry) (t : State) : Type 0 where
  pub legal : AreEntriesAfter s.history new
  pub prints : Prints (with_entries s.history new) (length runs) l.bytes o reply
  pub entries : (i : ℕ) (e : Entry) → slice_get new i ≡ Some e → (i ≡ 0) × (e.line ≡ length runs) × DoesLine l.bytes e × MayBeEntry o (size s.history) × MayBe may e.moment
  pub number : (n : ℕ) → HasNumber (with_entries s.history new) (length runs) o n → (s.shown ≤ n) × (n ≤ size (with_entries s.history new))
  pub history : t.history ≡ with_entries s.history new
  pub shown : s.shown ≤ t.shown
  pub most : t.shown ≤ size t.history
  pub told : (d : ℕ) → told_dateline l.bytes o ≡ Some d → d ≤ t.shown
  pub kept : (i : ℕ) → (s.sessions i).seen ≤ (t.sessions i).seen
  pub within : (i : ℕ) → (t.sessions i).seen ≤ t.shown
  pub seen : (i d : ℕ) → session_of l.bytes ≡ Some i → told_dateline l.bytes o ≡ Some d → d ≤ (t.sessions i).seen
  pub doubted : IsDoubted may t.history (runs ++ run_of l o reply ∷ []) t.doubt

module _ (loaded : List Batch) (may : ℕ → Bool) (given : List Numbered) (output : List ℕ) (s : State) (runs : List Run) (inv : IsServed loaded may given output s runs)
    (l : Numbered) (upto_here : UptoRound runs l.round) (o : Outcome) (reply : List ℕ) (new : List Entry) (t : State) (left : Leaves may runs s l o reply new t) where
  abbrev this : Run
  this = run_of l o reply

  only_this : (j : ℕ) (q : Run) → slice_get (this ∷ []) j ≡ Some q → (j ≡ 0) × (q ≡ this)
  only_this zero q is = (refl, cc)
  only_this (suc j) q is = cc

  here : (j : ℕ) (q : Run) → slice_get (this ∷ []) j ≡ Some q → q.line.round ≡ l.round
  here j q is = ap (λ (r : Run). r.line.round) (only_this j q is).1

  takes_in : (r : Run) (n : ℕ) → r.line.round ≡ l.round → s.shown ≤ n → TakesIn (length s.history.loaded) (runs ++ this ∷ []) (length runs) r n
  takes_in r n at above = record {
    loaded = let least = inv.least in omega (arith, above, least);
    rounds = λ i q d there later told. ⊎_elim
        (λ old. let shown = inv.told i q d old (stored_told q.line.bytes q.outcome d told) in omega (arith, shown, above))
        (λ (j, place, fresh). let same = here j q fresh in absurd (omega (arith, same, at, later)))
        (get_cases runs (this ∷ []) i q there);
    session = λ i q d before there same told. ⊎_elim
        (λ old. let shown = inv.told i q d old told in omega (arith, shown, above))
        (λ (j, place, fresh). absurd (omega (arith, place, before)))
        (get_cases runs (this ∷ []) i q there);
  }

  one_line : IsRoundAfter may s.history runs l.round (l ∷ []) (reply ++ 10 ∷ []) new (this ∷ [])
  one_line = record {
    earlier = upto_here;
    this = here;
    lines = refl;
    replies = sym (append-nil (reply ++ 10 ∷ []));
    legal = left.legal;
    each = λ j q is. let (at, same) = only_this j q is in
        subst (λ (r : Run). Prints (with_entries s.history new) (length runs + j) r.line.bytes r.outcome r.reply) (sym same)
        (subst (λ (n : ℕ). Prints (with_entries s.history new) n l.bytes o reply) (omega (arith, at)) left.prints);
    entries = λ i e is. let (at, line, does, may_be, moment) = left.entries i e is in
        inl (0, this, omega (arith, line), refl, does, subst (MayBeEntry o) (omega (arith, at)) may_be);
    bounds = λ j q n is has. let (at, same) = only_this j q is in
        let (above, below) = left.number n (subst (λ (r : Run). HasNumber (with_entries s.history new) (length runs) r.outcome n) same (subst (λ (k : ℕ). HasNumber (with_entries s.history new) k q.outcome n) (omega (arith, at)) has)) in
        (subst (λ (k : ℕ). TakesIn (length s.history.loaded) (runs ++ this ∷ []) k q n) (omega (arith, at)) (takes_in q n (here j q is) above), below);
    order = λ i j x y a b before. let first : i ≡ 0 = (left.entries i x a).0 in let second : j ≡ 0 = (left.entries j y b).0 in absurd (omega (arith, first, second, before));
    moments = λ i e is. (left.entries i e is).4;
  }

  -- the core after the line
  pub line_served : IsServed loaded may (given ++ l ∷ []) (output ++ (reply ++ 10 ∷ [])) t (runs ++ this ∷ [])
  line_served = record {
    explained = subst (λ (h : History). IsExplainedBy loaded may (given ++ l ∷ []) (output ++ (reply ++ 10 ∷ [])) h (runs ++ this ∷ [])) (sym left.history)
        (one_round_more loaded may given output s.history runs inv.explained l.round (l ∷ []) (reply ++ 10 ∷ []) new (this ∷ []) one_line);
    least = let least = inv.least in let shown = left.shown in
        subst (λ (h : History). length h.loaded ≤ t.shown) (sym left.history) (omega (arith, least, shown));
    most = left.most;
    told = λ k r d at is. ⊎_elim
        (λ old. let before = inv.told k r d old is in let shown = left.shown in omega (arith, before, shown))
        (λ (j, place, fresh). let same = (only_this j r fresh).1 in left.told d (subst (λ (q : Run). told_dateline q.line.bytes q.outcome ≡ Some d) same is))
        (get_cases runs (this ∷ []) k r at);
    within = left.within;
    seen = λ i k r d at session is. ⊎_elim
        (λ old. let before = inv.seen i k r d old session is in let kept = left.kept i in omega (arith, before, kept))
        (λ (j, place, fresh). let same = (only_this j r fresh).1 in
        left.seen i d (subst (λ (q : Run). session_of q.line.bytes ≡ Some i) same session) (subst (λ (q : Run). told_dateline q.line.bytes q.outcome ≡ Some d) same is))
        (get_cases runs (this ∷ []) k r at);
    doubted = left.doubted;
  }

-- ---- a doubt

module _ (loaded : List Batch) (may : ℕ → Bool) (given : List Numbered) (output : List ℕ) (s : State) (runs : List Run) (inv : IsServed loaded may given output s runs) where
  -- the line of an entry that the history has, among the lines and one more
  old_line : (r : Run) (e : ℕ) (x : Entry) (q : Run) → entry_at s.history e ≡ Some x → slice_get (runs ++ r ∷ []) x.line ≡ Some q → slice_get runs x.line ≡ Some q
  old_line r e x q at there =
      let of = inv.explained.entries e x at in
      let same : of.0 ≡ q = some_same (sym (get_left runs (r ∷ []) x.line of.0 of.1) ∙ there) in
      of.1 ∙ ap (λ (z : Run). Some z) same

  -- what is in doubt stays so
  pub doubt_kept : (r : Run) (d : Option Entry) → IsDoubted may s.history runs d → IsDoubted may s.history (runs ++ r ∷ []) d
  doubt_kept r None is = tt
  doubt_kept r (Some e) is = record {
    run = is.run;
    old = record {
      there = get_left runs (r ∷ []) e.line is.run is.old.there;
      does = is.old.does;
      doubt = is.old.doubt;
      last = λ n x q at there. is.old.last n x q at (old_line r n x q at there);
    };
    after = is.after;
    moment = is.moment;
  }

  -- a line that left its write in doubt
  pub doubt_begun : (l : Numbered) (upto : UptoRound runs l.round) (r : Run) (e : Entry) → r.line ≡ l → r.outcome ≡ outcome.in_doubt → e.line ≡ length runs → DoesLine l.bytes e → IsEntryAfter s.history e → MayBe may e.moment
      → IsDoubted may s.history (runs ++ r ∷ []) (Some e)
  doubt_begun l upto r e line out place does after moment = record {
    run = r;
    old = record {
      there = subst (λ (k : ℕ). slice_get (runs ++ r ∷ []) k ≡ Some r) (omega (arith, place)) (get_right runs (r ∷ []) 0 r refl);
      does = subst (λ (m : Numbered). DoesLine m.bytes e) (sym line) does;
      doubt = out;
      last = λ n x q at there.
          let before = old_line r n x q at there in
          let round = upto x.line q before in
          let within = get_within runs x.line q before in
          let same_round = ap (λ (m : Numbered). m.round) line in
          (omega (arith, round, same_round), λ same. omega (arith, within, place), λ same. absurd (omega (arith, same, within, place)));
    };
    after = after;
    moment = moment;
  }

  -- the doubt ended, and its group is an entry
  settled_round : (round : ℕ) (upto : UptoRound runs round) (e : Entry) (is : IsDoubtOf may s.history runs e) → IsRoundAfter may s.history runs round [] [] (e ∷ []) []
  settled_round round upto e is = record {
    earlier = upto;
    this = λ j r at. no_some at;
    lines = refl;
    replies = refl;
    legal = (is.after, tt);
    each = λ j r at. no_some at;
    entries = λ i x at. let (zero_is, same) = only i x at in inr (zero_is, (is.run, subst (λ (y : Entry). IsOldDoubt s.history runs y is.run) (sym same) is.old));
    bounds = λ j r n at has. no_some at;
    order = λ i j x y a b before. let first = (only i x a).0 in let second = (only j y b).0 in absurd (omega (arith, first, second, before));
    moments = λ i x at. subst (λ (y : Entry). MayBe may y.moment) (sym (only i x at).1) is.moment;
  }
    where
      only : (i : ℕ) (x : Entry) → slice_get (e ∷ []) i ≡ Some x → (i ≡ 0) × (x ≡ e)
      only zero x at = (refl, sym (some_same at))
      only (suc i) x at = no_some at

  pub settled_explained : (round : ℕ) (upto : UptoRound runs round) (e : Entry) → IsDoubtOf may s.history runs e → IsExplainedBy loaded may given output (with_entries s.history (e ∷ [])) runs
  settled_explained round upto e is =
      subst (λ (rs : List Run). IsExplainedBy loaded may given output (with_entries s.history (e ∷ [])) rs) (append-nil runs)
      (subst (λ (ls : List Numbered). IsExplainedBy loaded may ls output (with_entries s.history (e ∷ [])) (runs ++ [])) (append-nil given)
      (subst (λ (out : List ℕ). IsExplainedBy loaded may (given ++ []) out (with_entries s.history (e ∷ [])) (runs ++ [])) (append-nil output)
      (one_round_more loaded may given output s.history runs inv.explained round [] [] (e ∷ []) [] (settled_round round upto e is))))
