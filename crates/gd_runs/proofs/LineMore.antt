-- An explained run and one line more: of whatever it came to on one thread, over the whole history.
use Rattle.std.proofs.Common.{◌≡◌, refl, ℕ, zero, suc, ◌+◌, ◌≤◌, Bool, List, [], ◌∷◌, ◌++◌, length, Ok, Err, Some, slice_get, subst, sym, ap, ◌∙◌, inl, ⊎_elim, arith, if◌then◌else◌, lt-ltb}
use Rattle.std.proofs.lemmas.List.{append-nil}
use Rattle.gd_prim.specs.declared.Batch.{Batch}
use Rattle.gd_tree.specs.Json.{Json}
use Rattle.gd_defs.specs.Lines.{ok_line, err_line}
use Rattle.gd_defs.specs.Write.{WriteRequest, ChangeFault}
use Rattle.gd_runs.specs.Request.{read, write, ReadSet, reply_of, change_refusal}
use Rattle.gd_runs.specs.Input.{InputFault, line_from, input_fault_line}
use Rattle.gd_runs.specs.Legal.{Entry, History, size, batches, with_entries, upto, take_below, exec_line, AreEntriesAfter}
use Rattle.gd_runs.specs.Explained.{entry_at, Numbered, Run, Outcome, no_request, no_memory, stored, refused, answered, IsWithin, Prints, HasNumber, TakesIn, MayBe, DoesLine, MayBeEntry, memory_line, IsExplainedBy, IsRoundAfter}
use Rattle.gd_runs.proofs.Rounds.{some_same, no_some, entry_new, prints_kept, told_within, stored_told, get_cases, size_more, one_round_more}

-- no line is of a later round than this
abbrev pub UptoRound : List Run → ℕ → Type 0
UptoRound runs round = (k : ℕ) (r : Run) → slice_get runs k ≡ Some r → r.line.round ≤ round

-- a line with what it came to
abbrev pub run_of : Numbered → Outcome → List ℕ → Run
run_of l o reply = record { line = l; outcome = o; reply = reply }

-- the whole history is the history up to its size
pub upto_all : (h : History) → upto (size h) h ≡ h
upto_all h = ap (λ (es : List Entry). record { loaded = h.loaded; entries = es }) (take_all (length h.loaded) (size h) h.entries refl)
  where
    take_all : (place n : ℕ) (es : List Entry) → place + length es ≡ n → take_below place n es ≡ es
    take_all place n [] is = refl
    take_all place n (e ∷ es) is = ap (λ (b : Bool). if b then e ∷ take_below (place + 1) n es else []) (lt-ltb place n (omega (arith, is)))
        ∙ ap (λ (l : List Entry). e ∷ l) (take_all (place + 1) n es (omega (arith, is)))

module _ (loaded : List Batch) (may : ℕ → Bool) (given : List Numbered) (output : List ℕ) (h : History) (runs : List Run) (ex : IsExplainedBy loaded may given output h runs)
    (l : Numbered) (upto_here : UptoRound runs l.round) where
  -- what a line of the number of entries so far has to take in
  takes_in : (more : List Run) (r : Run) (n : ℕ) → r.line.round ≡ l.round → n ≡ size h → ((j : ℕ) (q : Run) → slice_get more j ≡ Some q → q.line.round ≡ l.round) → TakesIn (length h.loaded) (runs ++ more) (length runs) r n
  takes_in more r n here is this = record {
    loaded = omega (arith, is);
    rounds = λ i q d there later told. ⊎_elim
        (λ old. let within = told_within h i q.line.bytes q.outcome q.reply d (ex.each i q old) (stored_told q.line.bytes q.outcome d told) in omega (arith, is, within))
        (λ (j, place, fresh). let same = this j q fresh in absurd (omega (arith, same, here, later)))
        (get_cases runs more i q there);
    session = λ i q d before there same told. ⊎_elim
        (λ old. let within = told_within h i q.line.bytes q.outcome q.reply d (ex.each i q old) told in omega (arith, is, within))
        (λ (j, place, fresh). absurd (omega (arith, place, before)))
        (get_cases runs more i q there);
  }

  -- the one line, and the entries that it made
  module _ (o : Outcome) (reply : List ℕ) (new : List Entry) (legal : AreEntriesAfter h new)
      (prints : Prints (with_entries h new) (length runs) l.bytes o reply)
      (entries : (i : ℕ) (e : Entry) → slice_get new i ≡ Some e → (i ≡ 0) × (e.line ≡ length runs) × DoesLine l.bytes e × MayBeEntry o (size h) × MayBe may e.moment)
      (number : (n : ℕ) → HasNumber (with_entries h new) (length runs) o n → n ≡ size h) where
    only_this : (j : ℕ) (q : Run) → slice_get (run_of l o reply ∷ []) j ≡ Some q → (j ≡ 0) × (q ≡ run_of l o reply)
    only_this zero q is = (refl, cc)
    only_this (suc j) q is = cc

    here : (j : ℕ) (q : Run) → slice_get (run_of l o reply ∷ []) j ≡ Some q → q.line.round ≡ l.round
    here j q is = ap (λ (r : Run). r.line.round) (only_this j q is).1

    one_line : IsRoundAfter may h runs l.round (l ∷ []) (reply ++ 10 ∷ []) new (run_of l o reply ∷ [])
    one_line = record {
      earlier = upto_here;
      this = here;
      lines = refl;
      replies = sym (append-nil (reply ++ 10 ∷ []));
      legal = legal;
      each = λ j q is. let (at, same) = only_this j q is in
          subst (λ (r : Run). Prints (with_entries h new) (length runs + j) r.line.bytes r.outcome r.reply) (sym same)
          (subst (λ (n : ℕ). Prints (with_entries h new) n l.bytes o reply) (omega (arith, at)) prints);
      entries = λ i e is. let (at, line, does, may_be, moment) = entries i e is in
          inl (0, run_of l o reply, omega (arith, line), refl, does, subst (MayBeEntry o) (omega (arith, at)) may_be);
      bounds = λ j q n is has. let (at, same) = only_this j q is in
          let number_is : n ≡ size h = number n (subst (λ (r : Run). HasNumber (with_entries h new) (length runs) r.outcome n) same (subst (λ (k : ℕ). HasNumber (with_entries h new) k q.outcome n) (omega (arith, at)) has)) in (
            subst (λ (k : ℕ). TakesIn (length h.loaded) (runs ++ run_of l o reply ∷ []) k q n) (omega (arith, at)) (takes_in (run_of l o reply ∷ []) q n (here j q is) number_is here),
            (let longer = size_more h new in omega (arith, number_is, longer)),
          );
      order = λ i j x y a b before. let first : i ≡ 0 = (entries i x a).0 in let second : j ≡ 0 = (entries j y b).0 in absurd (omega (arith, first, second, before));
      moments = λ i e is. (entries i e is).4;
    }

    -- the run with the line
    pub line_more : IsExplainedBy loaded may (given ++ l ∷ []) (output ++ (reply ++ 10 ∷ [])) (with_entries h new) (runs ++ run_of l o reply ∷ [])
    line_more = one_round_more loaded may given output h runs ex l.round (l ∷ []) (reply ++ 10 ∷ []) new (run_of l o reply ∷ []) one_line

  -- ---- what a line comes to

  -- over the whole history
  pub whole : IsWithin h (size h)
  whole = record { loaded = omega arith; size = omega arith }

  -- refused by its form
  pub fault_more : (f : InputFault) → line_from l.bytes ≡ Err f
      → IsExplainedBy loaded may (given ++ l ∷ []) (output ++ (input_fault_line (length runs) f ++ 10 ∷ [])) (with_entries h []) (runs ++ run_of l no_request (input_fault_line (length runs) f) ∷ [])
  fault_more f is = line_more no_request (input_fault_line (length runs) f) [] tt
      (f, is, refl) (λ i e there. no_some there) (λ n has. absurd has)

  -- without memory
  pub memory_more : IsExplainedBy loaded may (given ++ l ∷ []) (output ++ (memory_line (length runs) ++ 10 ∷ [])) (with_entries h []) (runs ++ run_of l no_memory (memory_line (length runs)) ∷ [])
  memory_more = line_more no_memory (memory_line (length runs)) [] tt refl (λ i e there. no_some there) (λ n has. absurd has)

  -- a read
  pub read_more : (s : ℕ) (r : ReadSet) → line_from l.bytes ≡ Ok (read s r)
      → IsExplainedBy loaded may (given ++ l ∷ []) (output ++ (reply_of (batches h) (size h) (length runs) r ++ 10 ∷ [])) (with_entries h [])
      (runs ++ run_of l (answered (size h)) (reply_of (batches h) (size h) (length runs) r) ∷ [])
  read_more s r is = line_more (answered (size h)) (reply_of (batches h) (size h) (length runs) r) [] tt
      (prints_kept h [] (length runs) l.bytes (answered (size h)) (reply_of (batches h) (size h) (length runs) r) (s, r, is, omega arith, refl))
      (λ i e there. no_some there) (λ n has. has)

  -- a write that is refused
  pub refused_more : (s : ℕ) (w : WriteRequest) (moment : ℕ) (f : ChangeFault) → line_from l.bytes ≡ Ok (write s w)
      → exec_line h w moment (length l.bytes) ≡ Err f
      → IsExplainedBy loaded may (given ++ l ∷ []) (output ++ (err_line (size h) (length runs) (change_refusal f) ++ 10 ∷ [])) (with_entries h [])
      (runs ++ run_of l (refused (size h)) (err_line (size h) (length runs) (change_refusal f)) ∷ [])
  refused_more s w moment f is does = line_more (refused (size h)) (err_line (size h) (length runs) (change_refusal f)) [] tt
      (prints_kept h [] (length runs) l.bytes (refused (size h)) (err_line (size h) (length runs) (change_refusal f))
      (s, w, moment, f, is, whole, ap (λ (g : History). exec_line g w moment (length l.bytes)) (upto_all h) ∙ does, refl))
      (λ i e there. no_some there) (λ n has. has)

  -- the entry of a write
  abbrev pub entry_of : WriteRequest → ℕ → Batch × Json → Entry
  entry_of w moment done = record { line = length runs; bytes = length l.bytes; request = w; moment = moment; batch = done.0; result = done.1 }

  -- a write that is stored
  pub stored_more : (s : ℕ) (w : WriteRequest) (moment : ℕ) (done : Batch × Json) → line_from l.bytes ≡ Ok (write s w)
      → exec_line h w moment (length l.bytes) ≡ Ok done → MayBe may moment
      → IsExplainedBy loaded may (given ++ l ∷ []) (output ++ (ok_line (size h + 1) (length runs) done.1 ++ 10 ∷ [])) (with_entries h (entry_of w moment done ∷ []))
      (runs ++ run_of l (stored (size h)) (ok_line (size h + 1) (length runs) done.1) ∷ [])
  stored_more s w moment done is does may_be =
      let e : Entry = entry_of w moment done in
      let there : entry_at (with_entries h (e ∷ [])) (size h) ≡ Some e = subst (λ (n : ℕ). entry_at (with_entries h (e ∷ [])) n ≡ Some e) (omega arith) (entry_new h (e ∷ []) 0 e refl) in
      line_more (stored (size h)) (ok_line (size h + 1) (length runs) done.1) (e ∷ []) (does, tt)
      (e, s, (there, refl), is, refl)
      (λ i x at. one i x at) (λ n has. has)
    where
      one : (i : ℕ) (x : Entry) → slice_get (entry_of w moment done ∷ []) i ≡ Some x → (i ≡ 0) × (x.line ≡ length runs) × DoesLine l.bytes x × MayBeEntry (stored (size h)) (size h) × MayBe may x.moment
      one zero x at = subst (λ (y : Entry). (◌≡◌ {A = ℕ} 0 0) × (y.line ≡ length runs) × DoesLine l.bytes y × MayBeEntry (stored (size h)) (size h) × MayBe may y.moment) (some_same at)
          (refl, refl, (s, is, refl), refl, may_be)
      one (suc i) x at = no_some at
