-- What each kind of line leaves of a served core, and the whole run.
use Rattle.std.proofs.Common.{◌≡◌, refl, ℕ, zero, suc, ◌+◌, ◌≤◌, ◌==◌, max, min, inl, ⊎_elim, Bool, true, false, List, [], ◌∷◌, ◌++◌, length, Option, Some, None, Ok, Err, if◌then◌else◌, slice_get, sym, subst, ap, ◌∙◌, arith, length-append, codes}
use Rattle.gd_prim.specs.declared.Batch.{Batch}
use Rattle.gd_defs.specs.Lines.{ok_line, err_line}
use Rattle.gd_defs.specs.Write.{WriteRequest, ChangeFault}
use Rattle.gd_runs.specs.Request.{read, write, ReadSet, change_refusal}
use Rattle.gd_runs.specs.Input.{InputFault, line_from, input_fault_line}
use Rattle.gd_runs.specs.Legal.{Entry, History, size, with_entries, exec_line, IsEntryAfter}
use Rattle.gd_runs.specs.Explained.{entry_at, IsOfLine, Numbered, Run, Outcome, Prints, HasNumber, MayBe, DoesLine, MayBeEntry, IsExplainedBy, memory_line, late_line, disk_line, session_of, told_dateline}
use Rattle.gd_runs.specs.Explained.Outcomes.{IsWrite}
use Rattle.gd_runs.specs.Explained as outcome
use Rattle.gd_runs.specs.Core.{State, Session, after_entry, learnt}
use Rattle.gd_runs.proofs.Rounds.{some_same, no_some, get_within, entry_new, prints_kept, line_within}
use Rattle.gd_runs.proofs.LineMore.{UptoRound, run_of, upto_all}
use Rattle.gd_core_laws.specs.Serve.{EntersOnly}
use Rattle.gd_core_laws.specs.Served.{IsServed, IsDoubted}
use Rattle.gd_core_laws.proofs.Reading.{same_number, IsAnswered}
use Rattle.gd_core_laws.proofs.OneLine.{nothing_more, line_served, doubt_kept, doubt_begun}

pub session_read : (bytes : List ℕ) (i : ℕ) (r : ReadSet) → line_from bytes ≡ Ok (read i r) → session_of bytes ≡ Some i
session_read bytes i r is = rw is refl

pub session_write : (bytes : List ℕ) (i : ℕ) (w : WriteRequest) → line_from bytes ≡ Ok (write i w) → session_of bytes ≡ Some i
session_write bytes i w is = rw is refl

pub one_longer : (h : History) (e : Entry) → size (with_entries h (e ∷ [])) ≡ size h + 1
one_longer h e = let long = length-append h.entries (e ∷ []) in omega (arith, long)

pub stays : (s : State) → EntersOnly s s
stays s = record { history = refl; shown = refl; doubt = refl; seen = λ j. inl refl }

-- ---- lines that store nothing

module _ (loaded : List Batch) (may : ℕ → Bool) (given : List Numbered) (output : List ℕ) (s : State) (runs : List Run) (inv : IsServed loaded may given output s runs) (l : Numbered) (upto_here : UptoRound runs l.round) where
  kept_seen : (t : State) → EntersOnly s t → (i : ℕ) → (s.sessions i).seen ≤ (t.sessions i).seen
  kept_seen t only i = let within = inv.within i in ⊎_elim (λ old. omega (arith, old)) (λ now. omega (arith, now, within)) (only.seen i)

  within_seen : (t : State) → EntersOnly s t → (i : ℕ) → (t.sessions i).seen ≤ t.shown
  within_seen t only i = let within = inv.within i in let same = only.shown in ⊎_elim (λ old. omega (arith, old, within, same)) (λ now. omega (arith, now, same)) (only.seen i)

  quiet : (o : Outcome) (reply : List ℕ) (t : State) → EntersOnly s t → Prints s.history (length runs) l.bytes o reply
      → ((n : ℕ) → HasNumber (with_entries s.history []) (length runs) o n → (s.shown ≤ n) × (n ≤ size s.history))
      → ((d : ℕ) → told_dateline l.bytes o ≡ Some d → d ≤ s.shown)
      → ((i d : ℕ) → session_of l.bytes ≡ Some i → told_dateline l.bytes o ≡ Some d → d ≤ (t.sessions i).seen)
      → IsServed loaded may (given ++ l ∷ []) (output ++ (reply ++ 10 ∷ [])) t (runs ++ run_of l o reply ∷ [])
  quiet o reply t only prints number told seen = line_served loaded may given output s runs inv l upto_here o reply [] t (record {
    legal = tt;
    prints = prints_kept s.history [] (length runs) l.bytes o reply prints;
    entries = λ i e there. no_some there;
    number = λ n has. let both = number n has in (both.0, (let size_is = ap size (nothing_more s.history) in let upper = both.1 in omega (arith, upper, size_is)));
    history = only.history ∙ sym (nothing_more s.history);
    shown = let same = only.shown in omega (arith, same);
    most = let same = only.shown in let most = inv.most in let size_is = ap size only.history in omega (arith, same, most, size_is);
    told = λ d is. let shown = told d is in let same = only.shown in omega (arith, shown, same);
    kept = kept_seen t only;
    within = within_seen t only;
    seen = seen;
    doubted = subst (λ (h : History). IsDoubted may h (runs ++ run_of l o reply ∷ []) t.doubt) (sym only.history)
        (subst (λ (d : Option Entry). IsDoubted may s.history (runs ++ run_of l o reply ∷ []) d) (sym only.doubt) (doubt_kept loaded may given output s runs inv (run_of l o reply) s.doubt inv.doubted));
  })

  -- no line
  pub fault_served : (f : InputFault) → line_from l.bytes ≡ Err f
      → IsServed loaded may (given ++ l ∷ []) (output ++ (input_fault_line (length runs) f ++ 10 ∷ [])) s (runs ++ run_of l outcome.no_request (input_fault_line (length runs) f) ∷ [])
  fault_served f is = quiet outcome.no_request (input_fault_line (length runs) f) s (stays s)
      (f, is, refl) (λ n has. absurd has) (λ d told. no_some told) (λ i d session told. no_some told)

  -- no memory
  pub memory_served : (t : State) → EntersOnly s t
      → IsServed loaded may (given ++ l ∷ []) (output ++ (memory_line (length runs) ++ 10 ∷ [])) t (runs ++ run_of l outcome.no_memory (memory_line (length runs)) ∷ [])
  memory_served t only = quiet outcome.no_memory (memory_line (length runs)) t only refl (λ n has. absurd has) (λ d told. no_some told) (λ i d session told. no_some told)

  -- a read
  pub answer_served : (i : ℕ) (r : ReadSet) (reply : List ℕ) (t : State) → line_from l.bytes ≡ Ok (read i r) → IsAnswered s (length runs) i r reply t
      → IsServed loaded may (given ++ l ∷ []) (output ++ (reply ++ 10 ∷ [])) t (runs ++ run_of l (outcome.answered s.shown) reply ∷ [])
  answer_served i r reply t is answered = quiet (outcome.answered s.shown) reply t answered.enters
      (i, r, is, inv.most, answered.reply)
      (λ n has. let most = inv.most in (omega (arith, has), omega (arith, has, most)))
      within_shown
      (λ j d session told.
      let same : j ≡ i = some_same (sym session ∙ session_read l.bytes i r is) in
      let below = within_shown d told in
      let seen_is = ap (λ (n : ℕ). (t.sessions n).seen) same ∙ answered.seen in
      omega (arith, below, seen_is))
    where
      within_shown : (d : ℕ) → told_dateline l.bytes (outcome.answered s.shown) ≡ Some d → d ≤ s.shown
      within_shown d told = let within = line_within s.shown (line_from l.bytes) in let same = some_same told in omega (arith, within, same)

  -- a write that was not tried
  pub not_tried_served : IsWrite l.bytes → IsServed loaded may (given ++ l ∷ []) (output ++ (disk_line (length runs) (codes "no") ++ 10 ∷ [])) s (runs ++ run_of l outcome.not_tried (disk_line (length runs) (codes "no")) ∷ [])
  not_tried_served does = quiet outcome.not_tried (disk_line (length runs) (codes "no")) s (stays s) (does, refl) (λ n has. absurd has) (λ d told. no_some told) (λ i d session told. no_some told)

  -- a write that is refused, with no write in doubt
  pub refused_served : (i : ℕ) (w : WriteRequest) (moment : ℕ) (f : ChangeFault) → line_from l.bytes ≡ Ok (write i w) → exec_line s.history w moment (length l.bytes) ≡ Err f
      → IsServed loaded may (given ++ l ∷ []) (output ++ (err_line (size s.history) (length runs) (change_refusal f) ++ 10 ∷ [])) s
      (runs ++ run_of l (outcome.refused (size s.history)) (err_line (size s.history) (length runs) (change_refusal f)) ∷ [])
  refused_served i w moment f is does = quiet (outcome.refused (size s.history)) (err_line (size s.history) (length runs) (change_refusal f)) s (stays s)
      (i, w, moment, f, is, record { loaded = omega arith; size = omega arith }, ap (λ (g : History). exec_line g w moment (length l.bytes)) (upto_all s.history) ∙ does, refl)
      (λ n has. let most = inv.most in (omega (arith, has, most), omega (arith, has))) (λ d told. no_some told) (λ j d session told. no_some told)

  -- ---- writes that make an entry

  -- an entry of this line that may follow
  pub record IsNext (i : ℕ) (w : WriteRequest) (e : Entry) : Type 0 where
    pub is : line_from l.bytes ≡ Ok (write i w)
    pub moment : MayBe may e.moment
    pub result : exec_line s.history w e.moment (length l.bytes) ≡ Ok (e.batch, e.result)
    pub line : e.line ≡ length runs
    pub len : e.bytes ≡ length l.bytes
    pub request : e.request ≡ w

  asks_it : (i : ℕ) (w : WriteRequest) (e : Entry) → IsNext i w e → line_from l.bytes ≡ Ok (write i e.request)
  asks_it i w e n = subst (λ (v : WriteRequest). line_from l.bytes ≡ Ok (write i v)) (sym n.request) n.is

  does_line : (i : ℕ) (w : WriteRequest) (e : Entry) → IsNext i w e → DoesLine l.bytes e
  does_line i w e n = (i, asks_it i w e n, n.len)

  after_it : (i : ℕ) (w : WriteRequest) (e : Entry) → IsNext i w e → IsEntryAfter s.history e
  after_it i w e n = subst (λ (v : WriteRequest). exec_line s.history v e.moment e.bytes ≡ Ok (e.batch, e.result)) (sym n.request)
      (subst (λ (k : ℕ). exec_line s.history w e.moment k ≡ Ok (e.batch, e.result)) (sym n.len) n.result)

  -- it is the last entry
  last_entry : (e : Entry) → e.line ≡ length runs → IsOfLine (with_entries s.history (e ∷ [])) (length runs) (size s.history) e
  last_entry e line = (subst (λ (n : ℕ). entry_at (with_entries s.history (e ∷ [])) n ≡ Some e) (omega arith) (entry_new s.history (e ∷ []) 0 e refl), line)

  only_entry : (i : ℕ) (w : WriteRequest) (e : Entry) (n : IsNext i w e) (o : Outcome) → MayBeEntry o (size s.history) → (j : ℕ) (x : Entry) → slice_get (e ∷ []) j ≡ Some x
      → (j ≡ 0) × (x.line ≡ length runs) × DoesLine l.bytes x × MayBeEntry o (size s.history) × MayBe may x.moment
  only_entry i w e n o may_be zero x at = subst (λ (y : Entry). (◌≡◌ {A = ℕ} 0 0) × (y.line ≡ length runs) × DoesLine l.bytes y × MayBeEntry o (size s.history) × MayBe may y.moment) (some_same at)
      (refl, n.line, does_line i w e n, may_be, n.moment)
  only_entry i w e n o may_be (suc j) x at = no_some at

  -- a write that is stored and not shown
  pub late_served : (i : ℕ) (w : WriteRequest) (e : Entry) → IsNext i w e → s.doubt ≡ None
      → IsServed loaded may (given ++ l ∷ []) (output ++ (late_line (length runs) (size s.history) ++ 10 ∷ [])) (after_entry s e)
      (runs ++ run_of l (outcome.late (size s.history)) (late_line (length runs) (size s.history)) ∷ [])
  late_served i w e n none =
      let longer = one_longer s.history e in
      let most = inv.most in
      line_served loaded may given output s runs inv l upto_here (outcome.late (size s.history)) (late_line (length runs) (size s.history)) (e ∷ []) (after_entry s e) (record {
        legal = (after_it i w e n, tt);
        prints = (e, last_entry e n.line, refl);
        entries = only_entry i w e n (outcome.late (size s.history)) refl;
        number = λ m has. (omega (arith, has, most), omega (arith, has, longer));
        history = refl;
        shown = omega arith;
        most = omega (arith, most, longer);
        told = λ d told. no_some told;
        kept = λ j. omega arith;
        within = inv.within;
        seen = λ j d session told. no_some told;
        doubted = subst (λ (d : Option Entry). IsDoubted may (with_entries s.history (e ∷ [])) (runs ++ run_of l (outcome.late (size s.history)) (late_line (length runs) (size s.history)) ∷ []) d) (sym none) tt;
      })

  -- the state after a write that is stored and shown
  abbrev showing : ℕ → Entry → State
  showing i e = learnt (record (after_entry s e) { shown = size s.history + 1 }) i (size s.history + 1)

  shown_seen : (i : ℕ) (e : Entry) (j : ℕ) → ((s.sessions j).seen ≤ ((showing i e).sessions j).seen) × (((showing i e).sessions j).seen ≤ size s.history + 1)
  shown_seen i e j = by (j == i)
    where
      of_this : Session
      of_this = record { seen = min (size s.history + 1) (max (size s.history + 1) (s.sessions i).seen); reading = (s.sessions i).reading }

      by : (b : Bool) → ((s.sessions j).seen ≤ (if b then of_this else s.sessions j).seen) × ((if b then of_this else s.sessions j).seen ≤ size s.history + 1)
      by true = let within = inv.within j in let most = inv.most in (omega (arith, within, most), omega arith)
      by false = let within = inv.within j in let most = inv.most in (omega arith, omega (arith, within, most))

  shown_here : (i : ℕ) (e : Entry) → ((showing i e).sessions i).seen ≡ size s.history + 1
  shown_here i e = ap (λ (b : Bool). (if b then of_this else s.sessions i).seen) (same_number i) ∙ omega arith
    where
      of_this : Session
      of_this = record { seen = min (size s.history + 1) (max (size s.history + 1) (s.sessions i).seen); reading = (s.sessions i).reading }

  pub stored_served : (i : ℕ) (w : WriteRequest) (e : Entry) → IsNext i w e → s.doubt ≡ None
      → IsServed loaded may (given ++ l ∷ []) (output ++ (ok_line (size s.history + 1) (length runs) e.result ++ 10 ∷ [])) (showing i e)
      (runs ++ run_of l (outcome.stored (size s.history)) (ok_line (size s.history + 1) (length runs) e.result) ∷ [])
  stored_served i w e n none =
      let longer = one_longer s.history e in
      let most = inv.most in
      line_served loaded may given output s runs inv l upto_here (outcome.stored (size s.history)) (ok_line (size s.history + 1) (length runs) e.result) (e ∷ []) (showing i e) (record {
        legal = (after_it i w e n, tt);
        prints = (e, i, last_entry e n.line, asks_it i w e n, refl);
        entries = only_entry i w e n (outcome.stored (size s.history)) refl;
        number = λ m has. (omega (arith, has, most), omega (arith, has, longer));
        history = refl;
        shown = omega (arith, most);
        most = omega (arith, longer);
        told = λ d told. let same = some_same told in omega (arith, same);
        kept = λ j. (shown_seen i e j).0;
        within = λ j. (shown_seen i e j).1;
        seen = λ j d session told.
            let same : j ≡ i = some_same (sym session ∙ session_write l.bytes i w n.is) in
            let told_is = some_same told in
            let seen_is = ap (λ (k : ℕ). ((showing i e).sessions k).seen) same ∙ shown_here i e in
            omega (arith, told_is, seen_is);
        doubted = subst (λ (d : Option Entry). IsDoubted may (with_entries s.history (e ∷ [])) (runs ++ run_of l (outcome.stored (size s.history)) (ok_line (size s.history + 1) (length runs) e.result) ∷ []) d) (sym none) tt;
      })

  not_of_line : (n : ℕ) → HasNumber (with_entries s.history []) (length runs) outcome.in_doubt n → ⊥
  not_of_line n (x, (at, line)) =
      let there : entry_at s.history n ≡ Some x = subst (λ (g : History). entry_at g n ≡ Some x) (nothing_more s.history) at in
      let of = inv.explained.entries n x there in
      let within = get_within runs x.line of.0 of.1 in
      omega (arith, within, line)

  -- a write in doubt
  pub doubtful_served : (i : ℕ) (w : WriteRequest) (e : Entry) → IsNext i w e
      → IsServed loaded may (given ++ l ∷ []) (output ++ (disk_line (length runs) (codes "maybe") ++ 10 ∷ [])) (record s { doubt = Some e })
      (runs ++ run_of l outcome.in_doubt (disk_line (length runs) (codes "maybe")) ∷ [])
  doubtful_served i w e n =
      let size_is = ap size (nothing_more s.history) in
      let most = inv.most in
      let does = does_line i w e n in
      let this : Run = run_of l outcome.in_doubt (disk_line (length runs) (codes "maybe")) in
      line_served loaded may given output s runs inv l upto_here outcome.in_doubt (disk_line (length runs) (codes "maybe")) [] (record s { doubt = Some e }) (record {
        legal = tt;
        prints = ((i, e.request, asks_it i w e n), refl);
        entries = λ j x there. no_some there;
        number = λ m has. absurd (not_of_line m has);
        history = sym (nothing_more s.history);
        shown = omega arith;
        most = most;
        told = λ d told. no_some told;
        kept = λ j. omega arith;
        within = inv.within;
        seen = λ j d session told. no_some told;
        doubted = doubt_begun loaded may given output s runs inv l upto_here this e refl refl n.line does (after_it i w e n) n.moment;
      })
