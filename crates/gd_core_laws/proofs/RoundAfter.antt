-- A round on threads: from what each part kept, the history explains the round, and what stood before it stands after it.
use Rattle.std.proofs.Common.{◌≡◌, refl, ℕ, zero, suc, ◌+◌, ◌≤◌, ◌<◌, ◌⊎◌, inl, inr, ⊎_elim, Bool, true, false, List, [], ◌∷◌, ◌++◌, length, take, drop, Option, Some, None, Result, Ok, Err, slice_get, nat_lt, sym, subst, ap, ◌∙◌, arith, append_assoc, append-nil, ltb-true, ltb-false}
use Rattle.std.specs.Prelude.{IsTrue}
use Rattle.gd_prim.specs.declared.Batch.{Batch}
use Rattle.gd_tree.specs.Json.{Json}
use Rattle.gd_defs.specs.Write.{WriteRequest}
use Rattle.gd_runs.specs.Request.{Line, read, write, ReadSet, reply_of}
use Rattle.gd_runs.specs.Input.{InputFault, line_from, input_fault_line}
use Rattle.gd_runs.specs.Legal.{Entry, History, size, batches, with_entry, with_entries, upto, exec_line, AreEntriesAfter, IsEntryAfter, IsLegal}
use Rattle.gd_runs.specs.Explained.{entry_at, IsOfLine, Numbered, Run, Outcome, Prints, HasNumber, TakesIn, MayBe, DoesLine, MayBeEntry, SameSession, IsExplainedBy, IsOfRound, IsRoundAfter, printed_dateline, session_of, stored_dateline, told_dateline}
use Rattle.gd_runs.specs.Explained.Rounds as explained
use Rattle.gd_runs.specs.Explained as outcome
use Rattle.gd_runs.specs.Side.{Kept, kept_stored, kept_late, kept_refused, kept_doubt, kept_unsettled, kept_memory, number_of, entry_of, is_stored_or_doubt, Agrees, DoubtStandsAt, Told, WriteLine, IsOfBegun, IsRefusalOf, MayFollow, KeepsHistory}
use Rattle.gd_runs.proofs.Rounds.{some_same, no_some, get_left, get_right, get_within, get_cases, slot, entry_below, entry_new, entry_cases, line_within, told_within, stored_told, reply_kept_at, one_round_more}
use Rattle.gd_runs.proofs.LineMore.{UptoRound}
use Rattle.gd_core_laws.specs.Served.{IsDoubted, IsDoubtOf}
use Rattle.gd_core_laws.specs.Round.{write_lines, StandsAt, kept_outcome, kept_reply, IsBelowLater, LineCame, faulty, wrote, lacks_memory, worked, read_again, begun_at, RoundFacts}
use Rattle.gd_core_laws.proofs.Lines.{session_read, session_write}
use Rattle.gd_core_laws.proofs.WriteLines.{line_there, got_line, run_there}

-- ---- numbers and lists

pub equal : (i j : ℕ) → (i < j → ⊥) → (j < i → ⊥) → i ≡ j
equal i j a b = by (nat_lt i j) (nat_lt j i) refl refl
  where
    by : (s t : Bool) → nat_lt i j ≡ s → nat_lt j i ≡ t → i ≡ j
    by true t e f = absurd (a (ltb-true i j e))
    by false true e f = absurd (b (ltb-true j i f))
    by false false e f = let g = ltb-false i j e in let h = ltb-false j i f in omega (arith, g, h)

-- one of the two comes first
first_of_two : (i j : ℕ) → (i ≡ j → ⊥) → (i < j) ⊎ (j < i)
first_of_two i j differ = by (nat_lt i j) (nat_lt j i) refl refl
  where
    by : (s t : Bool) → nat_lt i j ≡ s → nat_lt j i ≡ t → (i < j) ⊎ (j < i)
    by true t e f = inl (ltb-true i j e)
    by false true e f = inr (ltb-true j i f)
    by false false e f = let g = ltb-false i j e in let h = ltb-false j i f in absurd (differ (omega (arith, g, h)))

-- entries after a history and others are each after what stands before it
entries_behind : (l : List Batch) (bs es fs : List Entry) → AreEntriesAfter (record { loaded = l; entries = bs }) (es ++ fs) → AreEntriesAfter (record { loaded = l; entries = bs ++ es }) fs
entries_behind l bs [] fs a = subst (λ (es : List Entry). AreEntriesAfter (record { loaded = l; entries = es }) fs) (sym (append-nil bs)) a
entries_behind l bs (e ∷ es) fs (one, rest) =
    subst (λ (all : List Entry). AreEntriesAfter (record { loaded = l; entries = all }) fs) (append_assoc bs (e ∷ []) es) (entries_behind l (bs ++ e ∷ []) es fs rest)

take_drop : (n : ℕ) (xs : List Batch) → take n xs ++ drop n xs ≡ xs
take_drop zero xs = refl
take_drop (suc n) [] = refl
take_drop (suc n) (x ∷ xs) = ap (λ (l : List Batch). x ∷ l) (take_drop n xs)

-- the reply over a front of a list is that over the list
reply_of_front : (entered all : List Batch) (m k : ℕ) (q : ReadSet) → entered ≡ take (length entered) all → m ≤ length entered → reply_of entered m k q ≡ reply_of all m k q
reply_of_front entered all m k q front within =
    let whole : entered ++ drop (length entered) all ≡ all = ap (λ (l : List Batch). l ++ drop (length entered) all) front ∙ take_drop (length entered) all in
    sym (reply_kept_at entered (drop (length entered) all) m k q within) ∙ ap (λ (l : List Batch). reply_of l m k q) whole

-- one line has one session and one request
same_write : (s t : ℕ) (v w : WriteRequest) → ◌≡◌ {A = Result Line InputFault} (Ok (write s v)) (Ok (write t w)) → (s ≡ t) × (v ≡ w)
same_write s t v w is = (cc, cc)

-- ---- what is kept of a write

-- a write that told a dateline was stored
told_kept : (bytes : List ℕ) (d : ℕ) (k : Kept) → told_dateline bytes (kept_outcome k) ≡ Some d → (e : ℕ) × (r : Json) × (k ≡ kept_stored e r) × (d ≡ e + 1)
told_kept bytes d (kept_stored e r) is = (e, r, refl, sym (some_same is))
told_kept bytes d (kept_late e) is = no_some is
told_kept bytes d (kept_refused f n) is = no_some is
told_kept bytes d (kept_doubt n) is = no_some is
told_kept bytes d kept_unsettled is = no_some is
told_kept bytes d kept_memory is = no_some is

-- the number of a line is the one that is kept
has_number : (g : History) (doubt : Option Entry) (line n : ℕ) (k : Kept) → Agrees g doubt line k → HasNumber g line (kept_outcome k) n → number_of k ≡ Some n
has_number g doubt line n (kept_stored e r) agree is = ap (λ (m : ℕ). Some m) (sym is)
has_number g doubt line n (kept_late e) agree is = ap (λ (m : ℕ). Some m) (sym is)
has_number g doubt line n (kept_refused f m) agree is = ap (λ (m : ℕ). Some m) (sym is)
has_number g doubt line n (kept_doubt m) agree (x, of) = ap (λ (m : ℕ). Some m) (agree.0 n x of)
has_number g doubt line n kept_unsettled agree is = absurd is
has_number g doubt line n kept_memory agree is = absurd is

-- and it is within the history
number_within : (g : History) (doubt : Option Entry) (line n : ℕ) (a : WriteLine) (k : Kept) → Agrees g doubt line k → IsRefusalOf g a k → HasNumber g line (kept_outcome k) n → n ≤ size g
number_within g doubt line n a (kept_stored e r) (x, of, same) refusal is = let below = entry_below g e x of.0 in omega (arith, below, is)
number_within g doubt line n a (kept_late e) (x, of) refusal is = let below = entry_below g e x of.0 in omega (arith, below, is)
number_within g doubt line n a (kept_refused f m) agree refusal is = let below = refusal.0 in omega (arith, below, is)
number_within g doubt line n a (kept_doubt m) agree refusal (x, of) = let below = entry_below g n x of.0 in omega (arith, below)
number_within g doubt line n a kept_unsettled agree refusal is = absurd is
number_within g doubt line n a kept_memory agree refusal is = absurd is

-- ---- the round

module _ (loaded : List Batch) (may : ℕ → Bool) (before : List Numbered) (printed : List ℕ) (h : History) (shown : ℕ) (doubt : Option Entry) (runs : List Run) (st : StandsAt loaded may before printed h shown doubt runs)
    (round : ℕ) (upto_here : UptoRound runs round) (given : List Numbered) (all_here : (j : ℕ) (l : Numbered) → slice_get given j ≡ Some l → l.round ≡ round)
    (faults : ℕ) (output : List ℕ) (shows : ℕ) (doubts : Option Entry) (outcomes : List Told) (new : List Entry) (more : List Run)
    (keeps : KeepsHistory may (with_entries h new) doubts outcomes)
    (facts : RoundFacts h shown doubt faults runs given output (with_entries h new) shows doubts outcomes new more) where
  abbrev g : History
  g = with_entries h new

  abbrev lines : List WriteLine
  lines = write_lines (length runs) given

  old_below : (e : ℕ) (x : Entry) → entry_at h e ≡ Some x → x.line < length runs
  old_below e x at = let (r, there, does, is) = st.explained.entries e x at in get_within runs x.line r there

  old_doubt : (x : Entry) → doubt ≡ Some x → IsDoubtOf may h runs x
  old_doubt x is = subst (IsDoubted may h runs) is st.doubted

  doubt_below : (x : Entry) → doubt ≡ Some x → x.line < length runs
  doubt_below x is = let d = old_doubt x is in get_within runs x.line d.run d.old.there

  -- a line has one entry
  same_slot : (d e : ℕ) (x y : Entry) → entry_at g d ≡ Some x → entry_at g e ≡ Some y → x.line ≡ y.line → d ≡ e
  same_slot d e x y at_x at_y same =
      let (i, d_is, a) = slot h.loaded (h.entries ++ new) d x at_x in
      let (j, e_is, b) = slot h.loaded (h.entries ++ new) e y at_y in
      let is = equal i j (λ less. keeps.legal.lines i j x y a b less same) (λ more. keeps.legal.lines j i y x b a more (sym same)) in
      omega (arith, d_is, e_is, is)

  -- a line has one outcome
  same_index : (i j : ℕ) (t u : Told) → slice_get outcomes i ≡ Some t → slice_get outcomes j ≡ Some u → t.line ≡ u.line → i ≡ j
  same_index i j t u a b same = equal i j (λ less. keeps.order.lines i j t u a b less same) (λ more. keeps.order.lines j i u t b a more (sym same))

  same_told : (i j : ℕ) (t u : Told) → slice_get outcomes i ≡ Some t → slice_get outcomes j ≡ Some u → t.line ≡ u.line → t ≡ u
  same_told i j t u a b same = some_same (sym a ∙ ap (λ (n : ℕ). slice_get outcomes n) (same_index i j t u a b same) ∙ b)

  -- of two outcomes of a session, that of the earlier line stands first
  stands_first : (i j x y : ℕ) (t u : Told) (a b : WriteLine) → slice_get outcomes i ≡ Some t → slice_get outcomes j ≡ Some u → slice_get lines x ≡ Some a → slice_get lines y ≡ Some b
      → a.line ≡ t.line → b.line ≡ u.line → a.session ≡ b.session → t.line < u.line → i < j
  stands_first i j x y t u a b at_i at_j at_x at_y line_a line_b session less = ⊎_elim
      (λ first. first)
      (λ later. let other = facts.writes.sorted j i y x u t b a at_j at_i later at_y at_x line_b line_a (sym session) in absurd (omega (arith, other, less)))
      (first_of_two i j (λ is. let same = some_same (sym at_i ∙ ap (λ (n : ℕ). slice_get outcomes n) is ∙ at_j) in let lines_same = ap (λ (v : Told). v.line) same in omega (arith, lines_same, less)))

  -- the number that is kept of the line of an entry is its place
  number_is : (k : Kept) (line e : ℕ) (x : Entry) → Agrees g doubts line k → IsTrue (is_stored_or_doubt k) → entry_at g e ≡ Some x → x.line ≡ line → number_of k ≡ Some e
  number_is (kept_stored n r) line e x (y, of, same) stands at is = ap (λ (m : ℕ). Some m) (same_slot n e y x of.0 at (of.1 ∙ sym is))
  number_is (kept_late n) line e x (y, of) stands at is = ap (λ (m : ℕ). Some m) (same_slot n e y x of.0 at (of.1 ∙ sym is))
  number_is (kept_doubt n) line e x agree stands at is = ap (λ (m : ℕ). Some m) (agree.0 e x (at, is))
  number_is (kept_refused f n) line e x agree stands at is = cc
  number_is kept_unsettled line e x agree stands at is = cc
  number_is kept_memory line e x agree stands at is = cc

  may_be : (k : Kept) (e : ℕ) → IsTrue (is_stored_or_doubt k) → number_of k ≡ Some e → MayBeEntry (kept_outcome k) e
  may_be (kept_stored n r) e stands is = some_same is
  may_be (kept_late n) e stands is = some_same is
  may_be (kept_doubt n) e stands is = tt
  may_be (kept_refused f n) e stands is = cc
  may_be kept_unsettled e stands is = cc
  may_be kept_memory e stands is = cc

  -- ---- an entry of the round

  -- its line, with what it came to, and what is kept of it
  record IsOurs (x : Entry) : Type 0 where
    pub place : ℕ
    pub run : Run
    pub there : slice_get more place ≡ Some run
    pub number : x.line ≡ length runs + place
    pub at : ℕ
    pub line : WriteLine
    pub in_lines : slice_get lines at ≡ Some line
    pub line_is : line.line ≡ x.line
    pub asks : line_from run.line.bytes ≡ Ok (write line.session x.request)
    pub len : x.bytes ≡ length run.line.bytes
    pub index : ℕ
    pub told : Told
    pub out : slice_get outcomes index ≡ Some told
    pub told_is : told.line ≡ x.line
    pub stands : IsTrue (is_stored_or_doubt told.kept)

  ours : (x : Entry) → IsOfBegun (begun_at h shown doubt faults (length runs) given) outcomes x → IsOurs x
  ours x (i, a, at, line, request, len, (j, t, out, told, stands)) =
      let w = line_there (length runs) given i a at in
      let (r, there, same) = run_there more w.place w.line (subst (λ (ls : List Numbered). slice_get ls w.place ≡ Some w.line) (sym facts.lines) w.there) in
      let number = w.number in
      record {
        place = w.place;
        run = r;
        there = there;
        number = omega (arith, line, number);
        at = i;
        line = a;
        in_lines = at;
        line_is = line;
        asks = subst (λ (m : Numbered). line_from m.bytes ≡ Ok (write a.session x.request)) (sym same) (subst (λ (v : WriteRequest). line_from w.line.bytes ≡ Ok (write a.session v)) request w.asks);
        len = sym len ∙ w.len ∙ ap (λ (m : Numbered). length m.bytes) (sym same);
        index = j;
        told = t;
        out = out;
        told_is = told;
        stands = stands;
      }

  -- what its line came to is what is kept of it
  came_ours : (x : Entry) (o : IsOurs x) → o.run.outcome ≡ kept_outcome o.told.kept
  came_ours x o = by (facts.came o.place o.run o.there)
    where
      number : o.told.line ≡ length runs + o.place
      number = o.told_is ∙ o.number

      by : LineCame (length h.loaded) (runs ++ more) g shows lines outcomes (length runs + o.place) o.run → o.run.outcome ≡ kept_outcome o.told.kept
      by (faulty f is out reply) = let both = sym is ∙ o.asks in cc
      by (wrote s w i t is at line out reply) = out ∙ ap (λ (v : Told). kept_outcome v.kept) (same_told i o.index t o.told at o.out (line ∙ sym number))
      by (lacks_memory left out reply) = absurd (left o.line.session x.request o.asks o.index o.told o.out number)
      by (worked s q m entered is within below front out reply lower upper) = let both = sym is ∙ o.asks in cc
      by (read_again s q m is out reply below upper greatest) = let both = sym is ∙ o.asks in cc

  -- its place is the number that is kept
  number_ours : (x : Entry) (o : IsOurs x) (e : ℕ) → entry_at g e ≡ Some x → number_of o.told.kept ≡ Some e
  number_ours x o e at = number_is o.told.kept o.told.line e x (keeps.agree o.index o.told o.out) o.stands at (sym o.told_is)

  -- a new entry of a line of the round is ours
  new_ours : (i : ℕ) (x : Entry) → slice_get new i ≡ Some x → length runs ≤ x.line → IsOurs x
  new_ours i x at above = ⊎_elim (λ (zero_is, old). let below = doubt_below x old in absurd (omega (arith, above, below))) (λ of. ours x of) (facts.writes.entries i x at)

  -- an entry of a line of the round does what it asks
  entry_asks : (j : ℕ) (r : Run) (e : ℕ) (x : Entry) → slice_get more j ≡ Some r → IsOfLine g (length runs + j) e x → (s : ℕ) × (line_from r.line.bytes ≡ Ok (write s x.request))
  entry_asks j r e x at (there, line) = ⊎_elim
      (λ old. let below = old_below e x old in absurd (omega (arith, below, line)))
      (λ (i, is, new_at).
      let o = new_ours i x new_at (omega (arith, line)) in
      let number = o.number in
      let place : o.place ≡ j = omega (arith, line, number) in
      let same : o.run ≡ r = some_same (sym o.there ∙ ap (λ (n : ℕ). slice_get more n) place ∙ at) in
      (o.line.session, subst (λ (q : Run). line_from q.line.bytes ≡ Ok (write o.line.session x.request)) same o.asks))
      (entry_cases h new e x there)

  -- ---- each line prints what it should

  prints_by : (k : ℕ) (r : Run) (o : Outcome) (reply : List ℕ) → r.outcome ≡ o → r.reply ≡ reply → Prints g k r.line.bytes o reply → Prints g k r.line.bytes r.outcome r.reply
  prints_by k r o reply is prints p = subst (λ (x : Outcome). Prints g k r.line.bytes x r.reply) (sym is) (subst (λ (x : List ℕ). Prints g k r.line.bytes o x) (sym prints) p)

  wrote_prints : (j : ℕ) (r : Run) (s : ℕ) (w : WriteRequest) (a : WriteLine) (k : Kept) → slice_get more j ≡ Some r → line_from r.line.bytes ≡ Ok (write s w) → a.request ≡ w → a.bytes ≡ length r.line.bytes
      → Agrees g doubts (length runs + j) k → IsRefusalOf g a k → ((n : ℕ) → number_of k ≡ Some n → size h ≤ n) → Prints g (length runs + j) r.line.bytes (kept_outcome k) (kept_reply (length runs + j) k)
  wrote_prints j r s w a (kept_stored e res) at is request len (x, of, same) refusal least =
      let (t, asks) = entry_asks j r e x at of in
      (x, t, of, asks, ap (λ (v : Json). kept_reply (length runs + j) (kept_stored e v)) (sym same))
  wrote_prints j r s w a (kept_late e) at is request len (x, of) refusal least = (x, of, refl)
  wrote_prints j r s w a (kept_refused f n) at is request len agree (most, (moment, does)) least =
      let above = least n refl in (
        s,
        w,
        moment,
        f,
        is,
        record { loaded = omega (arith, above); size = most },
        subst (λ (v : WriteRequest). exec_line (upto n g) v moment (length r.line.bytes) ≡ Err f) request (subst (λ (b : ℕ). exec_line (upto n g) a.request moment b ≡ Err f) len does),
        refl,
      )
  wrote_prints j r s w a (kept_doubt n) at is request len agree refusal least = ((s, w, is), refl)
  wrote_prints j r s w a kept_unsettled at is request len agree refusal least = ((s, w, is), refl)
  wrote_prints j r s w a kept_memory at is request len agree refusal least = refl

  -- the write line of an outcome of line j
  record IsWritten (j : ℕ) (r : Run) (s : ℕ) (w : WriteRequest) (t : Told) : Type 0 where
    pub at : ℕ
    pub line : WriteLine
    pub in_lines : slice_get lines at ≡ Some line
    pub line_is : line.line ≡ t.line
    pub session : line.session ≡ s
    pub request : line.request ≡ w
    pub len : line.bytes ≡ length r.line.bytes
    pub refusal : IsRefusalOf g line t.kept

  written : (j : ℕ) (r : Run) (s : ℕ) (w : WriteRequest) (i : ℕ) (t : Told) → slice_get more j ≡ Some r → line_from r.line.bytes ≡ Ok (write s w) → slice_get outcomes i ≡ Some t → t.line ≡ length runs + j → IsWritten j r s w t
  written j r s w i t at is out line =
      let (x, a, at_x, a_line, refusal) = facts.writes.outcomes_of i t out in
      let o = line_there (length runs) given x a at_x in
      let number = o.number in
      let place : o.place ≡ j = omega (arith, number, a_line, line) in
      let in_given : slice_get given j ≡ Some r.line = subst (λ (ls : List Numbered). slice_get ls j ≡ Some r.line) facts.lines (got_line more j r at) in
      let same : o.line ≡ r.line = some_same (sym o.there ∙ ap (λ (n : ℕ). slice_get given n) place ∙ in_given) in
      let asks : line_from r.line.bytes ≡ Ok (write a.session a.request) = subst (λ (m : Numbered). line_from m.bytes ≡ Ok (write a.session a.request)) same o.asks in
      let parts = same_write a.session s a.request w (sym asks ∙ is) in
      record {
        at = x;
        line = a;
        in_lines = at_x;
        line_is = a_line;
        session = parts.0;
        request = parts.1;
        len = o.len ∙ ap (λ (m : Numbered). length m.bytes) same;
        refusal = refusal;
      }

  each_prints : (j : ℕ) (r : Run) → slice_get more j ≡ Some r → Prints g (length runs + j) r.line.bytes r.outcome r.reply
  each_prints j r at = by (facts.came j r at)
    where
      by : LineCame (length h.loaded) (runs ++ more) g shows lines outcomes (length runs + j) r → Prints g (length runs + j) r.line.bytes r.outcome r.reply
      by (faulty f is out reply) = prints_by (length runs + j) r outcome.no_request (input_fault_line (length runs + j) f) out reply
          (f, is, refl)
      by (wrote s w i t is at_i line out reply) =
          let d = written j r s w i t at is at_i line in
          prints_by (length runs + j) r (kept_outcome t.kept) (kept_reply (length runs + j) t.kept) out reply
          (wrote_prints j r s w d.line t.kept at is d.request d.len (subst (λ (n : ℕ). Agrees g doubts n t.kept) line (keeps.agree i t at_i)) d.refusal (λ n number. facts.writes.least i n t at_i number))
      by (lacks_memory left out reply) = prints_by (length runs + j) r outcome.no_memory (kept_reply (length runs + j) kept_memory) out reply refl
      by (worked s q m entered is within below front out reply lower upper) =
          let most = facts.most in
          prints_by (length runs + j) r (outcome.answered m) (reply_of (batches g) m (length runs + j) q) out (reply ∙ reply_of_front entered (batches g) m (length runs + j) q front within)
          (s, q, is, omega (arith, within, below, most), refl)
      by (read_again s q m is out reply below upper greatest) =
          let most = facts.most in
          prints_by (length runs + j) r (outcome.answered m) (reply_of (batches g) m (length runs + j) q) out reply
          (s, q, is, omega (arith, below, most), refl)

  -- ---- what lines told

  round_of : (j : ℕ) (r : Run) → slice_get more j ≡ Some r → r.line.round ≡ round
  round_of j r at = all_here j r.line (subst (λ (ls : List Numbered). slice_get ls j ≡ Some r.line) facts.lines (got_line more j r at))

  -- what a line of the round told is shown, and not above the number of a later write line of its session
  tells : (j : ℕ) (r : Run) (d : ℕ) → slice_get more j ≡ Some r → told_dateline r.line.bytes r.outcome ≡ Some d
      → (d ≤ shows) × ((s : ℕ) → session_of r.line.bytes ≡ Some s → IsBelowLater lines outcomes (length runs + j) s d)
  tells j r d at is = by (facts.came j r at)
    where
      told_by : (o : Outcome) → r.outcome ≡ o → told_dateline r.line.bytes o ≡ Some d
      told_by o out = subst (λ (x : Outcome). told_dateline r.line.bytes x ≡ Some d) out is

      by : LineCame (length h.loaded) (runs ++ more) g shows lines outcomes (length runs + j) r → (d ≤ shows) × ((s : ℕ) → session_of r.line.bytes ≡ Some s → IsBelowLater lines outcomes (length runs + j) s d)
      by (faulty f asks out reply) = no_some (told_by outcome.no_request out)
      by (wrote s w i t asks at_i line out reply) =
          let (e, res, stored, d_is) = told_kept r.line.bytes d t.kept (told_by (kept_outcome t.kept) out) in
          let shown_it = facts.writes.shows_stored i e res t at_i stored in
          let o = written j r s w i t at asks at_i line in (
            omega (arith, shown_it, d_is),
            λ u session i' x n t' a at_i' at_x a_line a_session later number.
                let s_is : u ≡ s = some_same (sym session ∙ session_write r.line.bytes s w asks) in
                let first = stands_first i i' o.at x t t' o.line a at_i at_i' o.in_lines at_x o.line_is a_line (o.session ∙ sym s_is ∙ sym a_session) (omega (arith, line, later)) in
                let above = keeps.order.above i i' e n t t' at_i at_i' first (ap entry_of stored) number in
                omega (arith, above, d_is),
          )
      by (lacks_memory left out reply) = no_some (told_by outcome.no_memory out)
      by (worked s q m entered asks within below front out reply lower upper) =
          let same = some_same (told_by (outcome.answered m) out) in
          let less = line_within m (line_from r.line.bytes) in (
            omega (arith, same, less, within, below),
            λ u session i x n t a at_i at_x a_line a_session later number.
                let s_is : u ≡ s = some_same (sym session ∙ session_read r.line.bytes s q asks) in
                let up = upper i x n t a at_i at_x a_line (a_session ∙ s_is) later number in
                omega (arith, same, less, up),
          )
      by (read_again s q m asks out reply below upper greatest) =
          let same = some_same (told_by (outcome.answered m) out) in
          let less = line_within m (line_from r.line.bytes) in (
            omega (arith, same, less, below),
            λ u session i x n t a at_i at_x a_line a_session later number.
                let s_is : u ≡ s = some_same (sym session ∙ session_read r.line.bytes s q asks) in
                let up = upper i x n t a at_i at_x a_line (a_session ∙ s_is) later number in
                omega (arith, same, less, up),
          )

  -- ---- the number of each line

  lower_written : (j : ℕ) (r : Run) (s : ℕ) (w : WriteRequest) (i : ℕ) (t : Told) (n : ℕ) → slice_get more j ≡ Some r → line_from r.line.bytes ≡ Ok (write s w) → slice_get outcomes i ≡ Some t → t.line ≡ length runs + j
      → number_of t.kept ≡ Some n → TakesIn (length h.loaded) (runs ++ more) (length runs + j) r n
  lower_written j r s w i t n at asks at_i line number =
      let least = facts.writes.least i n t at_i number in
      record {
        loaded = omega (arith, least);
        rounds = λ k q d there later told. ⊎_elim
            (λ old. let within = told_within h k q.line.bytes q.outcome q.reply d (st.explained.each k q old) (stored_told q.line.bytes q.outcome d told) in omega (arith, within, least))
            (λ (p, place, fresh). let one = round_of p q fresh in let two = round_of j r at in absurd (omega (arith, one, two, later)))
            (get_cases runs more k q there);
        session = λ k q d earlier there (u, one, two) told. ⊎_elim
            (λ old. let within = told_within h k q.line.bytes q.outcome q.reply d (st.explained.each k q old) told in omega (arith, within, least))
            (λ (p, place, fresh).
            let s_is : u ≡ s = some_same (sym two ∙ session_write r.line.bytes s w asks) in
            let o = written j r s w i t at asks at_i line in
            (tells p q d fresh told).1 u one i o.at n t o.line at_i o.in_lines o.line_is (o.session ∙ sym s_is) (omega (arith, place, earlier, line)) number)
            (get_cases runs more k q there);
      }

  -- what was shown before the round fits a line that is read again
  old_fits : (k s m : ℕ) → ((d : ℕ) → d ≤ shows → IsBelowLater lines outcomes k s d → d ≤ m) → (d : ℕ) → d ≤ shown → d ≤ m
  old_fits k s m greatest d below =
      let grows = facts.writes.shows in
      let most = st.most in
      greatest d (omega (arith, below, grows)) (λ i x n t a at_i at_x a_line a_session later number. let least = facts.writes.least i n t at_i number in omega (arith, least, most, below))

  lower_again : (j : ℕ) (r : Run) (s : ℕ) (q : ReadSet) (m : ℕ) → slice_get more j ≡ Some r → line_from r.line.bytes ≡ Ok (read s q) → ((d : ℕ) → d ≤ shows → IsBelowLater lines outcomes (length runs + j) s d → d ≤ m)
      → TakesIn (length h.loaded) (runs ++ more) (length runs + j) r m
  lower_again j r s q m at asks greatest = record {
    loaded = old_fits (length runs + j) s m greatest (length h.loaded) st.least;
    rounds = λ k p d there later told. ⊎_elim
        (λ old. old_fits (length runs + j) s m greatest d (st.told k p d old (stored_told p.line.bytes p.outcome d told)))
        (λ (i, place, fresh). let one = round_of i p fresh in let two = round_of j r at in absurd (omega (arith, one, two, later)))
        (get_cases runs more k p there);
    session = λ k p d earlier there (u, one, two) told. ⊎_elim
        (λ old. old_fits (length runs + j) s m greatest d (st.told k p d old told))
        (λ (i, place, fresh).
        let s_is : u ≡ s = some_same (sym two ∙ session_read r.line.bytes s q asks) in
        let (shown_it, below) = tells i p d fresh told in
        greatest d shown_it (λ i' x n t a at_i at_x a_line a_session later number. below u one i' x n t a at_i at_x a_line (a_session ∙ sym s_is) (omega (arith, place, earlier, later)) number))
        (get_cases runs more k p there);
  }

  in_bounds : (j : ℕ) (r : Run) (n : ℕ) → slice_get more j ≡ Some r → HasNumber g (length runs + j) r.outcome n → TakesIn (length h.loaded) (runs ++ more) (length runs + j) r n × (n ≤ size g)
  in_bounds j r n at has = by (facts.came j r at)
    where
      has_by : (o : Outcome) → r.outcome ≡ o → HasNumber g (length runs + j) o n
      has_by o out = subst (λ (x : Outcome). HasNumber g (length runs + j) x n) out has

      by : LineCame (length h.loaded) (runs ++ more) g shows lines outcomes (length runs + j) r → TakesIn (length h.loaded) (runs ++ more) (length runs + j) r n × (n ≤ size g)
      by (faulty f asks out reply) = absurd (has_by outcome.no_request out)
      by (wrote s w i t asks at_i line out reply) =
          let o = written j r s w i t at asks at_i line in
          let agree : Agrees g doubts (length runs + j) t.kept = subst (λ (k : ℕ). Agrees g doubts k t.kept) line (keeps.agree i t at_i) in
          let it = has_by (kept_outcome t.kept) out in
          (lower_written j r s w i t n at asks at_i line (has_number g doubts (length runs + j) n t.kept agree it), number_within g doubts (length runs + j) n o.line t.kept agree o.refusal it)
      by (lacks_memory left out reply) = absurd (has_by outcome.no_memory out)
      by (worked s q m entered asks within below front out reply lower upper) =
          let is : n ≡ m = has_by (outcome.answered m) out in
          let most = facts.most in
          (subst (TakesIn (length h.loaded) (runs ++ more) (length runs + j) r) (sym is) lower, omega (arith, is, within, below, most))
      by (read_again s q m asks out reply below upper greatest) =
          let is : n ≡ m = has_by (outcome.answered m) out in
          let most = facts.most in
          (subst (TakesIn (length h.loaded) (runs ++ more) (length runs + j) r) (sym is) (lower_again j r s q m at asks greatest), omega (arith, is, below, most))

  -- ---- the new entries

  of_round : (i : ℕ) (x : Entry) → slice_get new i ≡ Some x → IsOfRound (length runs) more (size h + i) x ⊎ ((i ≡ 0) × ((r : Run) × explained.IsOldDoubt h runs x r))
  of_round i x at = ⊎_elim
      (λ (zero_is, old). let d = old_doubt x old in inr (zero_is, (d.run, d.old)))
      (λ of.
      let o = ours x of in
      inl (
        o.place,
        o.run,
        o.number,
        o.there,
        (o.line.session, o.asks, o.len),
        subst (λ (out : Outcome). MayBeEntry out (size h + i)) (sym (came_ours x o)) (may_be o.told.kept (size h + i) o.stands (number_ours x o (size h + i) (entry_new h new i x at))),
      ))
      (facts.writes.entries i x at)

  run_at : (x : Entry) (o : IsOurs x) (q : Run) → slice_get (runs ++ more) x.line ≡ Some q → o.run ≡ q
  run_at x o q at = some_same (sym (subst (λ (n : ℕ). slice_get (runs ++ more) n ≡ Some o.run) (sym o.number) (get_right runs more o.place o.run o.there)) ∙ at)

  session_is : (x : Entry) (o : IsOurs x) (q : Run) (s : ℕ) → o.run ≡ q → session_of q.line.bytes ≡ Some s → o.line.session ≡ s
  session_is x o q s same is = some_same (sym (session_write o.run.line.bytes o.line.session x.request o.asks) ∙ ap (λ (r : Run). session_of r.line.bytes) same ∙ is)

  -- of two entries of a session whose numbers rise, the lines rise
  lines_rise : (x y : Entry) (ox : IsOurs x) (oy : IsOurs y) (m n : ℕ) → number_of ox.told.kept ≡ Some m → number_of oy.told.kept ≡ Some n → m < n → (x.line ≡ y.line → ⊥) → ox.line.session ≡ oy.line.session → x.line < y.line
  lines_rise x y ox oy m n num_x num_y less differ session = ⊎_elim
      (λ first.
      let rises = facts.writes.sorted ox.index oy.index ox.at oy.at ox.told oy.told ox.line oy.line ox.out oy.out first ox.in_lines oy.in_lines (ox.line_is ∙ sym ox.told_is) (oy.line_is ∙ sym oy.told_is) session in
      let one = ox.told_is in
      let two = oy.told_is in
      omega (arith, rises, one, two))
      (λ later. let falls = keeps.order.rise oy.index ox.index n m oy.told ox.told oy.out ox.out later num_y num_x in absurd (omega (arith, falls, less)))
      (first_of_two ox.index oy.index (λ is.
      let same = some_same (sym ox.out ∙ ap (λ (k : ℕ). slice_get outcomes k) is ∙ oy.out) in
      differ (sym ox.told_is ∙ ap (λ (t : Told). t.line) same ∙ oy.told_is)))

  in_order : (i j : ℕ) (x y : Entry) → slice_get new i ≡ Some x → slice_get new j ≡ Some y → i < j
      → (x.line ≡ y.line → ⊥) × ((q r : Run) → slice_get (runs ++ more) x.line ≡ Some q → slice_get (runs ++ more) y.line ≡ Some r → SameSession q r → x.line < y.line)
  in_order i j x y at_x at_y less = (
    differ,
    λ q r there_x there_y (s, one, two). ⊎_elim
        (λ (zero_is, old). absurd (omega (arith, zero_is, less)))
        (λ of_y.
        let oy = ours y of_y in
        let y_is = oy.number in
        ⊎_elim
        (λ (zero_is, old). let below = doubt_below x old in omega (arith, below, y_is))
        (λ of_x.
        let ox = ours x of_x in
        lines_rise x y ox oy (size h + i) (size h + j) (number_ours x ox (size h + i) (entry_new h new i x at_x)) (number_ours y oy (size h + j) (entry_new h new j y at_y)) (omega (arith, less)) differ
        (session_is x ox q s (run_at x ox q there_x) one ∙ sym (session_is y oy r s (run_at y oy r there_y) two)))
        (facts.writes.entries i x at_x))
        (facts.writes.entries j y at_y),
  )
    where
      differ : x.line ≡ y.line → ⊥
      differ same = let is = same_slot (size h + i) (size h + j) x y (entry_new h new i x at_x) (entry_new h new j y at_y) same in omega (arith, is, less)

  -- the round
  pub round_after : IsRoundAfter may h runs round given output new more
  round_after = record {
    earlier = upto_here;
    this = round_of;
    lines = facts.lines;
    replies = facts.replies;
    legal = entries_behind h.loaded [] h.entries new keeps.legal.entries;
    each = each_prints;
    entries = of_round;
    bounds = in_bounds;
    order = in_order;
    moments = λ i x at. keeps.moments (size h + i) x (entry_new h new i x at);
  }

  -- ---- what stands after it

  run_round : (k : ℕ) (q : Run) → slice_get (runs ++ more) k ≡ Some q → q.line.round ≤ round
  run_round k q at = ⊎_elim (λ old. upto_here k q old) (λ (j, place, fresh). let is = round_of j q fresh in omega (arith, is)) (get_cases runs more k q at)

  -- the group in doubt would be the next entry
  next_entry : (x : Entry) → doubts ≡ Some x → IsLegal (with_entry g x) × MayBe may x.moment
  next_entry x is = subst (MayFollow may g) is keeps.next

  -- no entry is of its line
  doubt_differs : (x : Entry) → doubts ≡ Some x → (e : ℕ) (y : Entry) → entry_at g e ≡ Some y → y.line ≡ x.line → ⊥
  doubt_differs x is e y at same =
      let (i, place, there) = slot h.loaded (h.entries ++ new) e y at in
      let within = get_within (h.entries ++ new) i y there in
      (next_entry x is).0.lines i (length (h.entries ++ new) + 0) y x (get_left (h.entries ++ new) (x ∷ []) i y there) (get_right (h.entries ++ new) (x ∷ []) 0 x refl) (omega (arith, within)) same

  -- what is kept of its line, if it is of the round
  kept_is : (x : Entry) → doubts ≡ Some x → (line : ℕ) (k : Kept) → Agrees g doubts line k → IsTrue (is_stored_or_doubt k) → line ≡ x.line → (kept_outcome k ≡ outcome.in_doubt) × (number_of k ≡ Some (size g))
  kept_is x is line (kept_stored n r) (y, of, same) stands line_is = absurd (doubt_differs x is n y of.0 (of.1 ∙ line_is))
  kept_is x is line (kept_late n) (y, of) stands line_is = absurd (doubt_differs x is n y of.0 (of.1 ∙ line_is))
  kept_is x is line (kept_doubt n) agree stands line_is =
      let at_end : DoubtStandsAt (Some x) line (size g) n = subst (λ (d : Option Entry). DoubtStandsAt d line (size g) n) is agree.1 in
      (refl, ap (λ (m : ℕ). Some m) (at_end (sym line_is)))
  kept_is x is line (kept_refused f n) agree stands line_is = cc
  kept_is x is line kept_unsettled agree stands line_is = cc
  kept_is x is line kept_memory agree stands line_is = cc

  after_doubt : (x : Entry) → doubts ≡ Some x → IsEntryAfter g x
  after_doubt x is = (entries_behind h.loaded [] (h.entries ++ new) (x ∷ []) (next_entry x is).0.entries).0

  old_stays : (x : Entry) → doubts ≡ Some x → doubt ≡ Some x → IsDoubtOf may g (runs ++ more) x
  old_stays x is old =
      let d = old_doubt x old in
      let none = facts.writes.waits x old is in
      record {
        run = d.run;
        old = record {
          there = get_left runs more x.line d.run d.old.there;
          does = d.old.does;
          doubt = d.old.doubt;
          last = λ e y q at there. ⊎_elim
              (λ older.
              let (p, p_at, does, may) = st.explained.entries e y older in
              let same : p ≡ q = some_same (sym (get_left runs more y.line p p_at) ∙ there) in
              d.old.last e y q older (p_at ∙ ap (λ (z : Run). Some z) same))
              (λ (i, place, fresh). no_some (subst (λ (es : List Entry). slice_get es i ≡ Some y) none fresh))
              (entry_cases h new e y at);
        };
        after = after_doubt x is;
        moment = (next_entry x is).1;
      }

  new_stays : (x : Entry) → doubts ≡ Some x → IsOfBegun (begun_at h shown doubt faults (length runs) given) outcomes x → IsDoubtOf may g (runs ++ more) x
  new_stays x is of =
      let o = ours x of in
      let number = o.number in
      let kept = kept_is x is o.told.line o.told.kept (keeps.agree o.index o.told o.out) o.stands o.told_is in
      let here = round_of o.place o.run o.there in
      record {
        run = o.run;
        old = record {
          there = subst (λ (n : ℕ). slice_get (runs ++ more) n ≡ Some o.run) (sym o.number) (get_right runs more o.place o.run o.there);
          does = (o.line.session, o.asks, o.len);
          doubt = came_ours x o ∙ kept.0;
          last = λ e y q at there. (
            let round_is = run_round y.line q there in omega (arith, round_is, here),
            λ (s, one, two). ⊎_elim
                (λ older. let below = old_below e y older in omega (arith, below, number))
                (λ (i, place, fresh). ⊎_elim
                (λ (zero_is, old). let below = doubt_below y old in omega (arith, below, number))
                (λ of_y.
                let oy = ours y of_y in
                let below = entry_below g e y at in
                lines_rise y x oy o e (size g) (number_ours y oy e at) kept.1 below (doubt_differs x is e y at)
                (session_is y oy q s (run_at y oy q there) two ∙ sym (session_is x o o.run s refl one)))
                (facts.writes.entries i y fresh))
                (entry_cases h new e y at),
            doubt_differs x is e y at,
          );
        };
        after = after_doubt x is;
        moment = (next_entry x is).1;
      }

  doubted_after : IsDoubted may g (runs ++ more) doubts
  doubted_after = by doubts refl
    where
      by : (d : Option Entry) → doubts ≡ d → IsDoubted may g (runs ++ more) d
      by None is = tt
      by (Some x) is = ⊎_elim (λ old. old_stays x is old) (λ of. new_stays x is of) (facts.writes.in_doubt x is)

  -- what stood before the round stands after it, with the round
  pub stands_after : StandsAt loaded may (before ++ given) (printed ++ output) g shows doubts (runs ++ more)
  stands_after =
      let grows = facts.writes.shows in
      record {
        explained = one_round_more loaded may before printed h runs st.explained round given output new more round_after;
        least = let least = st.least in omega (arith, least, grows);
        most = facts.most;
        told = λ k r d at is. ⊎_elim
            (λ old. let it = st.told k r d old is in omega (arith, it, grows))
            (λ (j, place, fresh). (tells j r d fresh is).0)
            (get_cases runs more k r at);
        doubted = doubted_after;
      }
