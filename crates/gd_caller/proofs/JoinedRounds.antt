-- The lines of a round that were read, and that workers and their caller answered together.
use Rattle.std.proofs.Common.{◌≡◌, refl, ℕ, suc, ◌+◌, ◌≤◌, ◌⊎◌, inl, inr, ⊎_elim, Bool, false, List, [], ◌∷◌, length, map, Some, Ok, slice_get, sym, subst, ap, ◌∙◌, arith}
use Rattle.std.proofs.lemmas.List.{length-map}
use Rattle.std.specs.List.{AllByRecursion}
use Rattle.gd_prim.specs.declared.Batch.{Batch}
use Rattle.gd_runs.specs.Request.{read, reply_of}
use Rattle.gd_runs.specs.Input.{line_from}
use Rattle.gd_runs.specs.Legal.{Entry, batches, size}
use Rattle.gd_runs.specs.Explained.{Numbered, Run, Outcome, answered, session_of, told_dateline, memory_line, fault_count, tells_fault}
use Rattle.gd_runs.specs.Core.{State, Session}
use Rattle.gd_runs.specs.Side.{Told, WriteLine, Begun, AreInOrder, KeepsHistory, KeepsRound}
use Rattle.gd_runs.proofs.Rounds.{no_some, some_same, get_within}
use Rattle.gd_mql.specs.Requests.{read_set_view}
use Rattle.gd_core_laws.specs.Bounds.{kept_of, least_later}
use Rattle.gd_core_laws.specs.Round.{write_lines, begun_at, StandsAt}
use Rattle.gd_core_laws.specs.Writes.{CallerWrites}
use Rattle.gd_core_laws.specs.Threads.{RoundServed}
use Rattle.gd_core_laws.proofs.Lines.{session_read}
use Rattle.gd_core_laws.proofs.LockRun.{history_begins, lock_begins}
use Rattle.gd_core_laws.proofs.Threads.{are_new}
use Rattle.gd_core_laws.proofs.Quiet.{read_quiet}
use Rattle.gd_core_laws.proofs.Prefix.{callers_pass}
use Rattle.gd_writer.specs.Side.{SideValue, state_of}
use Rattle.gd_round_lines.specs.declared.work.ReadLine.{ReadLine}
use Rattle.gd_round_lines.specs.declared.work.WriteLine.{WriteLine as Written}
use Rattle.gd_round_lines.specs.declared.work.Works.{Works}
use Rattle.gd_caller.specs.Told.{reply_or}
use Rattle.gd_caller.specs.Served.{printed, AreOf}
use Rattle.gd_round_lines.specs.Fresh.{IsFreshFrom}
use Rattle.gd_reply.specs.Replies.{reply_text}
use Rattle.gd_round_lines.specs.Replies.{no_memory}
use Rattle.gd_round_lines.specs.Works.{write_of, IsReadAmong, AreWithin, AreRead}
use Rattle.gd_caller.specs.Writes.{RoseBy, faults_kept}
use Rattle.gd_caller.specs.Joined.{IsOfWrites, SessionAt, JoinedReply, by_kept, by_caller, by_worker, AnswersJoined}
use Rattle.gd_round_lines.proofs.Some.{some_all}
use Rattle.gd_caller.proofs.Callers.{callers_among}
use Rattle.gd_caller.proofs.Faults.{faults_told_most, quiet_or, first_quiet, fault_at_line}
use Rattle.gd_caller.proofs.JoinedLines.{CameAs, JoinedLine, answered_same, first_line, read_line, read_told, joined_round_served, joined_fresh}
use Rattle.gd_caller.proofs.Left.{written_at}
use Rattle.gd_round_lines.proofs.Read.{all_at}
use Rattle.gd_round_lines.proofs.Lines.{written_back, lines_within}
use Rattle.gd_caller.proofs.Lines.{passed_many, passed_at}
use Rattle.gd_round_lines.proofs.Sets.{there}

-- ---- what is kept is of the writes that were read

-- LAW: what is kept once the caller has written is of the writes, if what the lock kept is
pub outcomes_of_writes : (may : ℕ → Bool) (ws : List Written) (s t : State) (at_join outcomes : List Told) → CallerWrites may s at_join (map write_of ws) t outcomes
    → ((j : ℕ) (u : Told) → slice_get at_join j ≡ Some u → (x : ℕ) × (a : WriteLine) × (slice_get (map write_of ws) x ≡ Some a) × (a.line ≡ u.line)) → AllByRecursion (IsOfWrites ws) outcomes
outcomes_of_writes may ws s t at_join outcomes run of = each outcomes (λ i u at. among u (⊎_elim (λ before. of i u before) (λ by_caller. by_caller) (callers_among may (map write_of ws) s t at_join outcomes i u run at)))
  where
    among : (u : Told) → (x : ℕ) × (a : WriteLine) × (slice_get (map write_of ws) x ≡ Some a) × (a.line ≡ u.line) → IsOfWrites ws u
    among u (x, a, at_a, line) = let (w, at_w, is) = written_back ws x a at_a in (x, w, at_w, ap (λ (b : WriteLine). b.line) is ∙ line)

    each : (us : List Told) → ((i : ℕ) (u : Told) → slice_get us i ≡ Some u → IsOfWrites ws u) → AllByRecursion (IsOfWrites ws) us
    each [] all = tt
    each (u ∷ us) all = (all 0 u refl, each us (λ i v at. all (suc i) v at))

-- each is of a write line
told_of_writes : (ws : List Written) (outcomes : List Told) → AllByRecursion (IsOfWrites ws) outcomes
    → (i : ℕ) (u : Told) → slice_get outcomes i ≡ Some u → (x : ℕ) × (a : WriteLine) × (slice_get (map write_of ws) x ≡ Some a) × (a.line ≡ u.line)
told_of_writes ws outcomes all i u at =
    let (x, w, at_w, of) = all_at (IsOfWrites ws) outcomes i u all at in
    (x, write_of w, written_at ws x w at_w, of)

-- LAW: no entry and no group in doubt is of a line behind the round
pub round_fresh : (may : ℕ → Bool) (l : Begun) (joined : State) (faults most : ℕ) (at_join : List Told) (new : List Entry) (first end : ℕ) (works : Works) (t : State) (outcomes : List Told)
    → KeepsRound l joined.history joined.shown joined.doubt faults most at_join new → CallerWrites may joined at_join (map write_of works.writes.items) t outcomes → AllByRecursion (IsOfWrites works.writes.items) outcomes
    → AreWithin first end works → IsFreshFrom first l.history l.doubt → IsFreshFrom end t.history t.doubt
round_fresh may l joined faults most at_join new first end works t outcomes lock run all within fresh =
    let many = within.numbers in
    joined_fresh may l joined faults most at_join new (map write_of works.writes.items) t outcomes end lock run (λ k behind. fresh k (omega (arith, many, behind)))
    (λ i u at.
    let (x, w, at_w, of) = all_at (IsOfWrites works.writes.items) outcomes i u all at in
    let high = (lines_within first end works.writes.items x (write_of w) within.writes (written_at works.writes.items x w at_w)).1 in
    omega (arith, high, of))

-- ---- the replies

module _ {D C : Type 0} (first begun : ℕ) (given : List Numbered) (works : Works) (read_are : AreRead first given works) (side : SideValue D C) (replies : List (List ℕ)) (a : AnswersJoined first begun works side replies) where
  abbrev ws : List WriteLine
  ws = map write_of works.writes.items

  -- the read that was answered is the line at its place
  asks_there : (j x : ℕ) (l : Numbered) (r : ReadLine) → slice_get given j ≡ Some l → slice_get works.reads.items x ≡ Some r → r.line ≡ first + j → line_from l.bytes ≡ Ok (read r.session (read_set_view r.request))
  asks_there j x l r at at_r line =
      let among = all_at (IsReadAmong first given) works.reads.items x r read_are.reads at_r in
      let at_line = among.asks.0 in
      let place : among.place ≡ j = omega (arith, at_line, line) in
      let same : among.line ≡ l = some_same (sym among.there ∙ ap (λ (n : ℕ). slice_get given n) place ∙ at) in
      ap (λ (m : Numbered). line_from m.bytes) (sym same) ∙ among.asks.1

  -- a line told its session no more than is given of its place
  abbrev Tells : ℕ → ℕ → ℕ → Type 0
  Tells i s n = SessionAt first works.reads.items works.writes.items i s × (n ≡ a.tells i)

  read_tells : (j x : ℕ) (l : Numbered) (r : ReadLine) (m s d : ℕ) → slice_get given j ≡ Some l → slice_get works.reads.items x ≡ Some r → r.line ≡ first + j → m ≤ a.tells j → session_of l.bytes ≡ Some s → told_dateline l.bytes (answered m) ≡ Some d
      → (n : ℕ) × Tells j s n × (d ≤ n)
  read_tells j x l r m s d at at_r line most session told =
      let same : r.session ≡ s = some_same (sym (session_read l.bytes r.session (read_set_view r.request) (asks_there j x l r at at_r line)) ∙ session) in
      let below = read_told l.bytes m d told in
      (a.tells j, (inl (x, r, at_r, line, same), refl), omega (arith, below, most))

  module _ (of : (i : ℕ) (u : Told) → slice_get side.outcomes i ≡ Some u → (x : ℕ) × (b : WriteLine) × (slice_get ws x ≡ Some b) × (b.line ≡ u.line)) (order : AreInOrder side.outcomes)
      (low : (k i : ℕ) → begun ≤ least_later ws side.outcomes k i (length side.shown)) where
    abbrev Line : ℕ → List ℕ → List ℕ → Outcome → Type 0
    Line j bytes reply o = JoinedLine side.history (length side.shown) begun (write_lines first given) ws side.outcomes Tells j (first + j) bytes reply o

    by_reply : (j : ℕ) (l : Numbered) (was reply : List ℕ) → slice_get given j ≡ Some l → slice_get (map reply_text works.replies.items) j ≡ Some was
        → JoinedReply first begun works.reads.items works.writes.items (batches side.history) (length side.shown) side.outcomes a.tells j (reply_or (first + j) was (kept_of side.outcomes (first + j))) reply → (o : Outcome) × Line j l.bytes reply o
    by_reply j l was reply at at_was (by_kept is stored) =
        let f = first_line side.history (length side.shown) first given ws read_are.writes side.outcomes of j l was at (read_are.replies j l was at at_was) in (
          f.outcome,
          record {
            told = λ s d session told.
                let (e, r, kept, d_is, (x, b, at_b, line, of_session)) = f.told d told in
                let most = stored e r kept in
                let (w, at_w, w_is) = written_back works.writes.items x b at_b in
                let same : b.session ≡ s = some_same (sym of_session ∙ session) in
                (a.tells j, (inr (x, w, at_w, ap (λ (v : WriteLine). v.line) w_is ∙ line, ap (λ (v : WriteLine). v.session) w_is ∙ same), refl), omega (arith, most, d_is));
            low = λ m read. absurd (f.no_read m read);
            came = inl (subst (λ (y : List ℕ). CameAs side.history (length side.shown) (write_lines first given) side.outcomes (first + j) l.bytes y f.outcome) (sym is) f.came);
          },
        )
    by_reply j l was reply at at_was (by_caller x r at_r line is most) =
        let m = least_later ws side.outcomes r.line r.session (length side.shown) in (
          answered m,
          record {
            told = λ s d. read_tells j x l r m s d at at_r line most;
            low = λ n read. let same = answered_same m n read in let least = low r.line r.session in omega (arith, same, least);
            came = inl (subst (λ (k : ℕ). CameAs side.history (length side.shown) (write_lines first given) side.outcomes k l.bytes reply (answered m)) line
                (read_line side.history (length side.shown) first given ws read_are.writes side.outcomes of order r.line l.bytes reply r.session (read_set_view r.request) (asks_there j x l r at at_r line) is));
          },
        )
    by_reply j l was reply at at_was (by_worker w is reply_is most above later before) = (
      answered w.at,
      record {
        told = λ s d. read_tells j is.place l is.read w.at s d at is.there is.line most;
        low = λ n read. let same = answered_same w.at n read in omega (arith, same, above);
        came = inr (record {
          session = is.read.session;
          request = read_set_view is.read.request;
          number = w.at;
          entered = is.entered;
          asks = asks_there j is.place l is.read at is.there is.line;
          within = is.within;
          below = is.below;
          front = is.begins;
          out = refl;
          is = reply_is ∙ is.is ∙ ap (λ (k : ℕ). reply_of is.entered w.at k (read_set_view is.read.request)) is.line;
          above = above;
          takes = λ i n less (at_session, n_is). let most_told = before i less at_session in omega (arith, most_told, n_is);
          later = subst (λ (k : ℕ). w.at ≤ least_later ws side.outcomes k is.read.session (length side.shown)) is.line later;
        });
      },
    )

    each_line : (j : ℕ) (l : Numbered) (reply : List ℕ) → slice_get given j ≡ Some l → slice_get replies j ≡ Some reply → (o : Outcome) × Line j l.bytes reply o
    each_line j l reply at at_reply = let (was, at_was, how) = a.each j reply at_reply in by_reply j l was reply at at_was how

  -- there is a reply for each line
  pub joined_many : length replies ≡ length given
  joined_many =
      let many = a.many in
      let count = read_are.count in
      let long = length-map works.replies.items reply_text in
      omega (arith, many, count, long)

  -- LAW: the disk's count rose by the replies that tell a failure of it
  pub round_rose : (before after : ℕ) → RoseBy before after (faults_kept side.outcomes) → RoseBy before after (fault_count first replies)
  round_rose before after rose =
      let most = faults_told_most side.outcomes first replies (λ j reply at none_at.
      let (was, at_was, how) = a.each j reply at in
      let in_it = get_within replies j reply at in
      let many = joined_many in
      let (l, at_l) = there given j (omega (arith, in_it, many)) in
      quiet j was reply (first_quiet (first + j) l.bytes was (read_are.replies j l was at_l at_was)) none_at how) in
      omega (arith, most, rose)
    where
      quiet : (j : ℕ) (was reply : List ℕ) → tells_fault (first + j) was ≡ false → fault_at_line side.outcomes (first + j) ≡ 0
          → JoinedReply first begun works.reads.items works.writes.items (batches side.history) (length side.shown) side.outcomes a.tells j (reply_or (first + j) was (kept_of side.outcomes (first + j))) reply → tells_fault (first + j) reply ≡ false
      quiet j was reply first_none none_at (by_kept is stored) = ap (tells_fault (first + j)) is ∙ quiet_or (first + j) (first + j) was (kept_of side.outcomes (first + j)) first_none none_at
      quiet j was reply first_none none_at (by_caller x r at_r line is most) =
          ap (tells_fault (first + j)) is ∙ read_quiet (first + j) (batches side.history) (least_later ws side.outcomes r.line r.session (length side.shown)) r.line (read_set_view r.request)
      quiet j was reply first_none none_at (by_worker w is reply_is most above later before) = ap (tells_fault (first + j)) (reply_is ∙ is.is) ∙ read_quiet (first + j) is.entered w.at is.read.line (read_set_view is.read.request)

-- LAW: a round that workers and their caller answered together is served
pub round_joined : {D C : Type 0} (loaded : List Batch) (may : ℕ → Bool) (before : List Numbered) (output : List ℕ) (s : State) (runs : List Run) (round : ℕ) (given : List Numbered) (begun faults : ℕ)
    → StandsAt loaded may before output s.history s.shown s.doubt runs → AreOf round given → s.shown ≤ begun → begun ≤ size s.history → (begun ≡ size s.history) ⊎ (begun ≡ s.shown)
    → (joined : State) (joined_faults most : ℕ) (at_join : List Told) (new : List Entry) → KeepsHistory may joined.history joined.doubt at_join
    → KeepsRound (begun_at s.history begun s.doubt faults (length runs) given) joined.history joined.shown joined.doubt joined_faults most at_join new → joined.shown ≤ size joined.history
    → (works : Works) → AreRead (length runs) given works → (side : SideValue D C) (sessions : ℕ → Session) → CallerWrites may joined at_join (map write_of works.writes.items) (state_of side sessions) side.outcomes
    → AllByRecursion (IsOfWrites works.writes.items) side.outcomes → (replies : List (List ℕ)) → AnswersJoined (length runs) begun works side replies
    → (more : List Run) × RoundServed may s runs round given (printed replies) (state_of side sessions) more
round_joined loaded may before output s runs round given begun faults st here above below shows joined joined_faults most at_join new history lock within works read_are side sessions run all replies a =
    let of = told_of_writes works.writes.items side.outcomes all in
    joined_round_served loaded may before output s runs round given begun faults st here above below shows joined joined_faults most at_join new history lock within
    (map write_of works.writes.items) read_are.writes (state_of side sessions) side.outcomes run of (Tells (length runs) begun given works read_are side replies a)
    replies (joined_many (length runs) begun given works read_are side replies a) (each_line (length runs) begun given works read_are side replies a of)

-- LAW: so is a round for whose lines there was no room: nothing is written, and each is told so
pub round_passed : (loaded : List Batch) (may : ℕ → Bool) (before : List Numbered) (output : List ℕ) (s : State) (runs : List Run) (round : ℕ) (given : List Numbered) (n : ℕ)
    → StandsAt loaded may before output s.history s.shown s.doubt runs → AreOf round given → n ≡ length given → (more : List Run) × RoundServed may s runs round given (printed (no_memory (length runs) n)) s more
round_passed loaded may before output s runs round given n st here long =
    let k = length runs in
    let ls = write_lines k given in
    let count = passed_many k n in
    joined_round_served loaded may before output s runs round given s.shown 0 st here (omega arith) st.most (inr refl)
    s 0 0 [] [] (history_begins loaded may before output s.history s.shown s.doubt runs st)
    (lock_begins s.history s.shown s.doubt 0 0 k given (are_new loaded may before output s.history s.shown s.doubt runs 0 given st)) st.most
    ls (some_all ls) s [] (callers_pass may ls s []) (λ i u at. no_some at) (λ i session m. ⊥)
    (no_memory k n) (omega (arith, count, long))
    (λ order low j l reply at at_reply.
    let f = first_line s.history s.shown k given ls (some_all ls) [] (λ i u none. no_some none) j l (memory_line (k + j)) at (inr refl) in (
      f.outcome,
      record {
        told = λ session d is told. let (e, r, kept, d_is, of_write) = f.told d told in no_some kept;
        low = λ m read. absurd (f.no_read m read);
        came = inl (subst (λ (y : List ℕ). CameAs s.history s.shown ls [] (k + j) l.bytes y f.outcome) (passed_at k n j reply at_reply) f.came);
      },
    ))
