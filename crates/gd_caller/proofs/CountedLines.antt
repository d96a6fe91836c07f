-- The reads of a round that were counted are the lines of the round that were answered.
use Rattle.std.proofs.Common.{◌≡◌, ◌⊎◌, inl, inr, ⊎_elim, refl, ℕ, zero, suc, ◌+◌, ◌-◌, ◌<◌, ◌≤◌, Bool, true, false, List, [], ◌∷◌, ◌++◌, length, map, drop, Option, Some, None, Result, Ok, Err, slice_get, sym, subst, ap, ◌∙◌, arith}
use Rattle.std.specs.Prelude.{MatchBool}
use Rattle.std.specs.List.{AllByRecursion}
use Rattle.std.proofs.lemmas.Option.{slice_get-map}
use Rattle.gd_prim.specs.declared.Batch.{Batch}
use Rattle.gd_defs.specs.Write.{WriteRequest}
use Rattle.gd_reply.specs.declared.reply.Reply.{Reply}
use Rattle.gd_runs.specs.Request.{Line, ReadSet, read, write}
use Rattle.gd_runs.specs.Input.{InputFault, line_from}
use Rattle.gd_runs.specs.Explained.{Numbered, memory_line}
use Rattle.gd_runs.specs.Legal.{batches}
use Rattle.gd_runs.specs.Side.{Kept, Told}
use Rattle.gd_runs.proofs.Rounds.{no_some, some_same, get_within}
use Rattle.gd_core_laws.specs.Bounds.{kept_of}
use Rattle.gd_core_laws.specs.Round.{write_lines}
use Rattle.gd_core_laws.specs.Writes.{RisesBy}
use Rattle.gd_core_laws.proofs.WriteLines.{line_there}
use Rattle.gd_cache.specs.Right.{is_ok}
use Rattle.gd_lookup.specs.Keeping.{KeepingValue, CountsReply}
use Rattle.gd_lookup.proofs.Counted.{none_counts}
use Rattle.gd_lookup.specs.Calls.{reader_of, is_answered, CountsRead as CountsOneRead, CountsLine, CountsLines}
use Rattle.gd_mql.specs.Requests.{read_set_view}
use Rattle.gd_reply.specs.Replies.{reply_text}
use Rattle.gd_writer.specs.Side.{SideValue}
use Rattle.gd_round_lines.specs.declared.work.ReadLine.{ReadLine}
use Rattle.gd_round_lines.specs.declared.work.WriteLine.{WriteLine}
use Rattle.gd_round_lines.specs.declared.work.Works.{Works}
use Rattle.gd_round_lines.specs.Works.{IsFirstReply, IsReadOf, IsReadAmong, IsReadWithin, AreRead, AreWithin, texts_of, write_of}
use Rattle.gd_round_lines.proofs.Read.{all_at}
use Rattle.gd_round_lines.proofs.Sets.{there, drop_there, less_or}
use Rattle.gd_round_lines.proofs.Some.{some_there}
use Rattle.gd_caller.specs.Counts.{CountsRead, CountsReads}
use Rattle.gd_caller.specs.Joined.{IsOfWrites, JoinedReply, by_kept, by_caller, by_worker, AnswersJoined}
use Rattle.gd_caller.specs.Told.{reply_or}
use Rattle.gd_caller.proofs.Joins.{kept_write}

-- ---- lines that are reads, and replies that are no answers

reads_session : (bytes : List ℕ) (s : ℕ) (q : ReadSet) → line_from bytes ≡ Ok (read s q) → reader_of bytes ≡ Some s
reads_session bytes s q asks = rw asks refl

answered_ok : (bytes reply : List ℕ) (s : ℕ) → reader_of bytes ≡ Some s → is_answered bytes reply ≡ is_ok reply
answered_ok bytes reply s is = rw is refl

-- the first reply to a read is no answer, and no line but a read is one that was answered
first_other : (k : ℕ) (bytes reply : List ℕ) → IsFirstReply k bytes reply → is_answered bytes reply ≡ false
first_other k bytes reply first = ⊎_elim
    (λ (f, fault, is). not_read f fault)
    (λ is. rw is (by (reader_of bytes) refl))
    first
  where
    not_read : (f : InputFault) → line_from bytes ≡ Err f → is_answered bytes reply ≡ false
    not_read f fault = rw fault refl

    by : (o : Option ℕ) → reader_of bytes ≡ o → is_answered bytes (memory_line k) ≡ false
    by None is = rw is refl
    by (Some s) is = rw is refl

write_other : (bytes reply : List ℕ) (s : ℕ) (w : WriteRequest) → line_from bytes ≡ Ok (write s w) → is_answered bytes reply ≡ false
write_other bytes reply s w asks = rw asks refl

not_both : {P : Type 0} (b : Bool) → b ≡ true → b ≡ false → P
not_both b is_so not = absurd (let never = sym is_so ∙ not in cc)

-- ---- reads in the order of their lines

-- the reads are of line k or later ones, in order
abbrev Above : ℕ → List ReadLine → Type 0
Above k [] = Unit {0}
Above k (r ∷ rs) = (k ≤ r.line) × Above (r.line + 1) rs

above_of : (k : ℕ) (rs : List ReadLine) → RisesBy (λ (r : ReadLine). r.line) rs → ((x : ℕ) (q : ReadLine) → slice_get rs x ≡ Some q → k ≤ q.line) → Above k rs
above_of k [] rise low = tt
above_of k (r ∷ rs) rise low = (
  low 0 r refl,
  above_of (r.line + 1) rs (λ i j a b less at_a at_b. rise (suc i) (suc j) a b (omega (arith, less)) at_a at_b) (λ x q at. let more = rise 0 (suc x) r q (omega arith) refl at in omega (arith, more)),
)

above_less : (k m : ℕ) (rs : List ReadLine) → m ≤ k → Above k rs → Above m rs
above_less k m [] less above = tt
above_less k m (r ∷ rs) less above = (let low = above.0 in omega (arith, low, less), above.1)

above_at : (k : ℕ) (rs : List ReadLine) (x : ℕ) (q : ReadLine) → Above k rs → slice_get rs x ≡ Some q → k ≤ q.line
above_at k [] x q above at = no_some at
above_at k (r ∷ rs) zero q above at = let same = ap (λ (a : ReadLine). a.line) (some_same at) in let low = above.0 in omega (arith, same, low)
above_at k (r ∷ rs) (suc x) q above at = let low = above.0 in let more = above_at (r.line + 1) rs x q above.1 at in omega (arith, low, more)

drop_end : {X : Type 0} (xs : List X) → drop (length xs) xs ≡ []
drop_end [] = refl
drop_end (x ∷ xs) = drop_end xs

-- ---- the lines of a round

module _ (first : ℕ) (given : List Numbered) (firsts now : List (List ℕ)) (same : length now ≡ length given) (had : length firsts ≡ length given)
    (replies : (j : ℕ) (l : Numbered) (reply : List ℕ) → slice_get given j ≡ Some l → slice_get firsts j ≡ Some reply → IsFirstReply (first + j) l.bytes reply) where
  -- so it is of a line: it is one of the reads, if it was answered
  abbrev Among : ℕ → List ReadLine → Type 0
  Among j rs = (i : ℕ) (l : Numbered) (t : List ℕ) → j ≤ i → slice_get given i ≡ Some l → slice_get now i ≡ Some t → is_answered l.bytes t ≡ true → (x : ℕ) × (q : ReadLine) × (slice_get rs x ≡ Some q) × (q.line ≡ first + i)

  bytes_drop : (j : ℕ) (l : Numbered) → slice_get given j ≡ Some l → drop j (texts_of given) ≡ l.bytes ∷ drop (j + 1) (texts_of given)
  bytes_drop j l at = drop_there (texts_of given) j l.bytes (slice_get-map (λ (n : Numbered). n.bytes) given j ∙ rw at refl)

  -- a line that was counted as a read
  counted_line : (j : ℕ) (r : ReadLine) (l : Numbered) (t : List ℕ) (old new : KeepingValue) → IsReadOf (first + j) l.bytes r → slice_get given j ≡ Some l → slice_get now j ≡ Some t → CountsRead first firsts now old r new → CountsLine (first + j) l.bytes t old new
  counted_line j r l t old new asks at_l at_t one = by (is_ok t) refl
    where
      line : r.line ≡ first + j
      line = asks.0

      place : r.line - first ≡ j
      place = omega (arith, line)

      session : reader_of l.bytes ≡ Some r.session
      session = reads_session l.bytes r.session (read_set_view r.request) asks.1

      -- where nothing was counted
      stays : slice_get now (r.line - first) ≡ slice_get firsts (r.line - first) → is_ok t ≡ false
      stays is =
          let at_first : slice_get firsts j ≡ Some t = sym (subst (λ (n : ℕ). slice_get now n ≡ slice_get firsts n) place is) ∙ at_t in
          sym (answered_ok l.bytes t r.session session) ∙ first_other (first + j) l.bytes t (replies j l t at_l at_first)

      by : (b : Bool) → is_ok t ≡ b → CountsLine (first + j) l.bytes t old new
      by true is_so = rw (answered_ok l.bytes t r.session session ∙ is_so) (⊎_elim
          (λ (reply, at, counts). record {
            session = r.session;
            request = read_set_view r.request;
            asks = asks.1;
            key = r.key;
            key_is = asks.2;
            counts = subst (λ (n : ℕ). CountsReply old r.session r.key n t new) line
                (subst (λ (x : List ℕ). CountsReply old r.session r.key r.line x new) (some_same (sym at ∙ ap (slice_get now) place ∙ at_t)) counts);
          })
          (λ (is, none). not_both (is_ok t) is_so (stays is))
          one)
      by false not = rw (answered_ok l.bytes t r.session session ∙ not) (⊎_elim
          (λ (reply, at, counts). none_counts old new r.session r.key r.line reply (ap is_ok (some_same (sym at ∙ ap (slice_get now) place ∙ at_t)) ∙ not) counts)
          (λ (is, none). none)
          one)

  -- a line that is no read of these
  other_line : (j : ℕ) (rs : List ReadLine) (l : Numbered) (t : List ℕ) (keeping : KeepingValue) → Above (first + j + 1) rs → Among j rs → slice_get given j ≡ Some l → slice_get now j ≡ Some t → CountsLine (first + j) l.bytes t keeping keeping
  other_line j rs l t keeping above among at_l at_t = by (is_answered l.bytes t) refl
    where
      by : (b : Bool) → is_answered l.bytes t ≡ b → CountsLine (first + j) l.bytes t keeping keeping
      by true is_so = absurd (let (x, q, at, line) = among j l t (omega arith) at_l at_t is_so in let low = above_at (first + j + 1) rs x q above at in omega (arith, line, low))
      by false not = rw not refl

  -- whatever reads are left, the lines from a place on are counted
  abbrev Goes : ℕ → KeepingValue → Type 0
  Goes j new = (rs : List ReadLine) (mid : KeepingValue) → Above (first + j) rs → Among j rs → AllByRecursion (IsReadAmong first given) rs → CountsReads first firsts now mid rs new → CountsLines (first + j) (drop j (texts_of given)) (drop j now) mid new

  merge : (m j : ℕ) (rs : List ReadLine) (old new : KeepingValue) → j + m ≡ length given → Above (first + j) rs → Among j rs → AllByRecursion (IsReadAmong first given) rs → CountsReads first firsts now old rs new → CountsLines (first + j) (drop j (texts_of given)) (drop j now) old new
  merge zero j [] old new all above among each counts =
      let here : j ≡ length given = omega (arith, all) in
      rw here (subst (λ (bs : List (List ℕ)). CountsLines (first + length given) bs (drop (length given) now) old new) (sym texts_end) (subst (λ (rs : List (List ℕ)). CountsLines (first + length given) [] rs old new) (sym now_end) counts))
    where
      texts_end : drop (length given) (texts_of given) ≡ []
      texts_end = subst (λ (n : ℕ). drop n (texts_of given) ≡ []) (texts_long given) (drop_end (texts_of given))
        where
          texts_long : (ls : List Numbered) → length (texts_of ls) ≡ length ls
          texts_long [] = refl
          texts_long (l ∷ ls) = ap suc (texts_long ls)

      now_end : drop (length given) now ≡ []
      now_end = subst (λ (n : ℕ). drop n now ≡ []) same (drop_end now)
  merge zero j (r ∷ rs) old new all above among (one, rest) counts = absurd (
      let line = one.asks.0 in
      let within = get_within given one.place one.line one.there in
      let low = above.0 in
      omega (arith, line, within, low, all))
  merge (suc m) j rs old new all above among each counts =
      let (l, at_l) = there given j (omega (arith, all)) in
      let (t, at_t) = there now j (omega (arith, all, same)) in
      rw (bytes_drop j l at_l) (rw (drop_there now j t at_t) (step (λ qs mid. merge m (j + 1) qs mid new (omega (arith, all))) l t at_l at_t rs above among each counts))
    where
      -- the lines behind this one
      behind : Goes (j + 1) new → (rs : List ReadLine) (mid : KeepingValue) → Above (first + j + 1) rs → Among (j + 1) rs → AllByRecursion (IsReadAmong first given) rs → CountsReads first firsts now mid rs new → CountsLines (first + j + 1) (drop (j + 1) (texts_of given)) (drop (j + 1) now) mid new
      behind go rs mid above among each counts =
          subst (λ (k : ℕ). CountsLines k (drop (j + 1) (texts_of given)) (drop (j + 1) now) mid new) (omega arith)
          (go rs mid (subst (λ (k : ℕ). Above k rs) (omega arith) above) among each counts)

      -- no read of these is of this line
      passes : Goes (j + 1) new → (l : Numbered) (t : List ℕ) → slice_get given j ≡ Some l → slice_get now j ≡ Some t → (rs : List ReadLine) → Above (first + j + 1) rs → Among j rs → AllByRecursion (IsReadAmong first given) rs → CountsReads first firsts now old rs new
          → CountsLines (first + j) (l.bytes ∷ drop (j + 1) (texts_of given)) (t ∷ drop (j + 1) now) old new
      passes go l t at_l at_t rs above among each counts = (
        old,
        other_line j rs l t old above among at_l at_t,
        behind go rs old above (λ i x u more. among i x u (omega (arith, more))) each counts,
      )

      step : Goes (j + 1) new → (l : Numbered) (t : List ℕ) → slice_get given j ≡ Some l → slice_get now j ≡ Some t → (rs : List ReadLine) → Above (first + j) rs → Among j rs → AllByRecursion (IsReadAmong first given) rs → CountsReads first firsts now old rs new
          → CountsLines (first + j) (l.bytes ∷ drop (j + 1) (texts_of given)) (t ∷ drop (j + 1) now) old new
      step go l t at_l at_t [] above among each counts = passes go l t at_l at_t [] tt among each counts
      step go l t at_l at_t (r ∷ rs) above among (one, rest) (mid, this, more) = ⊎_elim
          (λ less. let low = above.0 in absurd (omega (arith, less, low)))
          (λ cases. ⊎_elim
          (λ here.
          let place : one.place ≡ j = (let line = one.asks.0 in omega (arith, line, here)) in
          let line_is : one.line ≡ l = some_same (sym (subst (λ (n : ℕ). slice_get given n ≡ Some one.line) place one.there) ∙ at_l) in
          let asks : IsReadOf (first + j) l.bytes r = subst (λ (x : Numbered). IsReadOf (first + j) x.bytes r) line_is (subst (λ (n : ℕ). IsReadOf (first + n) one.line.bytes r) place one.asks) in (
            mid,
            counted_line j r l t old mid asks at_l at_t this,
            behind go rs mid (above_less (r.line + 1) (first + j + 1) rs (omega (arith, here)) above.1)
                (λ i x u after at_x at_u is_so. left i (among i x u (omega (arith, after)) at_x at_u is_so) here after) rest more,
          ))
          (λ later. passes go l t at_l at_t (r ∷ rs) (omega (arith, later), above.1) among (one, rest) (mid, this, more))
          cases)
          (less_or r.line (first + j))
        where
          left : (i : ℕ) → (x : ℕ) × (q : ReadLine) × (slice_get (r ∷ rs) x ≡ Some q) × (q.line ≡ first + i) → r.line ≡ first + j → j + 1 ≤ i → (x : ℕ) × (q : ReadLine) × (slice_get rs x ≡ Some q) × (q.line ≡ first + i)
          left i (zero, q, at, line) here after = absurd (let same_line = ap (λ (a : ReadLine). a.line) (some_same at) in omega (arith, same_line, line, here, after))
          left i (suc x, q, at, line) here after = (x, q, at, line)

-- a line that was answered is one of the reads
module _ {D C : Type 0} (first begun : ℕ) (given : List Numbered) (works : Works) (side : SideValue D C) (now : List (List ℕ)) (read_is : AreRead first given works) (of : AllByRecursion (IsOfWrites works.writes.items) side.outcomes) (answers : AnswersJoined first begun works side now) where
  -- a write that was told is the line
  is_written : (j : ℕ) (l : Numbered) (t : List ℕ) (y : ℕ) (w : WriteLine) → slice_get given j ≡ Some l → slice_get works.writes.items y ≡ Some w → w.line ≡ first + j → is_answered l.bytes t ≡ false
  is_written j l t y w at_l at_w line =
      let (x, at_x) = some_there (map write_of works.writes.items) (write_lines first given) y (write_of w) read_is.writes (slice_get-map write_of works.writes.items y ∙ rw at_w refl) in
      let a = line_there first given x (write_of w) at_x in
      let number = a.number in
      let place : a.place ≡ j = omega (arith, number, line) in
      let same : a.line ≡ l = some_same (sym (subst (λ (n : ℕ). slice_get given n ≡ Some a.line) place a.there) ∙ at_l) in
      write_other l.bytes t (write_of w).session (write_of w).request (subst (λ (n : Numbered). line_from n.bytes ≡ Ok (write (write_of w).session (write_of w).request)) same a.asks)

  answered_among : (j : ℕ) (l : Numbered) (t : List ℕ) → slice_get given j ≡ Some l → slice_get now j ≡ Some t → is_answered l.bytes t ≡ true → (x : ℕ) × (q : ReadLine) × (slice_get works.reads.items x ≡ Some q) × (q.line ≡ first + j)
  answered_among j l t at_l at_t is_so =
      let (was, at_was, joined) = answers.each j t at_t in
      by was at_was joined (kept_of side.outcomes (first + j)) refl
    where
      by : (was : List ℕ) → slice_get (map reply_text works.replies.items) j ≡ Some was → JoinedReply first begun works.reads.items works.writes.items (batches side.history) (length side.shown) side.outcomes answers.tells j (reply_or (first + j) was (kept_of side.outcomes (first + j))) t
          → (o : Option Kept) → kept_of side.outcomes (first + j) ≡ o → (x : ℕ) × (q : ReadLine) × (slice_get works.reads.items x ≡ Some q) × (q.line ≡ first + j)
      by was at_was (by_kept is stored) None none =
          let same : t ≡ was = is ∙ ap (reply_or (first + j) was) none in
          not_both (is_answered l.bytes t) is_so (ap (is_answered l.bytes) same ∙ first_other (first + j) l.bytes was (read_is.replies j l was at_l at_was))
      by was at_was (by_kept is stored) (Some kept) told =
          let (y, w, at_w, line) = kept_write works.writes.items side.outcomes (first + j) kept of told in
          not_both (is_answered l.bytes t) is_so (is_written j l t y w at_l at_w line)
      by was at_was (by_caller x r at line is below) o told = (x, r, at, line)
      by was at_was (by_worker w is reply below begins later earlier) o told = (is.place, is.read, is.there, is.line)

  -- LAW: the lines of a round were counted, in their order
  pub lines_counted : (end : ℕ) (old new : KeepingValue) → AreWithin first end works → CountsReads first (map reply_text works.replies.items) now old works.reads.items new → CountsLines first (texts_of given) now old new
  lines_counted end old new within counts =
      let many = answers.many in
      let count = read_is.count in
      let long = map_long works.replies.items in
      subst (λ (k : ℕ). CountsLines k (texts_of given) now old new) (omega arith)
      (merge first given (map reply_text works.replies.items) now (omega (arith, many, count, long)) count read_is.replies (length given) 0 works.reads.items old new (omega arith)
      (above_of (first + 0) works.reads.items within.reads_rise (λ x q at. let low = (all_at (IsReadWithin first end) works.reads.items x q within.reads at).0 in omega (arith, low)))
      (λ i l t more. answered_among i l t) read_is.reads counts)
    where
      map_long : (xs : List Reply) → length (map reply_text xs) ≡ length xs
      map_long [] = refl
      map_long (x ∷ xs) = ap suc (map_long xs)
