-- A round that workers and its caller answer together is served.
use Rattle.std.proofs.Common.{◌≡◌, refl, ℕ, zero, suc, ◌+◌, ◌-◌, ◌^◌, ◌<◌, ◌≤◌, ◌==◌, ◌⊎◌, ⊎_elim, Bool, true, false, List, [], ◌∷◌, ◌++◌, length, map, take, flat_map, Option, Some, None, Ok, slice_get, unwrap_or, if◌then◌else◌, sym, subst, ap, ◌∙◌, arith}
use Rattle.gd_prim.specs.declared.Batch.{Batch}
use Rattle.gd_tree.specs.Json.{Json}
use Rattle.gd_runs.specs.Request.{read, write, ReadSet, reply_of}
use Rattle.gd_runs.specs.Input.{line_from}
use Rattle.gd_runs.specs.Legal.{Entry, History, size, batches}
use Rattle.gd_runs.specs.Explained.{Numbered, Run, Outcome, no_request, no_memory, answered, session_of, told_dateline, entry_at}
use Rattle.gd_runs.specs.Core.{State}
use Rattle.gd_runs.specs.Side.{Kept, kept_stored, kept_late, kept_refused, kept_doubt, kept_unsettled, kept_memory, Told, WriteLine, Begun, AreInOrder, IsLeft, IsFresh, IsOfBegun, KeepsHistory, KeepsRound, number_of}
use Rattle.gd_runs.proofs.Rounds.{no_some, some_same, line_within, entry_cases}
use Rattle.gd_core_laws.specs.Bounds.{is_session, told_to, told_most, kept_of, least_later}
use Rattle.gd_core_laws.specs.Round.{write_lines, begun_at, kept_outcome, kept_reply, StandsAt, LineCame, faulty, wrote, lacks_memory}
use Rattle.gd_core_laws.specs.Writes.{AreNew, AreAhead, CallerWrites, KeepsSide, RisesBy}
use Rattle.gd_core_laws.specs.Threads.{RoundServed}
use Rattle.gd_core_laws.proofs.Lock.{same_numbers}
use Rattle.gd_core_laws.proofs.Lines.{session_write}
use Rattle.gd_core_laws.proofs.WriteLines.{line_there, got_line}
use Rattle.gd_core_laws.proofs.Sorted.{write_lines_rise, keeps_writes, front_of, take_got, take_below}
use Rattle.gd_core_laws.proofs.SideWrites.{walk_keeps}
use Rattle.gd_core_laws.proofs.Threads.{stands_shown}
use Rattle.gd_core_laws.proofs.Bounds.{least_greatest, worked_by, read_again_by}
use Rattle.gd_round_lines.specs.Some.{IsSomeOf}
use Rattle.gd_caller.specs.Told.{reply_or}
use Rattle.gd_caller.specs.Served.{printed, AreOf, LeftAreFresh}
use Rattle.gd_round_lines.specs.Works.{IsFirstReply}
use Rattle.gd_round_lines.specs.Fresh.{IsFreshFrom}
use Rattle.gd_caller.specs.Writes.{RoseBy}
use Rattle.gd_round_lines.proofs.Some.{some_there}
use Rattle.gd_caller.proofs.Callers.{callers_some, callers_fresh}
use Rattle.gd_caller.proofs.Came.{kept_from, left_from, came_all}

-- ---- what a line came to

-- line k of these bytes, which has this reply, came to this whichever runs came before
abbrev pub CameAs : History → ℕ → List WriteLine → List Told → ℕ → List ℕ → List ℕ → Outcome → Type 0
CameAs g shown lines outs k bytes reply o = (least : ℕ) (runs : List Run) (l : Numbered) → l.bytes ≡ bytes → LineCame least runs g shown lines outs k (record { line = l; outcome = o; reply = reply })

-- A worker answered line k, at place j of a round: over a list that begins what is shown, at a number that is not below what was shown when the round began, nor below what earlier lines told its session at most, nor above its session's later writes.
pub record WorkedLine (g : History) (shown begun : ℕ) (writes : List WriteLine) (outs : List Told) (tells : ℕ → ℕ → ℕ → Type 0) (j k : ℕ) (bytes reply : List ℕ) (o : Outcome) : Type 0 where
  pub session : ℕ
  pub request : ReadSet
  pub number : ℕ
  pub entered : List Batch
  pub asks : line_from bytes ≡ Ok (read session request)
  pub within : number ≤ length entered
  pub below : length entered ≤ shown
  pub front : entered ≡ take (length entered) (batches g)
  pub out : o ≡ answered number
  pub is : reply ≡ reply_of entered number k request
  pub above : begun ≤ number
  pub takes : (i n : ℕ) → i < j → tells i session n → n ≤ number
  pub later : number ≤ least_later writes outs k session shown

-- Line k, at place j of a round, came to this: it told its session no more than is said, a read is not answered below what was shown when the round began, and it came to that whichever runs came before, or a worker answered it.
pub record JoinedLine (g : History) (shown begun : ℕ) (lines writes : List WriteLine) (outs : List Told) (tells : ℕ → ℕ → ℕ → Type 0) (j k : ℕ) (bytes reply : List ℕ) (o : Outcome) : Type 0 where
  pub told : (s d : ℕ) → session_of bytes ≡ Some s → told_dateline bytes o ≡ Some d → (n : ℕ) × tells j s n × (d ≤ n)
  pub low : (m : ℕ) → o ≡ answered m → begun ≤ m
  pub came : CameAs g shown lines outs k bytes reply o ⊎ WorkedLine g shown begun writes outs tells j k bytes reply o

-- what a write told that came to what is kept
pub stored_by : (bytes : List ℕ) (kept : Kept) (d : ℕ) → told_dateline bytes (kept_outcome kept) ≡ Some d → (e : ℕ) × (r : Json) × (kept ≡ kept_stored e r) × (d ≡ e + 1)
stored_by bytes (kept_stored e r) d is = (e, r, refl, sym (some_same is))
stored_by bytes (kept_late e) d is = no_some is
stored_by bytes (kept_refused f n) d is = no_some is
stored_by bytes (kept_doubt n) d is = no_some is
stored_by bytes kept_unsettled d is = no_some is
stored_by bytes kept_memory d is = no_some is

-- a write was not answered as a read is
kept_no_read : (kept : Kept) (m : ℕ) → kept_outcome kept ≡ answered m → ⊥
kept_no_read (kept_stored e r) m is = cc
kept_no_read (kept_late e) m is = cc
kept_no_read (kept_refused f n) m is = cc
kept_no_read (kept_doubt n) m is = cc
kept_no_read kept_unsettled m is = cc
kept_no_read kept_memory m is = cc

no_request_read : (m : ℕ) → no_request ≡ answered m → ⊥
no_request_read m is = cc

no_memory_read : (m : ℕ) → no_memory ≡ answered m → ⊥
no_memory_read m is = cc

-- a number is one
pub answered_same : (m n : ℕ) → answered m ≡ answered n → m ≡ n
answered_same m n is = cc

-- a read told no more than its number
pub read_told : (bytes : List ℕ) (m d : ℕ) → told_dateline bytes (answered m) ≡ Some d → d ≤ m
read_told bytes m d is = let within = line_within m (line_from bytes) in let same = some_same is in omega (arith, within, same)

module _ (g : History) (shown first : ℕ) (given : List Numbered) (writes : List WriteLine) (some : IsSomeOf writes (write_lines first given)) (outs : List Told)
    (of : (i : ℕ) (t : Told) → slice_get outs i ≡ Some t → (x : ℕ) × (a : WriteLine) × (slice_get writes x ≡ Some a) × (a.line ≡ t.line)) where
  -- what a line came to whose reply is the first one, or what is told of its write: it told something only where an entry is kept of it, and is one of the writes then
  pub record FirstLine (k : ℕ) (bytes reply : List ℕ) : Type 0 where
    pub outcome : Outcome
    pub came : CameAs g shown (write_lines first given) outs k bytes reply outcome
    pub no_read : (m : ℕ) → outcome ≡ answered m → ⊥
    pub told : (d : ℕ) → told_dateline bytes outcome ≡ Some d → (e : ℕ) × (r : Json) × (kept_of outs k ≡ Some (kept_stored e r)) × (d ≡ e + 1) × ((x : ℕ) × (a : WriteLine) × (slice_get writes x ≡ Some a) × (a.line ≡ k) × (session_of bytes ≡ Some a.session))

  -- the write of which something is kept
  write_there : (j : ℕ) (l : Numbered) (i : ℕ) (t : Told) → slice_get given j ≡ Some l → slice_get outs i ≡ Some t → t.line ≡ first + j
      → (x : ℕ) × (a : WriteLine) × (slice_get writes x ≡ Some a) × (a.line ≡ first + j) × (line_from l.bytes ≡ Ok (write a.session a.request))
  write_there j l i t at there line =
      let (x, a, at_a, line_a) = of i t there in
      let (z, at_z) = some_there writes (write_lines first given) x a some at_a in
      let w = line_there first given z a at_z in
      let number = w.number in
      let place : w.place ≡ j = omega (arith, number, line_a, line) in
      let is : w.line ≡ l = some_same (sym w.there ∙ ap (λ (n : ℕ). slice_get given n) place ∙ at) in
      (x, a, at_a, line_a ∙ line, ap (λ (m : Numbered). line_from m.bytes) (sym is) ∙ w.asks)

  pub first_line : (j : ℕ) (l : Numbered) (old : List ℕ) → slice_get given j ≡ Some l → IsFirstReply (first + j) l.bytes old → FirstLine (first + j) l.bytes (reply_or (first + j) old (kept_of outs (first + j)))
  first_line j l old at begins = by (kept_of outs (first + j)) refl
    where
      by : (o : Option Kept) → kept_of outs (first + j) ≡ o → FirstLine (first + j) l.bytes (reply_or (first + j) old o)
      by None none = ⊎_elim
          (λ (f, asks, is). record { outcome = no_request; came = λ least runs n same. faulty f (ap line_from same ∙ asks) refl is; no_read = no_request_read; told = λ d never. no_some never })
          (λ is. record { outcome = no_memory; came = λ least runs n same. lacks_memory (λ s w asks. left_from outs (first + j) none) refl is; no_read = no_memory_read; told = λ d never. no_some never })
          begins
      by (Some kept) has =
          let (i, t, there, line, kept_is) = kept_from outs (first + j) kept has in
          let (x, a, at_a, line_a, asks) = write_there j l i t at there line in
          record {
            outcome = kept_outcome kept;
            came = λ least runs n same. wrote a.session a.request i t (ap line_from same ∙ asks) there line (ap kept_outcome (sym kept_is)) (ap (kept_reply (first + j)) (sym kept_is));
            no_read = kept_no_read kept;
            told = λ d told.
                let (e, r, is, d_is) = stored_by l.bytes kept d told in
                (e, r, has ∙ ap (λ (y : Kept). Some y) is, d_is, (x, a, at_a, line_a, session_write l.bytes a.session a.request asks));
          }

  -- a read that the caller answered at the greatest number that fits
  pub read_line : AreInOrder outs → (k : ℕ) (bytes reply : List ℕ) (s : ℕ) (q : ReadSet) → line_from bytes ≡ Ok (read s q) → reply ≡ reply_of (batches g) (least_later writes outs k s shown) k q
      → CameAs g shown (write_lines first given) outs k bytes reply (answered (least_later writes outs k s shown))
  read_line order k bytes reply s q asks is least runs l same =
      let m = least_later writes outs k s shown in
      came_all first given writes some outs of least runs g shown k (record { line = l; outcome = answered m; reply = reply })
      (read_again_by least runs g shown writes outs order k (record { line = l; outcome = answered m; reply = reply }) s q (ap line_from same ∙ asks) refl is)

-- ---- the runs of a round

-- runs, each of a line and its reply, and what holds of its place, its bytes, its reply and what it came to
record Gathered (A : ℕ → List ℕ → List ℕ → Outcome → Type 0) (given : List Numbered) (replies : List (List ℕ)) : Type 0 where
  more : List Run
  lines_are : map (λ (r : Run). r.line) more ≡ given
  prints : printed replies ≡ flat_map (λ (r : Run). r.reply ++ 10 ∷ []) more
  each : (j : ℕ) (r : Run) → slice_get more j ≡ Some r → A j r.line.bytes r.reply r.outcome

gather : (A : ℕ → List ℕ → List ℕ → Outcome → Type 0) (given : List Numbered) (replies : List (List ℕ)) → length replies ≡ length given
    → ((j : ℕ) (l : Numbered) (reply : List ℕ) → slice_get given j ≡ Some l → slice_get replies j ≡ Some reply → (o : Outcome) × A j l.bytes reply o) → Gathered A given replies
gather A [] [] many each = record { more = []; lines_are = refl; prints = refl; each = λ j r at. no_some at }
gather A [] (y ∷ ys) many each = absurd (omega (arith, many))
gather A (l ∷ ls) [] many each = absurd (omega (arith, many))
gather A (l ∷ ls) (y ∷ ys) many each =
    let (o, first) = each 0 l y refl refl in
    let rest = gather (λ (j : ℕ). A (suc j)) ls ys (omega (arith, many)) (λ j m z at_m at_z. each (suc j) m z at_m at_z) in
    record {
      more = record { line = l; outcome = o; reply = y } ∷ rest.more;
      lines_are = ap (λ (xs : List Numbered). l ∷ xs) rest.lines_are;
      prints = ap (λ (xs : List ℕ). (y ++ 10 ∷ []) ++ xs) rest.prints;
      each = λ j r at. at_place o first rest.more rest.each j r at;
    }
  where
    at_place : (o : Outcome) → A 0 l.bytes y o → (more : List Run) → ((j : ℕ) (r : Run) → slice_get more j ≡ Some r → A (suc j) r.line.bytes r.reply r.outcome)
        → (j : ℕ) (r : Run) → slice_get (record { line = l; outcome = o; reply = y } ∷ more) j ≡ Some r → A j r.line.bytes r.reply r.outcome
    at_place o here more others zero r at = subst (λ (q : Run). A 0 q.line.bytes q.reply q.outcome) (some_same at) here
    at_place o here more others (suc j) r at = others j r at

-- ---- what lines told

told_to_below : (s m : ℕ) (r : Run) → ((d : ℕ) → session_of r.line.bytes ≡ Some s → told_dateline r.line.bytes r.outcome ≡ Some d → d ≤ m) → told_to s r ≤ m
told_to_below s m r all = by (session_of r.line.bytes) refl
  where
    by_told : (p : Option ℕ) → told_dateline r.line.bytes r.outcome ≡ p → session_of r.line.bytes ≡ Some s → unwrap_or p 0 ≤ m
    by_told None is session = omega arith
    by_told (Some d) is session = all d session is

    by_same : (b : Bool) (n : ℕ) → (n == s) ≡ b → session_of r.line.bytes ≡ Some n → (if b then unwrap_or (told_dateline r.line.bytes r.outcome) 0 else 0) ≤ m
    by_same true n same session = by_told (told_dateline r.line.bytes r.outcome) refl (session ∙ ap (λ (x : ℕ). Some x) (same_numbers n s same))
    by_same false n other session = omega arith

    by : (o : Option ℕ) → session_of r.line.bytes ≡ o → (if is_session s o then unwrap_or (told_dateline r.line.bytes r.outcome) 0 else 0) ≤ m
    by None none = omega arith
    by (Some n) session = by_same (n == s) n refl session

told_most_below : (s m : ℕ) (rs : List Run) → ((i : ℕ) (q : Run) (d : ℕ) → slice_get rs i ≡ Some q → session_of q.line.bytes ≡ Some s → told_dateline q.line.bytes q.outcome ≡ Some d → d ≤ m) → told_most s rs ≤ m
told_most_below s m [] all = omega arith
told_most_below s m (r ∷ rs) all =
    let one = told_to_below s m r (λ d. all 0 r d refl) in
    let rest = told_most_below s m rs (λ i q d at. all (suc i) q d at) in
    omega (arith, one, rest)

-- ---- the round

-- what was kept of writes behind the lock and then by the caller, and what is told of it
module _ (may : ℕ → Bool) (l : Begun) (first : ℕ) (given : List Numbered) (lines : l.lines ≡ write_lines first given)
    (joined : State) (faults most : ℕ) (at_join : List Told) (new : List Entry) (history : KeepsHistory may joined.history joined.doubt at_join) (lock : KeepsRound l joined.history joined.shown joined.doubt faults most at_join new) (within : joined.shown ≤ size joined.history)
    (t : State) (outcomes : List Told) (run : CallerWrites may joined at_join (write_lines first given) t outcomes) where
  -- what the side keeps in the end
  record Ended : Type 0 where
    order : AreInOrder outcomes
    least : (j n : ℕ) (u : Told) → slice_get outcomes j ≡ Some u → number_of u.kept ≡ Some n → size l.history ≤ n
    shows : l.shown ≤ t.shown

  joined_ended : Ended
  joined_ended =
      let fresh : AreNew l = record { entries = lock.fresh; doubted = lock.fresh_doubt } in
      let rises : RisesBy (λ (a : WriteLine). a.line) l.lines = subst (RisesBy (λ (a : WriteLine). a.line)) (sym lines) (write_lines_rise first given) in
      let side : KeepsSide may l 0 joined at_join new = record {
        history = history;
        writes = keeps_writes l first given joined.history joined.shown joined.doubt faults most at_join new lines lock;
        most = within;
        front = λ i x y u a b at_i at_x line at_y session above left. front_of l rises at_join lock.firsts i x y u a b at_i at_x line at_y session left;
      } in
      let ahead : AreAhead l 0 (write_lines first given) = record {
        among = λ i a at. (i, subst (λ (ls : List WriteLine). slice_get ls i ≡ Some a) (sym lines) at);
        rise = write_lines_rise first given;
        ahead = λ i a at. omega arith;
      } in
      let (q, more, end) = walk_keeps may l fresh (write_lines first given) joined at_join new 0 t outcomes side ahead run in
      record { order = end.history.order; least = end.writes.least; shows = end.writes.shows }

  -- LAW: what is kept in the end stands in order
  pub joined_order : AreInOrder outcomes
  joined_order = joined_ended.order

  -- LAW: the greatest number that fits a read is not below what was shown when the round began
  pub joined_low : l.shown ≤ size l.history → (ls : List WriteLine) (k s : ℕ) → l.shown ≤ least_later ls outcomes k s t.shown
  joined_low stored ls k s = least_greatest ls outcomes k s t.shown l.shown joined_ended.shows
      (λ i x n u a at at_a line session behind number. let least = joined_ended.least i n u at number in omega (arith, stored, least))

module _ (loaded : List Batch) (may : ℕ → Bool) (before : List Numbered) (output : List ℕ) (s : State) (runs : List Run) (round : ℕ) (given : List Numbered) (begun faults : ℕ)
    (st : StandsAt loaded may before output s.history s.shown s.doubt runs) (here : AreOf round given) (above : s.shown ≤ begun) (below : begun ≤ size s.history) (shows : (begun ≡ size s.history) ⊎ (begun ≡ s.shown))
    (joined : State) (joined_faults most : ℕ) (at_join : List Told) (new : List Entry) (history : KeepsHistory may joined.history joined.doubt at_join)
    (lock : KeepsRound (begun_at s.history begun s.doubt faults (length runs) given) joined.history joined.shown joined.doubt joined_faults most at_join new) (within : joined.shown ≤ size joined.history)
    (writes : List WriteLine) (some : IsSomeOf writes (write_lines (length runs) given)) (t : State) (outs : List Told) (run : CallerWrites may joined at_join writes t outs)
    (of : (i : ℕ) (u : Told) → slice_get outs i ≡ Some u → (x : ℕ) × (a : WriteLine) × (slice_get writes x ≡ Some a) × (a.line ≡ u.line))
    (tells : ℕ → ℕ → ℕ → Type 0) where
  -- what each line came to, at its place
  abbrev Came : ℕ → List ℕ → List ℕ → Outcome → Type 0
  Came j bytes reply o = JoinedLine t.history t.shown begun (write_lines (length runs) given) writes outs tells j (length runs + j) bytes reply o

  -- each run came to what is asked of it
  came_joined : AreInOrder outs → (more : List Run) → ((j : ℕ) (r : Run) → slice_get more j ≡ Some r → r.line.round ≡ round) → ((j : ℕ) (r : Run) → slice_get more j ≡ Some r → Came j r.line.bytes r.reply r.outcome)
      → (j : ℕ) (r : Run) → slice_get more j ≡ Some r → LineCame (length s.history.loaded) (runs ++ more) t.history t.shown (write_lines (length runs) given) outs (length runs + j) r
  came_joined order more of_round each j r at = ⊎_elim
      (λ alone. alone (length s.history.loaded) (runs ++ more) r.line refl)
      (λ w. came_all (length runs) given writes some outs of (length s.history.loaded) (runs ++ more) t.history t.shown (length runs + j) r
      (worked_by loaded may before output s.history begun s.doubt runs more round t.history t.shown writes outs (stands_shown loaded may before output s.history s.shown s.doubt runs begun st above below) of_round order
      j r w.session w.request w.number w.entered at w.asks w.within w.below w.front w.out w.is w.above
      (told_most_below w.session w.number (take j more) (λ i q d at_i session told.
      let (n, counted, most_told) = (each i q (take_got j more i q at_i)).told w.session d session told in
      let takes = w.takes i n (take_below j more i q at_i) counted in
      omega (arith, takes, most_told)))
      w.later))
      (each j r at).came

  -- LAW: such a round is served
  pub joined_round_served : (replies : List (List ℕ)) → length replies ≡ length given
      → (AreInOrder outs → ((k i : ℕ) → begun ≤ least_later writes outs k i t.shown) → (j : ℕ) (l : Numbered) (reply : List ℕ) → slice_get given j ≡ Some l → slice_get replies j ≡ Some reply → (o : Outcome) × Came j l.bytes reply o)
      → (more : List Run) × RoundServed may s runs round given (printed replies) t more
  joined_round_served replies many each =
      let l = begun_at s.history begun s.doubt faults (length runs) given in
      let caller = callers_some may (write_lines (length runs) given) writes joined t at_join outs some run in
      let order = joined_order may l (length runs) given refl joined joined_faults most at_join new history lock within t outs caller in
      let low = joined_low may l (length runs) given refl joined joined_faults most at_join new history lock within t outs caller below writes in
      let r = gather Came given replies many (each order low) in
      let of_round = λ (j : ℕ) (q : Run) (at : slice_get r.more j ≡ Some q). here j q.line (subst (λ (ls : List Numbered). slice_get ls j ≡ Some q.line) r.lines_are (got_line r.more j q at)) in (
        r.more,
        record {
          here = here;
          shown = begun;
          above = above;
          below = below;
          shows = shows;
          faults = faults;
          joined = joined;
          joined_faults = joined_faults;
          joined_most = most;
          at_join = at_join;
          new = new;
          history = history;
          lock = lock;
          most = within;
          outcomes = outs;
          caller = caller;
          lines = r.lines_are;
          replies = r.prints;
          came = came_joined order r.more of_round r.each;
          reads = λ j m q at is. (r.each j q at).low m is;
        },
      )

-- ---- lines that are fresh

-- behind the lock, a line of which nothing is kept is fresh if it was when the round began
lock_fresh : (l : Begun) (h : History) (shown : ℕ) (doubt : Option Entry) (faults most : ℕ) (o : List Told) (new : List Entry) (k : ℕ) → KeepsRound l h shown doubt faults most o new → IsLeft o k → IsFresh l.history l.doubt k → IsFresh h doubt k
lock_fresh l h shown doubt faults most o new k lock left fresh = record {
  entries = λ e x at same. ⊎_elim
      (λ old. fresh.entries e x old same)
      (λ (i, place, is_new). ⊎_elim (λ (front, was). fresh.doubted x was same) (λ of. not_left x of same) (lock.entries i x is_new))
      (entry_cases l.history new e x (subst (λ (g : History). entry_at g e ≡ Some x) lock.grown at));
  doubted = λ x is same. ⊎_elim (λ was. fresh.doubted x was same) (λ of. not_left x of same) (lock.in_doubt x is);
}
  where
    not_left : (x : Entry) → IsOfBegun l o x → x.line ≡ k → ⊥
    not_left x (i, a, at_a, line, request, bytes, (j, t, at_t, of, may_be)) same = left j t at_t (of ∙ same)

-- LAW: no entry and no group in doubt is of a write line of the round of which the lock kept nothing
pub lock_left_fresh : (l : Begun) (h : History) (shown : ℕ) (doubt : Option Entry) (faults most : ℕ) (o : List Told) (new : List Entry) → KeepsRound l h shown doubt faults most o new → LeftAreFresh l.lines h doubt o
lock_left_fresh l h shown doubt faults most o new lock x a at left = lock_fresh l h shown doubt faults most o new a.line lock left (record {
  entries = λ e y there same. lock.fresh x e a y at there (sym same);
  doubted = λ y was same. lock.fresh_doubt x a y at was (sym same);
})

-- LAW: nor is one of a later line once the caller has written
pub joined_fresh : (may : ℕ → Bool) (l : Begun) (joined : State) (faults most : ℕ) (at_join : List Told) (new : List Entry) (writes : List WriteLine) (t : State) (outcomes : List Told) (n : ℕ)
    → KeepsRound l joined.history joined.shown joined.doubt faults most at_join new → CallerWrites may joined at_join writes t outcomes → IsFreshFrom n l.history l.doubt
    → ((i : ℕ) (u : Told) → slice_get outcomes i ≡ Some u → u.line < n) → IsFreshFrom n t.history t.doubt
joined_fresh may l joined faults most at_join new writes t outcomes n lock run fresh below k behind = callers_fresh may writes joined t at_join outcomes k run
    (λ left. lock_fresh l joined.history joined.shown joined.doubt faults most at_join new k lock left (fresh k behind))
    (λ i u at same. let less = below i u at in omega (arith, less, same, behind))

-- ---- failures of the disk

-- LAW: the disk's count rose by the failures that the lock kept, or stands at its type's end
pub lock_rose : (before kept most joined_faults count : ℕ) → most ≡ 2 ^ 64 - 1 → (before + kept ≤ joined_faults) ⊎ (joined_faults ≡ most) → joined_faults ≤ count → RoseBy before count kept
lock_rose before kept most joined_faults count end failed least = ⊎_elim
    (λ more. omega (arith, more, least))
    (λ at_end. omega (arith, at_end, end, least))
    failed
