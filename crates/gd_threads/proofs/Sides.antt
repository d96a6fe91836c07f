-- Write sides in a round: before it, out of its lock, and before the writes that are left.
use Rattle.std.proofs.Common.{◌≡◌, refl, ℕ, zero, suc, ◌<◌, ◌≤◌, ◌⊎◌, inl, inr, ⊎_elim, min, Bool, List, [], ◌∷◌, length, map, take, Option, Result, Ok, Err, OnOk, OnErr, sym, subst, ap, arith}
use Rattle.std.proofs.lemmas.Bool.{cases_lt}
use Rattle.gd_base.specs.declared.memory.Memory.{Memory}
use Rattle.gd_prim.specs.declared.Batch.{Batch}
use Rattle.gd_runs.specs.Legal.{Entry, batches, size}
use Rattle.gd_runs.specs.Explained.{Numbered}
use Rattle.gd_runs.specs.Side as side
use Rattle.gd_runs.specs.Side.{Told, Begun, KeepsRound}
use Rattle.gd_runs.proofs.Rounds.{length_batches}
use Rattle.gd_core_laws.specs.Fronts.{GrowsTold}
use Rattle.gd_core_laws.specs.Round.{begun_at}
use Rattle.gd_core_laws.specs.Writes.{AreNew}
use Rattle.gd_core_laws.proofs.WriteLines.{line_there}
use Rattle.gd_core_laws.proofs.Fronts.{grows_none, between_last}
use Rattle.gd_core_laws.proofs.LockRun.{lock_starts}
use Rattle.gd_crew.specs.PassedOn.{Tells, SideValue, KeepsAll, StandsForSide}
use Rattle.gd_crew.specs.Round.{most, StandsInRound}
use Rattle.gd_round_lines.specs.declared.work.WriteLine.{WriteLine}
use Rattle.gd_round_lines.specs.declared.work.Works.{Works}
use Rattle.gd_round_lines.specs.Fresh.{IsFreshFrom}
use Rattle.gd_caller.specs.Served.{LeftAreFresh}
use Rattle.gd_round_lines.specs.Works.{write_of, AreWithin, AreRead}
use Rattle.gd_caller.specs.Writes.{WritesLeft}
use Rattle.gd_caller.proofs.JoinedLines.{lock_left_fresh}
use Rattle.gd_round_lines.proofs.Lines.{lines_within}
use Rattle.gd_crew.specs.Joined.{begun_by}
use Rattle.gd_threads.specs.Working.{ShowsMore, KeepsNow, Joins, RunsWrites}

-- ---- what is shown

short_take : (n : ℕ) (xs : List Batch) → length (take n xs) ≤ length xs
short_take zero xs = omega arith
short_take (suc n) [] = omega arith
short_take (suc n) (x ∷ xs) = let rest = short_take n xs in omega (arith, rest)

module _ {D C : Type 0} (content : D → Option (List ℕ)) (images : D → List ℕ → Type 0) (may : C → ℕ → Bool) where
  -- no more is shown than is stored
  pub shown_most : (old : SideValue D C) → KeepsAll content images may old → length old.shown ≤ size old.history
  shown_most old keeps =
      let front = ap length keeps.shows in
      let short = short_take (length old.shown) (batches old.history) in
      let many = length_batches old.history in
      omega (arith, front, short, many)

  -- all that is stored was shown, or there was no memory for it
  pub shows_more : (old new : SideValue D C) (r : Result (Unit {0}) Memory) → KeepsAll content images may old → OnOk r (new ≡ record old { shown = batches old.history }) → OnErr r (new ≡ old) → ShowsMore old new
  shows_more old new (Ok done) keeps all none =
      let within = shown_most old keeps in
      let many = length_batches old.history in
      record { list = batches old.history; is = all; above = omega (arith, within, many); below = omega (arith, many); all = inl (omega (arith, many)) }
  shows_more old new (Err e) keeps all none = record { list = old.shown; is = none; above = omega arith; below = shown_most old keeps; all = inr refl }

module _ {D C : Type 0} where
  -- a side of which more is shown is as it was
  pub shown_fresh : (first : ℕ) (old mid : SideValue D C) → ShowsMore old mid → IsFreshFrom first old.history old.doubt → IsFreshFrom first mid.history mid.doubt
  shown_fresh first old mid shows fresh = subst (λ (s : SideValue D C). IsFreshFrom first s.history s.doubt) (sym shows.is) fresh

-- ---- the lock

module _ {D C : Type 0} (content : D → Option (List ℕ)) (moment : D → ℕ) (images : D → List ℕ → Type 0) (images_since : D → ℕ → List ℕ → Type 0) (faults : D → ℕ) (may : C → ℕ → Bool) where
  -- the write lines of a round are those of no entry and of no group in doubt
  pub lines_new : (first end : ℕ) (works : Works) (old : SideValue D C) → AreWithin first end works → IsFreshFrom first old.history old.doubt → AreNew (begun_by faults old (map write_of works.writes.items))
  lines_new first end works old within fresh = record {
    entries = λ i e a x at_a at_x same. (fresh a.line (lines_within first end works.writes.items i a within.writes at_a).0).entries e x at_x (sym same);
    doubted = λ i a x at_a was same. (fresh a.line (lines_within first end works.writes.items i a within.writes at_a).0).doubted x was (sym same);
  }

  -- what a count of faults is, up to where it stays
  counted : (n : ℕ) → (n ≤ min n most) ⊎ (min n most ≡ most)
  counted n = ⊎_elim
      (λ (less : n < most). inl (omega (arith, less)))
      (λ (more : most ≤ n). inr (omega (arith, more)))
      (cases_lt n most)

  -- what the lock keeps before the first write of lines that are given
  pub starts : (first : ℕ) (given : List Numbered) (old : SideValue D C) → IsFreshFrom first old.history old.doubt → old.outcomes ≡ []
      → KeepsRound (begun_at old.history (length old.shown) old.doubt (faults old.log.disk) first given) old.history (length old.shown) old.doubt (min (faults old.log.disk) most) most old.outcomes []
  starts first given old fresh none =
      let l : Begun = begun_at old.history (length old.shown) old.doubt (faults old.log.disk) first given in
      let new : AreNew l = record {
        entries = λ i e a x at_a at_x same. let number = (line_there first given i a at_a).number in (fresh a.line (omega (arith, number))).entries e x at_x (sym same);
        doubted = λ i a x at_a was same. let number = (line_there first given i a at_a).number in (fresh a.line (omega (arith, number))).doubted x was (sym same);
      } in
      subst (λ (o : List Told). KeepsRound l old.history (length old.shown) old.doubt (min (faults old.log.disk) most) most o []) (sym none) (lock_starts l (min (faults old.log.disk) most) most (counted (faults old.log.disk)) new)

  -- what stands for a side with which a round begins stands for what the lock may keep in it
  stands_first : (l : Begun) (old : SideValue D C) → KeepsAll content images may old → KeepsRound l old.history (length old.shown) old.doubt (min (faults old.log.disk) most) most old.outcomes [] → (file : List ℕ) → StandsForSide old file
      → StandsInRound (may old.clock) l file
  stands_first l old keeps lock file stands = record {
    history = old.history;
    shown = length old.shown;
    doubt = old.doubt;
    faults = min (faults old.log.disk) most;
    outcomes = old.outcomes;
    new = [];
    keeps = keeps.history;
    lock = lock;
    within = shown_most content images may old keeps;
    stands = stands;
  }

  -- nobody worked
  pub joins_none : (first end : ℕ) (works : Works) (old : SideValue D C) → KeepsNow content moment images images_since may old → AreWithin first end works → IsFreshFrom first old.history old.doubt → old.outcomes ≡ []
      → Joins content moment images images_since faults may works old old
  joins_none first end works old keeps within fresh none =
      let l : Begun = begun_by faults old (map write_of works.writes.items) in
      let count = min (faults old.log.disk) most in
      let lock : KeepsRound l old.history (length old.shown) old.doubt count most old.outcomes [] =
      subst (λ (o : List Told). KeepsRound l old.history (length old.shown) old.doubt count most o []) (sym none) (lock_starts l count most (counted (faults old.log.disk)) (lines_new first end works old within fresh)) in
      let grows : GrowsTold old.history old.doubt [] old.history old.doubt old.outcomes =
      subst (λ (o : List Told). GrowsTold old.history old.doubt [] old.history old.doubt o) (sym none) (grows_none old.history old.doubt []) in
      let front = between_last old.history old.doubt [] old.history old.doubt old.outcomes grows in
      record {
        keeps = keeps;
        locked = record {
          table = refl;
          clock = refl;
          told = refl;
          moments = λ tells. record {
            later = omega arith;
            now = λ c now. stands_first l old keeps.keeps lock c (keeps.keeps.holds c (tells, now));
            each = λ c since. stands_first l old keeps.keeps lock c (keeps.keeps.holds c (tells, keeps.only c since));
          };
          grows = grows;
          fronts = λ tells. record {
            later = omega arith;
            now = λ c now. front c (keeps.keeps.holds c (tells, now));
            each = λ c since. front c (keeps.keeps.holds c (tells, keeps.only c since));
          };
          later = omega arith;
          entries = [];
          lock = lock;
        };
        whole = inr refl;
      }

  -- and for lines that were given: what the lock keeps
  pub record LockedFor (first : ℕ) (given : List Numbered) (old joined : SideValue D C) : Type 0 where
    pub entries : List Entry
    pub lock : KeepsRound (begun_at old.history (length old.shown) old.doubt (faults old.log.disk) first given) joined.history (length joined.shown) joined.doubt (min (faults joined.log.disk) most) most joined.outcomes entries

  pub locked_for : (first : ℕ) (given : List Numbered) (works : Works) (old joined : SideValue D C) → AreRead first given works → IsFreshFrom first old.history old.doubt → old.outcomes ≡ [] → Joins content moment images images_since faults may works old joined → LockedFor first given old joined
  locked_for first given works old joined read fresh none joins = ⊎_elim
      (λ whole. record {
        entries = joins.locked.entries;
        lock = subst (λ (ls : List side.WriteLine). KeepsRound (record { history = old.history; shown = length old.shown; doubt = old.doubt; faults = faults old.log.disk; lines = ls }) joined.history (length joined.shown) joined.doubt (min (faults joined.log.disk) most) most joined.outcomes joins.locked.entries)
            (read.whole whole) joins.locked.lock;
      })
      (λ same. subst (λ (s : SideValue D C). LockedFor first given old s) (sym same) (record {
        entries = [];
        lock = starts first given old fresh none;
      }))
      joins.whole

  -- all that a stop left since the round began stands for what the lock may keep in a round of these lines
  pub stands_for : (first : ℕ) (given : List Numbered) (works : Works) (old joined : SideValue D C) → AreRead first given works → IsFreshFrom first old.history old.doubt → old.outcomes ≡ [] → Joins content moment images images_since faults may works old joined
      → Tells (content old.log.disk) → (file : List ℕ) → images_since joined.log.disk (moment old.log.disk) file → StandsInRound (may old.clock) (begun_at old.history (length old.shown) old.doubt (faults old.log.disk) first given) file
  stands_for first given works old joined read fresh none joins tells file since = ⊎_elim
      (λ whole. subst (λ (ls : List side.WriteLine). StandsInRound (may old.clock) (record { history = old.history; shown = length old.shown; doubt = old.doubt; faults = faults old.log.disk; lines = ls }) file)
      (read.whole whole) ((joins.locked.moments tells).each file since))
      (λ same.
      let here : images_since old.log.disk (moment old.log.disk) file = subst (λ (s : SideValue D C). images_since s.log.disk (moment old.log.disk) file) same since in
      stands_first (begun_at old.history (length old.shown) old.doubt (faults old.log.disk) first given) old joins.keeps.keeps (starts first given old fresh none) file (joins.keeps.keeps.holds file (tells, joins.keeps.only file here)))
      joins.whole

  -- a write line of which nothing is kept is that of no entry and of no group in doubt
  pub left_are_fresh : (works : Works) (old joined : SideValue D C) → Joins content moment images images_since faults may works old joined → LeftAreFresh (map write_of works.writes.items) joined.history joined.doubt joined.outcomes
  left_are_fresh works old joined joins =
      lock_left_fresh (begun_by faults old (map write_of works.writes.items)) joined.history (length joined.shown) joined.doubt (min (faults joined.log.disk) most) most joined.outcomes joins.locked.entries joins.locked.lock

-- the writes were run: the workers were joined, and the caller wrote what was left
module _ {D C : Type 0} (content : D → Option (List ℕ)) (moment : D → ℕ) (images : D → List ℕ → Type 0) (images_since : D → ℕ → List ℕ → Type 0) (faults : D → ℕ) (may : C → ℕ → Bool) where
  pub writes_run : (works : Works) (old joined new : SideValue D C) (ws : List WriteLine) → ws ≡ works.writes.items → Joins content moment images images_since faults may works old joined → KeepsAll content images may joined
      → WritesLeft content moment images images_since faults may joined new (map write_of ws) → RunsWrites content moment images images_since faults may works old new
  writes_run works old joined new ws are joins keeps left = record {
    joined = joined;
    joins = joins;
    history = keeps.history;
    most = shown_most content images may joined keeps;
    left = subst (λ (xs : List WriteLine). WritesLeft content moment images images_since faults may joined new (map write_of xs)) are left;
  }
