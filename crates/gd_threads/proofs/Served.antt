-- The lines of a round were answered: what that comes to for a run that is served.
use Rattle.std.proofs.Common.{◌≡◌, refl, ℕ, zero, suc, ◌+◌, ◌≤◌, ◌⊎◌, inl, inr, ⊎_elim, min, Bool, IsTrue, List, [], ◌∷◌, length, map, Option, None, sym, subst, ap, ◌∙◌, arith}
use Rattle.std.specs.List.{AllByRecursion}
use Rattle.gd_prim.specs.declared.Batch.{Batch}
use Rattle.gd_input.specs.declared.line.RoundLine.{RoundLine}
use Rattle.gd_input.specs.Rounds.{AreKept, in_round}
use Rattle.gd_runs.specs.Legal.{History, size}
use Rattle.gd_runs.specs.Explained.{Numbered}
use Rattle.gd_runs.specs.Core.{State, Session}
use Rattle.gd_runs.specs.Side as side
use Rattle.gd_runs.specs.Side.{KeepsRound}
use Rattle.gd_runs.proofs.Rounds.{no_some, some_same}
use Rattle.gd_core_laws.specs.Round.{begun_at, write_lines}
use Rattle.gd_core_laws.specs.Writes.{CallerWrites}
use Rattle.gd_core_laws.proofs.Prefix.{callers_pass}
use Rattle.gd_crew.specs.PassedOn.{Tells, SideValue, state_of, KeepingValue, CountsLines}
use Rattle.gd_crew.specs.Round.{most, LeavesSince}
use Rattle.gd_round_lines.specs.declared.work.Works.{Works}
use Rattle.gd_caller.specs.Served.{AreOf}
use Rattle.gd_round_lines.specs.Fresh.{IsFreshFrom}
use Rattle.gd_round_lines.specs.Works.{texts_of, write_of, AreRead, AreWithin}
use Rattle.gd_caller.specs.Writes.{RoseBy, faults_kept, StandsWritten}
use Rattle.gd_round_lines.specs.Some.{IsSomeOf}
use Rattle.gd_caller.specs.Joined.{IsOfWrites, AnswersJoined}
use Rattle.gd_caller.proofs.JoinedLines.{lock_rose}
use Rattle.gd_round_lines.proofs.Some.{some_all}
use Rattle.gd_caller.proofs.JoinedRounds.{outcomes_of_writes, round_fresh, round_rose, round_joined}
use Rattle.gd_crew.specs.Joined.{begun_by}
use Rattle.gd_threads.specs.Served.{RoundsValue}
use Rattle.gd_threads.specs.Rounds.{Serves, StandsForRound, StandsForRoundFront, AnswersRound}
use Rattle.gd_threads.specs.Working.{ShowsMore, RunsWrites}
use Rattle.gd_threads.proofs.Fronts.{at_line, fronts_run, round_front}
use Rattle.gd_threads.proofs.Loaded.{callers_loaded}
use Rattle.gd_threads.proofs.Sides.{locked_for, stands_for}
use Rattle.gd_threads.proofs.Stopped.{stopped}

-- the bytes of lines of a round
pub texts_in : (round : ℕ) (texts : List (List ℕ)) → texts_of (in_round round texts) ≡ texts
texts_in round [] = refl
texts_in round (x ∷ xs) = ap (λ (ys : List (List ℕ)). x ∷ ys) (texts_in round xs)

-- lines of a round are of that round
pub all_of : (round : ℕ) (texts : List (List ℕ)) → AreOf round (in_round round texts)
all_of round [] j l at = no_some at
all_of round (x ∷ xs) zero l at = ap (λ (n : Numbered). n.round) (sym (some_same at))
all_of round (x ∷ xs) (suc j) l at = all_of round xs j l at

-- no session
abbrev pub no_sessions : ℕ → Session
no_sessions i = record { seen = 0; reading = None }

-- ---- behind the writes

module _ {D C : Type 0} (content : D → Option (List ℕ)) (moment : D → ℕ) (images : D → List ℕ → Type 0) (images_since : D → ℕ → List ℕ → Type 0) (faults : D → ℕ) (may : C → ℕ → Bool)
    (first end : ℕ) (works : Works) (within : AreWithin first end works) (mid late : SideValue D C) (runs : RunsWrites content moment images images_since faults may works mid late) where
  abbrev written : List side.WriteLine
  written = map write_of works.writes.items

  -- what is kept is of the writes
  pub kept_of_writes : AllByRecursion (IsOfWrites works.writes.items) late.outcomes
  kept_of_writes = outcomes_of_writes (may runs.joined.clock) works.writes.items (state_of runs.joined no_sessions) (state_of late no_sessions) runs.joined.outcomes late.outcomes (runs.left.writes no_sessions)
      (λ j t at. let (x, a, at_a, line, is) = runs.joins.locked.lock.outcomes_of j t at in (x, a, at_a, line))

  -- no entry and no group in doubt is of a line behind the round
  pub fresh_behind : IsFreshFrom first mid.history mid.doubt → IsFreshFrom end late.history late.doubt
  fresh_behind fresh = round_fresh (may runs.joined.clock) (begun_by faults mid written) (state_of runs.joined no_sessions) (min (faults runs.joined.log.disk) most) most runs.joined.outcomes runs.joins.locked.entries first end works
      (state_of late no_sessions) late.outcomes runs.joins.locked.lock (runs.left.writes no_sessions) kept_of_writes within fresh

  -- the batches that were loaded stay
  pub loaded_stay : late.history.loaded ≡ mid.history.loaded
  loaded_stay = callers_loaded (may runs.joined.clock) written (state_of runs.joined no_sessions) (state_of late no_sessions) runs.joined.outcomes late.outcomes (runs.left.writes no_sessions)
      ∙ ap (λ (h : History). h.loaded) runs.joins.locked.lock.grown

  -- the disk's count rose by what is kept
  pub count_rose : RoseBy (faults mid.log.disk) (faults late.log.disk) (faults_kept late.outcomes)
  count_rose = runs.left.rose (faults mid.log.disk) (lock_rose (faults mid.log.disk) (faults_kept runs.joined.outcomes) most (min (faults runs.joined.log.disk) most) (faults runs.joined.log.disk) refl runs.joins.locked.lock.failed (omega arith))

-- ---- the round

module _ {D C : Type 0} (content : D → Option (List ℕ)) (moment : D → ℕ) (images : D → List ℕ → Type 0) (images_since : D → ℕ → List ℕ → Type 0) (faults : D → ℕ) (may : C → ℕ → Bool)
    (first : ℕ) (lines : List RoundLine) (works : Works) (within : AreWithin first (first + length lines) works) (reads : (given : List Numbered) → AreKept lines (texts_of given) → AreRead first given works)
    (some_given : List Numbered) (some_kept : AreKept lines (texts_of some_given)) (begun : ℕ) (replies : List (List ℕ))
    (had has : KeepingValue) (counted : (texts : List (List ℕ)) → AreKept lines texts → CountsLines first texts replies had has) where
  abbrev Runs : SideValue D C → SideValue D C → Type 0
  Runs mid late = RunsWrites content moment images images_since faults may works mid late

  abbrev written_lines : List side.WriteLine
  written_lines = map write_of works.writes.items

  abbrev after : SideValue D C → RoundsValue D C
  after late = record { side = record late { outcomes = [] }; lines = first + length lines; keeping = has }

  read_in : (round : ℕ) (texts : List (List ℕ)) → AreKept lines texts → AreRead first (in_round round texts) works
  read_in round texts kept = reads (in_round round texts) (subst (AreKept lines) (sym (texts_in round texts)) kept)

  -- over the side as it was, of which more is shown
  abbrev over : SideValue D C → List Batch → SideValue D C
  over old list = record old { shown = list }

  round_is_served : (old : SideValue D C) (list : List Batch) (late : SideValue D C) → old.outcomes ≡ [] → IsFreshFrom first old.history old.doubt → length old.shown ≤ length list → length list ≤ size old.history → (length list ≡ size old.history) ⊎ (length list ≡ length old.shown) → begun ≡ length list
      → Runs (over old list) late → AnswersJoined first begun works late replies → Serves may lines (at_line old first) (after late) replies
  round_is_served old list late none fresh above below shows shown runs answers loaded before output earlier round texts len kept stands =
      let given = in_round round texts in
      let joined = runs.joined in
      let read = read_in round texts kept in
      let locked = locked_for content moment images images_since faults may first given works (over old list) joined read fresh none runs.joins in
      let may_be = runs.joins.locked.clock in
      round_joined loaded (may old.clock) before output (state_of old no_sessions) earlier round given begun (faults old.log.disk) stands (all_of round texts) (omega (arith, above, shown)) (omega (arith, below, shown))
      (⊎_elim (λ all. inl (shown ∙ all)) (λ same. inr (shown ∙ same)) shows)
      (state_of joined no_sessions) (min (faults joined.log.disk) most) most joined.outcomes locked.entries
      (subst (λ (m : ℕ → Bool). side.KeepsHistory m joined.history joined.doubt joined.outcomes) may_be runs.history)
      (subst (λ (n : ℕ). KeepsRound (begun_at old.history begun old.doubt (faults old.log.disk) n given) joined.history (length joined.shown) joined.doubt (min (faults joined.log.disk) most) most joined.outcomes locked.entries) (sym len)
      (subst (λ (n : ℕ). KeepsRound (begun_at old.history n old.doubt (faults old.log.disk) first given) joined.history (length joined.shown) joined.doubt (min (faults joined.log.disk) most) most joined.outcomes locked.entries) (sym shown) locked.lock))
      runs.most works (subst (λ (n : ℕ). AreRead n given works) (sym len) read) late no_sessions
      (subst (λ (m : ℕ → Bool). CallerWrites m (state_of joined no_sessions) joined.outcomes (map write_of works.writes.items) (state_of late no_sessions) late.outcomes) may_be (runs.left.writes no_sessions))
      (kept_of_writes content moment images images_since faults may first (first + length lines) works within (over old list) late runs)
      replies (subst (λ (n : ℕ). AnswersJoined n begun works late replies) (sym len) answers)

  -- what a stop left while the writes were run stands for a state to which the round is served
  module _ (old : SideValue D C) (list : List Batch) (late : SideValue D C) (none : old.outcomes ≡ []) (fresh : IsFreshFrom first old.history old.doubt) (above : length old.shown ≤ length list) (below : length list ≤ size old.history)
      (shows : (length list ≡ size old.history) ⊎ (length list ≡ length old.shown)) (runs : Runs (over old list) late) where
    abbrev Stands : List ℕ → Type 0
    Stands = StandsForRound may lines (at_line old first)

    -- under the lock
    by_lock : Tells (content old.log.disk) → (file : List ℕ) → images_since runs.joined.log.disk (moment old.log.disk) file → Stands file
    by_lock tells file since loaded before output earlier round texts len kept stands =
        let given = in_round round texts in
        let k = length earlier in
        let i = stands_for content moment images images_since faults may first given works (over old list) runs.joined (read_in round texts kept) fresh none runs.joins tells file since in
        let t : State = record { history = i.history; shown = i.shown; doubt = i.doubt; sessions = no_sessions } in
        let ls = write_lines k given in
        stopped loaded (may old.clock) before output (state_of old no_sessions) earlier round given (length list) (faults old.log.disk) stands (all_of round texts) above below shows
        t i.faults most i.outcomes i.new i.keeps
        (subst (λ (n : ℕ). KeepsRound (begun_at old.history (length list) old.doubt (faults old.log.disk) n given) i.history i.shown i.doubt i.faults most i.outcomes i.new) (sym len) i.lock) i.within
        ls (some_all ls) t i.outcomes (callers_pass (may old.clock) ls t i.outcomes) file i.stands

    -- in the writes that were left to the caller
    by_caller : (file : List ℕ) → StandsWritten (may runs.joined.clock) runs.joined written_lines file → Stands file
    by_caller file was loaded before output earlier round texts len kept stands =
        let given = in_round round texts in
        let joined = runs.joined in
        let read = read_in round texts kept in
        let locked = locked_for content moment images images_since faults may first given works (over old list) joined read fresh none runs.joins in
        let may_be = runs.joins.locked.clock in
        let reached = was no_sessions in
        stopped loaded (may old.clock) before output (state_of old no_sessions) earlier round given (length list) (faults old.log.disk) stands (all_of round texts) above below shows
        (state_of joined no_sessions) (min (faults joined.log.disk) most) most joined.outcomes locked.entries
        (subst (λ (m : ℕ → Bool). side.KeepsHistory m joined.history joined.doubt joined.outcomes) may_be runs.history)
        (subst (λ (n : ℕ). KeepsRound (begun_at old.history (length list) old.doubt (faults old.log.disk) n given) joined.history (length joined.shown) joined.doubt (min (faults joined.log.disk) most) most joined.outcomes locked.entries) (sym len) locked.lock)
        runs.most written_lines (subst (λ (n : ℕ). IsSomeOf written_lines (write_lines n given)) (sym len) read.writes) reached.reached reached.outs
        (subst (λ (m : ℕ → Bool). CallerWrites m (state_of joined no_sessions) joined.outcomes written_lines reached.reached reached.outs) may_be reached.writes) file reached.stands

    left_in_round : Tells (content old.log.disk) → LeavesSince moment images images_since (moment old.log.disk) late.log.disk Stands
    left_in_round tells =
        let locked = runs.joins.locked.moments tells in
        let left = runs.left.moments (subst (λ (b : Bool). IsTrue b) (sym runs.joins.locked.told) tells) in
        let first_later = locked.later in
        let then_later = left.later in
        record {
          later = omega (arith, first_later, then_later);
          now = λ c now. by_caller c (left.now c now);
          each = λ c since. ⊎_elim (by_lock tells c) (by_caller c) (left.before (moment old.log.disk) c first_later since);
        }

  -- and for a front of the history with which the round ends
  front_in_round : (old : SideValue D C) (list : List Batch) (late : SideValue D C) → Runs (over old list) late → AnswersJoined first begun works late replies → Tells (content old.log.disk)
      → LeavesSince moment images images_since (moment old.log.disk) late.log.disk (StandsForRoundFront (at_line old first) (after late) replies)
  front_in_round old list late runs answers tells =
      let left = fronts_run content moment images images_since faults may works (over old list) late runs tells in
      let of = kept_of_writes content moment images images_since faults may first (first + length lines) works within (over old list) late runs in
      let front = round_front first begun lines works within replies late of answers old (after late) refl in
      record { later = left.later; now = λ c now. front c (left.now c now); each = λ c since. front c (left.each c since) }

  -- LAW: the lines of a round that were read and answered
  answered_over : (old : SideValue D C) (list : List Batch) (late : SideValue D C) → old.outcomes ≡ [] → IsFreshFrom first old.history old.doubt → length old.shown ≤ length list → length list ≤ size old.history → (length list ≡ size old.history) ⊎ (length list ≡ length old.shown) → begun ≡ length list
      → Runs (over old list) late → AnswersJoined first begun works late replies → AnswersRound content moment images images_since faults may lines (record { side = old; lines = first; keeping = had }) (after late) replies
  answered_over old list late none fresh above below shows shown runs answers =
      let mid = over old list in
      let had = within.replies in
      let many = answers.many in
      let later = runs.joins.locked.later in
      let left_later = runs.left.later in
      record {
        served = round_is_served old list late none fresh above below shows shown runs answers;
        many = omega (arith, many, had);
        next = refl;
        loaded = loaded_stay content moment images images_since faults may first (first + length lines) works within mid late runs;
        told = runs.left.told ∙ runs.joins.locked.told;
        moments = left_in_round old list late none fresh above below shows runs;
        fronts = λ tells. front_in_round old list late runs answers tells;
        clock = runs.left.clock ∙ runs.joins.locked.clock;
        later = omega (arith, later, left_later);
        rose = round_rose first begun some_given works (reads some_given some_kept) late replies answers (faults old.log.disk) (faults late.log.disk)
            (count_rose content moment images images_since faults may first (first + length lines) works within mid late runs);
        counted = counted;
      }

  pub answered : (old mid late new : SideValue D C) → old.outcomes ≡ [] → IsFreshFrom first old.history old.doubt → ShowsMore old mid → begun ≡ length mid.shown → Runs mid late → AnswersJoined first begun works late replies
      → new ≡ record late { outcomes = [] } → AnswersRound content moment images images_since faults may lines (record { side = old; lines = first; keeping = had }) (record { side = new; lines = first + length lines; keeping = has }) replies
  answered old mid late new none fresh shows shown runs answers is =
      subst (λ (s : SideValue D C). AnswersRound content moment images images_since faults may lines (record { side = old; lines = first; keeping = had }) (record { side = s; lines = first + length lines; keeping = has }) replies) (sym is)
      (answered_over old shows.list late none fresh shows.above shows.below shows.all (shown ∙ ap (λ (s : SideValue D C). length s.shown) shows.is) (subst (λ (s : SideValue D C). Runs s late) shows.is runs) answers)
