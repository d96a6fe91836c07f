-- What a stop left in a round that was answered stands for fronts of the history with which it ends.
use Rattle.std.proofs.Common.{◌≡◌, refl, ℕ, ◌+◌, ◌-◌, inl, inr, ⊎_elim, Bool, IsTrue, List, [], ◌∷◌, length, codes, Option, None, Some, slice_get, sym, subst, ap, ◌∙◌, arith}
use Rattle.std.specs.List.{AllByRecursion}
use Rattle.gd_prim.specs.declared.Batch.{Batch}
use Rattle.gd_input.specs.declared.line.RoundLine.{RoundLine}
use Rattle.gd_runs.specs.Legal.{batches}
use Rattle.gd_runs.specs.Explained.{disk_line}
use Rattle.gd_runs.specs.Side.{kept_doubt}
use Rattle.gd_core_laws.specs.Bounds.{kept_of}
use Rattle.gd_core_laws.specs.Fronts.{StandsForFront, MayCount, StandsBetween, GrowsTold}
use Rattle.gd_core_laws.proofs.Fronts.{begins_itself, front_more, front_whole, between_more, between_before}
use Rattle.gd_crew.specs.PassedOn.{Tells, SideValue, KeepsAll}
use Rattle.gd_crew.specs.Round.{LeavesSince}
use Rattle.gd_round_lines.specs.declared.work.Works.{Works}
use Rattle.gd_round_lines.specs.Works.{AreWithin, IsWriteWithin}
use Rattle.gd_round_lines.proofs.Read.{all_at}
use Rattle.gd_round_lines.proofs.Sets.{there}
use Rattle.gd_caller.specs.Told.{reply_or}
use Rattle.gd_caller.specs.Joined.{IsOfWrites, AnswersJoined, JoinedReply, by_kept, by_caller, by_worker}
use Rattle.gd_caller.proofs.Came.{kept_from}
use Rattle.gd_threads.specs.Served.{RoundsValue}
use Rattle.gd_threads.specs.Rounds.{MayCountInRound, StandsForRoundFront}
use Rattle.gd_threads.specs.Working.{KeepsNow, RunsWrites}

-- a side at the number of a line, whatever sessions keep
abbrev pub at_line : {D C : Type 0} → SideValue D C → ℕ → RoundsValue D C
at_line side line = record { side = side; lines = line; keeping = record { caches = []; reads = 0 } }

module _ {D C : Type 0} (first begun : ℕ) (lines : List RoundLine) (works : Works) (within : AreWithin first (first + length lines) works) (replies : List (List ℕ)) (late : SideValue D C)
    (of : AllByRecursion (IsOfWrites works.writes.items) late.outcomes) (answers : AnswersJoined first begun works late replies) where
  -- the reply to a line of which it is kept that it is in doubt says so
  told_in_doubt : (k n : ℕ) → kept_of late.outcomes k ≡ Some (kept_doubt n) → (j : ℕ) × (k ≡ first + j) × (slice_get replies j ≡ Some (disk_line k (codes "maybe")))
  told_in_doubt k n kept =
      let (i, t, at, line, same) = kept_from late.outcomes k (kept_doubt n) kept in
      let (x, w, at_w, w_line) = all_at (IsOfWrites works.writes.items) late.outcomes i t of at in
      let (low, high, few) = all_at (IsWriteWithin first (first + length lines)) works.writes.items x w within.writes at_w in
      let j = k - first in
      let place : k ≡ first + j = omega (arith, low, w_line, line) in
      let had = within.replies in
      let many = answers.many in
      let (reply, at_reply) = there replies j (omega (arith, place, high, w_line, line, had, many)) in
      let (was, at_was, joined) = answers.each j reply at_reply in
      (j, place, at_reply ∙ ap (λ (y : List ℕ). Some y) (by x w at_w (w_line ∙ line) j place was reply joined))
    where
      by : (x : ℕ) (w : _) → slice_get works.writes.items x ≡ Some w → w.line ≡ k → (j : ℕ) → k ≡ first + j → (was reply : List ℕ)
          → JoinedReply first begun works.reads.items works.writes.items (batches late.history) (length late.shown) late.outcomes answers.tells j (reply_or (first + j) was (kept_of late.outcomes (first + j))) reply → reply ≡ disk_line k (codes "maybe")
      by x w at_w line j place was reply (by_kept is stored) =
          is ∙ subst (λ (m : ℕ). reply_or m was (kept_of late.outcomes m) ≡ disk_line k (codes "maybe")) place (ap (reply_or k was) kept)
      by x w at_w line j place was reply (by_caller y r at_r r_line is most) = absurd (within.apart y x r w at_r at_w (r_line ∙ sym place ∙ sym line))
      by x w at_w line j place was reply (by_worker v is reply_is most above later before) = absurd (within.apart is.place x is.read w is.there at_w (is.line ∙ sym place ∙ sym line))

  may_count : (old : SideValue D C) (n : ℕ) (b : Batch) → MayCount old.history old.doubt late.outcomes n b → MayCountInRound (at_line old first) replies n b
  may_count old n b (e, is, why) = (e, is, ⊎_elim (λ before. inl before) (λ kept. inr (told_in_doubt e.line n kept)) why)

  -- a front behind the writes is one behind the round
  pub round_front : (old : SideValue D C) (new : RoundsValue D C) → new.side.history ≡ late.history → (file : List ℕ) → StandsBetween old.history old.doubt late.history late.outcomes file → StandsForRoundFront (at_line old first) new replies file
  round_front old new same file front =
      subst (λ (h : _). StandsForFront (batches old.history) (batches h) (MayCountInRound (at_line old first) replies) file) (sym same)
      (front_more (batches old.history) (MayCount old.history old.doubt late.outcomes) (MayCountInRound (at_line old first) replies) (batches late.history) (batches late.history) file (may_count old) (begins_itself (batches late.history)) front)

module _ {D C : Type 0} (content : D → Option (List ℕ)) (moment : D → ℕ) (images : D → List ℕ → Type 0) (images_since : D → ℕ → List ℕ → Type 0) (faults : D → ℕ) (may : C → ℕ → Bool) where
  -- what a stop left while the writes of a round were run
  pub fronts_run : (works : Works) (old late : SideValue D C) (runs : RunsWrites content moment images images_since faults may works old late) → Tells (content old.log.disk)
      → LeavesSince moment images images_since (moment old.log.disk) late.log.disk (StandsBetween old.history old.doubt late.history late.outcomes)
  fronts_run works old late runs tells =
      let joined = runs.joined in
      let first = runs.joins.locked.grows in
      let second = runs.left.grows in
      let locked = runs.joins.locked.fronts tells in
      let left = runs.left.fronts (subst (λ (b : Bool). IsTrue b) (sym runs.joins.locked.told) tells) in
      let first_later = locked.later in
      let then_later = left.later in
      let more = between_more old.history old.doubt [] joined.history joined.doubt joined.outcomes first late.history late.doubt late.outcomes second in
      let before = between_before old.history old.doubt [] joined.history joined.doubt joined.outcomes first late.history late.doubt late.outcomes second in
      record {
        later = omega (arith, first_later, then_later);
        now = λ c now. before c (left.now c now);
        each = λ c since. ⊎_elim (λ was. more c (locked.each c was)) (before c) (left.before (moment old.log.disk) c first_later since);
      }

  -- and where nothing was done
  pub fronts_none : (first n : ℕ) (old : SideValue D C) (replies : List (List ℕ)) → KeepsNow content moment images images_since may old → Tells (content old.log.disk)
      → LeavesSince moment images images_since (moment old.log.disk) old.log.disk (StandsForRoundFront (at_line old first) (at_line old n) replies)
  fronts_none first n old replies keeps tells =
      let whole = λ (c : List ℕ) (now : images old.log.disk c).
      front_whole (batches old.history) old.history old.doubt (MayCountInRound (at_line old first) replies) c (begins_itself (batches old.history)) (λ e is. (e, refl, inl (is, refl))) (keeps.keeps.holds c (tells, now)) in
      record {
        later = omega arith;
        now = whole;
        each = λ c since. whole c (keeps.only c since);
      }
