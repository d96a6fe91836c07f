-- What the lock of a round keeps: when it begins, and after a write.
use Rattle.std.proofs.Common.{◌≡◌, refl, ℕ, ◌+◌, ◌≤◌, ◌<◌, ◌⊎◌, inl, inr, ⊎_elim, Bool, true, false, IsTrue, cond, List, [], length, take, nat_lt, ltb-true, Option, Some, None, slice_get, sym, subst, ap, ◌∙◌, arith}
use Rattle.std.specs.Prelude.{IfSome, min}
use Rattle.std.specs.Option.{is_some}
use Rattle.std.proofs.Math.Nat.{min-eq_left, min-eq_right, min-le_left, min-le_right}
use Rattle.std.proofs.lemmas.Bool.{ltb-false}
use Rattle.std.proofs.lemmas.List.{length-take}
use Rattle.gd_base.specs.Counts.{Rose}
use Rattle.gd_bytes.specs.Disk.{LeavesOnly}
use Rattle.gd_prim.specs.declared.Batch.{Batch}
use Rattle.gd_defs.specs.Write.{WriteRequest}
use Rattle.gd_runs.specs.Legal.{Entry, History, batches, size}
use Rattle.gd_runs.specs.Explained.{entry_at}
use Rattle.gd_runs.specs.Side.{Kept, Told, WriteLine, Begun, is_fault, session_lines, IsLeft, IsFresh, KeepsHistory, KeepsRound}
use Rattle.gd_runs.proofs.Rounds.{entry_cases, length_batches}
use Rattle.gd_core_laws.specs.Fronts.{StandsBetween, GrowsTold}
use Rattle.gd_core_laws.specs.Lock.{HasOutcome, FaultsMore}
use Rattle.gd_core_laws.specs.Writes.{AreNew}
use Rattle.gd_core_laws.proofs.Fronts.{grows_none, grows_then, between_last, between_more}
use Rattle.gd_core_laws.proofs.Laws.{locked_writes_keep}
use Rattle.gd_core_laws.proofs.LockRun.{lock_starts}
use Rattle.gd_shared.specs.History.{FrontValue}
use Rattle.gd_writer.specs.Parts.{Tells}
use Rattle.gd_writer.specs.Side.{SideValue, state_of, Writes, KeepsAll, StandsForSide, StandsForEither, GoesOn}
use Rattle.gd_writer.proofs.Fronts.{side_grows}
use Rattle.gd_writer.proofs.Told.{no_sessions}
use Rattle.gd_crew.specs.Round.{Named, begun, most, StandsInRound, LeavesSince, BeginsRound, IsLocked, IsOfRound, IsToldLocked}

-- ---- the disk's count

-- a number is at its most, or below it
counts : (n : ℕ) → (min n most ≡ most) ⊎ ((n < most) × (min n most ≡ n))
counts n = by (nat_lt n most) refl
  where
    by : (t : Bool) → nat_lt n most ≡ t → (min n most ≡ most) ⊎ ((n < most) × (min n most ≡ n))
    by true is = let less = ltb-true n most is in inr (less, min-eq_left (omega (arith, less)))
    by false is = let more = ltb-false n most is in inl (min-eq_right (omega (arith, more)))

-- it rises in a write that tells a fault, and does not fall
faults_rise : (before now : ℕ) → Rose before now → (min before most + 1 ≤ min now most) ⊎ (min now most ≡ most)
faults_rise before now rose =
    ⊎_elim (λ full. inr full)
    (λ (less, is). inl (rw is (let low = min-le_left before most in
    ⊎_elim (λ (full : min (before + 1) most ≡ most). absurd (omega (arith, full, rose, less))) (λ (below, same). omega (arith, low, same, rose)) (counts (before + 1)))))
    (counts now)

faults_stay : (before now : ℕ) → before ≤ now → min before most ≤ min now most
faults_stay before now later =
    ⊎_elim (λ full. let high = min-le_right before most in omega (arith, full, high)) (λ (less, is). let low = min-le_left before most in omega (arith, is, low, later)) (counts now)

faults_more : (kept : Kept) (before now : ℕ) → before ≤ now → (is_fault kept ≡ true → Rose before now) → FaultsMore kept (min before most) (min now most) most
faults_more kept before now later rose = record {
  rises = by (is_fault kept) refl;
  stays = λ full. let stay = faults_stay before now later in let high = min-le_right now most in omega (arith, full, stay, high);
}
  where
    by : (t : Bool) → is_fault kept ≡ t → (min before most + cond t 1 0 ≤ min now most) ⊎ (min now most ≡ most)
    by true is = faults_rise before now (rose is)
    by false is = let stay = faults_stay before now later in inl (omega (arith, stay))

-- ---- when a round begins

first_lock : (l : Named) → AreNew (begun l) → KeepsRound (begun l) l.history l.shown l.doubt (min l.faults most) most [] []
first_lock l fresh = lock_starts (begun l) (min l.faults most) most (⊎_elim (λ full. inr full) (λ (less, is). inl (omega (arith, is))) (counts l.faults)) fresh

-- no more is shown than there is
shows_within : (h : History) (shown : List Batch) → shown ≡ take (length shown) (batches h) → length shown ≤ size h
shows_within h shown is =
    let long = ap length is ∙ length-take (length shown) (batches h) in let high = min-le_right (length shown) (length (batches h)) in let count = length_batches h in omega (arith, long, high, count)

-- what stands for a side stands for what the lock may keep, if the side goes with what is kept
stands_in : {D C : Type 0} (may : ℕ → Bool) (l : Begun) (faults : ℕ) (side : SideValue D C) (new : List Entry) → KeepsHistory may side.history side.doubt side.outcomes → length side.shown ≤ size side.history
    → KeepsRound l side.history (length side.shown) side.doubt faults most side.outcomes new → (file : List ℕ) → StandsForSide side file → StandsInRound may l file
stands_in may l faults side new keeps within lock file stands = record {
  history = side.history;
  shown = length side.shown;
  doubt = side.doubt;
  faults = faults;
  outcomes = side.outcomes;
  new = new;
  keeps = keeps;
  lock = lock;
  within = within;
  stands = stands;
}

module _ {D C : Type 0} (content : D → Option (List ℕ)) (moment : D → ℕ) (images : D → List ℕ → Type 0) (images_since : D → ℕ → List ℕ → Type 0) (faults : D → ℕ) (may : C → ℕ → Bool) (l : Named) where
  pub begins : ((d : D) (c : List ℕ) → images_since d (moment d) c → images d c) → (side : SideValue D C) → KeepsAll content images may side → BeginsRound content moment faults may l side → IsLocked content moment images images_since faults may l side
  begins only side keeps b =
      let count = min (faults side.log.disk) most in
      let lock : KeepsRound (begun l) side.history (length side.shown) side.doubt count most side.outcomes [] =
      subst (λ (h : History). KeepsRound (begun l) h (length side.shown) side.doubt count most side.outcomes []) (sym b.history)
      (subst (λ (n : ℕ). KeepsRound (begun l) l.history n side.doubt count most side.outcomes []) (sym b.shown)
      (subst (λ (d : Option Entry). KeepsRound (begun l) l.history l.shown d count most side.outcomes []) (sym b.doubt)
      (subst (λ (n : ℕ). KeepsRound (begun l) l.history l.shown l.doubt (min n most) most side.outcomes []) (sym b.count)
      (subst (λ (ts : List Told). KeepsRound (begun l) l.history l.shown l.doubt (min l.faults most) most ts []) (sym b.outcomes) (first_lock l b.fresh))))) in
      let grows : GrowsTold l.history l.doubt [] side.history side.doubt side.outcomes =
      subst (λ (h : History). GrowsTold l.history l.doubt [] h side.doubt side.outcomes) (sym b.history)
      (subst (λ (d : Option Entry). GrowsTold l.history l.doubt [] l.history d side.outcomes) (sym b.doubt)
      (subst (λ (ts : List Told). GrowsTold l.history l.doubt [] l.history l.doubt ts) (sym b.outcomes) (grows_none l.history l.doubt []))) in
      let front = between_last l.history l.doubt [] side.history side.doubt side.outcomes grows in
      let stands = stands_in l.may (begun l) count side [] (subst (λ (m : ℕ → Bool). KeepsHistory m side.history side.doubt side.outcomes) b.clock keeps.history) (shows_within side.history side.shown keeps.shows) lock in
      record {
        table = b.table;
        clock = b.clock;
        told = b.told;
        moments = λ tells. record {
          later = (let at = b.moment_is in omega (arith, at));
          now = λ c now. stands c (keeps.holds c (tells, now));
          each = λ c since. stands c (keeps.holds c (tells, only side.log.disk c (subst (λ (t : ℕ). images_since side.log.disk t c) (sym b.moment_is) since)));
        };
        grows = grows;
        fronts = λ tells. record {
          later = (let at = b.moment_is in omega (arith, at));
          now = λ c now. front c (keeps.holds c (tells, now));
          each = λ c since. front c (keeps.holds c (tells, only side.log.disk c (subst (λ (t : ℕ). images_since side.log.disk t c) (sym b.moment_is) since)));
        };
        later = (let count = b.count in omega (arith, count));
        new = [];
        lock = lock;
      }

-- ---- a write

module _ {D C : Type 0} (content : D → Option (List ℕ)) (moment : D → ℕ) (images : D → List ℕ → Type 0) (images_since : D → ℕ → List ℕ → Type 0) (faults : D → ℕ) (may : C → ℕ → Bool) (l : Named) (side : SideValue D C) (locked : IsLocked content moment images images_since faults may l side)
    (line bytes : ℕ) (before : Option ℕ) (request : WriteRequest) (of_round : IsOfRound (begun l) line before request bytes) (left : IsLeft side.outcomes line) where
  -- the line is that of no entry, and of no group in doubt
  pub is_fresh : IsFresh side.history side.doubt line
  is_fresh = record {
    entries = λ e x at is. ⊎_elim
        (λ old. locked.lock.fresh of_round.place e its_line x of_round.there old (sym is))
        (λ (i, place, there). ⊎_elim
        (λ (zero_is, was). locked.lock.fresh_doubt of_round.place its_line x of_round.there was (sym is))
        (λ (i', b, at_b, line_is, request_is, len, (j, t, out, told, stands)). left j t out (told ∙ is))
        (locked.lock.entries i x there))
        (entry_cases l.history locked.new e x (subst (λ (h : History). entry_at h e ≡ Some x) locked.lock.grown at));
    doubted = λ x doubt is. ⊎_elim
        (λ was. locked.lock.fresh_doubt of_round.place its_line x of_round.there was (sym is))
        (λ (i', b, at_b, line_is, request_is, len, (j, t, out, told, stands)). left j t out (told ∙ is))
        (locked.lock.in_doubt x doubt);
  }
    where
      its_line : WriteLine
      its_line = record { line = line; session = of_round.session; request = request; bytes = bytes }

  -- the line before it of its session has an outcome
  comes_next : IfSome before (λ m. HasOutcome side.outcomes m) → (q m : ℕ) → slice_get (session_lines (begun l) of_round.session) (q + 1) ≡ Some line → slice_get (session_lines (begun l) of_round.session) q ≡ Some m
      → HasOutcome side.outcomes m
  comes_next has q m at at_m = subst (λ (o : Option ℕ). IfSome o (λ n. HasOutcome side.outcomes n)) (of_round.before_is.later q at ∙ at_m) has

  -- what a stop leaves in a write stands for what the lock may keep, if what it left before does, and the side goes with what is kept before and after
  in_write : (new : SideValue D C) → is_some (content new.log.disk) ≡ is_some (content side.log.disk) → (Tells (content side.log.disk) → LeavesOnly moment images images_since side.log.disk new.log.disk (StandsForEither side new))
      → ((c : List ℕ) → StandsForSide side c → StandsInRound l.may (begun l) c) → ((c : List ℕ) → StandsForSide new c → StandsInRound l.may (begun l) c)
      → Tells (content new.log.disk) → LeavesSince moment images images_since l.moment new.log.disk (StandsInRound l.may (begun l))
  in_write new told leaves before after tells =
      let had : Tells (content side.log.disk) = subst (λ (b : Bool). IsTrue b) told tells in
      let left_before = locked.moments had in
      let left = leaves had in
      let either = λ (c : List ℕ). ⊎_elim (before c) (after c) in
      let earlier = left_before.later in
      let later = left.later in
      record {
        later = omega (arith, earlier, later);
        now = λ c now. either c (left.now c now);
        each = λ c since. ⊎_elim (left_before.each c) (either c) (left.before l.moment c earlier since);
      }

  -- and so it is with fronts of the history that the side has then
  fronts_in_write : (new : SideValue D C) → is_some (content new.log.disk) ≡ is_some (content side.log.disk) → (Tells (content side.log.disk) → LeavesOnly moment images images_since side.log.disk new.log.disk (StandsForEither side new))
      → GrowsTold side.history side.doubt side.outcomes new.history new.doubt new.outcomes → Tells (content new.log.disk) → LeavesSince moment images images_since l.moment new.log.disk (StandsBetween l.history l.doubt new.history new.outcomes)
  fronts_in_write new told leaves grows tells =
      let had : Tells (content side.log.disk) = subst (λ (b : Bool). IsTrue b) told tells in
      let left_before = locked.fronts had in
      let left = leaves had in
      let more = between_more l.history l.doubt [] side.history side.doubt side.outcomes locked.grows new.history new.doubt new.outcomes grows in
      let either = λ (c : List ℕ). ⊎_elim
      (λ before. more c (between_last l.history l.doubt [] side.history side.doubt side.outcomes locked.grows c before))
      (λ after. between_last l.history l.doubt [] new.history new.doubt new.outcomes (grows_then l.history l.doubt [] side.history side.doubt side.outcomes new.history new.doubt new.outcomes locked.grows grows) c after) in
      let earlier = left_before.later in
      let later = left.later in
      record {
        later = omega (arith, earlier, later);
        now = λ c now. either c (left.now c now);
        each = λ c since. ⊎_elim (λ was. more c (left_before.each c was)) (either c) (left.before l.moment c earlier since);
      }

  -- what the lock keeps it keeps
  pub wrote : (new : SideValue D C) → KeepsHistory (may side.clock) side.history side.doubt side.outcomes → side.shown ≡ take (length side.shown) (batches side.history) → IfSome before (λ m. HasOutcome side.outcomes m)
      → GoesOn content moment images images_since faults may side new → Writes (may side.clock) faults side line bytes request new → IsLocked content moment images images_since faults may l new
  wrote new history shows has goes writes =
      let within = shows_within side.history side.shown shows in
      let grows = side_grows (may side.clock) faults side line bytes request new left writes in
      let keeps = locked_writes_keep (may side.clock) (begun l) l.first l.given (state_of side no_sessions) (min (faults side.log.disk) most) most side.outcomes locked.new of_round.place
      (record { line = line; session = of_round.session; request = request; bytes = bytes }) writes.kept (state_of new no_sessions) (min (faults new.log.disk) most)
      refl history locked.lock within of_round.there left (comes_next has) (writes.step no_sessions) (faults_more writes.kept (faults side.log.disk) (faults new.log.disk) goes.later writes.fault) in
      let lock : KeepsRound (begun l) new.history (length new.shown) new.doubt (min (faults new.log.disk) most) most new.outcomes keeps.entries =
      subst (λ (ts : List Told). KeepsRound (begun l) new.history (length new.shown) new.doubt (min (faults new.log.disk) most) most ts keeps.entries) (sym writes.outcomes) keeps.lock in
      let new_history : KeepsHistory l.may new.history new.doubt new.outcomes =
      subst (λ (m : ℕ → Bool). KeepsHistory m new.history new.doubt new.outcomes) locked.clock
      (subst (λ (ts : List Told). KeepsHistory (may side.clock) new.history new.doubt ts) (sym writes.outcomes) keeps.history) in
      record {
        table = goes.table ∙ locked.table;
        clock = goes.clock ∙ locked.clock;
        told = goes.told ∙ locked.told;
        moments = in_write new goes.told goes.moments
            (stands_in l.may (begun l) (min (faults side.log.disk) most) side locked.new (subst (λ (m : ℕ → Bool). KeepsHistory m side.history side.doubt side.outcomes) locked.clock history) within locked.lock)
            (stands_in l.may (begun l) (min (faults new.log.disk) most) new keeps.entries new_history keeps.most lock);
        grows = grows_then l.history l.doubt [] side.history side.doubt side.outcomes new.history new.doubt new.outcomes locked.grows grows;
        fronts = fronts_in_write new goes.told goes.moments grows;
        later = (let old = locked.later in let now = goes.later in omega (arith, old, now));
        new = keeps.entries;
        lock = lock;
      }

-- ---- a receipt

-- what a side under the lock tells is told so
pub told_locked : {D C : Type 0} (content : D → Option (List ℕ)) (moment : D → ℕ) (images : D → List ℕ → Type 0) (images_since : D → ℕ → List ℕ → Type 0) (faults : D → ℕ) (may : C → ℕ → Bool) (l : Named) (side : SideValue D C) → IsLocked content moment images images_since faults may l side → (found : Option FrontValue) → IfSome found (λ r. r ≡ record { history = side.table; list = side.shown })
    → IfSome found (λ r. IsToldLocked content moment images images_since faults may l r)
told_locked content moment images images_since faults may l side locked None is = tt
told_locked content moment images images_since faults may l side locked (Some r) is = record { side = side; locked = locked; told = is }
