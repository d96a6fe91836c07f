-- Laws of what a disk leaves over several calls.
use Rattle.std.specs.Prelude.{ℕ, ◌≤◌, List, Option}
use Rattle.std.proofs.Common.{inl, inr, ⊎_elim, refl, ◌∙◌, arith}
use Rattle.gd_bytes.specs.Disk.{Follows, Stays, Elapses, LeavesOnly, IsUntouched}

module _ {D : Type 0} (moment : D → ℕ) (images : D → List ℕ → Type 0) (images_since : D → ℕ → List ℕ → Type 0) where
  -- before the first call
  pub leaves_start : (old : D) (P : List ℕ → Type 0) → ((c : List ℕ) → images_since old (moment old) c → images old c) → ((c : List ℕ) → images old c → P c) → LeavesOnly moment images images_since old old P
  leaves_start old P only has = record {
    later = omega arith;
    now = has;
    each = λ c since. has c (only c since);
    before = λ t c le since. inl since;
  }

module _ {D : Type 0} (content : D → Option (List ℕ)) (moment : D → ℕ) (images : D → List ℕ → Type 0) (images_since : D → ℕ → List ℕ → Type 0) where
  -- one call that changes nothing
  pub untouched_call : (old new : D) → ((t : ℕ) (c : List ℕ) → t ≤ moment old → images old c → images_since old t c) → Stays (content old) (content new) (images old) (images new)
      → Elapses (moment old) (moment new) (images_since old) (images_since new) (images new) → IsUntouched content moment images images_since old new
  untouched_call old new counts stays time = record {
    same = stays.content;
    now = stays.images;
    later = time.later;
    since = λ t c le since. ⊎_elim (λ p. p) (λ now. counts t c le (stays.images c now)) (time.nothing_else t c le since);
  }

-- the functions of the disk are those of the facts
module _ {D : Type 0} {moment : D → ℕ} {images : D → List ℕ → Type 0} {images_since : D → ℕ → List ℕ → Type 0} where
  -- one call more, after which each image has P
  pub leaves_on : (old mid new : D) (P : List ℕ → Type 0) → LeavesOnly moment images images_since old mid P → Elapses (moment mid) (moment new) (images_since mid) (images_since new) (images new) → ((c : List ℕ) → images new c → P c)
      → LeavesOnly moment images images_since old new P
  leaves_on old mid new P run time has = record {
    later = omega (arith, run.later, time.later);
    now = has;
    each = λ c since. ⊎_elim (run.each c) (has c) (time.nothing_else (moment old) c run.later since);
    before = λ t c le since. ⊎_elim (run.before t c le) (λ now. inr (has c now)) (time.nothing_else t c (omega (arith, le, run.later)) since);
  }

  -- one that changes nothing
  pub leaves_stays : (old mid new : D) (P : List ℕ → Type 0) {co cn : Option (List ℕ)} → LeavesOnly moment images images_since old mid P → Stays co cn (images mid) (images new) → Elapses (moment mid) (moment new) (images_since mid) (images_since new) (images new)
      → LeavesOnly moment images images_since old new P
  leaves_stays old mid new P run stays time = leaves_on old mid new P run time (λ c now. run.now c (stays.images c now))

  -- one that leads from what has P to what has P
  pub leaves_step : (old mid new : D) (P : List ℕ → Type 0) (step : List ℕ → List ℕ → Type 0) → LeavesOnly moment images images_since old mid P → Follows step (images mid) (images new) → Elapses (moment mid) (moment new) (images_since mid) (images_since new) (images new)
      → ((d c : List ℕ) → P d → step d c → P c) → LeavesOnly moment images images_since old new P
  leaves_step old mid new P step run follows time goes = leaves_on old mid new P run time (λ c now. let from = follows c now in goes from.0 c (run.now from.0 from.1) from.2)

  -- several more
  pub leaves_join : (old mid new : D) (P : List ℕ → Type 0) → LeavesOnly moment images images_since old mid P → LeavesOnly moment images images_since mid new P → LeavesOnly moment images images_since old new P
  leaves_join old mid new P first second = record {
    later = omega (arith, first.later, second.later);
    now = second.now;
    each = λ c since. ⊎_elim (first.each c) (λ p. p) (second.before (moment old) c first.later since);
    before = λ t c le since. ⊎_elim (first.before t c le) (λ p. inr p) (second.before t c (omega (arith, le, first.later)) since);
  }

  pub leaves_weaken : (old new : D) (P Q : List ℕ → Type 0) → ((c : List ℕ) → P c → Q c) → LeavesOnly moment images images_since old new P → LeavesOnly moment images images_since old new Q
  leaves_weaken old new P Q to run = record {
    later = run.later;
    now = λ c now. to c (run.now c now);
    each = λ c since. to c (run.each c since);
    before = λ t c le since. ⊎_elim (λ p. inl p) (λ p. inr (to c p)) (run.before t c le since);
  }

module _ {D : Type 0} {content : D → Option (List ℕ)} {moment : D → ℕ} {images : D → List ℕ → Type 0} {images_since : D → ℕ → List ℕ → Type 0} where
  -- no call
  pub untouched_none : (old : D) → IsUntouched content moment images images_since old old
  untouched_none old = record { same = refl; now = λ c now. now; later = omega arith; since = λ t c le since. since }

  -- one after the other
  pub untouched_then : {old mid new : D} → IsUntouched content moment images images_since old mid → IsUntouched content moment images images_since mid new → IsUntouched content moment images images_since old new
  untouched_then first second = record {
    same = second.same ∙ first.same;
    now = λ c now. first.now c (second.now c now);
    later = omega (arith, first.later, second.later);
    since = λ t c le since. first.since t c le (second.since t c (omega (arith, le, first.later)) since);
  }

  -- behind what leaves P, and before it
  pub leaves_untouched : (old mid new : D) (P : List ℕ → Type 0) → LeavesOnly moment images images_since old mid P → IsUntouched content moment images images_since mid new → LeavesOnly moment images images_since old new P
  leaves_untouched old mid new P run rest = record {
    later = omega (arith, run.later, rest.later);
    now = λ c now. run.now c (rest.now c now);
    each = λ c since. run.each c (rest.since (moment old) c run.later since);
    before = λ t c le since. run.before t c le (rest.since t c (omega (arith, le, run.later)) since);
  }
