-- What is held, over more batches.
use Rattle.std.proofs.Common.{◌≡◌, ℕ, ◌≤◌, List, ◌++◌, length, take, Bool, true, false, Option, Some, None, Result, Ok, IfOk, refl, sym, ap, subst, ◌∙◌, arith}
use Rattle.std.proofs.lemmas.List.{take-append-le}
use Rattle.gd_prim.specs.declared.Batch.{Batch}
use Rattle.gd_base.specs.declared.memory.Memory.{Memory}
use Rattle.gd_runs.specs.Pace.{is_counted}
use Rattle.gd_read.specs.Reading.{is_unfinished}
use Rattle.gd_read.specs.Session as session
use Rattle.gd_read.specs.declared.reading.Progress.{Progress}
use Rattle.gd_read.specs.declared.reading.Progress.TheVariants.{Unfinished}
use Rattle.gd_read.specs.declared.reading.Reading.{Reading}
use Rattle.gd_read.specs.declared.reading.Reading.TheVariants as reading
use Rattle.gd_read.proofs.States as states
use Rattle.gd_held.specs.Held.{reads, HoldsGoing, held_left}
use Rattle.gd_held.specs.Thawed.{thawed_view, ThawedGoes, ThawedGoesOn}
use Rattle.gd_held.specs.declared.held.HeldReading.{HeldReading}
use Rattle.gd_held.specs.declared.held.HeldReading.TheVariants as held

-- LAW: over more batches, of which no fewer are shown, it goes on
pub holds_more : (bs more : List Batch) (shown most : ℕ) (state : HeldReading) → shown ≤ length bs → shown ≤ most → HoldsGoing bs shown state → HoldsGoing (bs ++ more) most state
holds_more bs more shown most (held.Begun state) long less holds = states.holds_more bs more shown most state long less holds
holds_more bs more shown most (held.Thawed t) long less goes =
    (omega (arith, goes.0, less), subst (λ (front : List Batch). ThawedGoes front t) (sym (take-append-le (thawed_view t).dateline bs more (omega (arith, goes.0, long)))) goes.1)

-- LAW: so it does where more of the same batches are shown
pub holds_shown : (bs : List Batch) (shown most : ℕ) (state : HeldReading) → shown ≤ most → HoldsGoing bs shown state → HoldsGoing bs most state
holds_shown bs shown most (held.Begun state) less holds = states.holds_shown bs shown most state less holds
holds_shown bs shown most (held.Thawed t) less goes = (omega (arith, goes.0, less), goes.1)

-- LAW: and as much is left of it
pub left_more : (n : ℕ) (bs more : List Batch) (shown : ℕ) (state : HeldReading) → shown ≤ length bs → HoldsGoing bs shown state → held_left n (bs ++ more) state ≡ held_left n bs state
left_more n bs more shown (held.Begun state) long holds = states.left_more n bs more shown state long holds
left_more n bs more shown (held.Thawed t) long goes = refl

-- LAW: nothing is left where no reading is held that began
pub uncounted_left : (n : ℕ) (bs : List Batch) (state : HeldReading) → is_counted (reads state) ≡ false → held_left n bs state ≡ 0
uncounted_left n bs (held.Thawed t) none = refl
uncounted_left n bs (held.Begun state) none = by state.reading refl none
  where
    by : (o : Option Reading) → state.reading ≡ o → is_counted (session.reads (record { reading = o })) ≡ false → session.session_left n bs state ≡ 0
    by None is never = rw is refl
    by (Some (reading.One r)) is never = absurd (cc)
    by (Some (reading.Several r)) is never = absurd (cc)

-- LAW: nor where none is held
pub none_left : (n : ℕ) (bs : List Batch) (state : HeldReading) → reads state ≡ None → held_left n bs state ≡ 0
none_left n bs state none = uncounted_left n bs state (ap is_counted none)

-- what holds where a slice came to no reply
pub still_unfinished : {P : Type 0} (result : Result Progress Memory) (p : Progress) → result ≡ Ok p → p ≡ Unfinished → IfOk result (λ x. is_unfinished x ≡ true → P) → P
still_unfinished {P} result p is which still = (subst (λ (r : Result Progress Memory). IfOk r (λ x. is_unfinished x ≡ true → P)) is still) (ap is_unfinished which)
