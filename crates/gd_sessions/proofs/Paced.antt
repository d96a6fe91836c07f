-- What the readings of the sessions have left, behind an event of one of them.
use Rattle.std.proofs.Common.{◌≡◌, ◌≢◌, ℕ, zero, suc, ◌+◌, ◌-◌, ◌^◌, ◌<◌, ◌≤◌, ◌==◌, min, List, [], ◌∷◌, ◌++◌, length, map, Bool, true, false, Option, Some, None, Result, Ok, Err, IfOk, OnErr, refl, sym, ap, subst, ◌∙◌, arith}
use Rattle.std.specs.Prelude.{get_or, set, IfSome}
use Rattle.std.specs.List.{AllByRecursion}
use Rattle.std.specs.Global.{Vec}
use Rattle.std.proofs.lemmas.Bool.{eqb-true}
use Rattle.std.proofs.lemmas.List.{map-set, get_or-set_other}
use Rattle.gd_base.specs.declared.memory.Memory.{Memory}
use Rattle.gd_prim.specs.declared.Batch.{Batch}
use Rattle.gd_defs.specs.Write.{WriteRequest}
use Rattle.gd_runs.specs.Legal.{batches}
use Rattle.gd_runs.specs.Request.{ReadSet}
use Rattle.gd_runs.specs.Core as core
use Rattle.gd_runs.specs.Core.{Reading, Session, State, BeginStep, SliceStep}
use Rattle.gd_runs.specs.Pace.{DueOf, Left, first_number, is_counted}
use Rattle.gd_held.specs.PassedOn.{one_member}
use Rattle.gd_runs.proofs.Rounds.{length_batches}
use Rattle.gd_replay_laws.specs.Paced.{AreWithin}
use Rattle.gd_replay_laws.proofs.Paced.{within_all, IsFirst, begin_paces, slice_paces}
use Rattle.gd_held.specs.Held.{reads, held_left}
use Rattle.gd_held.specs.declared.held.HeldReading.{HeldReading}
use Rattle.gd_writer.specs.Side.{SideValue, state_of}
use Rattle.gd_sessions.specs.declared.held.Held.{Held}
use Rattle.gd_sessions.specs.Opened.{IsNew}
use Rattle.gd_sessions.specs.Sessions.{new_session, holds_thawed}
use Rattle.gd_sessions.specs.Held.{session_view, sessions_of, IsGoingOn, left_at}
use Rattle.gd_sessions.specs.Writes.{WritesFor}
use Rattle.gd_sessions.specs.Running.{RunningValue, IsRunning, core_state, left_now, KeepsPace}
use Rattle.gd_sessions.proofs.Growing.{write_grows}
use Rattle.gd_sessions.proofs.Holding.{left_more, none_left, counted_began}
use Rattle.gd_sessions.proofs.Table.{not_same, mapped_at, mapped_set}
use Rattle.gd_sessions.proofs.Ran.{told_held}

-- what is left is within itself
pub left_stays : (a : Left) → AreWithin a a
left_stays a = λ j. same (a j)
  where
    same : (n : ℕ) → n ≤ n
    same n = omega arith

-- ---- new sessions

pub new_left : (n : ℕ) (bs : List Batch) (hs : List Held) (j : ℕ) → AllByRecursion IsNew hs → left_at n bs hs j ≡ 0
new_left n bs [] j all = refl
new_left n bs (h ∷ hs) zero all = ap (λ (x : Held). held_left n bs x.state) all.0
new_left n bs (h ∷ hs) (suc j) all = new_left n bs hs j all.1

pub none_within : (bs : List Batch) (hs : List Held) → AllByRecursion IsNew hs → AreWithin (left_at (2 ^ 32) bs hs) (λ i. 0)
none_within bs hs all = λ j. by (left_at (2 ^ 32) bs hs j) (new_left (2 ^ 32) bs hs j all)
  where
    by : (a : ℕ) → a ≡ 0 → a ≤ 0
    by a none = omega (arith, none)

pub new_within : {D C : Type 0} (old new : RunningValue D C) (held : List Held) → new.held ≡ held → AllByRecursion IsNew held → AreWithin (left_now new) (left_now old)
new_within old new held is all = λ j. by _ _ (new_left (2 ^ 32) (batches new.side.history) new.held j (subst (AllByRecursion IsNew) (sym is) all))
  where
    by : (a b : ℕ) → a ≡ 0 → a ≤ b
    by a b none = omega (arith, none)

-- ---- more batches

all_more : (n : ℕ) (bs more : List Batch) (shown : ℕ) (hs : List Held) (j : ℕ) → shown ≤ length bs → AllByRecursion (IsGoingOn bs shown) hs → left_at n (bs ++ more) hs j ≡ left_at n bs hs j
all_more n bs more shown [] j long all = refl
all_more n bs more shown (h ∷ hs) zero long all = left_more n bs more shown h.state long all.0
all_more n bs more shown (h ∷ hs) (suc j) long all = all_more n bs more shown hs j long all.1

-- ---- one session

module _ {D C : Type 0} (side : SideValue D C) (hs : List Held) (i : ℕ) (before after : Held) (lt : i < length hs) (is : before ≡ get_or hs i before) where
  abbrev pub old : RunningValue D C
  old = record { side = side; held = hs }

  abbrev pub new : RunningValue D C
  new = record { side = side; held = set hs i after }

  abbrev pub left_of_it : List Batch → Held → ℕ
  left_of_it bs h = held_left (2 ^ 32) bs h.state

  others_set : (bs : List Batch) (j : ℕ) → (j == i) ≡ false → left_at (2 ^ 32) bs (set hs i after) j ≡ left_at (2 ^ 32) bs hs j
  others_set bs j other = ap (λ (ns : List ℕ). get_or ns j 0) (map-set (left_of_it bs) hs i after) ∙ get_or-set_other (map (left_of_it bs) hs) i j (left_of_it bs after) 0 (not_same i j other)

  others_within : (j : ℕ) → (j == i) ≡ false → left_now new j ≤ left_now old j
  others_within j other = by _ _ (others_set (batches side.history) j other)
    where
      by : (a b : ℕ) → a ≡ b → a ≤ b
      by a b same = omega (arith, same)

  it_was : left_of_it (batches side.history) before ≡ left_now old i
  it_was = mapped_at (left_of_it (batches side.history)) hs i before 0 lt is

  it_is : left_now new i ≡ left_of_it (batches side.history) after
  it_is = mapped_set (left_of_it (batches side.history)) hs i after 0 lt

  reads_was : reads before.state ≡ (sessions_of hs i).reading
  reads_was = ap (λ (x : Session). x.reading) (mapped_at session_view hs i before new_session lt is)

  reads_is : (sessions_of (set hs i after) i).reading ≡ reads after.state
  reads_is = ap (λ (x : Session). x.reading) (mapped_set session_view hs i after new_session lt)

  pub set_within : held_left (2 ^ 32) (batches side.history) after.state ≤ held_left (2 ^ 32) (batches side.history) before.state → AreWithin (left_now new) (left_now old)
  set_within less = within_all (left_now old) (left_now new) i (by _ _ _ _ it_was it_is less) others_within
    where
      by : (a b c d : ℕ) → a ≡ b → c ≡ d → d ≤ a → c ≤ b
      by a b c d first second third = omega (arith, first, second, third)

  pub same_within : after.state ≡ before.state → AreWithin (left_now new) (left_now old)
  same_within same = set_within (by _ _ (ap (λ (state : HeldReading). held_left (2 ^ 32) (batches side.history) state) same))
    where
      by : (a b : ℕ) → a ≡ b → a ≤ b
      by a b is = omega (arith, is)

  -- a reading that begins
  begun_first : (d : DueOf) → IfSome (reads after.state) (λ r. held_left (2 ^ 32) (batches side.history) after.state ≤ first_number d (batches side.history) r) → IsFirst d (core_state new) i (left_now new i)
  begun_first d few = (
    subst (λ (o : Option Reading). IfSome o (λ r. left_now new i ≤ first_number d (batches side.history) r)) (sym reads_is)
        (subst (λ (m : ℕ). IfSome (reads after.state) (λ r. m ≤ first_number d (batches side.history) r)) (sym it_is) few),
    λ none. it_is ∙ none_left (2 ^ 32) (batches side.history) after.state (sym reads_is ∙ none),
  )

  pub begins_paced : (bs : List Batch) (k : ℕ) (r : ReadSet) (result : Result (Vec ℕ) Memory) → bs ≡ batches side.history → IfOk result (λ reply. BeginStep (core_state old) k i r reply.items (core_state new))
      → IfOk result (λ _. (n : ℕ) (due : DueOf) → IfSome (reads after.state) (λ x. held_left n bs after.state ≤ first_number due bs x)) → IfOk result (λ reply. KeepsPace k (core.begin i r) reply.items old new)
  begins_paced bs k r (Ok bytes) stored step first = λ d.
      begin_paces one_member d (core_state old) k i r bytes.items (core_state new) (left_now old) (left_now new) step
      (begun_first d (subst (λ (b : List Batch). IfSome (reads after.state) (λ x. held_left (2 ^ 32) b after.state ≤ first_number d b x)) stored (first (2 ^ 32) d))) others_within
  begins_paced bs k r (Err e) stored step first = tt

  -- a slice whose steps are counted from 0
  pub slices_paced : (k budget s u : ℕ) (result : Result (Vec ℕ) Memory) → budget ≤ 1_000_000 → IfOk result (λ reply. SliceStep one_member (core_state old) k i reply.items (core_state new)) → AreWithin (left_now new) (left_now old)
      → (reads after.state ≢ None → min (s + budget) (2 ^ 64 - 1) ≤ u)
      → (holds_thawed (reads before.state) ≡ false → u + held_left (2 ^ 32) (batches side.history) after.state ≤ s + held_left (2 ^ 32) (batches side.history) before.state)
      → IfOk result (λ reply. s ≡ 0 → KeepsPace k (core.slice i budget) reply.items old new)
  slices_paced k budget s u (Err e) small step within reached less = tt
  slices_paced k budget s u (Ok bytes) small step within reached less = λ none d.
      slice_paces one_member d (core_state old) k i budget bytes.items (core_state new) (left_now old) (left_now new) step (within i)
      (λ counted held. by _ _ _ _ it_was it_is (reached (λ gone. held (reads_is ∙ gone))) none (less (counted_began (reads before.state) (ap is_counted reads_was ∙ counted))))
      others_within
    where
      by : (a b c d : ℕ) → a ≡ b → c ≡ d → min (s + budget) (2 ^ 64 - 1) ≤ u → s ≡ 0 → u + d ≤ s + a → budget + c ≤ b
      by a b c d first second third fourth fifth = omega (arith, small, first, second, third, fourth, fifth)

  pub begins_left : (result : Result (Vec ℕ) Memory) → OnErr result (after ≡ before) → OnErr result (AreWithin (left_now new) (left_now old))
  begins_left (Ok bytes) same = tt
  begins_left (Err e) same = same_within (ap (λ (h : Held). h.state) same)

  -- a write
  same_left : (bs : List Batch) → after.state ≡ before.state → (j : ℕ) → left_at (2 ^ 32) bs (set hs i after) j ≡ left_at (2 ^ 32) bs hs j
  same_left bs same j = by (j == i) refl
    where
      by : (b : Bool) → (j == i) ≡ b → left_at (2 ^ 32) bs (set hs i after) j ≡ left_at (2 ^ 32) bs hs j
      by false other = others_set bs j other
      by true one = subst (λ (m : ℕ). left_at (2 ^ 32) bs (set hs i after) m ≡ left_at (2 ^ 32) bs hs m) (sym (eqb-true j i one))
          (mapped_set (left_of_it bs) hs i after 0 lt ∙ (ap (λ (state : HeldReading). held_left (2 ^ 32) bs state) same ∙ mapped_at (left_of_it bs) hs i before 0 lt is))

  pub writes_within : (next : SideValue D C) (may : ℕ → Bool) (faults : D → ℕ) (k bytes : ℕ) (w : WriteRequest) (reply : List ℕ) → length side.shown ≤ length (batches side.history) → IsRunning side hs
      → WritesFor may faults side k bytes w next before after reply → AreWithin (left_now (record { side = next; held = set hs i after })) (left_now old)
  writes_within next may faults k bytes w reply within keeps does =
      let grows = write_grows may (state_of side (sessions_of hs)) (state_of next (sessions_of hs)) k bytes w does.kept (let long = length_batches side.history in omega (arith, long, within)) (does.step (sessions_of hs)) in
      let same = told_held side hs i before after lt is does.kept (length next.shown) does.told in
      λ j. by _ _
      (same_left (batches next.history) same j
      ∙ (ap (λ (bs : List Batch). left_at (2 ^ 32) bs hs j) grows.batches ∙ all_more (2 ^ 32) (batches side.history) grows.more (length side.shown) hs j within keeps.going))
    where
      by : (a b : ℕ) → a ≡ b → a ≤ b
      by a b equal = omega (arith, equal)
