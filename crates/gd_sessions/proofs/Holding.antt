-- What a session holds of its reading: over more batches, and how much is left of it.
use Rattle.std.proofs.Common.{◌≡◌, ℕ, ◌≤◌, List, ◌++◌, take, length, Bool, true, false, Option, Some, None, refl, sym, ap, subst, ◌∙◌, arith}
use Rattle.std.proofs.lemmas.List.{take-append-le}
use Rattle.gd_prim.specs.declared.Batch.{Batch}
use Rattle.gd_bytes.specs.Frozen.{Frozen}
use Rattle.gd_runs.specs.Core.{Reading}
use Rattle.gd_runs.specs.Pace.{is_counted}
use Rattle.gd_held.specs.PassedOn.session
use Rattle.gd_held.specs.PassedOn.{Reading as ReadHere, SessionState}
use Rattle.gd_held.specs.PassedOn.reading
use Rattle.gd_held.proofs.PassedOn.states
use Rattle.gd_held.specs.Held.{reads, HoldsGoing, held_left}
use Rattle.gd_held.specs.Thawed.{thawed_view, ThawedGoes}
use Rattle.gd_held.specs.declared.held.HeldReading.{HeldReading}
use Rattle.gd_held.specs.declared.held.HeldReading.TheVariants as held
use Rattle.gd_sessions.specs.Sessions.{holds_thawed}

-- ---- more batches

-- it goes on over more batches, of which no fewer are shown
pub holds_more : (bs more : List Batch) (shown most : ℕ) (h : HeldReading) → shown ≤ length bs → shown ≤ most → HoldsGoing bs shown h → HoldsGoing (bs ++ more) most h
holds_more bs more shown most (held.Begun state) long less holds = states.holds_more bs more shown most state long less holds
holds_more bs more shown most (held.Thawed t) long less (below, goes) =
    (omega (arith, below, less), subst (λ (front : List Batch). ThawedGoes front t) (sym (take-append-le (thawed_view t).dateline bs more (omega (arith, below, long)))) goes)

-- and where more of the same batches are shown
pub holds_shown : (bs : List Batch) (shown most : ℕ) (h : HeldReading) → shown ≤ most → HoldsGoing bs shown h → HoldsGoing bs most h
holds_shown bs shown most (held.Begun state) less holds = states.holds_shown bs shown most state less holds
holds_shown bs shown most (held.Thawed t) less (below, goes) = (omega (arith, below, less), goes)

-- as much is left over more batches
pub left_more : (n : ℕ) (bs more : List Batch) (shown : ℕ) (h : HeldReading) → shown ≤ length bs → HoldsGoing bs shown h → held_left n (bs ++ more) h ≡ held_left n bs h
left_more n bs more shown (held.Begun state) long holds = states.left_more n bs more shown state long holds
left_more n bs more shown (held.Thawed t) long holds = refl

-- ---- what is left

-- where no reading is held, nothing is left
pub none_left : (n : ℕ) (bs : List Batch) (h : HeldReading) → reads h ≡ None → held_left n bs h ≡ 0
none_left n bs (held.Thawed t) is = refl
none_left n bs (held.Begun state) is = by state.reading is
  where
    by : (o : Option ReadHere) → session.reads (record { reading = o }) ≡ None → session.session_left n bs (record { reading = o }) ≡ 0
    by None none = refl
    by (Some r) some = absurd (cc)

-- a reading that began was not thawed
began : (state : SessionState) (x : Reading) (f : Frozen) → session.reads state ≡ Some x → x.thawed ≡ Some f → ⊥
began state x f is = by state.reading is
  where
    same : (y : Reading) → Some y ≡ Some x → y.thawed ≡ None → x.thawed ≡ Some f → ⊥
    same y one none thawed =
        let which : y ≡ x = cc in
        let both : None ≡ Some f = sym none ∙ ap (λ (z : Reading). z.thawed) which ∙ thawed in
        cc

    by : (o : Option ReadHere) → session.reads (record { reading = o }) ≡ Some x → x.thawed ≡ Some f → ⊥
    by None none = absurd (cc)
    by (Some (reading.One r)) one = same _ one refl
    by (Some (reading.Several r)) one = same _ one refl

-- of one that was thawed nothing is counted
pub thawed_left : (n : ℕ) (bs : List Batch) (h : HeldReading) (x : Reading) (f : Frozen) → reads h ≡ Some x → x.thawed ≡ Some f → held_left n bs h ≡ 0
thawed_left n bs (held.Thawed t) x f is thawed = refl
thawed_left n bs (held.Begun state) x f is thawed = absurd (began state x f is thawed)

-- a reading whose steps are counted was not thawed
pub counted_began : (o : Option Reading) → is_counted o ≡ true → holds_thawed o ≡ false
counted_began None counted = refl
counted_began (Some r) counted = by r.thawed counted
  where
    by : (t : Option Frozen) → is_counted (Some (record r { thawed = t })) ≡ true → holds_thawed (Some (record r { thawed = t })) ≡ false
    by None one = refl
    by (Some f) one = absurd (cc)

-- and the steps of one that is held, and was not thawed, are counted
pub began_counted : (x : Reading) → holds_thawed (Some x) ≡ false → is_counted (Some x) ≡ true
began_counted x is = by x.thawed is
  where
    by : (t : Option Frozen) → holds_thawed (Some (record x { thawed = t })) ≡ false → is_counted (Some (record x { thawed = t })) ≡ true
    by None one = refl
    by (Some f) one = absurd (cc)
