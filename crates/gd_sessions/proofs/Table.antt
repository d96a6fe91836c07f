-- The sessions of a core, by their numbers.
use Rattle.std.proofs.Common.{◌≡◌, ℕ, zero, suc, ◌<◌, ◌≤◌, List, [], ◌∷◌, ◌++◌, length, map, Bool, true, false, ◌==◌, refl, ap, subst, ◌∙◌, arith}
use Rattle.std.specs.Prelude.{if◌then◌else◌, get_or, set}
use Rattle.std.specs.List.{AllByRecursion}
use Rattle.std.proofs.lemmas.Bool.{eqb-true}
use Rattle.std.proofs.lemmas.List.{map-set, get_or-set_same, get_or-set_other, length-map}
use Rattle.gd_prim.specs.declared.Batch.{Batch}
use Rattle.gd_runs.specs.Core.{Session, with_session}
use Rattle.gd_sessions.specs.Sessions.{new_session}
use Rattle.gd_sessions.specs.declared.held.Held.{Held}
use Rattle.gd_sessions.specs.Held.{session_view, sessions_of, IsGoingOn}
use Rattle.gd_sessions.proofs.Holding.{holds_more}
use Rattle.gd_writer.specs.Side.{SideValue, state_of}

-- ---- what is said of one session

-- that of the session of a number
pub mapped_at : {X Y : Type 0} (f : X → Y) (xs : List X) (i : ℕ) (x : X) (d : Y) → i < length xs → x ≡ get_or xs i x → f x ≡ get_or (map f xs) i d
mapped_at f [] i x d lt is = absurd (omega arith)
mapped_at f (y ∷ ys) zero x d lt is = ap f is
mapped_at f (y ∷ ys) (suc i) x d lt is = mapped_at f ys i x d (omega arith) is

-- and where that session is another one
pub mapped_set : {X Y : Type 0} (f : X → Y) (xs : List X) (i : ℕ) (x : X) (d : Y) → i < length xs → get_or (map f (set xs i x)) i d ≡ f x
mapped_set f [] i x d lt = absurd (omega arith)
mapped_set f (y ∷ ys) zero x d lt = refl
mapped_set f (y ∷ ys) (suc i) x d lt = mapped_set f ys i x d (omega arith)

-- ---- one session anew

pub not_same : (i j : ℕ) → (j == i) ≡ false → j ≡ i → ⊥
not_same i j is same = let bad : (i == i) ≡ false = subst (λ (k : ℕ). (k == i) ≡ false) same is in absurd (grind (arith, bad))

pub sessions_set : (hs : List Held) (i : ℕ) (h : Held) → i < length hs → sessions_of (set hs i h) ≡ (λ j. if j == i then session_view h else sessions_of hs j)
sessions_set hs i h lt = λ k j. each j k
  where
    each : (j : ℕ) → sessions_of (set hs i h) j ≡ (if j == i then session_view h else sessions_of hs j)
    each j = by (j == i) refl
      where
        moved : get_or (map session_view (set hs i h)) j new_session ≡ get_or (set (map session_view hs) i (session_view h)) j new_session
        moved = ap (λ (ss : List Session). get_or ss j new_session) (map-set session_view hs i h)

        by : (b : Bool) → (j == i) ≡ b → sessions_of (set hs i h) j ≡ (if b then session_view h else sessions_of hs j)
        by true is = moved ∙ (ap (λ (n : ℕ). get_or (set (map session_view hs) i (session_view h)) n new_session) (eqb-true j i is)
            ∙ get_or-set_same (map session_view hs) i (session_view h) new_session (let long = length-map hs session_view in omega (arith, long, lt)))
        by false is = moved ∙ get_or-set_other (map session_view hs) i j (session_view h) new_session (not_same i j is)

pub state_set : {D C : Type 0} (side : SideValue D C) (hs : List Held) (i : ℕ) (h : Held) → i < length hs → state_of side (sessions_of (set hs i h)) ≡ with_session (state_of side (sessions_of hs)) i (session_view h)
state_set side hs i h lt = ap (state_of side) (sessions_set hs i h lt)

-- ---- what holds of each of them

pub all_at : {X : Type 0} (P : X → Type 0) (xs : List X) (i : ℕ) (d : X) → AllByRecursion P xs → i < length xs → P (get_or xs i d)
all_at P [] i d all lt = absurd (omega arith)
all_at P (x ∷ xs) zero d all lt = all.0
all_at P (x ∷ xs) (suc i) d all lt = all_at P xs i d all.1 (omega arith)

pub all_set : {X : Type 0} (P : X → Type 0) (xs : List X) (i : ℕ) (x : X) → AllByRecursion P xs → P x → AllByRecursion P (set xs i x)
all_set P [] i x all p = tt
all_set P (y ∷ ys) zero x all p = (p, all.1)
all_set P (y ∷ ys) (suc i) x all p = (all.0, all_set P ys i x all.1 p)

pub all_weaker : {X : Type 0} (P Q : X → Type 0) → ((x : X) → P x → Q x) → (xs : List X) → AllByRecursion P xs → AllByRecursion Q xs
all_weaker P Q weaker [] all = tt
all_weaker P Q weaker (x ∷ xs) all = (weaker x all.0, all_weaker P Q weaker xs all.1)

-- a reading goes on over more batches, of which no fewer are shown
pub going_more : (bs more : List Batch) (shown most : ℕ) (h : Held) → shown ≤ length bs → shown ≤ most → IsGoingOn bs shown h → IsGoingOn (bs ++ more) most h
going_more bs more shown most h = holds_more bs more shown most h.state
