-- Places that a producer gives, of which each is judged: what intersections and differences have in common.
use Rattle.std.proofs.Common.{◌≡◌, ◌∙◌, ◌+◌, ◌<◌, ◌≤◌, ℕ, Bool, true, false, List, [], ◌∷◌, ◌++◌, length, Option, Some, None, refl, sym, ap, subst, arith, ⊎_elim}
use Rattle.std.specs.Prelude.{filter, max, nat_lt, if◌then◌else◌}
use Rattle.std.proofs.lemmas.Bool.{cases_Bool, cases_lt, lt-ltb, le-ltb}
use Rattle.gd_iter_core.specs.declared.turn.Turn.{Turn}
use Rattle.gd_iter_core.specs.declared.turn.Turn.TheVariants as turn
use Rattle.gd_iter_core.specs.Owed.{RisesFrom, ids_from, id_if, NextGives, FindGives}
use Rattle.gd_iter_core.specs.Rising.{from_no, from_from, from_filter, from_all, rises_from, rises_filter, rises_weaker, length-ids_from, first_from}

-- the places from one on that pass
abbrev pub kept : (ℕ → Bool) → ℕ → List ℕ → List ℕ
kept passes from ids = filter passes (ids_from from ids)

-- what is owed where the producer owes `owed`: from the place on what passes. Where the place was produced and is being
-- judged, it counts if what is still asked of it holds
abbrev pub sieved : (ℕ → Bool) → List ℕ → ℕ → Option Bool → List ℕ
sieved passes owed place None = kept passes place owed
sieved passes owed place (Some holds) = id_if holds place ++ kept passes (place + 1) owed

-- how many places may still be judged
abbrev pub left_to_judge : {A : Type 0} → List ℕ → Option A → ℕ
left_to_judge owed None = length owed
left_to_judge owed (Some a) = length owed + 1

-- a place is produced, of which it says what is owed while it is judged; or there is none, or that is not yet known
abbrev pub Produces : List ℕ → Turn → (ℕ → List ℕ) → List ℕ → Type 0
Produces old (turn.Found id) judged new = judged id ≡ old
Produces old turn.Done judged new = (old ≡ []) × (new ≡ [])
Produces old turn.Unfinished judged new = new ≡ old

-- what is produced is not below the place, and its producer owes less
abbrev pub IsProduced : ℕ → Turn → ℕ → ℕ → Type 0
IsProduced place (turn.Found id) old new = (place ≤ id) × (new < old)
IsProduced place turn.Done old new = Unit {0}
IsProduced place turn.Unfinished old new = Unit {0}

-- a judged place is given, or that is not yet known; one that is refused was not owed
abbrev pub Judges : List ℕ → Option Turn → List ℕ → Type 0
Judges old None new = new ≡ old
Judges old (Some t) new = NextGives old t new

-- ---- laws

-- behind the first of a rising list nothing is below it
rises_rest : (p x : ℕ) (ids xs : List ℕ) → RisesFrom 0 ids → ids_from p ids ≡ x ∷ xs → RisesFrom (x + 1) xs
rises_rest p x ids xs r e = let all : RisesFrom p (x ∷ xs) = subst (RisesFrom p) e (rises_from p 0 ids r) in all.1

-- a filtered list begins with its first place, if that passes
filter_first : (passes : ℕ → Bool) (x : ℕ) (xs : List ℕ) → id_if (passes x) x ++ filter passes xs ≡ filter passes (x ∷ xs)
filter_first passes x xs = ⊎_elim
    (λ (yes : passes x ≡ true). rw yes refl)
    (λ (no : passes x ≡ false). rw no refl)
    (cases_Bool (passes x))

-- a produced place takes the place of what the producer gave
sieved_found : (passes : ℕ → Bool) (owed new : List ℕ) (p id : ℕ) → RisesFrom 0 owed → ids_from p owed ≡ id ∷ new
    → sieved passes new id (Some (passes id)) ≡ sieved passes owed p None
sieved_found passes owed new p id r e =
    let rest : ids_from (id + 1) new ≡ new = from_all (id + 1) (id + 1) new (omega arith) (rises_rest p id owed new r e) in
    ap (λ l. id_if (passes id) id ++ filter passes l) rest ∙ (filter_first passes id new ∙ ap (filter passes) (sym e))

sieved_done : (passes : ℕ → Bool) (owed : List ℕ) (p : ℕ) → ids_from p owed ≡ [] → sieved passes owed p None ≡ []
sieved_done passes owed p e = ap (filter passes) e

-- an unfinished producer gave up places below the one from which on it was asked
sieved_unfinished : (passes : ℕ → Bool) (owed new : List ℕ) (p q : ℕ) → q ≤ p → new ≡ ids_from q owed
    → sieved passes new p None ≡ sieved passes owed p None
sieved_unfinished passes owed new p q low e = ap (kept passes p) e ∙ ap (filter passes) (from_from q p owed low)

-- what a producer that is asked from the place on gives
pub produces : (passes : ℕ → Bool) (owed new : List ℕ) (p : ℕ) (t : Turn) → RisesFrom 0 owed → FindGives p owed t new
    → Produces (sieved passes owed p None) t (λ id. sieved passes new id (Some (passes id))) (sieved passes new p None)
produces passes owed new p (turn.Found id) r h = sieved_found passes owed new p id r h
produces passes owed new p turn.Done r h = (sieved_done passes owed p h.0, ap (kept passes p) h.1)
produces passes owed new p turn.Unfinished r (q, (low, e)) = sieved_unfinished passes owed new p q low e

pub is_produced : (owed new : List ℕ) (p : ℕ) (t : Turn) → FindGives p owed t new → IsProduced p t (length owed) (length new)
is_produced owed new p (turn.Found id) h = (first_from p id owed new h, omega (arith, ap length h, length-ids_from p owed))
is_produced owed new p turn.Done h = tt
is_produced owed new p turn.Unfinished h = tt

-- a place before a list that rises behind it
before_rises : (b : Bool) (p : ℕ) (ids : List ℕ) → RisesFrom (p + 1) ids → RisesFrom p (id_if b p ++ ids)
before_rises true p ids r = (omega arith, r)
before_rises false p ids r = rises_weaker p (p + 1) ids (omega arith) r

pub kept_rises : (passes : ℕ → Bool) (from : ℕ) (ids : List ℕ) → RisesFrom 0 ids → RisesFrom from (kept passes from ids)
kept_rises passes from ids r = rises_filter from passes (ids_from from ids) (rises_from from 0 ids r)

pub sieved_rises_from : (passes : ℕ → Bool) (owed : List ℕ) (p : ℕ) (a : Option Bool) → RisesFrom 0 owed → RisesFrom p (sieved passes owed p a)
sieved_rises_from passes owed p None r = kept_rises passes p owed r
sieved_rises_from passes owed p (Some holds) r = before_rises holds p (kept passes (p + 1) owed) (kept_rises passes (p + 1) owed r)

pub sieved_rises : (passes : ℕ → Bool) (owed : List ℕ) (p : ℕ) (a : Option Bool) → RisesFrom 0 owed → RisesFrom 0 (sieved passes owed p a)
sieved_rises passes owed p a r = rises_weaker 0 p (sieved passes owed p a) (omega arith) (sieved_rises_from passes owed p a r)

-- a lower place does not matter
pub from_above : (b : Bool) (p from : ℕ) (ids : List ℕ) → p < from → ids_from from (id_if b p ++ ids) ≡ ids_from from ids
from_above true p from ids low = from_no from p ids low
from_above false p from ids low = refl

kept_from : (passes : ℕ → Bool) (owed : List ℕ) (p from : ℕ) → p ≤ from → ids_from from (kept passes p owed) ≡ kept passes from owed
kept_from passes owed p from low = from_filter from passes (ids_from p owed) ∙ ap (filter passes) (from_from p from owed low)

passed_over : (passes : ℕ → Bool) (owed : List ℕ) (p from : ℕ) (a : Option Bool) → p < from
    → sieved passes owed from None ≡ ids_from from (sieved passes owed p a)
passed_over passes owed p from None low = sym (kept_from passes owed p from (omega (arith, low)))
passed_over passes owed p from (Some holds) low =
    sym (from_above holds p from (kept passes (p + 1) owed) low ∙ kept_from passes owed (p + 1) from (omega (arith, low)))

-- the places below one are given up; where the place is not below it, all stays
pub sieved_skip : (passes : ℕ → Bool) (owed : List ℕ) (p q from : ℕ) (a b : Option Bool) → RisesFrom 0 owed → q ≡ max p from
    → b ≡ (if nat_lt p from then None else a) → sieved passes owed q b ≡ ids_from from (sieved passes owed p a)
sieved_skip passes owed p q from a b r eq eb = ⊎_elim
    (λ (low : p < from).
    let top : q ≡ from = omega (arith, eq, low) in
    let none : b ≡ None = rw (lt-ltb p from low) at eb in
    rw (top, none) (passed_over passes owed p from a low))
    (λ (high : from ≤ p).
    let top : q ≡ p = omega (arith, eq, high) in
    let same : b ≡ a = rw (le-ltb p from high) at eb in
    rw (top, same) (sym (from_all from p (sieved passes owed p a) high (sieved_rises_from passes owed p a r))))
    (cases_lt p from)

-- a producer that begins at the place
pub sieved_begins : (passes : ℕ → Bool) (set : List ℕ) (p from : ℕ) → p ≤ from → kept passes from (ids_from p set) ≡ ids_from from (filter passes set)
sieved_begins passes set p from low = ap (filter passes) (from_from p from set low) ∙ sym (from_filter from passes set)
