-- What is owed stays what the position says.
use Rattle.std.proofs.Common.{◌≡◌, ◌∙◌, ◌+◌, ◌<◌, ◌≤◌, ℕ, List, ◌++◌, Option, Some, None, sym, ap, arith}
use Rattle.gd_iter_core.specs.declared.turn.Turn.{Turn}
use Rattle.gd_iter_core.specs.declared.turn.Turn.TheVariants as turn
use Rattle.gd_iter_core.specs.declared.turn.FrozenIter.{FrozenIter}
use Rattle.gd_iter_core.specs.Owed.{Walk, RisesFrom, ids_from, id_if, NextGives, FindGives, owed_from}
use Rattle.gd_iter_core.specs.Rising.{from_no, from_from, from_all}
use Rattle.gd_iter_core.specs.Sieved.{from_above}

-- from here on what is owed are the members of the set
abbrev pub front : {A : Type 0} → ℕ → Option A → ℕ
front place None = place
front place (Some a) = place + 1

-- what is owed at a position: nothing below the place; where members accept it, the place, if the others have it, and
-- what is behind it
abbrev pub IsShaped : {W : Type 0} → Walk W → W → ℕ → Option ℕ → List ℕ → Type 0
IsShaped walk world place None owed = RisesFrom place owed
IsShaped walk world place (Some m) owed = (rest : List ℕ) × ((owed ≡ id_if (walk.accepts world m place) place ++ rest) × RisesFrom (place + 1) rest)

-- the front does not fall, and it comes behind what is found
abbrev pub Moves : ℕ → Turn → ℕ → Type 0
Moves old (turn.Found id) new = (old ≤ new) × (new ≡ id + 1)
Moves old turn.Done new = old ≤ new
Moves old turn.Unfinished new = old ≤ new

-- what a search for the places that are at least one gives, by what going on from there gives
pub finds : (from : ℕ) (old mid new : List ℕ) (t : Turn) → mid ≡ ids_from from old → NextGives mid t new → FindGives from old t new
finds from old mid new (turn.Found id) e h = sym e ∙ h
finds from old mid new turn.Done e h = (sym e ∙ h.0, h.1)
finds from old mid new turn.Unfinished e h = (from, (omega arith, h ∙ e))

-- what is owed at a position agrees with the set from its front on
agrees : {W : Type 0} (walk : Walk W) (w : W) (p : ℕ) (a : Option ℕ) (owed : List ℕ) → owed ≡ owed_from walk w p a
    → ids_from (front p a) owed ≡ ids_from (front p a) (walk.set w)
agrees walk w p None owed e = ap (ids_from p) e ∙ from_from p p (walk.set w) (omega arith)
agrees walk w p (Some m) owed e =
    ap (ids_from (p + 1)) e
    ∙ (from_above (walk.accepts w m p) p (p + 1) (ids_from (p + 1) (walk.set w)) (omega arith) ∙ from_from (p + 1) (p + 1) (walk.set w) (omega arith))

-- and the other way round
agreed : {W : Type 0} (walk : Walk W) (w : W) (p : ℕ) (a : Option ℕ) (owed : List ℕ) → IsShaped walk w p a owed
    → ids_from (front p a) owed ≡ ids_from (front p a) (walk.set w) → owed ≡ owed_from walk w p a
agreed walk w p None owed rises e = sym (from_all p p owed (omega arith) rises) ∙ e
agreed walk w p (Some m) owed (rest, (is, rises)) e =
    let behind : ids_from (p + 1) (walk.set w) ≡ rest
    = sym e ∙ (ap (ids_from (p + 1)) is ∙ (from_above (walk.accepts w m p) p (p + 1) rest (omega arith) ∙ from_all (p + 1) (p + 1) rest (omega arith) rises)) in
    is ∙ ap (λ l. id_if (walk.accepts w m p) p ++ l) (sym behind)

-- from a later front on
later : (p q : ℕ) (owed set : List ℕ) → p ≤ q → ids_from p owed ≡ ids_from p set → ids_from q owed ≡ ids_from q set
later p q owed set up e = sym (from_from p q owed up) ∙ (ap (ids_from q) e ∙ from_from p q set up)

-- what is left behind a turn, from the new front on
left : (p q : ℕ) (old new set : List ℕ) (t : Turn) → NextGives old t new → Moves p t q → ids_from p old ≡ ids_from p set → ids_from q new ≡ ids_from q set
left p q old new set (turn.Found id) gives moves e =
    let behind : id < q = omega (arith, moves.1) in
    sym (from_no q id new behind) ∙ (ap (ids_from q) (sym gives) ∙ later p q old set moves.0 e)
left p q old new set turn.Done gives moves e = ap (ids_from q) (gives.1 ∙ sym gives.0) ∙ later p q old set moves e
left p q old new set turn.Unfinished gives moves e = ap (ids_from q) gives ∙ later p q old set moves e

-- a turn
pub at_next : {W : Type 0} (walk new_walk : Walk W) (w : W) (p q : ℕ) (a b : Option ℕ) (old new : List ℕ) (t : Turn) → new_walk ≡ walk
    → old ≡ owed_from walk w p a → IsShaped new_walk w q b new → NextGives old t new → Moves (front p a) t (front q b) → new ≡ owed_from new_walk w q b
at_next {W = W} walk new_walk w p q a b old new t same at shaped gives moves =
    agreed new_walk w q b new shaped
    (left (front p a) (front q b) old new (walk.set w) t gives moves (agrees walk w p a old at) ∙ ap (λ (v : Walk W). ids_from (front q b) (v.set w)) (sym same))

-- places that are given up
pub at_skip : {W : Type 0} (walk new_walk : Walk W) (w : W) (p q from : ℕ) (a b : Option ℕ) (old new : List ℕ) → new_walk ≡ walk
    → old ≡ owed_from walk w p a → IsShaped new_walk w q b new → new ≡ ids_from from old → front p a ≤ front q b → from ≤ front q b → new ≡ owed_from new_walk w q b
at_skip {W = W} walk new_walk w p q from a b old new same at shaped e up low =
    agreed new_walk w q b new shaped
    (ap (ids_from (front q b)) e ∙ (from_from from (front q b) old low
    ∙ (later (front p a) (front q b) old (walk.set w) up (agrees walk w p a old at) ∙ ap (λ (v : Walk W). ids_from (front q b) (v.set w)) (sym same))))

-- the position of an iterator without members
abbrev pub at_place : ℕ → FrozenIter
at_place place = record { place = place; accepted = None }
