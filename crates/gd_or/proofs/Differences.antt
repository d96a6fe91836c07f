-- What a difference owes, step by step.
use Rattle.std.proofs.Common.{◌≡◌, ◌∙◌, ◌<◌, ◌≤◌, ℕ, Bool, true, false, List, Option, Some, None, refl, ap, arith, ⊎_elim}
use Rattle.std.specs.Prelude.{max, nat_lt, if◌then◌else◌, not, ◌&&◌, filter}
use Rattle.std.proofs.lemmas.Bool.{cases_lt, lt-ltb, le-ltb}
use Rattle.gd_iter_core.specs.declared.turn.Turn.{Turn}
use Rattle.gd_iter_core.specs.Owed.{Walk, RisesFrom, ids_from, has_id, NextGives, FindGives, owed_from}
use Rattle.gd_iter_core.specs.Positions.{Moves, at_next, at_skip}
use Rattle.gd_iter_core.specs.Rising.{has-filter, from_all}
use Rattle.gd_iter_core.specs.Sieved.{kept, Produces, produces, sieved_skip, sieved_rises_from, sieved_begins}
use Rattle.gd_or.specs.Without.{lacks, without_walk, without_owed}

-- what the first iterator gives
pub without_produces : {W : Type 0} (less : Walk W) (w : W) (owed new : List ℕ) (p : ℕ) (b : Bool) (t : Turn) → b ≡ false → RisesFrom 0 owed → FindGives p owed t new
    → Produces (without_owed less w owed p b) t (λ id. without_owed less w new id true) (without_owed less w new p b)
without_produces less w owed new p b t none r h = rw none (produces (lacks less w) owed new p t r h)

-- what is still asked of a place
abbrev still : {W : Type 0} → Walk W → W → ℕ → Bool → Option Bool
still less w place produced = if produced then Some (lacks less w place) else None

-- places that are given up
pub without_skip : {I J W : Type 0} (walk : J → Walk W) (owed : I → W → List ℕ) (w : W) (i j : I) (x y : J) (p q from : ℕ) (a b : Bool)
    → j ≡ i → y ≡ x → q ≡ max p from → b ≡ (if nat_lt p from then false else a) → RisesFrom 0 (owed i w)
    → without_owed (walk y) w (owed j w) q b ≡ ids_from from (without_owed (walk x) w (owed i w) p a)
without_skip walk owed w i j x y p q from a b ei ex eq eb r = ⊎_elim
    (λ (low : p < from).
    let none : b ≡ false = rw (lt-ltb p from low) at eb in
    rw (ei, ex, none) (sieved_skip (lacks (walk x) w) (owed i w) p q from (still (walk x) w p a) None r eq (rw (lt-ltb p from low) refl)))
    (λ (high : from ≤ p).
    let same : b ≡ a = rw (le-ltb p from high) at eb in
    let place : q ≡ p = omega (arith, eq, high) in
    rw (ei, ex, same) (sieved_skip (lacks (walk x) w) (owed i w) p q from (still (walk x) w p a) (still (walk x) w q a) r eq (rw (place, le-ltb p from high) refl)))
    (cases_lt p from)

same_walk : {I J W : Type 0} (from : I → Walk W) (less : J → Walk W) (i j : I) (x y : J) → from j ≡ from i → y ≡ x → without_walk (from j) (less y) ≡ without_walk (from i) (less x)
same_walk from less i j x y ei ex = rw (ei, ex) refl

-- the position after a turn
pub without_at_next : {I J W : Type 0} (from : I → Walk W) (less : J → Walk W) (owed : I → W → List ℕ) (w : W) (i j : I) (x y : J) (p q : ℕ) (a b : Bool) (t : Turn)
    → from j ≡ from i → y ≡ x → RisesFrom 0 (owed j w) → without_owed (less x) w (owed i w) p a ≡ owed_from (without_walk (from i) (less x)) w p None
    → NextGives (without_owed (less x) w (owed i w) p a) t (without_owed (less y) w (owed j w) q b) → Moves p t q
    → without_owed (less y) w (owed j w) q b ≡ owed_from (without_walk (from j) (less y)) w q None
without_at_next from less owed w i j x y p q a b t ei ex r at gives moves =
    at_next (without_walk (from i) (less x)) (without_walk (from j) (less y)) w p q None None (without_owed (less x) w (owed i w) p a) (without_owed (less y) w (owed j w) q b) t
    (same_walk from less i j x y ei ex) at (sieved_rises_from (lacks (less y) w) (owed j w) q (still (less y) w q b) r) gives moves

-- and where places were given up
pub without_at_skip : {I J W : Type 0} (from : I → Walk W) (less : J → Walk W) (owed : I → W → List ℕ) (w : W) (i j : I) (x y : J) (p q up : ℕ) (a b : Bool)
    → j ≡ i → y ≡ x → q ≡ max p up → b ≡ (if nat_lt p up then false else a) → RisesFrom 0 (owed i w)
    → without_owed (less x) w (owed i w) p a ≡ owed_from (without_walk (from i) (less x)) w p None
    → without_owed (less y) w (owed j w) q b ≡ owed_from (without_walk (from j) (less y)) w q None
without_at_skip from less owed w i j x y p q up a b ei ex eq eb r at =
    at_skip (without_walk (from i) (less x)) (without_walk (from j) (less y)) w p q up None None (without_owed (less x) w (owed i w) p a) (without_owed (less y) w (owed j w) q b)
    (same_walk from less i j x y (ap from ei) ex) at
    (sieved_rises_from (lacks (less y) w) (owed j w) q (still (less y) w q b) (rw ei r))
    (without_skip less owed w i j x y p q up a b ei ex eq eb r) (omega (arith, eq)) (omega (arith, eq))

-- a position that was taken
pub without_taken : {I J W : Type 0} (from : I → Walk W) (less : J → Walk W) (owed : I → W → List ℕ) (w : W) (i j : I) (x y : J) (p q : ℕ) (b : Bool) (accepted : Option ℕ)
    → y ≡ x → q ≡ p → b ≡ false → accepted ≡ None → owed j w ≡ ids_from p ((from i).set w)
    → without_owed (less y) w (owed j w) q b ≡ owed_from (without_walk (from i) (less x)) w p accepted
without_taken from less owed w i j x y p q b accepted ex eq eb none e =
    rw (ex, eq, eb, none) (ap (kept (lacks (less x) w) p) e ∙ sieved_begins (lacks (less x) w) ((from i).set w) p p (omega arith))

-- a place is in the difference where the first has it and the other lacks it
pub has_less : {W : Type 0} (from less : Walk W) (w : W) (id : ℕ) (a b : Bool) → has_id (from.set w) id ≡ a → has_id (less.set w) id ≡ b
    → has_id (filter (lacks less w) (from.set w)) id ≡ (a && not b)
has_less from less w id a b ha hb = has-filter (lacks less w) (from.set w) id ∙ rw (ha, hb) refl

pub has_less_no : {W : Type 0} (from less : Walk W) (w : W) (id : ℕ) → has_id (from.set w) id ≡ false → has_id (filter (lacks less w) (from.set w)) id ≡ false
has_less_no from less w id ha = has-filter (lacks less w) (from.set w) id ∙ rw ha refl

-- a new difference
pub new_walks : {I J W : Type 0} (from : I → Walk W) (less : J → Walk W) (w : W) (i j : I) (x y : J) → j ≡ i → y ≡ x
    → filter (lacks (less y) w) ((from j).set w) ≡ filter (lacks (less x) w) ((from i).set w)
new_walks from less w i j x y ei ex = rw (ei, ex) refl

pub new_owes : {I J W : Type 0} (from : I → Walk W) (less : J → Walk W) (owed : I → W → List ℕ) (w : W) (i j : I) (y : J) (p : ℕ) (b : Bool)
    → j ≡ i → p ≡ 0 → b ≡ false → owed i w ≡ (from i).set w → RisesFrom 0 ((from i).set w) → without_owed (less y) w (owed j w) p b ≡ filter (lacks (less y) w) ((from j).set w)
new_owes from less owed w i j y p b ei start none fresh r =
    rw (ei, start, none, fresh) (ap (filter (lacks (less y) w)) (from_all 0 0 ((from i).set w) (omega arith) r))
