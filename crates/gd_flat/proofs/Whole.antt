-- The trees that all pieces make.
use Rattle.std.proofs.Common.{◌≡◌, ◌∙◌, ℕ, zero, suc, List, [], ◌∷◌, drop, length, get_or, ◌<◌, ◌≤◌, ◌+◌, refl, sym, ap, add-one, drop-cons, arith}
use Rattle.gd_tree.specs.Trees as defs
use Rattle.gd_frozen.specs.declared.tree.Piece.{Piece}
use Rattle.gd_frozen.specs.Pieces.{Growing, nothing_grown, settled, put, grown, trees_in}

pub trees_whole : (ps : List Piece) (g : Growing) (ts : List defs.Tree) → grown nothing_grown ps ≡ g → ts ≡ settled g.done g.last → defs.trees_of ts ≡ trees_in ps
unfolding trees_in
trees_whole ps g ts is are = ap defs.trees_of (are ∙ ap (λ (h : Growing). settled h.done h.last) (sym is))

pieces_left : (xs : List Piece) (i : ℕ) (x : Piece) → i < length xs → x ≡ get_or xs i x → drop i xs ≡ x ∷ drop (i + 1) xs
pieces_left xs i x within is = rw (add-one, drop-cons xs i x) (ap (λ y. y ∷ drop (suc i) xs) (sym is))

pub one_piece : (ps : List Piece) (i : ℕ) (p : Piece) (g h whole : Growing) → i < length ps → p ≡ get_or ps i p → h ≡ put g p → grown g (drop i ps) ≡ whole → grown h (drop (i + 1) ps) ≡ whole
one_piece ps i p g h whole within is made was = ap (λ k. grown k (drop (i + 1) ps)) made ∙ sym (ap (grown g) (pieces_left ps i p within is)) ∙ was

-- where none is left
pub none_left : (ps : List Piece) (g whole : Growing) (i : ℕ) → drop i ps ≡ [] → grown g (drop i ps) ≡ whole → whole ≡ g
none_left ps g whole i none was = sym was ∙ ap (grown g) none

dropped : {A : Type 0} (xs : List A) (i : ℕ) → length xs ≤ i → drop i xs ≡ []
dropped [] zero few = refl
dropped [] (suc i) few = refl
dropped (x ∷ xs) zero few = absurd (omega (arith, few))
dropped (x ∷ xs) (suc i) few = dropped xs i (omega (arith, few))

pub trees_done : (ps : List Piece) (i : ℕ) (g : Growing) (ts : List defs.Tree) → length ps ≤ i → grown g (drop i ps) ≡ grown nothing_grown ps → ts ≡ settled g.done g.last → defs.trees_of ts ≡ trees_in ps
trees_done ps i g ts few was are = trees_whole ps g ts (sym was ∙ ap (grown g) (dropped ps i few)) are
