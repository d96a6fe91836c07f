-- How far the text of trees has come, and the pieces so far.
use Rattle.std.proofs.Common.{◌≡◌, ◌∙◌, refl, sym, ap, subst, arith, ℕ, zero, suc, ◌+◌, ◌-◌, ◌*◌, ◌<◌, ◌≤◌, ◌^◌, List, [], ◌∷◌, ◌++◌, length, flat_map, Bool, true, false, not, ◌&&◌, ◌==◌, nat_le, if◌then◌else◌, Option, Some, None, Result, Ok, Err, length-append, append_assoc, decimal, codes, eqb-true, le-leb}
use Rattle.std.proofs.lemmas.List.{append-nil}
use Rattle.std.proofs.lemmas.Bool.Decides.{nat_tests}
use Rattle.std.proofs.lemmas.Fmt.{decimal_digit, decimal_step}
use Rattle.std.specs.Char.{is_ascii_digit}
use Rattle.std.specs.List.{AllByRecursion}
use Rattle.gd_grammar.specs.Grammar.{Reads}
use Rattle.gd_tree.specs.Trees.{Tree, tree, Trees, no_trees, and_tree, TreeLists, no_lists, and_list, trees_of, tree_lists_of}
use Rattle.gd_prim.specs.Limits.{max_prims}
use Rattle.gd_bytes.specs.Frozen.{tree_text, trees_text, more_trees, more_lists, tree_in_bounds, trees_in_bounds, lists_in_bounds, place_in_bounds}
use Rattle.gd_frozen.specs.declared.tree.Piece.{Piece}
use Rattle.gd_frozen.specs.declared.tree.Piece.TheVariants as piece
use Rattle.gd_frozen.specs.declared.tree.At.{At}
use Rattle.gd_frozen.specs.declared.tree.At.TheVariants as at
use Rattle.gd_frozen.specs.Pieces.{tree_pieces, trees_pieces, lists_pieces, Open, Growing, nothing_grown, settled, opened, closed, put, grown, Move, stops, ends, goes, step, after_tree, close_list, begin_place, begins_place, place_goes_on, follow, run, behind_pieces}

-- ---- texts

-- trees, each with a semicolon behind it
abbrev pub before : List Tree → List ℕ
before ts = flat_map (λ t. tree_text t ++ codes ";") ts

-- lists, each with a comma behind it
abbrev pub lists_before : List Trees → List ℕ
lists_before ls = flat_map (λ l. trees_text l ++ codes ",") ls

-- up to the bracket of the innermost list that is open
abbrev pub opens_text : List Open → List ℕ
opens_text [] = codes "["
opens_text (o ∷ os) = opens_text os ++ (before o.done ++ (decimal o.place ++ (codes "(" ++ (lists_before o.lists ++ codes "["))))

flat_snoc : {A : Type 0} (f : A → List ℕ) (xs : List A) (x : A) → flat_map f (xs ++ x ∷ []) ≡ flat_map f xs ++ f x
flat_snoc f [] x = append-nil (f x)
flat_snoc f (y ∷ xs) x = ap (λ (l : List ℕ). f y ++ l) (flat_snoc f xs x) ∙ sym (append_assoc (f y) (flat_map f xs) (f x))

pub before_more : (ts : List Tree) (t : Tree) → before (ts ++ t ∷ []) ≡ before ts ++ (tree_text t ++ codes ";")
before_more ts t = flat_snoc (λ t. tree_text t ++ codes ";") ts t

pub lists_more : (ls : List Trees) (l : Trees) → lists_before (ls ++ l ∷ []) ≡ lists_before ls ++ (trees_text l ++ codes ",")
lists_more ls l = flat_snoc (λ l. trees_text l ++ codes ",") ls l

-- the last of trees
more_is : (ds : List Tree) (t : Tree) → 59 ∷ (before ds ++ tree_text t) ≡ more_trees (trees_of (ds ++ t ∷ []))
more_is [] t = simp append-nil
more_is (d ∷ ds) t = simp append_assoc (ap (λ (l : List ℕ). 59 ∷ (tree_text d ++ l)) (more_is ds t))

-- trees between brackets
pub list_text : (ds : List Tree) (t : Tree) → 91 ∷ (before ds ++ (tree_text t ++ codes "]")) ≡ trees_text (trees_of (ds ++ t ∷ []))
list_text [] t = simp append_assoc
list_text (d ∷ ds) t =
    let more : 59 ∷ (before ds ++ tree_text t) ≡ more_trees (trees_of (ds ++ t ∷ [])) = more_is ds t in
    let glued : (59 ∷ (before ds ++ tree_text t)) ++ codes "]" ≡ more_trees (trees_of (ds ++ t ∷ [])) ++ codes "]" = ap (λ (l : List ℕ). l ++ codes "]") more in
    let ends : 59 ∷ (before ds ++ (tree_text t ++ codes "]")) ≡ more_trees (trees_of (ds ++ t ∷ [])) ++ codes "]" = simp append_assoc at glued in
    simp append_assoc (ap (λ (l : List ℕ). 91 ∷ (tree_text d ++ l)) ends)

-- the last of lists
further_is : (ls : List Trees) (l : Trees) → 44 ∷ (lists_before ls ++ trees_text l) ≡ more_lists (tree_lists_of (ls ++ l ∷ []))
further_is [] l = simp append-nil
further_is (k ∷ ls) l = simp append_assoc (ap (λ (x : List ℕ). 44 ∷ (trees_text k ++ x)) (further_is ls l))

-- a tree with lists
pub lists_text : (p : ℕ) (ls : List Trees) (l : Trees) → decimal p ++ (40 ∷ (lists_before ls ++ (trees_text l ++ codes ")"))) ≡ tree_text (tree p (tree_lists_of (ls ++ l ∷ [])))
lists_text p [] l = simp append_assoc
lists_text p (k ∷ ls) l =
    let more : 44 ∷ (lists_before ls ++ trees_text l) ≡ more_lists (tree_lists_of (ls ++ l ∷ [])) = further_is ls l in
    let glued : (44 ∷ (lists_before ls ++ trees_text l)) ++ codes ")" ≡ more_lists (tree_lists_of (ls ++ l ∷ [])) ++ codes ")" = ap (λ (x : List ℕ). x ++ codes ")") more in
    let ends : 44 ∷ (lists_before ls ++ (trees_text l ++ codes ")")) ≡ more_lists (tree_lists_of (ls ++ l ∷ [])) ++ codes ")" = simp append_assoc at glued in
    simp append_assoc (ap (λ (x : List ℕ). decimal p ++ (40 ∷ (trees_text k ++ x))) ends)

-- ---- pieces

abbrev pub forest_pieces : List Tree → List Piece
forest_pieces ts = flat_map tree_pieces ts

pub forest_is : (ts : List Tree) → trees_pieces (trees_of ts) ≡ forest_pieces ts
forest_is [] = refl
forest_is (t ∷ ts) = ap (λ (l : List Piece). tree_pieces t ++ l) (forest_is ts)

abbrev pub outer_pieces : List Open → List Piece
outer_pieces [] = []
outer_pieces (o ∷ os) = outer_pieces os ++ (forest_pieces o.done ++ (piece.Place o.place ∷ (lists_pieces (tree_lists_of o.lists) ++ piece.Opens ∷ [])))

-- the pieces that have made this
abbrev pub pieces_of : Growing → List Piece
pieces_of g = outer_pieces g.outer ++ forest_pieces (settled g.done g.last)

pieces_snoc : (xs : List Tree) (x : Tree) → forest_pieces (xs ++ x ∷ []) ≡ forest_pieces xs ++ tree_pieces x
pieces_snoc [] x = simp append-nil
pieces_snoc (y ∷ xs) x = ap (λ (l : List Piece). tree_pieces y ++ l) (pieces_snoc xs x) ∙ sym (append_assoc (tree_pieces y) (forest_pieces xs) (tree_pieces x))

lists_snoc : (ls : List Trees) (l : Trees) → lists_pieces (tree_lists_of (ls ++ l ∷ [])) ≡ lists_pieces (tree_lists_of ls) ++ (piece.Opens ∷ (trees_pieces l ++ piece.Closes ∷ []))
lists_snoc [] l = refl
lists_snoc (k ∷ ls) l = simp append_assoc (ap (λ (x : List Piece). piece.Opens ∷ (trees_pieces k ++ (piece.Closes ∷ x))) (lists_snoc ls l))

pub placed : (g : Growing) (p : ℕ) → pieces_of (put g (piece.Place p)) ≡ pieces_of g ++ piece.Place p ∷ []
placed g p = simp append_assoc (ap (λ (l : List Piece). outer_pieces g.outer ++ l) (pieces_snoc (settled g.done g.last) (tree p no_lists)))

pub opening : (g : Growing) (p : ℕ) (ls : List Trees) → g.last ≡ Some (p, ls) → pieces_of (put g piece.Opens) ≡ pieces_of g ++ piece.Opens ∷ []
opening g p ls is = subst (λ (o : Option (ℕ × List Trees)). pieces_of (opened g o) ≡ (outer_pieces g.outer ++ forest_pieces (settled g.done o)) ++ piece.Opens ∷ []) (sym is) (simp (append_assoc, append-nil, pieces_snoc))

pub closing : (g : Growing) (o : Open) (os : List Open) → g.outer ≡ o ∷ os → pieces_of (put g piece.Closes) ≡ pieces_of g ++ piece.Closes ∷ []
closing g o os is =
    subst (λ (l : List Open). pieces_of (closed l (settled g.done g.last)) ≡ (outer_pieces l ++ forest_pieces (settled g.done g.last)) ++ piece.Closes ∷ []) (sym is) (simp (append_assoc, pieces_snoc, lists_snoc, forest_is))
