-- How many bytes the texts of trees have, counted up to the greatest number of 64 bits.
use Rattle.std.proofs.Common.{◌≡◌, ◌∙◌, refl, sym, ap, ℕ, suc, List, [], ◌∷◌, ◌++◌, Bool, true, false, if◌then◌else◌, map, length, get_or, ◌<◌, ◌≤◌, ◌+◌, ◌==◌, drop, decimal, arith, length-append, min}
use Rattle.std.specs.Prelude.{codes}
use Rattle.std.proofs.lemmas.Bool.{lt-ltb, le-ltb}
use Rattle.gd_tree.specs.Trees as trees
use Rattle.gd_tree.specs.Trees.{trees_of, tree_lists_of}
use Rattle.gd_bytes.specs.Frozen.{tree_text, trees_text, more_trees, more_lists}
use Rattle.gd_trees.specs.View.{view, trees_view}
use Rattle.gd_trees.specs.declared.tree.Tree.{Tree, out-Tree}
use Rattle.gd_trees.specs.declared.tree.Trees.{Trees, out-Trees}
use Rattle.gd_tplang.specs.Meaning.{within_answer}
use Rattle.gd_tplang.specs.Printed.{trees_from, lists_from, lists_part}
use Rattle.gd_tplang.proofs.Prints.{tree_parts, trees_parts, in_brackets, list_left, tree_from, list_from, trees_left, lists_left, some_lists}

-- a place and the lists come to the length of a tree
pub tree_counted : (t : Tree) (own within : ℕ) → own ≡ length (decimal (out-Tree t).place) → within ≡ min (length (lists_part (tree_lists_of (map trees_view (out-Tree t).lists.items)))) 18446744073709551615
    → min (own + within) 18446744073709551615 ≡ min (length (tree_text (view t))) 18446744073709551615
tree_counted t own within own_is within_is =
    let whole = ap length (tree_parts t) in
    let parts = length-append (decimal (out-Tree t).place) (lists_part (tree_lists_of (map trees_view (out-Tree t).lists.items))) in
    omega (arith, whole, parts, own_is, within_is)

one_more : (n : ℕ) → suc n ≡ 1 + n
one_more n = omega arith

none_more : (n : ℕ) → n ≡ 0 + n
none_more n = omega arith

marked : (first : Bool) (c : ℕ) (l : List ℕ) → length ((if first then [] else (c ∷ [])) ++ l) ≡ (if first then 0 else 1) + length l
marked true c l = none_more (length l)
marked false c l = one_more (length l)

-- one tree more comes to the count
pub one_tree : {A : Type 0} (f : A → trees.Tree) (xs : List A) (i : ℕ) (x : A) (first : Bool) (total n all : ℕ) → i < length xs → x ≡ get_or xs i x → n ≡ min (length (tree_text (f x))) 18446744073709551615
    → min (total + length (trees_from first (trees_of (map f (drop i xs))))) 18446744073709551615 ≡ all
    → min (min (total + ((if first then 0 else 1) + n)) 18446744073709551615 + length (trees_from false (trees_of (map f (drop (i + 1) xs))))) 18446744073709551615 ≡ all
one_tree {A} f xs i x first total n all within is n_is was =
    let rest : List ℕ = more_trees (trees_of (map f (drop (i + 1) xs))) in
    let front : length (trees_from first (trees_of (map f (drop i xs)))) ≡ (if first then 0 else 1) + length (tree_text (f x) ++ rest) =
    ap (λ (ys : List A). length (trees_from first (trees_of (map f ys)))) (list_left xs i x within is) ∙ (ap length (tree_from first (f x) (trees_of (map f (drop (i + 1) xs)))) ∙ marked first 59 (tree_text (f x) ++ rest)) in
    let parts = length-append (tree_text (f x)) rest in
    omega (arith, front, parts, n_is, was)

-- one list more comes to the count
pub one_list : (xs : List Trees) (i : ℕ) (x : Trees) (first : Bool) (total n all : ℕ) → i < length xs → x ≡ get_or xs i x → n ≡ min (length (trees_text (trees_view x))) 18446744073709551615
    → min (total + length (lists_from first (tree_lists_of (map trees_view (drop i xs))))) 18446744073709551615 ≡ all
    → min (min (total + ((if first then 0 else 1) + n)) 18446744073709551615 + length (lists_from false (tree_lists_of (map trees_view (drop (i + 1) xs))))) 18446744073709551615 ≡ all
one_list xs i x first total n all within is n_is was =
    let rest : List ℕ = more_lists (tree_lists_of (map trees_view (drop (i + 1) xs))) in
    let front : length (lists_from first (tree_lists_of (map trees_view (drop i xs)))) ≡ (if first then 0 else 1) + length (trees_text (trees_view x) ++ rest) =
    ap (λ ys. length (lists_from first (tree_lists_of (map trees_view ys)))) (list_left xs i x within is) ∙ (ap length (list_from first (trees_view x) (tree_lists_of (map trees_view (drop (i + 1) xs)))) ∙ marked first 44 (trees_text (trees_view x) ++ rest)) in
    let parts = length-append (trees_text (trees_view x)) rest in
    omega (arith, front, parts, n_is, was)

-- two brackets, and what stands between them
bracketed : (front inside back whole : List ℕ) → length front ≡ 1 → length back ≡ 1 → whole ≡ front ++ (inside ++ back) → length whole ≡ 2 + length inside
bracketed front inside back whole one two is =
    let all = ap length is in
    let outer = length-append front (inside ++ back) in
    let inner = length-append inside back in
    omega (arith, all, outer, inner, one, two)

-- the length of trees is that of what stands between the brackets, and theirs
pub trees_length : (ts : trees.Trees) → length (trees_text ts) ≡ 2 + length (trees_from true ts)
trees_length ts = bracketed (codes "[") (trees_from true ts) (codes "]") (trees_text ts) refl refl (in_brackets ts)

pub trees_counted : (ts : Trees) → length (trees_text (trees_view ts)) ≡ 2 + length (trees_from true (trees_of (map view (out-Trees ts).items.items)))
trees_counted ts = bracketed (codes "[") (trees_from true (trees_of (map view (out-Trees ts).items.items))) (codes "]") (trees_text (trees_view ts)) refl refl (trees_parts ts)

pub lists_counted : (xs : List Trees) → (length xs == 0) ≡ false → length (lists_part (tree_lists_of (map trees_view xs))) ≡ 2 + length (lists_from true (tree_lists_of (map trees_view xs)))
lists_counted xs some = bracketed (codes "(") (lists_from true (tree_lists_of (map trees_view xs))) (codes ")") (lists_part (tree_lists_of (map trees_view xs))) refl refl (sym (some_lists xs some))

-- at the end the count is the length
pub trees_done : {A : Type 0} (f : A → trees.Tree) (xs : List A) (i : ℕ) (first : Bool) (total whole : ℕ) → length xs ≤ i → total ≤ 18446744073709551615 → whole ≡ 2 + length (trees_from true (trees_of (map f xs)))
    → min (total + length (trees_from first (trees_of (map f (drop i xs))))) 18446744073709551615 ≡ min (2 + length (trees_from true (trees_of (map f xs)))) 18446744073709551615
    → total ≡ min whole 18446744073709551615
trees_done f xs i first total whole full small is was =
    let none = ap length (trees_left f xs i first full) in
    omega (arith, none, small, is, was)

pub lists_done : (xs : List Trees) (i : ℕ) (first : Bool) (total whole : ℕ) → length xs ≤ i → total ≤ 18446744073709551615 → whole ≡ 2 + length (lists_from true (tree_lists_of (map trees_view xs)))
    → min (total + length (lists_from first (tree_lists_of (map trees_view (drop i xs))))) 18446744073709551615 ≡ min (2 + length (lists_from true (tree_lists_of (map trees_view xs)))) 18446744073709551615
    → total ≡ min whole 18446744073709551615
lists_done xs i first total whole full small is was =
    let none = ap length (lists_left xs i first full) in
    omega (arith, none, small, is, was)

-- ---- an answer within the bound

pub short : (text : List ℕ) (n : ℕ) → n ≡ min (length text) 18446744073709551615 → n ≤ 1048576 → within_answer text ≡ text
short text n is few = ap (λ b. if b then codes "! large " ++ decimal (length text) else text) (le-ltb 1048576 (length text) (omega (arith, is, few)))

pub long : (text : List ℕ) (n : ℕ) → n ≡ min (length text) 18446744073709551615 → n < 18446744073709551615 → 1048576 < n → within_answer text ≡ codes "! large " ++ decimal n
long text n is less more =
    let same : length text ≡ n = omega (arith, is, less) in
    ap (λ b. if b then codes "! large " ++ decimal (length text) else text) (lt-ltb 1048576 (length text) (omega (arith, same, more))) ∙ ap (λ m. codes "! large " ++ decimal m) same
