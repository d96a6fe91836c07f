-- The texts of trees in their parts.
use Rattle.std.proofs.Common.{◌≡◌, ◌∙◌, refl, sym, ap, ℕ, suc, List, [], ◌∷◌, ◌++◌, Bool, true, false, if◌then◌else◌, map, length, get_or, ◌<◌, ◌≤◌, ◌+◌, ◌==◌, drop, rules, decimal, append_assoc, add-one, drop-cons}
use Rattle.std.specs.Prelude.{codes}
use Rattle.std.proofs.lemmas.List.{append-nil, drop_all}
use Rattle.gd_tree.specs.Trees as trees
use Rattle.gd_tree.specs.Trees.{trees_of, tree_lists_of}
use Rattle.gd_bytes.specs.Frozen.{tree_text, trees_text, more_trees, more_lists}
use Rattle.gd_trees.specs.View.{view, trees_view}
use Rattle.gd_trees.specs.declared.tree.Tree.{Tree, out-Tree}
use Rattle.gd_trees.specs.declared.tree.Tree.TheFolds.{the_lemmas}
use Rattle.gd_trees.specs.declared.tree.Trees.{Trees, out-Trees}
use Rattle.gd_tplang.specs.Printed.{trees_from, lists_from, lists_part}

-- a tree is its place and its lists
pub tree_parts : (t : Tree) → tree_text (view t) ≡ decimal (out-Tree t).place ++ lists_part (tree_lists_of (map trees_view (out-Tree t).lists.items))
tree_parts t = ap tree_text (seen t) ∙ by (out-Tree t).place (tree_lists_of (map trees_view (out-Tree t).lists.items))
  where
    seen : (t : Tree) → view t ≡ trees.tree (out-Tree t).place (tree_lists_of (map trees_view (out-Tree t).lists.items))
    seen t = search (rules, the_lemmas)

    by : (p : ℕ) (ls : trees.TreeLists) → tree_text (trees.tree p ls) ≡ decimal p ++ lists_part ls
    by p trees.no_lists = sym (append-nil (decimal p))
    by p (trees.and_list ts ls) = regroup (decimal p) (trees_text ts) (more_lists ls)
      where
        regroup : (d ts ls : List ℕ) → (((d ++ codes "(") ++ ts) ++ ls) ++ codes ")" ≡ d ++ (codes "(" ++ ((ts ++ ls) ++ codes ")"))
        regroup d ts ls = append_assoc ((d ++ codes "(") ++ ts) ls (codes ")") ∙ append_assoc (d ++ codes "(") ts (ls ++ codes ")") ∙ append_assoc d (codes "(") (ts ++ (ls ++ codes ")")) ∙ ap (λ l. d ++ (codes "(" ++ l)) (sym (append_assoc ts ls (codes ")")))

-- a text of trees is what they have, in brackets
pub in_brackets : (ts : trees.Trees) → trees_text ts ≡ codes "[" ++ (trees_from true ts ++ codes "]")
in_brackets trees.no_trees = refl
in_brackets (trees.and_tree t ts) = refl

pub trees_parts : (ts : Trees) → trees_text (trees_view ts) ≡ codes "[" ++ (trees_from true (trees_of (map view (out-Trees ts).items.items)) ++ codes "]")
trees_parts ts = ap trees_text (seen ts) ∙ in_brackets (trees_of (map view (out-Trees ts).items.items))
  where
    seen : (ts : Trees) → trees_view ts ≡ trees_of (map view (out-Trees ts).items.items)
    seen ts = search (rules, the_lemmas)

abbrev mark : Bool → ℕ → List ℕ
mark first c = if first then [] else (c ∷ [])

pub list_left : {A : Type 0} (xs : List A) (i : ℕ) (x : A) → i < length xs → x ≡ get_or xs i x → drop i xs ≡ x ∷ drop (i + 1) xs
list_left xs i x within is = rw (add-one, drop-cons xs i x) (ap (λ y. y ∷ drop (suc i) xs) (sym is))

-- a tree in front of others
pub tree_from : (first : Bool) (t : trees.Tree) (ts : trees.Trees) → trees_from first (trees.and_tree t ts) ≡ mark first 59 ++ (tree_text t ++ more_trees ts)
tree_from true t ts = refl
tree_from false t ts = refl

-- a list in front of others
pub list_from : (first : Bool) (ts : trees.Trees) (ls : trees.TreeLists) → lists_from first (trees.and_list ts ls) ≡ mark first 44 ++ (trees_text ts ++ more_lists ls)
list_from true ts ls = refl
list_from false ts ls = refl

regroup : (a b c d : List ℕ) → ((a ++ b) ++ c) ++ d ≡ a ++ (b ++ (c ++ d))
regroup a b c d = append_assoc (a ++ b) c d ∙ append_assoc a b (c ++ d)

-- one tree more
pub one_tree : {A : Type 0} (f : A → trees.Tree) (xs : List A) (i : ℕ) (x : A) (first : Bool) (out marked more all : List ℕ) → i < length xs → x ≡ get_or xs i x → marked ≡ out ++ mark first 59 → more ≡ marked ++ tree_text (f x)
    → out ++ trees_from first (trees_of (map f (drop i xs))) ≡ all → more ++ trees_from false (trees_of (map f (drop (i + 1) xs))) ≡ all
one_tree {A} f xs i x first out marked more all within is marked_is more_is left =
    let rest : List ℕ = more_trees (trees_of (map f (drop (i + 1) xs))) in
    ap (λ l. l ++ rest) (more_is ∙ ap (λ l. l ++ tree_text (f x)) marked_is) ∙ regroup out (mark first 59) (tree_text (f x)) rest ∙ ap (λ l. out ++ l) (sym (tree_from first (f x) (trees_of (map f (drop (i + 1) xs)))))
    ∙ ap (λ (ys : List A). out ++ trees_from first (trees_of (map f ys))) (sym (list_left xs i x within is)) ∙ left

-- one list more
pub one_list : (xs : List Trees) (i : ℕ) (x : Trees) (first : Bool) (out marked more all : List ℕ) → i < length xs → x ≡ get_or xs i x → marked ≡ out ++ mark first 44 → more ≡ marked ++ trees_text (trees_view x)
    → out ++ lists_from first (tree_lists_of (map trees_view (drop i xs))) ≡ all → more ++ lists_from false (tree_lists_of (map trees_view (drop (i + 1) xs))) ≡ all
one_list xs i x first out marked more all within is marked_is more_is left =
    let rest : List ℕ = more_lists (tree_lists_of (map trees_view (drop (i + 1) xs))) in
    ap (λ l. l ++ rest) (more_is ∙ ap (λ l. l ++ trees_text (trees_view x)) marked_is) ∙ regroup out (mark first 44) (trees_text (trees_view x)) rest ∙ ap (λ l. out ++ l) (sym (list_from first (trees_view x) (tree_lists_of (map trees_view (drop (i + 1) xs)))))
    ∙ ap (λ ys. out ++ lists_from first (tree_lists_of (map trees_view ys))) (sym (list_left xs i x within is)) ∙ left

no_tree : (first : Bool) → trees_from first trees.no_trees ≡ []
no_tree true = refl
no_tree false = refl

no_list : (first : Bool) → lists_from first trees.no_lists ≡ []
no_list true = refl
no_list false = refl

-- no tree is left
pub trees_left : {A : Type 0} (f : A → trees.Tree) (xs : List A) (i : ℕ) (first : Bool) → length xs ≤ i → trees_from first (trees_of (map f (drop i xs))) ≡ []
trees_left {A} f xs i first full = ap (λ (ys : List A). trees_from first (trees_of (map f ys))) (drop_all i xs full) ∙ no_tree first

pub trees_end : {A : Type 0} (f : A → trees.Tree) (xs : List A) (i : ℕ) (first : Bool) (out all : List ℕ) → length xs ≤ i → out ++ trees_from first (trees_of (map f (drop i xs))) ≡ all → out ≡ all
trees_end f xs i first out all full left = sym (append-nil out) ∙ ap (λ l. out ++ l) (sym (trees_left f xs i first full)) ∙ left

-- no list is left
pub lists_left : (xs : List Trees) (i : ℕ) (first : Bool) → length xs ≤ i → lists_from first (tree_lists_of (map trees_view (drop i xs))) ≡ []
lists_left xs i first full = ap (λ ys. lists_from first (tree_lists_of (map trees_view ys))) (drop_all i xs full) ∙ no_list first

pub lists_end : (xs : List Trees) (i : ℕ) (first : Bool) (out all : List ℕ) → length xs ≤ i → out ++ lists_from first (tree_lists_of (map trees_view (drop i xs))) ≡ all → out ≡ all
lists_end xs i first out all full left = sym (append-nil out) ∙ ap (λ l. out ++ l) (sym (lists_left xs i first full)) ∙ left

-- what stands between brackets behind what was there
pub bracketed : (old inside out last begin close : List ℕ) → out ≡ (old ++ begin) ++ inside → last ≡ out ++ close → last ≡ old ++ (begin ++ (inside ++ close))
bracketed old inside out last begin close out_is last_is = last_is ∙ ap (λ l. l ++ close) out_is ∙ append_assoc (old ++ begin) inside close ∙ append_assoc old begin (inside ++ close)

-- lists that are there stand in brackets
pub some_lists : (xs : List Trees) → (length xs == 0) ≡ false → codes "(" ++ (lists_from true (tree_lists_of (map trees_view xs)) ++ codes ")") ≡ lists_part (tree_lists_of (map trees_view xs))
some_lists [] some = cc
some_lists (x ∷ xs) some = refl
