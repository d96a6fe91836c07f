-- The row of a tree, and the rows of a page.
use Rattle.std.proofs.Common.{◌≡◌, ℕ, zero, suc, ◌<◌, List, [], ◌∷◌, length, map, take, Ok, refl, ap, sym, ◌∙◌}
use Rattle.gd_prim.specs.declared.Primitive.{Primitive}
use Rattle.gd_tree.specs.Trees.{Tree, place_of, lists_of}
use Rattle.gd_defs.specs.Query.{Query}
use Rattle.gd_defs.specs.Asked.{Asked, asked_query}
use Rattle.gd_defs.specs.Plan.{template_of}
use Rattle.gd_defs.specs.Reply.{mark_row}
use Rattle.gd_defs.specs.Rows as defs
use Rattle.gd_defs.specs.Template.{tree_of}
use Rattle.gd_runs.specs.Shape.Answers.{key_places, sort_lists}
use Rattle.gd_order_laws.proofs.Marks.{mark_of}
use Rattle.gd_match_laws.specs.PassedOn.{AreHeld}
use Rattle.gd_window.specs.declared.row.Row.{Row}
use Rattle.gd_window.specs.Kept.{Kept}
use Rattle.gd_window.specs.Laws.{with_values, defined}
use Rattle.gd_suspended_laws.specs.Standing.{valued, page_rows}
use Rattle.gd_suspended_laws.proofs.Keys.{trees_tell_keys}

-- LAW: the row of a tree, by the places where it tells its keys, is that of its object with its values
pub row_found : (prims : List Primitive) (written : Query) (q : Asked) (u : Tree) → AreHeld prims → asked_query prims written ≡ Ok q → u ≡ tree_of prims (template_of q) (place_of u) → place_of u < length prims
    → with_values prims q.sort (mark_row prims q.sort (record { object = place_of u; keys = key_places q.sort (place_of u) (sort_lists q.members (lists_of u)) })) ≡ valued prims q (place_of u)
row_found prims written q u held asked is placed =
    ap (with_values prims q.sort)
    (ap (λ ks. mark_row prims q.sort (record { object = place_of u; keys = ks }))
    (ap (λ v. key_places q.sort (place_of u) (sort_lists q.members (lists_of v))) is ∙ trees_tell_keys prims written q (place_of u) held asked)
    ∙ mark_of prims q (place_of u) placed)

-- ---- the page

pub map-take : {A B : Type 0} (f : A → B) (n : ℕ) (xs : List A) → map f (take n xs) ≡ take n (map f xs)
map-take f zero xs = refl
map-take f (suc n) [] = refl
map-take f (suc n) (x ∷ xs) = ap (λ l. f x ∷ l) (map-take f n xs)

pub length-map : {A B : Type 0} (f : A → B) (xs : List A) → length (map f xs) ≡ length xs
length-map f [] = refl
length-map f (x ∷ xs) = ap suc (length-map f xs)

objects-defined : (rows : List Row) → map (λ (r : defs.Row). r.object) (map defined rows) ≡ map (λ (r : Row). r.id) rows
objects-defined [] = refl
objects-defined (r ∷ rows) = ap (λ l. r.id ∷ l) (objects-defined rows)

-- the objects of the page
pub page_ids : (w : Kept) → map (λ (r : defs.Row). r.object) (page_rows w) ≡ map (λ (r : Row). r.id) (take w.limit w.rows)
page_ids w = ap (map (λ (r : defs.Row). r.object)) (sym (map-take defined w.limit w.rows)) ∙ objects-defined (take w.limit w.rows)

-- how many rows a page has
pub page_many : (w : Kept) → length (take w.limit w.rows) ≡ length (page_rows w)
page_many w = sym (length-map defined (take w.limit w.rows)) ∙ ap length (map-take defined w.limit w.rows)
