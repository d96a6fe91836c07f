-- Rows of a page, one after another.
use Rattle.std.proofs.Common.{◌≡◌, ◌≤◌, ◌<◌, ◌+◌, ℕ, List, [], ◌∷◌, ◌++◌, Ok, Err, map, drop, length, get_or, false, refl, sym, ap, ◌∙◌, arith}
use Rattle.gd_prim.specs.declared.Primitive.{Primitive}
use Rattle.json.specs.Token.{Token, end_array, null}
use Rattle.gd_bytes.specs.Frozen.{Walk}
use Rattle.gd_grammar.specs.Chain.{◌>>=◌}
use Rattle.gd_tree.specs.Json.{item}
use Rattle.gd_tree.specs.Trees.{place_of, lists_of}
use Rattle.gd_defs.specs.Asked as defs
use Rattle.gd_defs.specs.Reply.{Path}
use Rattle.gd_runs.specs.Shape.{Printed, list_shape, object_shape}
use Rattle.gd_trees.specs.View.{view as tree_view}
use Rattle.gd_trees.specs.declared.tree.Tree.{Tree}
use Rattle.gd_shape.specs.Outcome.{seen, written, items_written, beside}
use Rattle.gd_shape.specs.Printed.{as_object, rows_print}
use Rattle.gd_shape.proofs.Left.{left_at, past}
use Rattle.gd_shape.proofs.Written.{Now, Outcome, item_written, item_path, first_beside, first_path}

-- what the row of a tree prints
abbrev pub row_print : List Primitive → defs.Members → Tree → List Walk → Printed Rattle.gd_tree.specs.Json.Json
row_print prims ms t ws = as_object (object_shape prims ms 0 (place_of (tree_view t)) (lists_of (tree_view t)) ws)

rows-left : (prims : List Primitive) (ms : defs.Members) (ts : List Tree) (i : ℕ) (t : Tree) (ws : List Walk) → i < length ts → t ≡ get_or ts i t
    → rows_print prims ms (map tree_view (drop i ts)) ws ≡ (row_print prims ms t ws >>= λ j. rows_print prims ms (map tree_view (drop (i + 1) ts)) j.1 >>= λ js. Ok (item j.0 js.0, js.1))
rows-left prims ms ts i t ws within is = ap (λ us. rows_print prims ms (map tree_view us) ws) (left_at ts i t within is)

-- a row that prints is written
pub rows_more : (prims : List Primitive) (ms : defs.Members) (ts : List Tree) (i : ℕ) (t : Tree) (old new : List Token) (told left : List Walk) (all : Now) → i < length ts → t ≡ get_or ts i t
    → Ok (new, left) ≡ written old (row_print prims ms t told) → items_written old (rows_print prims ms (map tree_view (drop i ts)) told) ≡ all
    → items_written new (rows_print prims ms (map tree_view (drop (i + 1) ts)) left) ≡ all
rows_more prims ms ts i t old new told left all within is prints was =
    item_written old new left (row_print prims ms t told) (λ ws. rows_print prims ms (map tree_view (drop (i + 1) ts)) ws) prints
    ∙ ap (items_written old) (sym (rows-left prims ms ts i t told within is)) ∙ was

-- a row that does not
pub rows_path : (prims : List Primitive) (ms : defs.Members) (ts : List Tree) (i : ℕ) (t : Tree) (old : List Token) (told : List Walk) (path : Path) (all : Now) → i < length ts → t ≡ get_or ts i t
    → Err path ≡ written old (row_print prims ms t told) → items_written old (rows_print prims ms (map tree_view (drop i ts)) told) ≡ all → Err path ≡ all
rows_path prims ms ts i t old told path all within is fails was =
    item_path old (row_print prims ms t told) (λ ws. rows_print prims ms (map tree_view (drop (i + 1) ts)) ws) path fails
    ∙ ap (items_written old) (sym (rows-left prims ms ts i t told within is)) ∙ was

-- all rows are written
pub rows_all : (prims : List Primitive) (ms : defs.Members) (ts : List Tree) (i : ℕ) (old new : List Token) (told : List Walk) (all : Now) → length ts ≤ i → new ≡ old ++ end_array ∷ []
    → items_written old (rows_print prims ms (map tree_view (drop i ts)) told) ≡ all → Ok (new, told) ≡ all
rows_all prims ms ts i old new told all end ended was = ap (λ zs. Ok (zs, told)) ended ∙ ap (λ us. items_written old (rows_print prims ms (map tree_view us) told)) (sym (past ts i end)) ∙ was

-- the first row is written, and those behind it beside it
pub first_row : (prims : List Primitive) (ms : defs.Members) (ts rest : List Tree) (t : Tree) (old new : List Token) (told mid left : List Walk) (o : Outcome) → ts ≡ t ∷ rest → Ok (new, mid) ≡ written old (row_print prims ms t told)
    → seen (λ _. (new, left)) o ≡ beside new (rows_print prims ms (map tree_view rest) mid) → seen (λ _. (new, left)) o ≡ written old (list_shape false (rows_print prims ms (map tree_view ts) told))
first_row prims ms ts rest t old new told mid left o is prints behind =
    first_beside old new mid left (row_print prims ms t told) (λ ws. rows_print prims ms (map tree_view rest) ws) o prints behind
    ∙ ap (λ us. written old (list_shape false (rows_print prims ms (map tree_view us) told))) (sym is)

-- two answers in the first
pub first_row_fails : (prims : List Primitive) (ms : defs.Members) (ts rest : List Tree) (t : Tree) (old : List Token) (told : List Walk) (path : Path) → ts ≡ t ∷ rest → Err path ≡ written old (row_print prims ms t told)
    → Err path ≡ written old (list_shape false (rows_print prims ms (map tree_view ts) told))
first_row_fails prims ms ts rest t old told path is fails =
    first_path old (row_print prims ms t told) (λ ws. rows_print prims ms (map tree_view rest) ws) path fails ∙ ap (λ us. written old (list_shape false (rows_print prims ms (map tree_view us) told))) (sym is)

-- no rows
pub no_first_row : (prims : List Primitive) (ms : defs.Members) (ts : List Tree) (old new : List Token) (told : List Walk) → length ts ≡ 0 → new ≡ old ++ null ∷ []
    → Ok (new, told) ≡ written old (list_shape false (rows_print prims ms (map tree_view ts) told))
no_first_row prims ms [] old new told none is = ap (λ zs. Ok (zs, told)) is
no_first_row prims ms (t ∷ ts) old new told none is = absurd (omega (arith, none))

pub no_rows_beside : (prims : List Primitive) (ms : defs.Members) (ts : List Tree) (out : List Token) (told : List Walk) → length ts ≡ 0 → Ok (out, told) ≡ beside out (rows_print prims ms (map tree_view ts) told)
no_rows_beside prims ms [] out told none = refl
no_rows_beside prims ms (t ∷ ts) out told none = absurd (omega (arith, none))
