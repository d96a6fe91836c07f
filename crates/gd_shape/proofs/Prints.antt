-- What answers print, one after another.
use Rattle.std.proofs.Common.{◌≡◌, ◌≤◌, ◌<◌, ◌+◌, ℕ, List, [], ◌∷◌, ◌++◌, Bool, true, false, Option, Some, None, Ok, Err, map, drop, length, get_or, refl, sym, ap, ◌∙◌, option_map, arith}
use Rattle.std.specs.Prelude.{if◌then◌else◌}
use Rattle.gd_prim.specs.declared.Primitive.{Primitive}
use Rattle.gd_prim.specs.Live.{value_at}
use Rattle.gd_grammar.specs.Chain.{◌>>=◌}
use Rattle.json.specs.Token.{Token, end_array, null as null_token}
use Rattle.gd_tree.specs.Json.{Json, null, item}
use Rattle.gd_tree.specs.Trees as trees
use Rattle.gd_tree.specs.Trees.{place_of, first_list, TreeLists}
use Rattle.gd_defs.specs.Asked as defs
use Rattle.gd_defs.specs.Data.{datum_json}
use Rattle.gd_defs.specs.Property.{first}
use Rattle.gd_bytes.specs.Frozen.{Walk}
use Rattle.gd_defs.specs.Reply.{Path, is_ambiguous, operand_of}
use Rattle.gd_runs.specs.Shape.{Printed, name_shape, each_shape, list_shape}
use Rattle.gd_runs.specs.Shape.Answers as shape
use Rattle.gd_json.specs.Tokens.{tokens_of}
use Rattle.gd_shape.specs.Outcome.{seen, written, items_written, beside}
use Rattle.gd_shape.specs.Printed.{given_or, found_print, cut_of, answer_print, asks_print}
use Rattle.gd_shape.specs.Ranking.{ranked_view}
use Rattle.gd_shape.specs.declared.ranked.Ranked.{Ranked}
use Rattle.gd_shape.proofs.Left.{left_at, past}
use Rattle.gd_shape.proofs.Written.{Now, Outcome, item_written, item_path, first_beside, first_path}

-- ---- the name of an object

abbrev by_first : List Primitive → Option trees.Tree → Json
by_first prims None = null
by_first prims (Some t) = datum_json (value_at prims (place_of t))

name-first : (prims : List Primitive) (ls : TreeLists) → name_shape prims ls ≡ by_first prims (first (first_list ls))
name-first prims ls = by (first (first_list ls)) refl
  where
    by : (o : Option trees.Tree) → first (first_list ls) ≡ o → name_shape prims ls ≡ by_first prims (first (first_list ls))
    by None is = rw is refl
    by (Some t) is = rw is refl

-- the place of the first tree gives the name
pub named : (prims : List Primitive) (ls : TreeLists) (place : ℕ) → Some place ≡ option_map place_of (first (first_list ls)) → datum_json (value_at prims place) ≡ name_shape prims ls
named prims ls place is = by (first (first_list ls)) is ∙ sym (name-first prims ls)
  where
    by : (o : Option trees.Tree) → Some place ≡ option_map place_of o → datum_json (value_at prims place) ≡ by_first prims o
    by None here = cc
    by (Some t) here = let e : place ≡ place_of t = cc in ap (λ p. datum_json (value_at prims p)) e

-- without one there is none
pub unnamed : (prims : List Primitive) (ls : TreeLists) → None ≡ option_map place_of (first (first_list ls)) → null ≡ name_shape prims ls
unnamed prims ls is = by (first (first_list ls)) is ∙ sym (name-first prims ls)
  where
    by : (o : Option trees.Tree) → ◌≡◌ {A = Option ℕ} None (option_map place_of o) → null ≡ by_first prims o
    by None here = refl
    by (Some t) here = cc

-- ---- answers of a member

each-left : (f : shape.Ranked → List Walk → Printed Json) (rows : List Ranked) (i : ℕ) (row : Ranked) (ws : List Walk) → i < length rows → row ≡ get_or rows i row
    → each_shape f (map ranked_view (drop i rows)) ws ≡ (f (ranked_view row) ws >>= λ j. each_shape f (map ranked_view (drop (i + 1) rows)) j.1 >>= λ js. Ok (item j.0 js.0, js.1))
each-left f rows i row ws within is = ap (λ rs. each_shape f (map ranked_view rs) ws) (left_at rows i row within is)

-- an answer that prints is written
pub each_more : (f : shape.Ranked → List Walk → Printed Json) (rows : List Ranked) (i : ℕ) (row : Ranked) (old new : List Token) (told left : List Walk) (all : Now) → i < length rows → row ≡ get_or rows i row
    → Ok (new, left) ≡ written old (f (ranked_view row) told) → items_written old (each_shape f (map ranked_view (drop i rows)) told) ≡ all
    → items_written new (each_shape f (map ranked_view (drop (i + 1) rows)) left) ≡ all
each_more f rows i row old new told left all within is prints was =
    item_written old new left (f (ranked_view row) told) (λ ws. each_shape f (map ranked_view (drop (i + 1) rows)) ws) prints
    ∙ ap (items_written old) (sym (each-left f rows i row told within is)) ∙ was

-- an answer that does not
pub each_path : (f : shape.Ranked → List Walk → Printed Json) (rows : List Ranked) (i : ℕ) (row : Ranked) (old : List Token) (told : List Walk) (path : Path) (all : Now) → i < length rows → row ≡ get_or rows i row
    → Err path ≡ written old (f (ranked_view row) told) → items_written old (each_shape f (map ranked_view (drop i rows)) told) ≡ all → Err path ≡ all
each_path f rows i row old told path all within is fails was =
    item_path old (f (ranked_view row) told) (λ ws. each_shape f (map ranked_view (drop (i + 1) rows)) ws) path fails
    ∙ ap (items_written old) (sym (each-left f rows i row told within is)) ∙ was

-- all answers are written
pub each_all : (f : shape.Ranked → List Walk → Printed Json) (rows : List Ranked) (i : ℕ) (old new : List Token) (told : List Walk) (all : Now) → length rows ≤ i → new ≡ old ++ end_array ∷ []
    → items_written old (each_shape f (map ranked_view (drop i rows)) told) ≡ all → Ok (new, told) ≡ all
each_all f rows i old new told all end ended was = ap (λ ts. Ok (ts, told)) ended ∙ ap (λ rs. items_written old (each_shape f (map ranked_view rs) told)) (sym (past rows i end)) ∙ was

-- the first answer is written, and those behind it beside it
pub first_more : (f : shape.Ranked → List Walk → Printed Json) (rows rest : List Ranked) (row : Ranked) (old new : List Token) (told mid left : List Walk) (o : Outcome) → rows ≡ row ∷ rest → Ok (new, mid) ≡ written old (f (ranked_view row) told)
    → seen (λ _. (new, left)) o ≡ beside new (each_shape f (map ranked_view rest) mid) → seen (λ _. (new, left)) o ≡ written old (list_shape false (each_shape f (map ranked_view rows) told))
first_more f rows rest row old new told mid left o is prints behind =
    first_beside old new mid left (f (ranked_view row) told) (λ ws. each_shape f (map ranked_view rest) ws) o prints behind
    ∙ ap (λ rs. written old (list_shape false (each_shape f (map ranked_view rs) told))) (sym is)

-- two answers in the first
pub first_fails : (f : shape.Ranked → List Walk → Printed Json) (rows rest : List Ranked) (row : Ranked) (old : List Token) (told : List Walk) (path : Path) → rows ≡ row ∷ rest → Err path ≡ written old (f (ranked_view row) told)
    → Err path ≡ written old (list_shape false (each_shape f (map ranked_view rows) told))
first_fails f rows rest row old told path is fails =
    first_path old (f (ranked_view row) told) (λ ws. each_shape f (map ranked_view rest) ws) path fails ∙ ap (λ rs. written old (list_shape false (each_shape f (map ranked_view rs) told))) (sym is)

-- no answers
pub no_first : (f : shape.Ranked → List Walk → Printed Json) (rows : List Ranked) (old new : List Token) (told : List Walk) → length rows ≡ 0 → new ≡ old ++ null_token ∷ []
    → Ok (new, told) ≡ written old (list_shape false (each_shape f (map ranked_view rows) told))
no_first f [] old new told none is = ap (λ ts. Ok (ts, told)) is
no_first f (row ∷ rows) old new told none is = absurd (omega (arith, none))

pub none_beside : (f : shape.Ranked → List Walk → Printed Json) (rows : List Ranked) (out : List Token) (told : List Walk) → length rows ≡ 0 → Ok (out, told) ≡ beside out (each_shape f (map ranked_view rows) told)
none_beside f [] out told none = refl
none_beside f (row ∷ rows) out told none = absurd (omega (arith, none))

-- ---- what a member prints

asks-none : (prims : List Primitive) (a : defs.Asking) (c : defs.Members) (ts : List trees.Tree) (ws : List Walk) → None ≡ operand_of a.style
    → found_print a.single a.listed (length ts) (each_shape (answer_print prims a c) (cut_of prims a c ts) ws) ≡ asks_print prims a c ts ws
asks-none prims a c ts ws none = ap (λ o. given_or o ws (found_print a.single a.listed (length ts) (each_shape (answer_print prims a c) (cut_of prims a c ts) ws))) none

-- an operand is written
pub asks_given : (prims : List Primitive) (a : defs.Asking) (c : defs.Members) (ts : List trees.Tree) (j : Json) (old new : List Token) (told : List Walk) → Some j ≡ operand_of a.style → new ≡ old ++ tokens_of j
    → Ok (new, told) ≡ written old (asks_print prims a c ts told)
asks_given prims a c ts j old new told some is =
    ap (λ zs. Ok (zs, told)) is ∙ ap (λ o. written old (given_or o told (found_print a.single a.listed (length ts) (each_shape (answer_print prims a c) (cut_of prims a c ts) told)))) some

-- two answers are one too many
pub asks_twice : (prims : List Primitive) (a : defs.Asking) (c : defs.Members) (ts : List trees.Tree) (old : List Token) (told : List Walk) → None ≡ operand_of a.style → is_ambiguous a.single (length ts) ≡ true
    → Err [] ≡ written old (asks_print prims a c ts told)
asks_twice prims a c ts old told none twice = by (is_ambiguous a.single (length ts)) twice ∙ ap (written old) (asks-none prims a c ts told none)
  where
    by : (b : Bool) → b ≡ true → Err [] ≡ written old (if b then Err [] else list_shape a.listed (each_shape (answer_print prims a c) (cut_of prims a c ts) told))
    by true is = refl
    by false is = cc

-- else the answers are written
pub asks_found : (prims : List Primitive) (a : defs.Asking) (c : defs.Members) (ts : List trees.Tree) (rows : List shape.Ranked) (old : List Token) (told : List Walk) (r : Now) → None ≡ operand_of a.style → is_ambiguous a.single (length ts) ≡ false
    → rows ≡ cut_of prims a c ts → r ≡ written old (list_shape a.listed (each_shape (answer_print prims a c) rows told)) → r ≡ written old (asks_print prims a c ts told)
asks_found prims a c ts rows old told r none once cut is =
    is ∙ ap (λ rs. written old (list_shape a.listed (each_shape (answer_print prims a c) rs told))) cut
    ∙ ap (written old) (by (is_ambiguous a.single (length ts)) once ∙ asks-none prims a c ts told none)
  where
    by : (b : Bool) → b ≡ false → ◌≡◌ {A = Printed Json} (list_shape a.listed (each_shape (answer_print prims a c) (cut_of prims a c ts) told)) (if b then Err [] else list_shape a.listed (each_shape (answer_print prims a c) (cut_of prims a c ts) told))
    by false is = refl
    by true is = cc
