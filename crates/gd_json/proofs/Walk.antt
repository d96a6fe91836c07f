-- A walk over the parts of a value: what came so far, and what comes of the rest.
use Rattle.std.proofs.Common.{◌≡◌, ℕ, suc, Bor, ◌+◌, ◌≤◌, ◌<◌, List, [], ◌∷◌, ◌++◌, map, length, Result, Ok, Err, Vec, Global, refl, sym, ap, ◌∙◌, arith}
use Rattle.std.proofs.lemmas.Bool.Decides.{nat_tests}
use Rattle.std.proofs.lemmas.List.{map-append}
use Rattle.serde_json.specs.Data as data_of
use Rattle.serde_json.specs.Data.{Data}
use Rattle.gd_grammar.specs.Chain.{◌>>=◌}
use Rattle.gd_tree.specs.Json as tree
use Rattle.gd_tree.specs.Json.{Items, no_items, item, Members, no_members, member}
use Rattle.gd_json.specs.View.{items_of, members_of, view, member_view}
use Rattle.gd_json.specs.declared.value.Json.{Json, List as List', Object as Object'}
use Rattle.gd_json.proofs.Parts.{view-List, view-Object as view-Object'}
use Rattle.json.specs.Value.{value_view, items_view as values_view, members_view as map_view}
use Rattle.json.specs.declared.value.Value.{Value, Array}
use Rattle.json.proofs.Trees.{view-Array}
use Rattle.serde_json.specs.Events.{items_len, members_len}
use Rattle.gd_json.specs.Text.{as_data, items_data, plain_members, entries_data, object_at}
use Rattle.gd_json.specs.Reading.{within, list_of, object_of, value_at, items_at, members_at}
use Rattle.gd_json.specs.declared.from.JsonFault.{JsonFault}
use Rattle.gd_json.specs.declared.from.JsonFault.TheVariants.{TooWide}

-- these items, and the rest
abbrev pub items_before : List tree.Json → Items → Items
items_before [] rest = rest
items_before (j ∷ js) rest = item j (items_before js rest)

abbrev pub members_before : List (List ℕ × tree.Json) → Members → Members
members_before [] rest = rest
members_before (m ∷ ms) rest = member m.0 m.1 (members_before ms rest)

-- these items, and what comes of the rest
abbrev pub items_then : List tree.Json → Result Items JsonFault → Result Items JsonFault
items_then done rest = rest >>= λ js. Ok (items_before done js)

abbrev pub members_then : List (List ℕ × tree.Json) → Result Members JsonFault → Result Members JsonFault
members_then done rest = rest >>= λ ms. Ok (members_before done ms)

pub items_then_first : (rest : Result Items JsonFault) → items_then [] rest ≡ rest
items_then_first (Ok js) = refl
items_then_first (Err e) = refl

pub members_then_first : (rest : Result Members JsonFault) → members_then [] rest ≡ rest
members_then_first (Ok ms) = refl
members_then_first (Err e) = refl

items_before_more : (done : List tree.Json) (j : tree.Json) (rest : Items) → items_before done (item j rest) ≡ items_before (done ++ j ∷ []) rest
items_before_more [] j rest = refl
items_before_more (d ∷ done) j rest = ap (item d) (items_before_more done j rest)

members_before_more : (done : List (List ℕ × tree.Json)) (m : List ℕ × tree.Json) (rest : Members) → members_before done (member m.0 m.1 rest) ≡ members_before (done ++ m ∷ []) rest
members_before_more [] m rest = refl
members_before_more (d ∷ done) m rest = ap (member d.0 d.1) (members_before_more done m rest)

-- one value more
pub items_then_more : (list : List Json) (x : Json) (level : ℕ) (d : Data) (ds : data_of.Items) → value_at level d ≡ Ok (view x)
    → items_then (map view (list ++ x ∷ [])) (items_at level ds) ≡ items_then (map view list) (items_at level (data_of.item d ds))
items_then_more list x level d ds is =
    ap (λ done. items_then done (items_at level ds)) (map-append view list (x ∷ [])) ∙ by (items_at level ds)
    ∙ ap (λ first. items_then (map view list) (first >>= λ j. items_at level ds >>= λ js. Ok (item j js))) (sym is)
  where
    by : (rest : Result Items JsonFault) → items_then (map view list ++ view x ∷ []) rest ≡ items_then (map view list) (rest >>= λ js. Ok (item (view x) js))
    by (Ok js) = ap Ok (sym (items_before_more (map view list) (view x) js))
    by (Err e) = refl

pub members_then_more : (object : List (List ℕ × Json)) (m : List ℕ × Json) (level : ℕ) (d : Data) (ds : data_of.Members) → value_at level d ≡ Ok (view m.1)
    → members_then (map member_view (object ++ m ∷ [])) (members_at level ds) ≡ members_then (map member_view object) (members_at level (data_of.member m.0 d ds))
members_then_more object m level d ds is =
    ap (λ done. members_then done (members_at level ds)) (map-append member_view object (m ∷ [])) ∙ by (members_at level ds)
    ∙ ap (λ first. members_then (map member_view object) (first >>= λ j. members_at level ds >>= λ ms. Ok (member m.0 j ms))) (sym is)
  where
    by : (rest : Result Members JsonFault) → members_then (map member_view object ++ member_view m ∷ []) rest ≡ members_then (map member_view object) (rest >>= λ ms. Ok (member m.0 (view m.1) ms))
    by (Ok ms) = ap Ok (sym (members_before_more (map member_view object) (member_view m) ms))
    by (Err e) = refl

pub items_before_end : (done : List tree.Json) → items_before done no_items ≡ items_of done
items_before_end [] = refl
items_before_end (j ∷ js) = ap (item j) (items_before_end js)

pub members_before_end : (done : List (List ℕ × tree.Json)) → members_before done no_members ≡ members_of done
members_before_end [] = refl
members_before_end (m ∷ ms) = ap (member m.0 m.1) (members_before_end ms)

-- at a level that is not too deep
pub within_limits : (level parts : ℕ) (r : Result tree.Json JsonFault) → level ≤ 16 → parts ≤ 64 → within level parts r ≡ r
within_limits level parts r fine narrow = grind (arith, nat_tests)

pub within_too_wide : (level parts : ℕ) (r : Result tree.Json JsonFault) → level ≤ 16 → 64 < parts → within level parts r ≡ Err TooWide
within_too_wide level parts r fine wide = grind (arith, nat_tests)

pub items_count : (js : List (Value Global)) → items_len (items_data (values_view js)) ≡ length js
items_count [] = refl
items_count (j ∷ js) = ap suc (items_count js)

pub members_count : (ms : List (Bor (List ℕ) × Value Global)) → members_len (plain_members (map_view ms)) ≡ length ms
members_count [] = refl
members_count (m ∷ ms) = ap suc (members_count ms)

pub entries_count : (es : List (Bor (List ℕ) × Bor (Value Global))) → members_len (entries_data es) ≡ length es
entries_count [] = refl
entries_count (e ∷ es) = ap suc (entries_count es)

-- a list that is neither too deep nor too wide
pub list_within : (level : ℕ) (v : Vec (Value Global) Global) → level ≤ 16 → length v.items ≤ 64 → value_at level (as_data (value_view (Array v))) ≡ list_of (items_at (level + 1) (items_data (values_view v.items)))
list_within level v fine narrow =
    ap (λ j. value_at level (as_data j)) (view-Array v) ∙ ap (λ n. within level n (list_of (items_at (level + 1) (items_data (values_view v.items))))) (items_count v.items) ∙ within_limits level _ _ fine narrow

pub list_too_wide : (level : ℕ) (v : Vec (Value Global) Global) → level ≤ 16 → 64 < length v.items → value_at level (as_data (value_view (Array v))) ≡ Err TooWide
list_too_wide level v fine wide =
    ap (λ j. value_at level (as_data j)) (view-Array v) ∙ ap (λ n. within level n (list_of (items_at (level + 1) (items_data (values_view v.items))))) (items_count v.items) ∙ within_too_wide level _ _ fine wide

-- an object that is not too wide
pub object_within : (level n : ℕ) (ds : data_of.Members) → members_len ds ≡ n → n ≤ 64 → object_at level ds ≡ object_of (members_at level ds)
object_within level n ds count narrow = ap (λ n. within 1 n (object_of (members_at level ds))) count ∙ within_limits 1 _ _ (omega arith) narrow

pub object_too_wide : (level n : ℕ) (ds : data_of.Members) → members_len ds ≡ n → 64 < n → object_at level ds ≡ Err TooWide
object_too_wide level n ds count wide = ap (λ n. within 1 n (object_of (members_at level ds))) count ∙ within_too_wide 1 _ _ (omega arith) wide

-- a list whose items were all converted
pub list_done : (level : ℕ) (ds : data_of.Items) (list : Vec Json Global) → items_then (map view list.items) (Ok no_items) ≡ items_at level ds → list_of (items_at level ds) ≡ Ok (view (List' list))
list_done level ds list left = sym (ap list_of left) ∙ ap (λ js. Ok (tree.list js)) (items_before_end (map view list.items)) ∙ ap Ok (sym (view-List list))

pub object_done : (level : ℕ) (ds : data_of.Members) (object : Vec (List ℕ × Json) Global) → members_then (map member_view object.items) (Ok no_members) ≡ members_at level ds
    → object_of (members_at level ds) ≡ Ok (view (Object' object))
object_done level ds object left = sym (ap object_of left) ∙ ap (λ ms. Ok (tree.object ms)) (members_before_end (map member_view object.items)) ∙ ap Ok (sym (view-Object' object))
