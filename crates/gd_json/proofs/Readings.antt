-- A tree beside the data that it is, and whether it has a reading.
use Rattle.std.proofs.Common.{◌≡◌, ℕ, List, true, ◌&&◌, Option, Some, None, Ok, Err, refl, sym, ap, ◌∙◌}
use Rattle.std.specs.Prelude.{is_some, option_map, option_and_then}
use Rattle.std.specs.Option.{ok_or}
use Rattle.json.specs.Json as json
use Rattle.serde_json.specs.Data as data_of
use Rattle.serde_json.specs.Data.{Data, put}
use Rattle.serde_json.specs.Read.{number_of, of_json, of_items, of_members}
use Rattle.gd_grammar.proofs.Steps.{some_same, some_given, maybe, mapped}
use Rattle.gd_json.specs.Text.{as_data, items_data, members_data, items_read, members_read, tree_of, reading_of, text_reading}
use Rattle.gd_json.specs.declared.from.JsonFault.{JsonFault}
use Rattle.gd_json.specs.declared.from.JsonFault.TheVariants.{BadJson}

mapped_some : {A B : Type 0} (f : A → B) (o : Option A) → is_some (option_map f o) ≡ is_some o
mapped_some f (Some x) = refl
mapped_some f None = refl

pub items_have : (js : json.Items) → is_some (of_items js) ≡ items_read js
items_have json.no_items = refl
items_have (json.item j js) = by (of_json j) (items_have js)
  where
    by : (o : Option Data) → is_some (of_items js) ≡ items_read js → is_some (option_and_then (λ d. option_map (data_of.item d) (of_items js)) o) ≡ (is_some o && items_read js)
    by None rest = refl
    by (Some d) rest = mapped_some (data_of.item d) (of_items js) ∙ rest

pub members_have : (ms : json.Members) (found : data_of.Members) → is_some (of_members ms found) ≡ members_read ms
members_have json.no_members found = refl
members_have (json.member k j ms) found = by (of_json j) (members_have ms)
  where
    by : (o : Option Data) → ((found : data_of.Members) → is_some (of_members ms found) ≡ members_read ms) → is_some (option_and_then (λ d. of_members ms (put k d found)) o) ≡ (is_some o && members_read ms)
    by None rest = refl
    by (Some d) rest = rest (put k d found)

-- an array or an object has a reading where its parts have
pub array_read : (js : json.Items) → is_some (of_json (json.array js)) ≡ items_read js
array_read js = mapped_some data_of.array (of_items js) ∙ items_have js

pub object_read : (ms : json.Members) → is_some (of_json (json.object ms)) ≡ members_read ms
object_read ms = mapped_some data_of.object (of_members ms data_of.no_members) ∙ members_have ms data_of.no_members

mutual
  pub read_data : (j : json.Json) (d : Data) → of_json j ≡ Some d → as_data j ≡ d
  read_data json.null d is = some_same data_of.null d is
  read_data (json.boolean b) d is = some_same (data_of.boolean b) d is
  read_data (json.number s) d is = let n = mapped (number_of s) data_of.number d is in rw n.gave n.is
  read_data (json.string s) d is = some_same (data_of.string s) d is
  read_data (json.array js) d is = let ds = mapped (of_items js) data_of.array d is in ap data_of.array (read_items js ds.value ds.gave) ∙ ds.is
  read_data (json.object ms) d is = let ds = mapped (of_members ms data_of.no_members) data_of.object d is in ap data_of.object (read_members ms data_of.no_members ds.value ds.gave) ∙ ds.is

  read_items : (js : json.Items) (ds : data_of.Items) → of_items js ≡ Some ds → items_data js ≡ ds
  read_items json.no_items ds is = some_same data_of.no_items ds is
  read_items (json.item j js) ds is =
      let one = maybe (of_json j) (λ d. option_map (data_of.item d) (of_items js)) ds is in
      let rest = mapped (of_items js) (data_of.item one.value) ds one.then_gave in
      ap (λ d. data_of.item d (items_data js)) (read_data j one.value one.gave) ∙ ap (data_of.item one.value) (read_items js rest.value rest.gave) ∙ rest.is

  read_members : (ms : json.Members) (found ds : data_of.Members) → of_members ms found ≡ Some ds → members_data ms found ≡ ds
  read_members json.no_members found ds is = some_same found ds is
  read_members (json.member k j ms) found ds is =
      let one = maybe (of_json j) (λ d. of_members ms (put k d found)) ds is in
      ap (λ d. members_data ms (put k d found)) (read_data j one.value one.gave) ∙ read_members ms (put k one.value found) ds one.then_gave

-- what has a reading is read as its data
pub has_data : (j : json.Json) → is_some (of_json j) ≡ true → of_json j ≡ Some (as_data j)
has_data j is = by (of_json j) refl is
  where
    by : (o : Option Data) → of_json j ≡ o → is_some o ≡ true → of_json j ≡ Some (as_data j)
    by None same none = absurd (cc)
    by (Some d) same some = same ∙ ap Some (sym (read_data j d same))

-- the tree of a text, or none
pub tree_reading : (text : List ℕ) (j : json.Json) → ok_or (tree_of text) BadJson ≡ Ok j → text_reading text ≡ reading_of (of_json j)
tree_reading text j is = ap (λ tree. reading_of (option_and_then of_json tree)) (some_given (tree_of text) BadJson j is)

pub no_reading : (text : List ℕ) (e : JsonFault) → ok_or (tree_of text) BadJson ≡ Err e → text_reading text ≡ Err e
no_reading text e is = by (tree_of text) is
  where
    by : (o : Option json.Json) → ok_or o BadJson ≡ Err e → reading_of (option_and_then of_json o) ≡ Err e
    by None is = cc
    by (Some j) is = absurd (cc)
