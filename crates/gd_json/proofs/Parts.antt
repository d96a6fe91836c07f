-- The parts of a value beside the parts of its tree.
use Rattle.std.proofs.Common.{◌≡◌, ℕ, zero, suc, ◌<◌, ◌+◌, List, [], ◌∷◌, drop, length, get_or, Bool, cond, Option, Some, None, Vec, Bor, option_map, bytes_eq, Global, refl, sym, ap, ◌∙◌, rules, add-one, drop-cons}
use Rattle.std.proofs.lemmas.Option.{slice_get_read, slice_get_past}
use Rattle.std.specs.List.{slice_get}
use Rattle.std.specs.Slice.{IsItemAt}
use Rattle.gd_tree.specs.Json as tree
use Rattle.gd_tree.specs.Look.{get, at, member_at, items_len, members_len, item_count, member_count}
use Rattle.gd_json.specs.View.{view, items_view, members_view}
use Rattle.gd_json.specs.declared.value.Json.{Json, List as List', Object, the_lemmas}

pub view-List : (v : Vec Json Global) → view (List' v) ≡ tree.list (items_view v.items)
view-List v = search (rules, the_lemmas)

pub view-Object : (v : Vec (List ℕ × Json) Global) → view (Object v) ≡ tree.object (members_view v.items)
view-Object v = search (rules, the_lemmas)

pub items_len-items_view : (js : List Json) → items_len (items_view js) ≡ length js
items_len-items_view [] = refl
items_len-items_view (j ∷ js) = ap suc (items_len-items_view js)

pub members_len-members_view : (ms : List (List ℕ × Json)) → members_len (members_view ms) ≡ length ms
members_len-members_view [] = refl
members_len-members_view (m ∷ ms) = ap suc (members_len-members_view ms)

pub list_count : (v : Vec Json Global) → item_count (view (List' v)) ≡ length v.items
list_count v = ap item_count (view-List v) ∙ items_len-items_view v.items

pub object_count : (v : Vec (List ℕ × Json) Global) → member_count (view (Object v)) ≡ length v.items
object_count v = ap member_count (view-Object v) ∙ members_len-members_view v.items

pub at-items_view : (js : List Json) (i : ℕ) → at i (items_view js) ≡ option_map view (slice_get js i)
at-items_view [] i = refl
at-items_view (j ∷ js) zero = refl
at-items_view (j ∷ js) (suc i) = at-items_view js i

-- what is left at an index begins with what stands there
pub left_at : {A : Type 0} (xs : List A) (i : ℕ) (x : A) → i < length xs → x ≡ get_or xs i x → drop i xs ≡ x ∷ drop (i + 1) xs
left_at xs i x within is = rw (add-one, drop-cons xs i x) (ap (λ y. y ∷ drop (suc i) xs) (sym is))

-- the members from an index on, of which the first has the name or not
pub get-drop : (k : List ℕ) (ms : List (List ℕ × Json)) (i : ℕ) (m : List ℕ × Json) (b : Bool) → i < length ms → m ≡ get_or ms i m → b ≡ bytes_eq k m.0
    → get k (members_view (drop i ms)) ≡ cond b (Some (view m.1)) (get k (members_view (drop (i + 1) ms)))
get-drop k ms i m b within is test =
    ap (λ xs. get k (members_view xs)) (left_at ms i m within is) ∙ ap (λ t. cond t (Some (view m.1)) (get k (members_view (drop (i + 1) ms)))) (sym test)

-- what a look-up by index gives of a list's items
pub seen_at : (js : List Json) (i : ℕ) (found : Option (Bor Json)) → IsItemAt js i found → option_map (λ part. view part.now) found ≡ at i (items_view js)
seen_at js i None h = sym (at-items_view js i ∙ ap (option_map view) (slice_get_past js i h.3))
seen_at js i (Some part) h = sym (at-items_view js i ∙ ap (option_map view) (slice_get_read js (length js) i part.now refl h.3.0 h.1))

pub member_at-members_view : (ms : List (List ℕ × Json)) (i : ℕ) → member_at i (members_view ms) ≡ option_map (λ m. (m.0, view m.1)) (slice_get ms i)
member_at-members_view [] i = refl
member_at-members_view (m ∷ ms) zero = refl
member_at-members_view (m ∷ ms) (suc i) = member_at-members_view ms i

-- the member that a look-up by index found, or that none is there
pub member_found : (ms : List (List ℕ × Json)) (i : ℕ) (part : Bor (List ℕ × Json)) → IsItemAt ms i (Some part) → Some (part.now.0, view part.now.1) ≡ member_at i (members_view ms)
member_found ms i part h = sym (member_at-members_view ms i ∙ ap (option_map (λ m. (m.0, view m.1))) (slice_get_read ms (length ms) i part.now refl h.3.0 h.1))

pub member_missing : (ms : List (List ℕ × Json)) (i : ℕ) → IsItemAt ms i None → None ≡ member_at i (members_view ms)
member_missing ms i h = sym (member_at-members_view ms i ∙ ap (option_map (λ m. (m.0, view m.1))) (slice_get_past ms i h.3))
