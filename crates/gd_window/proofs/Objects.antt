-- Windows to which the rows of objects are offered, with their values.
use Rattle.std.proofs.Common.{◌≡◌, ◌∙◌, ℕ, List, [], ◌∷◌, Option, None, Some, length, map, refl, sym, ap, subst}
use Rattle.std.specs.Prelude.{option_map}
use Rattle.std.specs.Ordering.{nat_cmp}
use Rattle.std.specs.List.Sorted.{IsPermutation}
use Rattle.std.proofs.lemmas.List.{append-nil}
use Rattle.std.proofs.lemmas.List.Sorted.{IsPermutation-map, IsPermutation-trans}
use Rattle.gd_prim.specs.declared.Primitive.{Primitive}
use Rattle.gd_defs.specs.Asked.{SortKey, Asked}
use Rattle.gd_defs.specs.Rows.{key_place, row_of, rows, sorted_onto}
use Rattle.gd_defs.specs.Rows as defs
use Rattle.gd_defs.specs.Reply.{Mark, mark_row, fitted}
use Rattle.gd_order_laws.specs.Window.{Each, Apart}
use Rattle.gd_order_laws.proofs.Rows.{meeting, of_objects, apart_rows}
use Rattle.gd_order_laws.proofs.Sorted.{sorted_permutes}
use Rattle.gd_window.specs.Laws.{places, defined, CarriesKeys, Carries, keys_at, with_values, IsMarkRow, AreRowsOf, ObjectsGivePages, RowsBehindAreAsDefined, behind_mark, IsTold, ObjectsAreTold, MarksAreTold, RowsToldAreAsDefined}
use Rattle.gd_window.proofs.Pages.{behind_defined, pages_given}

keys_carry : (prims : List Primitive) (sort : List SortKey) (ps : List (Option ℕ)) → CarriesKeys prims sort (keys_at prims sort ps)
keys_carry prims [] ps = tt
keys_carry prims (s ∷ sort) ps = (refl, keys_carry prims sort (defs.later_keys ps))

-- ---- their places are those that were given, where there is one for each sort key

object_places : (prims : List Primitive) (o : ℕ) (sort : List SortKey) → places (keys_at prims sort (map (key_place prims o) sort)) ≡ map (key_place prims o) sort
object_places prims o [] = refl
object_places prims o (s ∷ sort) = ap (λ l. key_place prims o s ∷ l) (object_places prims o sort)

fitted_places : (prims : List Primitive) (end : ℕ) (sort : List SortKey) (ks : List (Option ℕ)) → places (keys_at prims sort (fitted end sort ks)) ≡ fitted end sort ks
fitted_places prims end [] ks = refl
fitted_places prims end (s ∷ sort) [] = ap (λ l. None ∷ l) (fitted_places prims end sort [])
fitted_places prims end (s ∷ sort) (k ∷ ks) = ap (λ l. defs.first_key (fitted end (s ∷ sort) (k ∷ ks)) ∷ l) (fitted_places prims end sort ks)

object_defined : (prims : List Primitive) (sort : List SortKey) (o : ℕ) → defined (with_values prims sort (row_of prims sort 0 o)) ≡ row_of prims sort 0 o
object_defined prims sort o = let row : List (Option ℕ) → defs.Row = λ ks. record { object = o; link = 0; keys = ks } in ap row (object_places prims o sort)

mark_is : (prims : List Primitive) (sort : List SortKey) (mark : Option Mark) → IsMarkRow prims sort mark (option_map (λ m. with_values prims sort (mark_row prims sort m)) mark)
mark_is prims sort None = tt
mark_is prims sort (Some m) =
    let row : List (Option ℕ) → defs.Row = λ ks. record { object = m.object; link = 0; keys = ks } in
    (keys_carry prims sort (mark_row prims sort m).keys, ap row (fitted_places prims (length prims) sort m.keys))

-- ---- all of them

all_defined : (prims : List Primitive) (q : Asked) (os : List ℕ) → map defined (map (λ o. with_values prims q.sort (row_of prims q.sort 0 o)) os) ≡ of_objects prims q os
all_defined prims q [] = refl
all_defined prims q (o ∷ os) = ap (λ r. r ∷ map defined (map (λ o. with_values prims q.sort (row_of prims q.sort 0 o)) os)) (object_defined prims q.sort o) ∙ ap (λ l. row_of prims q.sort 0 o ∷ l) (all_defined prims q os)

all_carry : (prims : List Primitive) (q : Asked) (os : List ℕ) → Each (Carries prims q.sort) (map (λ o. with_values prims q.sort (row_of prims q.sort 0 o)) os)
all_carry prims q [] = tt
all_carry prims q (o ∷ os) = (keys_carry prims q.sort (row_of prims q.sort 0 o).keys, all_carry prims q os)

are_rows : (prims : List Primitive) (q : Asked) (os : List ℕ) → Apart nat_cmp os → IsPermutation os (meeting prims q) → AreRowsOf prims q (map (λ o. with_values prims q.sort (row_of prims q.sort 0 o)) os)
are_rows prims q os once all =
    let cmp = defs.row_cmp prims q.sort in
    let objects = of_objects prims q (meeting prims q) in
    let whole : IsPermutation objects (rows prims q) = subst (λ (l : List defs.Row). IsPermutation l (rows prims q)) (append-nil objects) (sorted_permutes cmp [] objects) in
    let offered : IsPermutation (of_objects prims q os) (rows prims q) = IsPermutation-trans (of_objects prims q os) objects (rows prims q) (IsPermutation-map (row_of prims q.sort 0) os (meeting prims q) all) whole in
    record {
      carry = all_carry prims q os;
      once = subst (Apart cmp) (sym (all_defined prims q os)) (apart_rows prims q os once);
      all = subst (λ (l : List defs.Row). IsPermutation l (rows prims q)) (sym (all_defined prims q os)) offered;
    }

pub objects_give : ObjectsGivePages
objects_give prims q mark os once all =
    pages_given prims q mark (option_map (λ m. with_values prims q.sort (mark_row prims q.sort m)) mark) (map (λ o. with_values prims q.sort (row_of prims q.sort 0 o)) os)
    (mark_is prims q.sort mark) (are_rows prims q os once all)

pub objects_behind : RowsBehindAreAsDefined
objects_behind prims q mark os =
    behind_defined prims q.sort mark (option_map (λ m. with_values prims q.sort (mark_row prims q.sort m)) mark) (map (λ o. with_values prims q.sort (row_of prims q.sort 0 o)) os) (mark_is prims q.sort mark) (all_carry prims q os)
    ∙ ap (λ l. sorted_onto (defs.row_cmp prims q.sort) [] (behind_mark prims q.sort mark l)) (all_defined prims q os)

-- ---- rows that are told

pub objects_told : ObjectsAreTold
objects_told prims sort o = object_defined prims sort o

pub marks_told : MarksAreTold
marks_told prims sort m = (mark_is prims sort (Some m)).1

told_defined : (prims : List Primitive) (sort : List SortKey) (rows : List defs.Row) → Each (IsTold prims sort) rows → map defined (map (with_values prims sort) rows) ≡ rows
told_defined prims sort [] all = refl
told_defined prims sort (r ∷ rows) all = ap (λ s. s ∷ map defined (map (with_values prims sort) rows)) all.0 ∙ ap (λ l. r ∷ l) (told_defined prims sort rows all.1)

told_carry : (prims : List Primitive) (sort : List SortKey) (rows : List defs.Row) → Each (Carries prims sort) (map (with_values prims sort) rows)
told_carry prims sort [] = tt
told_carry prims sort (r ∷ rows) = (keys_carry prims sort r.keys, told_carry prims sort rows)

pub told_behind : RowsToldAreAsDefined
told_behind prims q mark rows told =
    behind_defined prims q.sort mark (option_map (λ m. with_values prims q.sort (mark_row prims q.sort m)) mark) (map (with_values prims q.sort) rows) (mark_is prims q.sort mark) (told_carry prims q.sort rows)
    ∙ ap (λ l. sorted_onto (defs.row_cmp prims q.sort) [] (behind_mark prims q.sort mark l)) (told_defined prims q.sort rows told)
