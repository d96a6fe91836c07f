-- Windows to which the rows of a query are offered.
use Rattle.std.proofs.Common.{◌≡◌, ◌∙◌, ℕ, zero, suc, List, [], ◌∷◌, Bool, true, false, cond, Option, None, Some, take, length, map, filter, refl, sym, ap, subst}
use Rattle.std.specs.Prelude.{nat_lt}
use Rattle.std.specs.Ordering.{is_lt}
use Rattle.std.specs.List.Sorted.{IsPermutation}
use Rattle.std.proofs.lemmas.List.{append-nil}
use Rattle.std.proofs.lemmas.List.Sorted.{IsPermutation-sym, IsPermutation-trans}
use Rattle.gd_prim.specs.declared.Primitive.{Primitive}
use Rattle.gd_defs.specs.Asked.{SortKey, Asked}
use Rattle.gd_defs.specs.Rows.{insert_row, sorted_onto, rows, meets}
use Rattle.gd_defs.specs.Rows as defs
use Rattle.gd_defs.specs.Reply.{Mark, mark_row, rows_after}
use Rattle.gd_order_laws.specs.Window.{Each, Apart}
use Rattle.gd_order_laws.proofs.Keys as keys
use Rattle.gd_order_laws.proofs.Permuted.{offered_permuted}
use Rattle.gd_order_laws.proofs.Rows.{meeting, of_objects, apart_rows, apart_objects}
use Rattle.gd_order_laws.proofs.Sorted.{Each-filter, Each-from_members, Each-member, Each-weaker, In-insert, sorted_permutes, sorted-filter}
use Rattle.gd_window.specs.declared.row.Row.{Row}
use Rattle.gd_window.specs.Rows.{row_cmp}
use Rattle.gd_window.specs.Kept.{is_behind, rows_behind}
use Rattle.gd_window.specs.Laws.{defined, directions, Carries, IsMarkRow, AreRowsOf, WindowsGivePages, behind_mark}
use Rattle.gd_window.proofs.Defined.{row_same}

-- ---- lists

map-take : (n : ℕ) (xs : List Row) → map defined (take n xs) ≡ take n (map defined xs)
map-take zero xs = refl
map-take (suc n) [] = refl
map-take (suc n) (x ∷ xs) = ap (λ l. defined x ∷ l) (map-take n xs)

length-defined : (xs : List Row) → length (map defined xs) ≡ length xs
length-defined [] = refl
length-defined (x ∷ xs) = ap suc (length-defined xs)

all_kept : (xs : List Row) → filter (λ r. true) xs ≡ xs
all_kept [] = refl
all_kept (x ∷ xs) = ap (λ l. x ∷ l) (all_kept xs)

map-filter : (p : Row → Bool) (q : defs.Row → Bool) (xs : List Row) → Each (λ r. p r ≡ q (defined r)) xs → map defined (filter p xs) ≡ filter q (map defined xs)
map-filter p q [] same = refl
map-filter p q (x ∷ xs) same = by (p x) (q (defined x)) same.0 (map-filter p q xs same.1)
  where
    by : (b c : Bool) → b ≡ c → map defined (filter p xs) ≡ filter q (map defined xs) → map defined (cond b (x ∷ filter p xs) (filter p xs)) ≡ cond c (defined x ∷ filter q (map defined xs)) (filter q (map defined xs))
    by true true is rest = ap (λ l. defined x ∷ l) rest
    by true false is rest = cc
    by false true is rest = cc
    by false false is rest = rest

-- ---- rows in order

map-insert : (prims : List Primitive) (sort : List SortKey) (r : Row) (xs : List Row) → Carries prims sort r → Each (Carries prims sort) xs
    → map defined (insert_row (row_cmp (directions sort)) r xs) ≡ insert_row (defs.row_cmp prims sort) (defined r) (map defined xs)
map-insert prims sort r [] here all = refl
map-insert prims sort r (x ∷ xs) here all =
    by (is_lt (row_cmp (directions sort) r x)) (is_lt (defs.row_cmp prims sort (defined r) (defined x))) (ap is_lt (row_same prims sort r x here all.0)) (map-insert prims sort r xs here all.1)
  where
    by : (b c : Bool) → b ≡ c → map defined (insert_row (row_cmp (directions sort)) r xs) ≡ insert_row (defs.row_cmp prims sort) (defined r) (map defined xs)
        → map defined (cond b (r ∷ x ∷ xs) (x ∷ insert_row (row_cmp (directions sort)) r xs)) ≡ cond c (defined r ∷ defined x ∷ map defined xs) (defined x ∷ insert_row (defs.row_cmp prims sort) (defined r) (map defined xs))
    by true true is rest = refl
    by true false is rest = cc
    by false true is rest = cc
    by false false is rest = ap (λ l. defined x ∷ l) rest

inserted_carry : (prims : List Primitive) (sort : List SortKey) (r : Row) (xs : List Row) → Carries prims sort r → Each (Carries prims sort) xs → Each (Carries prims sort) (insert_row (row_cmp (directions sort)) r xs)
inserted_carry prims sort r xs here all =
    Each-from_members (Carries prims sort) (insert_row (row_cmp (directions sort)) r xs) (λ x there. Each-member (Carries prims sort) (r ∷ xs) (here, all) x (In-insert (row_cmp (directions sort)) r xs x there))

map-sorted : (prims : List Primitive) (sort : List SortKey) (done xs : List Row) → Each (Carries prims sort) done → Each (Carries prims sort) xs
    → map defined (sorted_onto (row_cmp (directions sort)) done xs) ≡ sorted_onto (defs.row_cmp prims sort) (map defined done) (map defined xs)
map-sorted prims sort done [] have all = refl
map-sorted prims sort done (x ∷ xs) have all =
    map-sorted prims sort (insert_row (row_cmp (directions sort)) x done) xs (inserted_carry prims sort x done all.0 have) all.1
    ∙ ap (λ l. sorted_onto (defs.row_cmp prims sort) l (map defined xs)) (map-insert prims sort x done all.0 have)

-- ---- the rows of a query

in_order_are_rows : (prims : List Primitive) (q : Asked) (ys : List defs.Row) → Apart (defs.row_cmp prims q.sort) ys → IsPermutation ys (rows prims q) → sorted_onto (defs.row_cmp prims q.sort) [] ys ≡ rows prims q
in_order_are_rows prims q ys once all =
    let cmp = defs.row_cmp prims q.sort in
    let objects = of_objects prims q (meeting prims q) in
    let whole : IsPermutation objects (rows prims q) = subst (λ (l : List defs.Row). IsPermutation l (rows prims q)) (append-nil objects) (sorted_permutes cmp [] objects) in
    offered_permuted cmp (keys.row_total prims q.sort) ys objects (IsPermutation-trans ys (rows prims q) objects all (IsPermutation-sym objects (rows prims q) whole)) once
    (apart_rows prims q (meeting prims q) (apart_objects prims (meets prims q.members 0)))

-- rows that carry their values, behind the row of a mark, are those that the definitions put in order
pub behind_defined : (prims : List Primitive) (sort : List SortKey) (mark : Option Mark) (after : Option Row) (offered : List Row) → IsMarkRow prims sort mark after → Each (Carries prims sort) offered
    → map defined (rows_behind (directions sort) after offered) ≡ sorted_onto (defs.row_cmp prims sort) [] (behind_mark prims sort mark (map defined offered))
behind_defined prims sort None None offered is carry = ap (λ l. map defined (sorted_onto (row_cmp (directions sort)) [] l)) (all_kept offered) ∙ map-sorted prims sort [] offered tt carry
behind_defined prims sort None (Some r) offered is carry = absurd is
behind_defined prims sort (Some m) None offered is carry = absurd is
behind_defined prims sort (Some m) (Some r) offered is carry =
    let cmp = defs.row_cmp prims sort in
    let behind : Row → Bool = is_behind (directions sort) (Some r) in
    let test : defs.Row → Bool = λ s. is_lt (cmp (mark_row prims sort m) s) in
    let same : Each (λ s. behind s ≡ test (defined s)) offered =
    Each-weaker (Carries prims sort) (λ s. behind s ≡ test (defined s)) (λ s has. ap is_lt (row_same prims sort r s is.0 has ∙ ap (λ t. cmp t (defined s)) is.1)) offered carry in
    map-sorted prims sort [] (filter behind offered) tt (Each-filter (Carries prims sort) behind offered carry)
    ∙ ap (λ l. sorted_onto cmp [] l) (map-filter behind test offered same)

behind_are_after : (prims : List Primitive) (q : Asked) (mark : Option Mark) (after : Option Row) (offered : List Row) → IsMarkRow prims q.sort mark after → AreRowsOf prims q offered
    → map defined (rows_behind (directions q.sort) after offered) ≡ rows_after prims q mark
behind_are_after prims q mark after offered is are = behind_defined prims q.sort mark after offered is are.carry ∙ by mark
  where
    by : (mark : Option Mark) → sorted_onto (defs.row_cmp prims q.sort) [] (behind_mark prims q.sort mark (map defined offered)) ≡ rows_after prims q mark
    by None = in_order_are_rows prims q (map defined offered) are.once are.all
    by (Some m) =
        let test : defs.Row → Bool = λ s. is_lt (defs.row_cmp prims q.sort (mark_row prims q.sort m) s) in
        sorted-filter (defs.row_cmp prims q.sort) (keys.row_total prims q.sort) test (map defined offered) are.once
        ∙ ap (filter test) (in_order_are_rows prims q (map defined offered) are.once are.all)

pub pages_given : WindowsGivePages
pages_given prims q mark after offered is are =
    let behind = rows_behind (directions q.sort) after offered in
    let same : map defined behind ≡ rows_after prims q mark = behind_are_after prims q mark after offered is are in
    record {
      given = map-take q.limit behind ∙ ap (λ l. take q.limit l) same;
      more = ap (λ n. nat_lt q.limit n) (sym (length-defined behind)) ∙ ap (λ l. nat_lt q.limit (length l)) same;
    }
