-- What a window keeps of the rows that were offered, as the definitions have it, and read again from its marks.
use Rattle.std.proofs.Common.{◌≡◌, ℕ, zero, suc, ◌+◌, ◌<◌, ◌≤◌, List, [], ◌∷◌, ◌++◌, Bool, true, false, cond, Option, None, Some, length, take, map, filter, refl, ap, sym, subst, ◌∙◌, Ordering, arith, add-one}
use Rattle.std.specs.Ordering.{nat_cmp, is_lt}
use Rattle.std.specs.Prelude.{option_map}
use Rattle.std.proofs.lemmas.List.{append-nil, take_all}
use Rattle.gd_prim.specs.declared.Primitive.{Primitive}
use Rattle.gd_defs.specs.Asked.{Asked}
use Rattle.gd_defs.specs.Reply.{Mark, mark_row, row_mark}
use Rattle.gd_defs.specs.Rows.{row_of, row_cmp, insert_row, sorted_onto}
use Rattle.gd_defs.specs.Rows as defs
use Rattle.gd_runs.specs.Thawed.{window}
use Rattle.gd_order_laws.specs.Window.{In, Apart}
use Rattle.gd_order_laws.proofs.Rows.{In-map, apart_rows}
use Rattle.gd_order_laws.proofs.Sorted.{In-filter, In-sorted}
use Rattle.gd_match_laws.proofs.PassedOn.{first_of_window, marks_again, In-take}
use Rattle.gd_window.specs.declared.row.Row.{Row}
use Rattle.gd_window.specs.Kept.{Kept, HasSeen, rows_behind}
use Rattle.gd_window.specs.Laws.{with_values, directions, defined, behind_mark, RowsBehindAreAsDefined}
use Rattle.gd_suspended_laws.specs.Standing.{valued, window_of, rows_of}

-- ---- lists

map-take : (n : ℕ) (xs : List Row) → map defined (take n xs) ≡ take n (map defined xs)
map-take zero xs = refl
map-take (suc n) [] = refl
map-take (suc n) (x ∷ xs) = ap (λ l. defined x ∷ l) (map-take n xs)

module _ {A : Type 0} where
  pub taken_few : (n : ℕ) (xs : List A) → length (take n xs) ≤ n
  taken_few zero xs = omega arith
  taken_few (suc n) [] = omega arith
  taken_few (suc n) (x ∷ xs) = let rest = taken_few n xs in omega (arith, rest)

  fewer : (p : A → Bool) (xs : List A) → length (filter p xs) ≤ length xs
  fewer p [] = omega arith
  fewer p (x ∷ xs) = by (p x) (fewer p xs)
    where
      by : (b : Bool) → length (filter p xs) ≤ length xs → length (cond b (x ∷ filter p xs) (filter p xs)) ≤ suc (length xs)
      by true rest = omega (arith, rest)
      by false rest = omega (arith, rest)

  inserted : (cmp : A → A → Ordering) (r : A) (xs : List A) → length (insert_row cmp r xs) ≡ suc (length xs)
  inserted cmp r [] = refl
  inserted cmp r (x ∷ xs) = by (is_lt (cmp r x)) (inserted cmp r xs)
    where
      by : (b : Bool) → length (insert_row cmp r xs) ≡ suc (length xs) → length (cond b (r ∷ x ∷ xs) (x ∷ insert_row cmp r xs)) ≡ suc (suc (length xs))
      by true rest = refl
      by false rest = ap suc rest

  sorted_as_many : (cmp : A → A → Ordering) (done rows : List A) → length (sorted_onto cmp done rows) ≡ length done + length rows
  sorted_as_many cmp done [] = omega arith
  sorted_as_many cmp done (r ∷ rows) = let one = inserted cmp r done in let rest = sorted_as_many cmp (insert_row cmp r done) rows in omega (arith, one, rest)

-- ---- windows

window_is : (prims : List Primitive) (q : Asked) (after : Option Mark) (rows : List defs.Row) → sorted_onto (row_cmp prims q.sort) [] (behind_mark prims q.sort after rows) ≡ window prims q after rows
window_is prims q None rows = refl
window_is prims q (Some m) rows = refl

pub window_few : (prims : List Primitive) (q : Asked) (after : Option Mark) (rows : List defs.Row) → length (window prims q after rows) ≤ length rows
window_few prims q None rows = let same = sorted_as_many (row_cmp prims q.sort) [] rows in omega (arith, same)
window_few prims q (Some m) rows =
    let kept = filter (λ r. is_lt (row_cmp prims q.sort (mark_row prims q.sort m) r)) rows in
    let same = sorted_as_many (row_cmp prims q.sort) [] kept in
    let few = fewer (λ r. is_lt (row_cmp prims q.sort (mark_row prims q.sort m) r)) rows in
    omega (arith, same, few)

pub in_window : (prims : List Primitive) (q : Asked) (after : Option Mark) (rows : List defs.Row) (s : defs.Row) → In s (window prims q after rows) → In s rows
in_window prims q None rows s there = Rattle.std.proofs.Common.⊎_elim (λ none. absurd none) (λ found. found) (In-sorted (row_cmp prims q.sort) [] rows s there)
in_window prims q (Some m) rows s there =
    (In-filter (λ t. is_lt (row_cmp prims q.sort (mark_row prims q.sort m) t)) rows s
    (Rattle.std.proofs.Common.⊎_elim (λ none. absurd none) (λ found. found) (In-sorted (row_cmp prims q.sort) [] (filter (λ t. is_lt (row_cmp prims q.sort (mark_row prims q.sort m) t)) rows) s there))).0

module _ (prims : List Primitive) (q : Asked) (after : Option Mark) where
  -- the best rows of objects, one more than a page has
  abbrev pub best_of : List ℕ → List defs.Row
  best_of os = take (suc q.limit) (window prims q after (map (row_of prims q.sort 0) os))

  -- LAW: a window to which the rows of objects were offered keeps the best of them
  pub keeps_best : RowsBehindAreAsDefined → (w : Kept) (os : List ℕ) → w ≡ window_of prims q after w.rows → HasSeen w (map (valued prims q) os) → rows_of w ≡ best_of os
  keeps_best law w os is seen =
      ap (map defined) (seen
      ∙ ap (λ (v : Kept). take (v.limit + 1) (rows_behind v.order v.after (map (valued prims q) os))) is)
      ∙ map-take (q.limit + 1) (rows_behind (directions q.sort) (option_map (λ m. with_values prims q.sort (mark_row prims q.sort m)) after) (map (valued prims q) os))
      ∙ ap (take (q.limit + 1)) (law prims q after os ∙ window_is prims q after (map (row_of prims q.sort 0) os))
      ∙ rw add-one refl

  -- each of the best rows is that of an object
  pub best_known : (os : List ℕ) (r : defs.Row) → In r (best_of os) → (o : ℕ) × In o os × (row_of prims q.sort 0 o ≡ r)
  best_known os r here =
      let offered = in_window prims q after (map (row_of prims q.sort 0) os) r (In-take (suc q.limit) (window prims q after (map (row_of prims q.sort 0) os)) r here) in
      In-map (row_of prims q.sort 0) os r offered

  -- LAW: the best rows are read again from their marks, and offered again they stay as they stand
  pub best_again : (os : List ℕ) → Apart nat_cmp os → ((o : ℕ) → In o os → o < length prims)
      → window prims q after (map (mark_row prims q.sort) (map row_mark (best_of os))) ≡ best_of os
  best_again os apart placed =
      ap (window prims q after) (marks_again prims q (best_of os) known)
      ∙ sym (take_all (suc q.limit) (window prims q after (best_of os)) few)
      ∙ ap (λ l. take (suc q.limit) (window prims q after l)) (sym (append-nil (best_of os)))
      ∙ first_of_window prims q after (suc q.limit) (map (row_of prims q.sort 0) os) [] (apart_rows prims q os apart)
      ∙ ap (λ l. take (suc q.limit) (window prims q after l)) (append-nil (map (row_of prims q.sort 0) os))
    where
      known : (r : defs.Row) → In r (best_of os) → (o : ℕ) × (o < length prims) × (row_of prims q.sort 0 o ≡ r)
      known r here = let from = best_known os r here in (from.0, placed from.0 from.1, from.2)

      few : length (window prims q after (best_of os)) ≤ suc q.limit
      few = let one = window_few prims q after (best_of os) in let two = taken_few (suc q.limit) (window prims q after (map (row_of prims q.sort 0) os)) in omega (arith, one, two)
