-- Pages joined are all rows, each once.
use Rattle.std.proofs.Common.{◌≡◌, ℕ, zero, suc, ◌*◌, ◌<◌, ◌≤◌, List, [], ◌∷◌, ◌++◌, Bool, true, false, Option, None, Some, length, take, drop, filter, flat_map, refl, sym, ap, subst, ◌∙◌, arith, append_assoc, length-drop}
use Rattle.std.specs.Prelude.{nat_lt, option_map}
use Rattle.std.specs.Option.{option_map_or}
use Rattle.std.specs.List.{last_or}
use Rattle.std.specs.Ordering.{is_lt}
use Rattle.std.proofs.lemmas.Bool.{ltb-true, ltb-false}
use Rattle.std.proofs.lemmas.List.{append-nil, take-append-drop}
use Rattle.gd_prim.specs.declared.Primitive.{Primitive}
use Rattle.gd_list_laws.proofs.Fronts.{take_whole, last_is, taken_last}
use Rattle.gd_defs.specs.Asked.{Asked}
use Rattle.gd_defs.specs.Rows.{Row, rows, row_cmp}
use Rattle.gd_defs.specs.Reply.{Mark, row_mark, rows_after}
use Rattle.gd_order_laws.specs.Window.{In}
use Rattle.gd_order_laws.specs.Pages.{next_mark, pages}
use Rattle.gd_order_laws.proofs.Sorted.{In-middle}
use Rattle.gd_order_laws.proofs.Rows.{rows_behind}
use Rattle.gd_order_laws.proofs.Marks.{mark_again}

-- ---- lists

some_fit : (n limit k : ℕ) → limit < k → k ≤ suc n * limit → 0 < limit
some_fit n zero k less fits = absurd (omega (arith, less, fits))
some_fit n (suc limit) k less fits = omega arith

-- ---- pages

module _ (prims : List Primitive) (q : Asked) where
  joined : ℕ → Option Mark → List Row
  joined n after = flat_map (λ p. p) (pages prims q n after)

  -- a page of these rows, and those behind it
  abbrev then_more : ℕ → List Row → Bool → List Row
  then_more n rest more = take q.limit rest ++ flat_map (λ p. p) (option_map_or (λ m. pages prims q n (Some m)) (next_mark (take q.limit rest) more) [])

  -- behind the mark of a row come the rows behind it
  pub after_row : (done : List Row) (r : Row) (rest : List Row) → rows prims q ≡ done ++ r ∷ rest → rows_after prims q (Some (row_mark r)) ≡ rest
  after_row done r rest is =
      ap (λ m. filter (λ s. is_lt (row_cmp prims q.sort m s)) (rows prims q)) (mark_again prims q r (subst (In r) (sym is) (In-middle done r rest)))
      ∙ rows_behind prims q done r rest is

  pub pages_from : (n : ℕ) (after : Option Mark) (done rest : List Row) → rows prims q ≡ done ++ rest → rows_after prims q after ≡ rest → length rest ≤ n * q.limit → flat_map (λ p. p) (pages prims q n after) ≡ rest
  pages_from zero after done rest all from few = none rest few
    where
      none : (l : List Row) → length l ≤ zero * q.limit → [] ≡ l
      none [] less = refl
      none (x ∷ xs) less = absurd (omega (arith, less))
  pages_from (suc n) after done rest all from few =
      ap (λ l. then_more n l (nat_lt q.limit (length l))) from ∙ by (nat_lt q.limit (length rest)) refl (pages_from n)
    where
      by : (b : Bool) → nat_lt q.limit (length rest) ≡ b
          → ((after : Option Mark) (done rest : List Row) → rows prims q ≡ done ++ rest → rows_after prims q after ≡ rest → length rest ≤ n * q.limit → flat_map (λ p. p) (pages prims q n after) ≡ rest)
          → then_more n rest b ≡ rest
      by false is later = append-nil (take q.limit rest) ∙ take_whole q.limit rest (ltb-false q.limit (length rest) is)
      by true is later =
          let more : q.limit < length rest = ltb-true q.limit (length rest) is in
          let some : 0 < q.limit = some_fit n q.limit (length rest) more few in
          let last = taken_last q.limit rest some more in
          let whole : rows prims q ≡ (done ++ last.0) ++ last.1 ∷ drop q.limit rest =
          all ∙ (ap (λ l. done ++ l) (sym (take-append-drop q.limit rest) ∙ (ap (λ l. l ++ drop q.limit rest) last.2 ∙ append_assoc last.0 (last.1 ∷ []) (drop q.limit rest)))
          ∙ sym (append_assoc done last.0 (last.1 ∷ drop q.limit rest))) in
          let behind : rows_after prims q (Some (row_mark last.1)) ≡ drop q.limit rest = after_row (done ++ last.0) last.1 (drop q.limit rest) whole in
          let fewer : length (drop q.limit rest) ≤ n * q.limit = omega (arith, length-drop q.limit rest, few) in
          let marked : next_mark (take q.limit rest) true ≡ Some (row_mark last.1) = ap (λ l. option_map row_mark (last_or None l)) last.2 ∙ ap (option_map row_mark) (last_is None last.0 last.1) in
          ap (λ o. take q.limit rest ++ flat_map (λ p. p) (option_map_or (λ m. pages prims q n (Some m)) o [])) marked
          ∙ (ap (λ l. take q.limit rest ++ l) (later (Some (row_mark last.1)) ((done ++ last.0) ++ last.1 ∷ []) (drop q.limit rest) (whole ∙ sym (append_assoc (done ++ last.0) (last.1 ∷ []) (drop q.limit rest))) behind fewer)
          ∙ take-append-drop q.limit rest)

  -- the pages of a query from the first on, joined, are its rows, where there are enough of them
  pub pages_joined : (n : ℕ) → length (rows prims q) ≤ n * q.limit → flat_map (λ p. p) (pages prims q n None) ≡ rows prims q
  pages_joined n few = pages_from n None [] (rows prims q) refl refl few
