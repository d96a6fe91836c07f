-- A scan that keeps the best rows of what it has settled owes what it did at its start.
use Rattle.std.proofs.Common.{◌≡◌, inl, inr, ⊎_elim, ℕ, zero, suc, ◌<◌, List, [], ◌∷◌, ◌++◌, Bool, true, Option, None, Some, length, take, map, filter, refl, sym, ap, subst, ◌∙◌, Ordering}
use Rattle.std.specs.Ordering.{is_lt}
use Rattle.std.proofs.lemmas.List.Elements.{filter-append}
use Rattle.gd_prim.specs.declared.Primitive.{Primitive}
use Rattle.gd_defs.specs.Asked.{Asked}
use Rattle.gd_defs.specs.Rows.{Row, row_of, row_cmp, sorted_onto, insert_row}
use Rattle.gd_defs.specs.Reply.{Mark, mark_row, row_mark}
use Rattle.gd_page_laws.specs.PassedOn.{window}
use Rattle.gd_order_laws.specs.Window.{In, Each, Apart, Rising, kept_onto}
use Rattle.gd_order_laws.proofs.Keys.{row_total}
use Rattle.gd_order_laws.proofs.Marks.{mark_of}
use Rattle.gd_order_laws.proofs.Rows.{Apart-rising}
use Rattle.gd_order_laws.proofs.Sorted.{Apart-filter, Each-from_members, In-filter, In-sorted, In-sorted_from, Rising-sorted, kept_row_by_row, same_members}
use Rattle.gd_scan_laws.proofs.Replies.{Each-take, keeps_all}

module _ {A : Type 0} where
  pub In-take : (n : ℕ) (xs : List A) (x : A) → In x (take n xs) → In x xs
  In-take zero xs x here = absurd here
  In-take (suc n) [] x here = here
  In-take (suc n) (y ∷ xs) x (inl same) = inl same
  In-take (suc n) (y ∷ xs) x (inr there) = inr (In-take n xs x there)

  take_take : (n : ℕ) (xs : List A) → take n (take n xs) ≡ take n xs
  take_take zero xs = refl
  take_take (suc n) [] = refl
  take_take (suc n) (x ∷ xs) = ap (λ l. x ∷ l) (take_take n xs)

  Rising-take : (cmp : A → A → Ordering) (n : ℕ) (xs : List A) → Rising cmp xs → Rising cmp (take n xs)
  Rising-take cmp zero xs rising = tt
  Rising-take cmp (suc n) [] rising = tt
  Rising-take cmp (suc n) (x ∷ xs) rising = (Each-take _ n xs rising.0, Rising-take cmp n xs rising.1)

  sorted_append : (cmp : A → A → Ordering) (done xs ys : List A) → sorted_onto cmp done (xs ++ ys) ≡ sorted_onto cmp (sorted_onto cmp done xs) ys
  sorted_append cmp done [] ys = refl
  sorted_append cmp done (x ∷ xs) ys = sorted_append cmp (insert_row cmp x done) xs ys

module _ (prims : List Primitive) (q : Asked) where
  abbrev by_row : Row → Row → Ordering
  by_row = row_cmp prims q.sort

  -- rows that rise are in order
  sorted_rising : (rows : List Row) → Rising by_row rows → sorted_onto by_row [] rows ≡ rows
  sorted_rising rows rising =
      same_members by_row (row_total prims q.sort) (sorted_onto by_row [] rows) rows (Rising-sorted by_row (row_total prims q.sort) rows (Apart-rising by_row rows rising)) rising
      (λ r here. ⊎_elim (λ none. absurd none) (λ there. there) (In-sorted by_row [] rows r here))
      (λ r here. In-sorted_from by_row [] rows r (inr here))

  -- the first rows of all are those of the first rows of some and of the others
  first_of_both : (n : ℕ) (some others : List Row) → Apart by_row some
      → take n (sorted_onto by_row [] (take n (sorted_onto by_row [] some) ++ others)) ≡ take n (sorted_onto by_row [] (some ++ others))
  first_of_both n some others apart =
      ap (take n) (sorted_append by_row [] (take n (sorted_onto by_row [] some)) others)
      ∙ (ap (λ l. take n (sorted_onto by_row l others)) (sorted_rising (take n (sorted_onto by_row [] some)) (Rising-take by_row n (sorted_onto by_row [] some) (Rising-sorted by_row (row_total prims q.sort) some apart)))
      ∙ (kept_row_by_row by_row n (take n (sorted_onto by_row [] some)) others
      ∙ (ap (λ l. kept_onto by_row n l others) (take_take n (sorted_onto by_row [] some))
      ∙ (sym (kept_row_by_row by_row n (sorted_onto by_row [] some) others)
      ∙ ap (take n) (sym (sorted_append by_row [] some others))))))

  -- the same behind a mark
  pub first_of_window : (after : Option Mark) (n : ℕ) (some others : List Row) → Apart by_row some
      → take n (window prims q after (take n (window prims q after some) ++ others)) ≡ take n (window prims q after (some ++ others))
  first_of_window None n some others apart = first_of_both n some others apart
  first_of_window (Some m) n some others apart =
      ap (λ l. take n (sorted_onto by_row [] l)) (filter-append passed (take n (sorted_onto by_row [] (filter passed some))) others ∙ ap (λ l. l ++ filter passed others) (keeps_all passed (take n (sorted_onto by_row [] (filter passed some))) all))
      ∙ (first_of_both n (filter passed some) (filter passed others) (Apart-filter by_row (row_total prims q.sort) passed some apart)
      ∙ ap (λ l. take n (sorted_onto by_row [] l)) (sym (filter-append passed some others)))
    where
      passed : Row → Bool
      passed r = is_lt (row_cmp prims q.sort (mark_row prims q.sort m) r)

      all : Each (λ r. passed r ≡ true) (take n (sorted_onto by_row [] (filter passed some)))
      all = Each-from_members (λ r. passed r ≡ true) (take n (sorted_onto by_row [] (filter passed some)))
          (λ r here. (In-filter passed some r (⊎_elim (λ none. absurd none) (λ there. there) (In-sorted by_row [] (filter passed some) r (In-take n (sorted_onto by_row [] (filter passed some)) r here)))).1)

  -- rows of places are read again from their marks
  pub marks_again : (rows : List Row) → ((r : Row) → In r rows → (o : ℕ) × (o < length prims) × (row_of prims q.sort 0 o ≡ r)) → map (mark_row prims q.sort) (map row_mark rows) ≡ rows
  marks_again [] all = refl
  marks_again (r ∷ rows) all =
      let known = all r (inl refl) in
      let one : mark_row prims q.sort (row_mark r) ≡ r = subst (λ s. mark_row prims q.sort (row_mark s) ≡ s) known.2 (mark_of prims q known.0 known.1) in
      ap (λ s. s ∷ map (mark_row prims q.sort) (map row_mark rows)) one ∙ ap (λ l. r ∷ l) (marks_again rows (λ s there. all s (inr there)))
