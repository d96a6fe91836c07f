-- The best rows so far, one more than a page has, offer the same page as all rows that were found.
use Rattle.std.proofs.Common.{◌≡◌, ℕ, suc, List, [], ◌∷◌, ◌++◌, take, Option, Some, None, refl, ap, sym, ◌∙◌}
use Rattle.std.specs.Ordering.{is_lt}
use Rattle.std.specs.declared.cmp.Ordering.{Ordering}
use Rattle.std.proofs.lemmas.List.Elements.{filter-append}
use Rattle.gd_prim.specs.declared.Primitive.{Primitive}
use Rattle.gd_defs.specs.Asked.{Asked}
use Rattle.gd_defs.specs.Reply.{Mark, mark_row}
use Rattle.gd_defs.specs.Rows.{Row, row_cmp, insert_row, sorted_onto}
use Rattle.gd_scan_laws.specs.PassedOn.{window, kept_onto}
use Rattle.gd_scan_laws.proofs.PassedOn.{kept_row_by_row}
use Rattle.gd_match_laws.specs.Best.{behind_mark, Stand}

module _ {A : Type 0} (cmp : A → A → Ordering) where
  sorted-append : (done xs ys : List A) → sorted_onto cmp done (xs ++ ys) ≡ sorted_onto cmp (sorted_onto cmp done xs) ys
  sorted-append done [] ys = refl
  sorted-append done (x ∷ xs) ys = sorted-append (insert_row cmp x done) xs ys

  kept-append : (n : ℕ) (kept xs ys : List A) → kept_onto cmp n kept (xs ++ ys) ≡ kept_onto cmp n (kept_onto cmp n kept xs) ys
  kept-append n kept [] ys = refl
  kept-append n kept (x ∷ xs) ys = kept-append n (take n (insert_row cmp x kept)) xs ys

  -- the rows that stand, then others, put in order
  first_onto : (n : ℕ) (kept rest : List A) → take n kept ≡ kept → sorted_onto cmp [] kept ≡ kept → take n (sorted_onto cmp [] (kept ++ rest)) ≡ kept_onto cmp n kept rest
  first_onto n kept rest few ordered =
      ap (take n) (sorted-append [] kept rest ∙ ap (λ d. sorted_onto cmp d rest) ordered)
      ∙ kept_row_by_row cmp n kept rest
      ∙ ap (λ l. kept_onto cmp n l rest) few

  -- the best of some stand for them
  pub best_first : (n : ℕ) (kept rows rest : List A) → take n kept ≡ kept → sorted_onto cmp [] kept ≡ kept → take n (kept_onto cmp n kept rows) ≡ kept_onto cmp n kept rows → sorted_onto cmp [] (kept_onto cmp n kept rows) ≡ kept_onto cmp n kept rows
      → take n (sorted_onto cmp [] (kept ++ (rows ++ rest))) ≡ take n (sorted_onto cmp [] (kept_onto cmp n kept rows ++ rest))
  best_first n kept rows rest few ordered few_then ordered_then =
      first_onto n kept (rows ++ rest) few ordered ∙ kept-append n kept rows rest ∙ sym (first_onto n (kept_onto cmp n kept rows) rest few_then ordered_then)

module _ (prims : List Primitive) (q : Asked) where
  window-is : (after : Option Mark) (rows : List Row) → window prims q after rows ≡ sorted_onto (row_cmp prims q.sort) [] (behind_mark prims q after rows)
  window-is None rows = refl
  window-is (Some m) rows = refl

  behind-append : (after : Option Mark) (xs ys : List Row) → behind_mark prims q after (xs ++ ys) ≡ behind_mark prims q after xs ++ behind_mark prims q after ys
  behind-append None xs ys = refl
  behind-append (Some m) xs ys = filter-append (λ r. is_lt (row_cmp prims q.sort (mark_row prims q.sort m) r)) xs ys

  -- LAW: where kept rows stand in a window, and further rows behind its mark are put among them, of which each time the first ones are kept, a window offers the same first rows
  pub window-keeps : (after : Option Mark) (kept keeps rows rest : List Row) → Stand prims q after kept → Stand prims q after keeps → keeps ≡ kept_onto (row_cmp prims q.sort) (suc q.limit) kept (behind_mark prims q after rows)
      → take (suc q.limit) (window prims q after (kept ++ (rows ++ rest))) ≡ take (suc q.limit) (window prims q after (keeps ++ rest))
  window-keeps after kept keeps rows rest stand then_stand is =
      ap (take (suc q.limit)) (window-is after (kept ++ (rows ++ rest)) ∙ ap (sorted_onto (row_cmp prims q.sort) []) (behind-append after kept (rows ++ rest) ∙ ap (λ l. l ++ behind_mark prims q after (rows ++ rest)) stand.behind ∙ ap (λ l. kept ++ l) (behind-append after rows rest)))
      ∙ first_onto (row_cmp prims q.sort) (suc q.limit) kept (behind_mark prims q after rows ++ behind_mark prims q after rest) stand.few stand.ordered
      ∙ kept-append (row_cmp prims q.sort) (suc q.limit) kept (behind_mark prims q after rows) (behind_mark prims q after rest)
      ∙ ap (λ l. kept_onto (row_cmp prims q.sort) (suc q.limit) l (behind_mark prims q after rest)) (sym is)
      ∙ sym (ap (take (suc q.limit)) (window-is after (keeps ++ rest) ∙ ap (sorted_onto (row_cmp prims q.sort) []) (behind-append after keeps rest ∙ ap (λ l. l ++ behind_mark prims q after rest) then_stand.behind))
      ∙ first_onto (row_cmp prims q.sort) (suc q.limit) keeps (behind_mark prims q after rest) then_stand.few then_stand.ordered)
