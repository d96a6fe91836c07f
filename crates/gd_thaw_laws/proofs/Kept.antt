-- Whatever rows are kept, the best of them stand for them.
use Rattle.std.proofs.Common.{◌≡◌, ◌∙◌, inl, inr, ⊎_elim, refl, sym, ap, subst, ℕ, zero, suc, ◌<◌, List, [], ◌∷◌, ◌++◌, Bool, true, false, cond, Option, None, Some, length, take, map, filter, append_assoc, Ordering}
use Rattle.std.specs.Prelude.{nat_lt, if◌then◌else◌}
use Rattle.std.specs.Cmp.{IsTotalOrder}
use Rattle.std.specs.Ordering.{is_lt}
use Rattle.std.proofs.lemmas.List.{append-nil}
use Rattle.std.proofs.lemmas.List.Elements.{filter-append}
use Rattle.gd_prim.specs.declared.Primitive.{Primitive}
use Rattle.gd_defs.specs.Asked.{Asked, SortKey}
use Rattle.gd_defs.specs.Rows.{Row, row_of, row_cmp, insert_row, sorted_onto}
use Rattle.gd_defs.specs.Reply.{Mark, mark_row, row_mark, fitted}
use Rattle.gd_runs.specs.Thawed.{window}
use Rattle.gd_order_laws.specs.Up.{IsUp}
use Rattle.gd_order_laws.specs.Window.{In, Each, kept_onto}
use Rattle.gd_order_laws.proofs.Insertion.{IsUp-insert, IsUp-take}
use Rattle.gd_order_laws.proofs.Keys.{row_total}
use Rattle.gd_order_laws.proofs.Marks.{mark_of}
use Rattle.gd_order_laws.proofs.Sorted.{Each-from_members, Each-append, In-filter, In-sorted, kept_row_by_row}
use Rattle.gd_match_laws.proofs.PassedOn.{keeps_all, In-take}

module _ {A : Type 0} (cmp : A → A → Ordering) where
  take_take : (n : ℕ) (xs : List A) → take n (take n xs) ≡ take n xs
  take_take zero xs = refl
  take_take (suc n) [] = refl
  take_take (suc n) (x ∷ xs) = ap (λ l. x ∷ l) (take_take n xs)

  sorted_append : (done xs ys : List A) → sorted_onto cmp done (xs ++ ys) ≡ sorted_onto cmp (sorted_onto cmp done xs) ys
  sorted_append done [] ys = refl
  sorted_append done (x ∷ xs) ys = sorted_append (insert_row cmp x done) xs ys

  -- a row that comes before none of some goes behind them
  insert_end : (r : A) (xs : List A) → Each (λ x. is_lt (cmp r x) ≡ false) xs → insert_row cmp r xs ≡ xs ++ r ∷ []
  insert_end r [] all = refl
  insert_end r (x ∷ xs) (first, all) = ap (λ b. cond b (r ∷ x ∷ xs) (x ∷ insert_row cmp r xs)) first ∙ ap (λ l. x ∷ l) (insert_end r xs all)

  up_behind : (done : List A) (r : A) (rows : List A) → IsUp cmp (done ++ (r ∷ rows)) → Each (λ x. is_lt (cmp r x) ≡ false) done
  up_behind [] r rows up = tt
  up_behind (d ∷ done) r rows (first, up) = ((Each-append (λ s. is_lt (cmp s d) ≡ false) done (r ∷ rows) first).1.0, up_behind done r rows up)

  -- rows that stand in order stay as they stand
  onto_up : (done rows : List A) → IsUp cmp (done ++ rows) → sorted_onto cmp done rows ≡ done ++ rows
  onto_up done [] up = sym (append-nil done)
  onto_up done (r ∷ rows) up =
      let more : done ++ (r ∷ rows) ≡ (done ++ r ∷ []) ++ rows = sym (append_assoc done (r ∷ []) rows) in
      ap (λ l. sorted_onto cmp l rows) (insert_end r done (up_behind done r rows up)) ∙ onto_up (done ++ r ∷ []) rows (subst (IsUp cmp) more up) ∙ sym more

  module _ (total : IsTotalOrder cmp) where
    sorted_up : (done rows : List A) → IsUp cmp done → IsUp cmp (sorted_onto cmp done rows)
    sorted_up done [] up = up
    sorted_up done (r ∷ rows) up = sorted_up (insert_row cmp r done) rows (IsUp-insert cmp total r done up)

    again : (rows : List A) → sorted_onto cmp [] (sorted_onto cmp [] rows) ≡ sorted_onto cmp [] rows
    again rows = onto_up [] (sorted_onto cmp [] rows) (sorted_up [] rows tt)

    pub front_again : (n : ℕ) (rows : List A) → sorted_onto cmp [] (take n (sorted_onto cmp [] rows)) ≡ take n (sorted_onto cmp [] rows)
    front_again n rows = onto_up [] (take n (sorted_onto cmp [] rows)) (IsUp-take cmp total n (sorted_onto cmp [] rows) (sorted_up [] rows tt))

    -- the first rows of all are those of the first rows of some and of the others, whether rows tie or not
    first_of_both : (n : ℕ) (some others : List A) → take n (sorted_onto cmp [] (take n (sorted_onto cmp [] some) ++ others)) ≡ take n (sorted_onto cmp [] (some ++ others))
    first_of_both n some others =
        ap (take n) (sorted_append [] (take n (sorted_onto cmp [] some)) others)
        ∙ ap (λ l. take n (sorted_onto cmp l others)) (front_again n some)
        ∙ kept_row_by_row cmp n (take n (sorted_onto cmp [] some)) others
        ∙ ap (λ l. kept_onto cmp n l others) (take_take n (sorted_onto cmp [] some))
        ∙ sym (kept_row_by_row cmp n (sorted_onto cmp [] some) others)
        ∙ ap (take n) (sym (sorted_append [] some others))

module _ (prims : List Primitive) (q : Asked) where
  -- the same behind a mark
  pub first_of_any : (after : Option Mark) (n : ℕ) (some others : List Row) → take n (window prims q after (take n (window prims q after some) ++ others)) ≡ take n (window prims q after (some ++ others))
  first_of_any None n some others = first_of_both (row_cmp prims q.sort) (row_total prims q.sort) n some others
  first_of_any (Some m) n some others =
      ap (λ l. take n (sorted_onto (row_cmp prims q.sort) [] l)) (filter-append passed (take n (sorted_onto (row_cmp prims q.sort) [] (filter passed some))) others ∙ ap (λ l. l ++ filter passed others) (keeps_all passed (take n (sorted_onto (row_cmp prims q.sort) [] (filter passed some))) all))
      ∙ first_of_both (row_cmp prims q.sort) (row_total prims q.sort) n (filter passed some) (filter passed others)
      ∙ ap (λ l. take n (sorted_onto (row_cmp prims q.sort) [] l)) (sym (filter-append passed some others))
    where
      passed : Row → Bool
      passed r = is_lt (row_cmp prims q.sort (mark_row prims q.sort m) r)

      all : Each (λ r. passed r ≡ true) (take n (sorted_onto (row_cmp prims q.sort) [] (filter passed some)))
      all = Each-from_members (λ r. passed r ≡ true) (take n (sorted_onto (row_cmp prims q.sort) [] (filter passed some)))
          (λ r here. (In-filter passed some r (⊎_elim (λ none. absurd none) (λ there. there) (In-sorted (row_cmp prims q.sort) [] (filter passed some) r (In-take n (sorted_onto (row_cmp prims q.sort) [] (filter passed some)) r here)))).1)

  in_window : (after : Option Mark) (rows : List Row) (s : Row) → In s (window prims q after rows) → In s rows
  in_window None rows s there = ⊎_elim (λ none. absurd none) (λ found. found) (In-sorted (row_cmp prims q.sort) [] rows s there)
  in_window (Some m) rows s there =
      (In-filter (λ t. is_lt (row_cmp prims q.sort (mark_row prims q.sort m) t)) rows s
      (⊎_elim (λ none. absurd none) (λ found. found) (In-sorted (row_cmp prims q.sort) [] (filter (λ t. is_lt (row_cmp prims q.sort (mark_row prims q.sort m) t)) rows) s there))).0

  pub in_best : (after : Option Mark) (n : ℕ) (rows : List Row) (s : Row) → In s (take n (window prims q after rows)) → In s rows
  in_best after n rows s here = in_window after rows s (In-take n (window prims q after rows) s here)

  -- ---- rows that are read again from their marks

  abbrev pub IsAgain : Row → Type 0
  IsAgain r = mark_row prims q.sort (row_mark r) ≡ r

  pub all_again : (rows : List Row) → ((r : Row) → In r rows → IsAgain r) → map (mark_row prims q.sort) (map row_mark rows) ≡ rows
  all_again [] all = refl
  all_again (r ∷ rows) all = ap (λ s. s ∷ map (mark_row prims q.sort) (map row_mark rows)) (all r (inl refl)) ∙ ap (λ l. r ∷ l) (all_again rows (λ s there. all s (inr there)))

  pub fitted_again : (end : ℕ) (sort : List SortKey) (ks : List (Option ℕ)) → fitted end sort (fitted end sort ks) ≡ fitted end sort ks
  fitted_again end [] ks = refl
  fitted_again end (s ∷ ss) [] = ap (λ l. None ∷ l) (fitted_again end ss [])
  fitted_again end (s ∷ ss) (None ∷ ks) = ap (λ l. None ∷ l) (fitted_again end ss ks)
  fitted_again end (s ∷ ss) (Some p ∷ ks) = by (nat_lt p end) refl (fitted_again end ss ks)
    where
      kept : Bool → Option ℕ
      kept b = if b then Some p else None

      by : (b : Bool) → nat_lt p end ≡ b → fitted end ss (fitted end ss ks) ≡ fitted end ss ks → fitted end (s ∷ ss) (kept b ∷ fitted end ss ks) ≡ kept b ∷ fitted end ss ks
      by true e rest = ap (λ b. kept b ∷ fitted end ss (fitted end ss ks)) e ∙ ap (λ l. Some p ∷ l) rest
      by false e rest = ap (λ l. None ∷ l) rest

  pub mark_again : (m : Mark) → IsAgain (mark_row prims q.sort m)
  mark_again m = ap (λ (ks : List (Option ℕ)). record { object = m.object; link = 0; keys = ks }) (fitted_again (length prims) q.sort m.keys)

  pub row_again : (o : ℕ) → o < length prims → IsAgain (row_of prims q.sort 0 o)
  row_again o inside = mark_of prims q o inside
