-- The rows of a page are those of places of the list, of each one at most.
use Rattle.std.proofs.Common.{◌≡◌, ◌≢◌, inl, inr, ℕ, zero, suc, ◌<◌, List, [], ◌∷◌, Option, None, Some, length, take, map, filter, refl, ap, sym, subst, ◌∙◌, Ordering}
use Rattle.std.specs.Ordering.{nat_cmp, is_lt}
use Rattle.std.specs.declared.cmp.Ordering.TheVariants.{Less, Equal}
use Rattle.gd_base.proofs.Order.{same_nat}
use Rattle.gd_prim.specs.declared.Primitive.{Primitive}
use Rattle.gd_defs.specs.Asked.{Asked}
use Rattle.gd_defs.specs.Reply.{Mark, mark_row}
use Rattle.gd_defs.specs.Rows.{row_of, row_cmp}
use Rattle.gd_defs.specs.Rows as defs
use Rattle.gd_runs.specs.Thawed.{window}
use Rattle.gd_order_laws.specs.Window.{In, Each, Apart, Rising}
use Rattle.gd_order_laws.proofs.Keys.{row_total}
use Rattle.gd_order_laws.proofs.Orders.{not_itself}
use Rattle.gd_order_laws.proofs.Rows.{In-map, apart_rows}
use Rattle.gd_order_laws.proofs.Sorted.{Each-from_members, Each-member, Apart-filter, Rising-sorted}
use Rattle.gd_match_laws.proofs.PassedOn.{In-take}
use Rattle.gd_window.specs.Kept.{Kept}
use Rattle.gd_suspended_laws.specs.Standing.{rows_of, page_rows, page_objects}
use Rattle.gd_suspended_laws.proofs.Windows.{best_of, best_known}

-- ---- rows that rise

module _ {A : Type 0} where
  Each-take : (P : A → Type 0) (n : ℕ) (xs : List A) → Each P xs → Each P (take n xs)
  Each-take P zero xs all = tt
  Each-take P (suc n) [] all = tt
  Each-take P (suc n) (x ∷ xs) all = (all.0, Each-take P n xs all.1)

  Rising-take : (cmp : A → A → Ordering) (n : ℕ) (xs : List A) → Rising cmp xs → Rising cmp (take n xs)
  Rising-take cmp zero xs rises = tt
  Rising-take cmp (suc n) [] rises = tt
  Rising-take cmp (suc n) (x ∷ xs) rises = (Each-take (λ y. cmp x y ≡ Less) n xs rises.0, Rising-take cmp n xs rises.1)

module _ (prims : List Primitive) (q : Asked) where
  -- rows of objects that rise: none has two
  objects_once : (rows : List defs.Row) → Rising (row_cmp prims q.sort) rows → ((r : defs.Row) → In r rows → (o : ℕ) × (row_of prims q.sort 0 o ≡ r)) → Apart nat_cmp (map (λ (r : defs.Row). r.object) rows)
  objects_once [] rises known = tt
  objects_once (r ∷ rows) rises known = (
    Each-from_members (λ p. nat_cmp r.object p ≢ Equal) (map (λ (s : defs.Row). s.object) rows) other,
    objects_once rows rises.1 (λ s there. known s (inr there)),
  )
    where
      same : (s : defs.Row) → In s (r ∷ rows) → r.object ≡ s.object → r ≡ s
      same s there object =
          let one = known r (inl refl) in
          let two = known s there in
          let places : one.0 ≡ two.0 = ap (λ (t : defs.Row). t.object) one.1 ∙ (object ∙ ap (λ (t : defs.Row). t.object) (sym two.1)) in
          sym one.1 ∙ (ap (row_of prims q.sort 0) places ∙ two.1)

      other : (p : ℕ) → In p (map (λ (s : defs.Row). s.object) rows) → nat_cmp r.object p ≢ Equal
      other p there tie =
          let from = In-map (λ (s : defs.Row). s.object) rows p there in
          not_itself (row_cmp prims q.sort) (row_total prims q.sort) r
          (ap (row_cmp prims q.sort r) (same from.0 (inr from.1) (same_nat r.object p tie ∙ sym from.2)) ∙ Each-member (λ s. row_cmp prims q.sort r s ≡ Less) rows rises.0 from.0 from.1)

  -- a window puts the rows of objects in order
  window_rises : (after : Option Mark) (os : List ℕ) → Apart nat_cmp os → Rising (row_cmp prims q.sort) (window prims q after (map (row_of prims q.sort 0) os))
  window_rises None os once = Rising-sorted (row_cmp prims q.sort) (row_total prims q.sort) (map (row_of prims q.sort 0) os) (apart_rows prims q os once)
  window_rises (Some m) os once =
      Rising-sorted (row_cmp prims q.sort) (row_total prims q.sort) (filter (λ r. is_lt (row_cmp prims q.sort (mark_row prims q.sort m) r)) (map (row_of prims q.sort 0) os))
      (Apart-filter (row_cmp prims q.sort) (row_total prims q.sort) (λ r. is_lt (row_cmp prims q.sort (mark_row prims q.sort m) r)) (map (row_of prims q.sort 0) os) (apart_rows prims q os once))

-- ---- the page of a window that keeps the best rows of objects

module _ (prims : List Primitive) (q : Asked) (after : Option Mark) (w : Kept) (os : List ℕ) (kept : rows_of w ≡ best_of prims q after os) where
  page_known : (r : defs.Row) → In r (page_rows w) → (o : ℕ) × In o os × (row_of prims q.sort 0 o ≡ r)
  page_known r here = best_known prims q after os r (subst (In r) kept (In-take w.limit (rows_of w) r here))

  -- LAW: no object has two rows of the page
  pub page_once : Apart nat_cmp os → Apart nat_cmp (page_objects w)
  page_once once =
      objects_once prims q (page_rows w)
      (Rising-take (row_cmp prims q.sort) w.limit (rows_of w)
      (subst (Rising (row_cmp prims q.sort)) (sym kept) (Rising-take (row_cmp prims q.sort) (suc q.limit) (window prims q after (map (row_of prims q.sort 0) os)) (window_rises prims q after os once))))
      (λ r here. let from = page_known r here in (from.0, from.2))

  -- LAW: each row of the page is that of a place of the list
  pub page_placed : ((o : ℕ) → In o os → o < length prims) → Each (λ o. o < length prims) (page_objects w)
  page_placed placed =
      Each-from_members (λ o. o < length prims) (page_objects w)
      (λ p here.
      let row = In-map (λ (r : defs.Row). r.object) (page_rows w) p here in
      let from = page_known row.0 row.1 in
      subst (λ o. o < length prims) (ap (λ (t : defs.Row). t.object) from.2 ∙ row.2) (placed from.0 from.1))
