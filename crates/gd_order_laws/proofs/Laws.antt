-- The laws, proved.
use Rattle.std.proofs.Common.{◌≡◌, ◌≢◌, ◌↔◌, inl, inr, List, [], ◌∷◌, Bool, true, false, Option, None, Some, map, refl, sym, ap, subst, ◌∙◌, Ordering}
use Rattle.std.specs.Ordering.{nat_cmp, ordering_reverse}
use Rattle.std.specs.declared.cmp.Ordering.TheVariants.{Less, Equal, Greater}
use Rattle.std.proofs.lemmas.Cmp.{tied_itself}
use Rattle.gd_base.specs.declared.datum.Datum.{Datum}
use Rattle.gd_base.specs.Order.{datum_cmp}
use Rattle.gd_prim.specs.declared.Primitive.{Primitive}
use Rattle.gd_defs.specs.Asked.{Asked}
use Rattle.gd_defs.specs.Rows.{Row, key_cmp, row_cmp, rows, row_of}
use Rattle.gd_order_laws.specs.Window.{In, Apart, Rising}
use Rattle.gd_order_laws.specs.Laws.{DataAreOrdered, KeysAreOrdered, RowsAreOrdered, IsRowOf, RowsStandOnce, OfferedInAnyOrder, WindowKeeps, MarksGiveRows, RowsFollowMarks, PagesJoin}
use Rattle.gd_base.proofs.Order.{datum_total, datum_eq_decides, same_datum, same_nat}
use Rattle.gd_order_laws.proofs.Keys.{key_total, keys_total, row_total, same_object}
use Rattle.gd_order_laws.proofs.Pages.{after_row, pages_joined}
use Rattle.gd_order_laws.proofs.Marks.{mark_again}
use Rattle.gd_order_laws.proofs.Permuted.{offered_permuted}
use Rattle.gd_order_laws.proofs.Rows.{In-map, rows_rise, row_known, row_there}
use Rattle.gd_order_laws.proofs.Orders.{not_itself}
use Rattle.gd_order_laws.proofs.Sorted.{Each-from_members, Each-member, kept_row_by_row}

-- keys that tie are the same, in each direction
pub key_ties : (descending : Bool) (a b : Option Datum) → (key_cmp descending a b ≡ Equal) ↔ (a ≡ b)
key_ties descending a b = (same descending a b, λ is. subst (λ c. key_cmp descending a c ≡ Equal) is (tied_itself (key_total descending) a))
  where
    unturned : (o : Ordering) → ordering_reverse o ≡ Equal → o ≡ Equal
    unturned Less is = cc
    unturned Equal is = refl
    unturned Greater is = cc

    same : (descending : Bool) (a b : Option Datum) → key_cmp descending a b ≡ Equal → a ≡ b
    same d None None is = refl
    same d None (Some y) is = cc
    same d (Some x) None is = cc
    same false (Some x) (Some y) is = ap Some (same_datum x y is)
    same true (Some x) (Some y) is = ap Some (same_datum x y (unturned (datum_cmp x y) is))

-- no object has two rows
pub objects_once : (prims : List Primitive) (q : Asked) → Apart nat_cmp (map (λ r. r.object) (rows prims q))
objects_once prims q = each (rows prims q) (rows_rise prims q) (λ r there. there)
  where
    of_object : (r s : Row) → In r (rows prims q) → In s (rows prims q) → r.object ≡ s.object → r ≡ s
    of_object r s here there same =
        let one = row_known prims q r here in
        let two = row_known prims q s there in
        let object : one.0 ≡ two.0 = ap (λ t. t.object) one.3 ∙ (same ∙ ap (λ t. t.object) (sym two.3)) in
        sym one.3 ∙ (ap (row_of prims q.sort 0) object ∙ two.3)

    less_other : (r s : Row) → row_cmp prims q.sort r s ≡ Less → In r (rows prims q) → In s (rows prims q) → nat_cmp r.object s.object ≢ Equal
    less_other r s less here there tie =
        not_itself (row_cmp prims q.sort) (row_total prims q.sort) r (ap (row_cmp prims q.sort r) (of_object r s here there (same_nat r.object s.object tie)) ∙ less)

    each : (rs : List Row) → Rising (row_cmp prims q.sort) rs → ((r : Row) → In r rs → In r (rows prims q)) → Apart nat_cmp (map (λ r. r.object) rs)
    each [] rising there = tt
    each (r ∷ rs) rising there = (
      Each-from_members (λ p. nat_cmp r.object p ≢ Equal) (map (λ s. s.object) rs)
          (λ p found. let from = In-map (λ (s : Row). s.object) rs p found in
          subst (λ n. nat_cmp r.object n ≢ Equal) from.2 (less_other r from.0 (Each-member (λ s. row_cmp prims q.sort r s ≡ Less) rs rising.0 from.0 from.1) (there r (inl refl)) (there from.0 (inr from.1)))),
      each rs rising.1 (λ s found. there s (inr found)),
    )

-- ---- the laws

pub data_are_ordered : DataAreOrdered
data_are_ordered = record { total = datum_total; decides = datum_eq_decides }

pub keys_are_ordered : KeysAreOrdered
keys_are_ordered prims sort = keys_total prims sort

pub rows_are_ordered : RowsAreOrdered
rows_are_ordered prims sort = record { total = row_total prims sort; ties = same_object prims sort }

pub rows_stand_once : RowsStandOnce
rows_stand_once prims q = record { rising = rows_rise prims q; once = objects_once prims q; all = λ o stands met. row_there prims q o stands met; known = known }
  where
    known : (r : Row) → In r (rows prims q) → IsRowOf prims q r
    known r here = let from = row_known prims q r here in record { object = from.0; stands = from.1; meeting = from.2; is = from.3 }

pub offered_in_any_order : OfferedInAnyOrder
offered_in_any_order prims sort xs ys permuted left right = offered_permuted (row_cmp prims sort) (row_total prims sort) xs ys permuted left right

pub window_keeps : WindowKeeps
window_keeps prims sort n done more = kept_row_by_row (row_cmp prims sort) n done more

pub marks_give_rows : MarksGiveRows
marks_give_rows prims q r here = mark_again prims q r here

pub rows_follow_marks : RowsFollowMarks
rows_follow_marks prims q done r rest is = after_row prims q done r rest is

pub pages_join : PagesJoin
pages_join prims q n few = pages_joined prims q n few
