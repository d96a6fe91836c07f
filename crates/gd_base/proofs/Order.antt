-- Laws of the order of data: it is total, it tells apart all that differs, and the derived comparisons are it.
use Rattle.std.proofs.Common.{rules, ◌≡◌, ◌↔◌, ℕ, ◌<◌, List, [], ◌∷◌, Bool, true, false, ℤ, pos, ◌<ℤ◌, refl, sym, ap, subst, arith, Ordering, Decides}
use Rattle.std.specs.Cmp.{IsTotalOrder, bool_cmp_total, both_ways, Equal-is}
use Rattle.std.specs.Cmp.Lexicographic.{slice_cmp}
use Rattle.std.specs.Ordering.{nat_cmp, int_cmp, bool_cmp, ordering_then, on, then_cmp, MatchOrdering}
use Rattle.std.specs.declared.cmp.Ordering.TheVariants.{Less, Equal, Greater}
use Rattle.std.proofs.lemmas.Cmp.{nat_cmp_total, int_cmp_total, nat_list_cmp_total, on_total, then_total, tied_itself, ranked, int_ranked}
use Rattle.gd_base.specs.declared.datum.Precision.{Precision}
use Rattle.gd_base.specs.declared.datum.Precision.TheVariants.{Year, Month, Day, Time}
use Rattle.gd_base.specs.declared.datum.Datum.{Datum}
use Rattle.gd_base.specs.declared.datum.Datum.TheVariants as datum
use Rattle.gd_base.specs.contracts.datum.DatumPartialEq.TheImpl as equality
use Rattle.gd_base.specs.contracts.datum.DatumOrd.TheImpl as order
use Rattle.gd_base.specs.Order.{variant, precision_index, datum_cmp, datum_eq}

-- ---- a datum by its parts, each with an order that is known to be total

abbrev truth : Datum → Bool
truth (datum.Bool b) = b
truth _ = false

abbrev int : Datum → ℤ
int (datum.Int n) = n
int (datum.Moment ms p) = ms
int _ = pos 0

abbrev number : Datum → ℕ
number (datum.Moment ms p) = precision_index p
number (datum.Object o) = o
number _ = 0

abbrev bytes : Datum → List ℕ
bytes (datum.Text t) = t
bytes _ = []

abbrev parts_cmp : Datum → Datum → Ordering
parts_cmp = then_cmp (on variant nat_cmp) (then_cmp (on truth bool_cmp) (then_cmp (on int int_cmp) (then_cmp (on number nat_cmp) (on bytes (slice_cmp nat_cmp)))))

parts_total : IsTotalOrder parts_cmp
parts_total = then_total (on_total variant nat_cmp_total) (then_total (on_total truth bool_cmp_total) (then_total (on_total int int_cmp_total) (then_total (on_total number nat_cmp_total) (on_total bytes nat_list_cmp_total))))

behind_equal : (o : Ordering) → ordering_then o Equal ≡ o
behind_equal Less = refl
behind_equal Equal = refl
behind_equal Greater = refl

is_parts : (a b : Datum) → datum_cmp a b ≡ parts_cmp a b
is_parts (datum.Bool a) (datum.Bool b) = sym (behind_equal (bool_cmp a b))
is_parts (datum.Int m) (datum.Int n) = sym (behind_equal (int_cmp m n))
is_parts (datum.Moment m p) (datum.Moment n q) = ap (ordering_then (int_cmp m n)) (sym (behind_equal (nat_cmp (precision_index p) (precision_index q))))
is_parts (datum.Text s) (datum.Text t) = refl
is_parts (datum.Object m) (datum.Object n) = sym (behind_equal (nat_cmp m n))
is_parts datum.Empty datum.Empty = refl
is_parts _ _ = refl

-- the order of data is total
pub datum_total : IsTotalOrder datum_cmp
datum_total = subst IsTotalOrder (λ i a b. sym (is_parts a b) i) parts_total

-- ---- what ties is the same

pub both_equal : (o p : Ordering) → ordering_then o p ≡ Equal → (o ≡ Equal) × (p ≡ Equal)
both_equal Less p is = cc
both_equal Equal p is = (refl, is)
both_equal Greater p is = cc

pub same_nat : (m n : ℕ) → nat_cmp m n ≡ Equal → m ≡ n
same_nat m n is = subst (λ o. MatchOrdering o (m < n) (m ≡ n) (n < m)) is (ranked m n (nat_cmp m n) refl)

same_int : (m n : ℤ) → int_cmp m n ≡ Equal → m ≡ n
same_int m n is = subst (λ o. MatchOrdering o (m <ℤ n) (m ≡ n) (n <ℤ m)) is (int_ranked m n (int_cmp m n) refl)

same_bool : (a b : Bool) → bool_cmp a b ≡ Equal → a ≡ b
same_bool false false is = refl
same_bool false true is = cc
same_bool true false is = cc
same_bool true true is = refl

same_bytes : (xs ys : List ℕ) → slice_cmp nat_cmp xs ys ≡ Equal → xs ≡ ys
same_bytes [] [] is = refl
same_bytes [] (y ∷ ys) is = cc
same_bytes (x ∷ xs) [] is = cc
same_bytes (x ∷ xs) (y ∷ ys) is =
    let two = both_equal (nat_cmp x y) (slice_cmp nat_cmp xs ys) is in
    let first : x ≡ y = same_nat x y two.0 in
    let rest : xs ≡ ys = same_bytes xs ys two.1 in
    cc (first, rest)

same_precision : (p q : Precision) → precision_index p ≡ precision_index q → p ≡ q
same_precision Year Year is = refl
same_precision Month Month is = refl
same_precision Day Day is = refl
same_precision Time Time is = refl
same_precision Year Month is = absurd (omega (arith, is))
same_precision Year Day is = absurd (omega (arith, is))
same_precision Year Time is = absurd (omega (arith, is))
same_precision Month Year is = absurd (omega (arith, is))
same_precision Month Day is = absurd (omega (arith, is))
same_precision Month Time is = absurd (omega (arith, is))
same_precision Day Year is = absurd (omega (arith, is))
same_precision Day Month is = absurd (omega (arith, is))
same_precision Day Time is = absurd (omega (arith, is))
same_precision Time Year is = absurd (omega (arith, is))
same_precision Time Month is = absurd (omega (arith, is))
same_precision Time Day is = absurd (omega (arith, is))

-- data that tie are equal
pub same_datum : (a b : Datum) → datum_cmp a b ≡ Equal → a ≡ b
same_datum (datum.Bool a) (datum.Bool b) is = ap datum.Bool (same_bool a b is)
same_datum (datum.Int m) (datum.Int n) is = ap datum.Int (same_int m n is)
same_datum (datum.Moment m p) (datum.Moment n q) is =
    let two = both_equal (int_cmp m n) (nat_cmp (precision_index p) (precision_index q)) is in
    let number : m ≡ n = same_int m n two.0 in
    let kind : p ≡ q = same_precision p q (same_nat (precision_index p) (precision_index q) two.1) in
    cc (number, kind)
same_datum (datum.Text s) (datum.Text t) is = ap datum.Text (same_bytes s t is)
same_datum (datum.Object m) (datum.Object n) is = ap datum.Object (same_nat m n is)
same_datum datum.Empty datum.Empty is = refl
same_datum _ _ is = cc

-- and only they tie
pub datum_cmp_itself : (a : Datum) → datum_cmp a a ≡ Equal
datum_cmp_itself a = tied_itself datum_total a

pub Equal_exactly : (a b : Datum) → (datum_cmp a b ≡ Equal) ↔ (a ≡ b)
Equal_exactly a b = (same_datum a b, λ same. subst (λ c. datum_cmp a c ≡ Equal) same (datum_cmp_itself a))

-- `datum_eq` is equality
pub datum_eq_decides : (a b : Datum) → Decides (datum_eq a b) (a ≡ b)
datum_eq_decides a b = (λ is. same_datum a b ((Equal-is (datum_cmp a b)).0 is), λ same. (Equal-is (datum_cmp a b)).1 ((Equal_exactly a b).1 same))

-- ---- the derived comparisons

cmp_at : (a b : Datum) → (order.ghosts).cmp a b ≡ datum_cmp a b
cmp_at a b = search rules

-- the derived order is the order of data
pub cmp_is : (order.ghosts).cmp ≡ datum_cmp
cmp_is = λ i a b. cmp_at a b i

eq_same : (a b : Datum) → (equality.ghosts).eq a b ≡ true → a ≡ b
eq_same a b is = search rules

eq_itself : (a : Datum) → (equality.ghosts).eq a a ≡ true
eq_itself a = search rules

eq_at : (a b : Datum) → (equality.ghosts).eq a b ≡ datum_eq a b
eq_at a b = both_ways ((equality.ghosts).eq a b) (datum_eq a b) (λ is. (datum_eq_decides a b).1 (eq_same a b is))
    (λ is. subst (λ c. (equality.ghosts).eq a c ≡ true) ((datum_eq_decides a b).0 is) (eq_itself a))

-- the derived `==` is the equality of data
pub eq_is : (equality.ghosts).eq ≡ datum_eq
eq_is = λ i a b. eq_at a b i
