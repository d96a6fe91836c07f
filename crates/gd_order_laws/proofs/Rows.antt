-- The rows of a query: each of an object, in rising order.
use Rattle.std.proofs.Common.{◌≡◌, ◌≢◌, inl, inr, ⊎_elim, ℕ, List, [], ◌∷◌, ◌++◌, Bool, true, map, filter, refl, ap, subst, ◌∙◌, Ordering}
use Rattle.std.specs.Ordering.{nat_cmp, is_lt}
use Rattle.std.specs.declared.cmp.Ordering.TheVariants.{Less, Equal}
use Rattle.std.specs.Prelude.{is_none}
use Rattle.std.proofs.lemmas.Cmp.{nat_cmp_total}
use Rattle.gd_prim.specs.declared.Primitive.{Primitive}
use Rattle.gd_prim.specs.Live.{objects}
use Rattle.gd_defs.specs.Asked.{Asked}
use Rattle.gd_defs.specs.Rows.{Row, row_of, keys_cmp, row_cmp, rows, meets}
use Rattle.gd_order_laws.specs.Window.{In, Each, Apart, Rising}
use Rattle.gd_base.proofs.Order.{both_equal}
use Rattle.gd_order_laws.proofs.Keys.{row_total}
use Rattle.gd_order_laws.proofs.Places.{live_rise}
use Rattle.gd_order_laws.proofs.Sorted.{Each-weaker, In-filter, In-filtered, In-sorted, In-sorted_from, Apart-filter, Rising-sorted, rest_behind}

module _ {A : Type 0} where
  pub In-map : {B : Type 0} (f : A → B) (xs : List A) (y : B) → In y (map f xs) → (x : A) × In x xs × (f x ≡ y)
  In-map f [] y here = absurd here
  In-map f (x ∷ xs) y (inl same) = (x, inl refl, same)
  In-map f (x ∷ xs) y (inr there) = let rest = In-map f xs y there in (rest.0, inr rest.1, rest.2)

-- ---- the rows of a query

-- the objects that meet the root
abbrev pub meeting : List Primitive → Asked → List ℕ
meeting prims q = filter (meets prims q.members 0) (objects prims)

abbrev pub of_objects : List Primitive → Asked → List ℕ → List Row
of_objects prims q os = map (row_of prims q.sort 0) os

-- rows of distinct objects do not tie
pub apart_rows : (prims : List Primitive) (q : Asked) (os : List ℕ) → Apart nat_cmp os → Apart (row_cmp prims q.sort) (of_objects prims q os)
apart_rows prims q [] apart = tt
apart_rows prims q (o ∷ os) apart = (others os apart.0, apart_rows prims q os apart.1)
  where
    others : (ps : List ℕ) → Each (λ p. nat_cmp o p ≢ Equal) ps → Each (λ r. row_cmp prims q.sort (row_of prims q.sort 0 o) r ≢ Equal) (of_objects prims q ps)
    others [] all = tt
    others (p ∷ ps) all = (λ is. all.0 (both_equal (keys_cmp prims q.sort (row_of prims q.sort 0 o).keys (row_of prims q.sort 0 p).keys) (nat_cmp o p) is).1, others ps all.1)

pub Apart-rising : {A : Type 0} (cmp : A → A → Ordering) (xs : List A) → Rising cmp xs → Apart cmp xs
Apart-rising cmp [] rising = tt
Apart-rising cmp (x ∷ xs) rising = (Each-weaker (λ y. cmp x y ≡ Less) (λ y. cmp x y ≢ Equal) (λ y less same. cc) xs rising.0, Apart-rising cmp xs rising.1)

pub apart_objects : (prims : List Primitive) (p : ℕ → Bool) → Apart nat_cmp (filter p (objects prims))
apart_objects prims p = Apart-filter nat_cmp nat_cmp_total p (objects prims) (Apart-rising nat_cmp (objects prims) (live_rise (λ k. is_none k.typ) prims))

apart_meeting : (prims : List Primitive) (q : Asked) → Apart (row_cmp prims q.sort) (of_objects prims q (meeting prims q))
apart_meeting prims q = apart_rows prims q (meeting prims q) (apart_objects prims (meets prims q.members 0))

-- each is the row of an object that meets the root, and there is one for each
pub row_known : (prims : List Primitive) (q : Asked) (r : Row) → In r (rows prims q) → (o : ℕ) × In o (objects prims) × (meets prims q.members 0 o ≡ true) × (row_of prims q.sort 0 o ≡ r)
row_known prims q r here =
    let offered : In r (of_objects prims q (meeting prims q)) = ⊎_elim (λ none. absurd none) (λ there. there) (In-sorted (row_cmp prims q.sort) [] (of_objects prims q (meeting prims q)) r here) in
    let from = In-map (row_of prims q.sort 0) (meeting prims q) r offered in
    let passed = In-filter (meets prims q.members 0) (objects prims) from.0 from.1 in
    (from.0, passed.0, passed.1, from.2)

pub In-mapped : {A B : Type 0} (f : A → B) (xs : List A) (x : A) → In x xs → In (f x) (map f xs)
In-mapped f [] x here = absurd here
In-mapped f (y ∷ xs) x (inl same) = inl (ap f same)
In-mapped f (y ∷ xs) x (inr there) = inr (In-mapped f xs x there)

pub row_there : (prims : List Primitive) (q : Asked) (o : ℕ) → In o (objects prims) → meets prims q.members 0 o ≡ true → In (row_of prims q.sort 0 o) (rows prims q)
row_there prims q o stands meet =
    In-sorted_from (row_cmp prims q.sort) [] (of_objects prims q (meeting prims q)) (row_of prims q.sort 0 o)
    (inr (In-mapped (row_of prims q.sort 0) (meeting prims q) o (In-filtered (meets prims q.members 0) (objects prims) o stands meet)))

-- they rise
pub rows_rise : (prims : List Primitive) (q : Asked) → Rising (row_cmp prims q.sort) (rows prims q)
rows_rise prims q = Rising-sorted (row_cmp prims q.sort) (row_total prims q.sort) (of_objects prims q (meeting prims q)) (apart_meeting prims q)

-- the rows after one of them are the rest behind it
pub rows_behind : (prims : List Primitive) (q : Asked) (done : List Row) (r : Row) (rest : List Row) → rows prims q ≡ done ++ r ∷ rest → filter (λ s. is_lt (row_cmp prims q.sort r s)) (rows prims q) ≡ rest
rows_behind prims q done r rest is =
    ap (filter (λ s. is_lt (row_cmp prims q.sort r s))) is
    ∙ rest_behind (row_cmp prims q.sort) (row_total prims q.sort) done r rest (subst (Rising (row_cmp prims q.sort)) is (rows_rise prims q))
