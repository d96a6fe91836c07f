-- An entry goes behind those of a map: of one in order where its key is above theirs, of one in the order of insertion where it is another than theirs.
use Rattle.std.proofs.Common.{◌≡◌, List, [], ◌∷◌, ◌++◌, ap, ◌∙◌, refl, Ordering, Less, Greater, Bool, false}
use Rattle.std.specs.BTreeMap.{insert_entry as put_in_order}
use Rattle.std.specs.Cmp.{IsTotalOrder}
use Rattle.std.specs.List.{AllByRecursion, IsDistinct}
use Rattle.std.specs.List.Sorted.{IsStrictlySortedBy}
use Rattle.std.specs.Map.{keys_of}
use Rattle.std.specs.Ordering.{ordering_reverse}
use Rattle.indexmap.specs.IndexMap.{insert_entry}

module _ {K X : Type 0} {R : K → K → Ordering} (o : IsTotalOrder R) where
  less_than_middle : (first : K) (es : List (K × X)) (k : K) (v : X) (more : List (K × X)) → AllByRecursion (λ y. R first y ≡ Less) (keys_of (es ++ (k, v) ∷ more)) → R first k ≡ Less
  less_than_middle first [] k v more h = h.0
  less_than_middle first (e ∷ es) k v more h = less_than_middle first es k v more h.1

  pub put_last : (done : List (K × X)) (k : K) (v : X) (more : List (K × X)) → IsStrictlySortedBy R (keys_of (done ++ (k, v) ∷ more)) → put_in_order R done k v ≡ done ++ (k, v) ∷ []
  unfolding IsStrictlySortedBy
  put_last [] k v more h = refl
  put_last (e ∷ done) k v more h =
      let above : R k e.0 ≡ Greater = o.antisymm k e.0 ∙ ap ordering_reverse (less_than_middle e.0 done k v more h.0) in
      rw above (ap (λ es. e ∷ es) (put_last done k v more h.1))

module _ {K X : Type 0} {same : K → K → Bool} (symmetric : (a b : K) → same a b ≡ same b a) where
  other_than_middle : (first : K) (es : List (K × X)) (k : K) (v : X) (more : List (K × X)) → AllByRecursion (λ y. same first y ≡ false) (keys_of (es ++ (k, v) ∷ more)) → same first k ≡ false
  other_than_middle first [] k v more h = h.0
  other_than_middle first (e ∷ es) k v more h = other_than_middle first es k v more h.1

  pub put_new : (done : List (K × X)) (k : K) (v : X) (more : List (K × X)) → IsDistinct same (keys_of (done ++ (k, v) ∷ more)) → insert_entry same done k v ≡ done ++ (k, v) ∷ []
  unfolding IsDistinct
  put_new [] k v more h = refl
  put_new (e ∷ done) k v more h =
      let other : same k e.0 ≡ false = symmetric k e.0 ∙ other_than_middle e.0 done k v more h.0 in
      rw other (ap (λ es. e ∷ es) (put_new done k v more h.1))
