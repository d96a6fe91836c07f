-- The places of a list that does not fall, each once.
use Rattle.std.proofs.Common.{◌≡◌, ◌∙◌, ◌+◌, ◌-◌, ◌<◌, ◌≤◌, ℕ, suc, true, List, [], ◌∷◌, length, drop, get_or, sym, ap, arith, ⊎_elim, add-one, drop-cons}
use Rattle.std.specs.Prelude.{◌||◌, ◌&&◌, nat_lt, slice_index}
use Rattle.std.specs.List.Sorted.{IsNonDecreasing}
use Rattle.std.proofs.lemmas.Bool.{cases_lt, le-ltb, ne_eqb}
use Rattle.std.proofs.Math.Bool.{and-false}
use Rattle.gd_postings.specs.Postings.{ids_below}
use Rattle.gd_iter_core.specs.Owed.{has_id}
use Rattle.gd_iter_core.specs.Rising.{has-filter}
use Rattle.gd_leaf.specs.Sorted.{SortedFrom}

pub sorted_from : (f : ℕ) (xs : List ℕ) → (0 < length xs → f ≤ get_or xs 0 0) → IsNonDecreasing xs → SortedFrom f xs
sorted_from f [] low rises = tt
sorted_from f (x ∷ xs) low rises = (
  low (omega arith),
  sorted_from x xs (λ there. rises 0 1 0 (omega arith) (omega (arith, there))) (λ i j d up there. rises (suc i) (suc j) d (omega (arith, up)) (omega (arith, there))),
)

-- what is left of a list begins with the place at hand
pub rest_is : (xs : List ℕ) (k x : ℕ) → k < length xs → x ≡ get_or xs k 0 → drop k xs ≡ x ∷ drop (k + 1) xs
rest_is xs k x there is = rw (add-one, is) (drop-cons xs k 0 there)

-- what is left, and what was taken so far
pub record Taken (ids left all : List ℕ) (next : ℕ) : Type 0 where
  pub members : (id : ℕ) → id < 2_097_151 → (has_id ids id || has_id left id) ≡ has_id all id
  pub above : (i : ℕ) → i < length ids → slice_index ids i < next
  pub last : (0 < next) → has_id ids (next - 1) ≡ true
  pub sorted : SortedFrom (next - 1) left

sorted_weaker : (f g : ℕ) (xs : List ℕ) → f ≤ g → SortedFrom g xs → SortedFrom f xs
sorted_weaker f g [] h s = tt
sorted_weaker f g (x ∷ xs) h s = let low = s.0 in (omega (arith, h, low), s.1)

-- no store has it
pub beyond : (ids left rest all : List ℕ) (x next : ℕ) → left ≡ x ∷ rest → 2_097_151 ≤ x → Taken ids left all next → Taken ids rest all next
beyond ids left rest all x next is high t =
    let parts : SortedFrom (next - 1) (x ∷ rest) = rw is at t.sorted in
    record {
      members = λ id small. ap (λ b. has_id ids id || (b || has_id rest id)) (sym (ne_eqb x id (λ e. omega (arith, e, high, small))))
          ∙ (ap (λ l. has_id ids id || has_id l id) (sym is) ∙ t.members id small);
      above = t.above;
      last = t.last;
      sorted = sorted_weaker (next - 1) x rest parts.0 parts.1;
    }

-- of a list with the same places, those below an end
pub below_has : (list ids : List ℕ) (n id : ℕ) → ((id : ℕ) → id < 2_097_151 → has_id list id ≡ has_id ids id) → n ≤ 2_097_151
    → has_id (ids_below n list) id ≡ (has_id ids id && nat_lt id n)
below_has list ids n id same few = has-filter (λ x. nat_lt x n) list id ∙ ⊎_elim
    (λ (less : id < n). ap (λ b. b && nat_lt id n) (same id (omega (arith, less, few))))
    (λ (past : n ≤ id). rw (le-ltb id n past) (and-false (has_id list id) ∙ sym (and-false (has_id ids id))))
    (cases_lt id n)
