-- Batches that are absorbed up to the first that may not follow.
use Rattle.std.proofs.Common.{◌≡◌, ◌∙◌, refl, ℕ, zero, suc, ◌+◌, ◌<◌, ◌≤◌, Bool, true, false, ◌&&◌, List, [], ◌∷◌, ◌++◌, length, take, flat_map, Some, slice_get, get_or, sym, ap, arith, append_assoc, length-append, length-take}
use Rattle.std.proofs.lemmas.List.{append-nil, take_all}
use Rattle.std.proofs.lemmas.Grind.{flat_map-append}
use Rattle.gd_prim.specs.declared.Primitive.{Primitive}
use Rattle.gd_prim.specs.declared.Batch.{Batch}
use Rattle.gd_prim.specs.Builtin.{builtin}
use Rattle.gd_prim.specs.History.{prims_of}
use Rattle.gd_prim.specs.WellFormed.{may_follow, all_follow}
use Rattle.gd_log.specs.Stored.{IsFirstUnfit}
use Rattle.gd_log.specs.Writable.{follow_parts}
use Rattle.gd_log.proofs.Replays.{take_item}

-- one batch more that may follow
follow_behind : (prims : List Primitive) (requests : ℕ) (xs : List Batch) (b : Batch) → all_follow prims requests xs ≡ true → may_follow (prims ++ flat_map (λ c. c.prims) xs) (requests + length xs) b ≡ true → all_follow prims requests (xs ++ b ∷ []) ≡ true
follow_behind prims requests [] b all may =
    let none : requests + 0 ≡ requests = omega arith in
    let here : may_follow prims requests b ≡ true = sym (λ i. may_follow (append-nil prims i) (none i) b) ∙ may in
    ap (λ (t : Bool). t && true) here
follow_behind prims requests (x ∷ xs) b all may =
    let (first, rest) = follow_parts prims requests x xs all in
    let count : requests + suc (length xs) ≡ requests + 1 + length xs = omega arith in
    let there : may_follow ((prims ++ x.prims) ++ flat_map (λ c. c.prims) xs) (requests + 1 + length xs) b ≡ true = sym (λ i. may_follow (sym (append_assoc prims x.prims (flat_map (λ c. c.prims) xs)) i) (count i) b) ∙ may in
    ap (λ (t : Bool). t && all_follow (prims ++ x.prims) (requests + 1) (xs ++ b ∷ [])) first ∙ follow_behind (prims ++ x.prims) (requests + 1) xs b rest there

prims_joined : (xs ys : List Batch) → prims_of (xs ++ ys) ≡ prims_of xs ++ flat_map (λ c. c.prims) ys
unfolding prims_of
prims_joined xs ys = ap (λ l. builtin ++ l) (flat_map-append (λ c. c.prims) xs ys) ∙ sym (append_assoc builtin (flat_map (λ c. c.prims) xs) (flat_map (λ c. c.prims) ys))

-- the next item of a list may follow too
pub front_more : (start store xs : List Batch) (i : ℕ) (b : Batch) → i < length xs → b ≡ get_or xs i b → store ≡ start ++ take i xs → all_follow (prims_of start) (length start) (take i xs) ≡ true → may_follow (prims_of store) (length store) b ≡ true
    → all_follow (prims_of start) (length start) (take (i + 1) xs) ≡ true
front_more start store xs i b lt is store_is all may =
    let prims : prims_of store ≡ prims_of start ++ flat_map (λ c. c.prims) (take i xs) = ap prims_of store_is ∙ prims_joined start (take i xs) in
    let count : length store ≡ length start + length (take i xs) = ap length store_is ∙ length-append start (take i xs) in
    ap (all_follow (prims_of start) (length start)) (take_item xs i b lt is) ∙ follow_behind (prims_of start) (length start) (take i xs) b all (sym (λ k. may_follow (prims k) (count k) b) ∙ may)

pub none_there : (xs : List Batch) (n : ℕ) (b : Batch) → length xs ≤ n → slice_get xs n ≡ Some b → ⊥
none_there [] n b few is = cc
none_there (x ∷ xs) zero b few is = omega (arith, few)
none_there (x ∷ xs) (suc n) b few is = none_there xs n b (omega (arith, few)) is

some_there : (xs : List Batch) (n : ℕ) → n < length xs → (b : Batch) × (slice_get xs n ≡ Some b)
some_there [] n few = absurd (omega (arith, few))
some_there (x ∷ xs) zero few = (x, refl)
some_there (x ∷ xs) (suc n) few = some_there xs n (omega (arith, few))

-- the one behind the front is the first that may not follow
pub first_there : (start store xs : List Batch) (k : ℕ) → k < length xs → store ≡ start ++ take k xs → all_follow (prims_of start) (length start) (take k xs) ≡ true
    → ((b : Batch) → slice_get xs k ≡ Some b → may_follow (prims_of store) (length store) b ≡ false) → IsFirstUnfit start xs k
first_there start store xs k few is all next =
    let (b, here) = some_there xs k few in
    let count : length store ≡ length start + k = omega (arith, ap length is, length-append start (take k xs), length-take k xs, few) in
    record { batch = b; here = here; before = all; unfit = sym (λ i. may_follow (prims_of (is i)) (count i) b) ∙ next b here }

-- all of them may follow
pub all_there : (start xs : List Batch) (k : ℕ) → length xs ≤ k → all_follow (prims_of start) (length start) (take k xs) ≡ true → all_follow (prims_of start) (length start) xs ≡ true
all_there start xs k done all = ap (all_follow (prims_of start) (length start)) (sym (take_all k xs done)) ∙ all
