-- Lists of which the one begins the other, and batches of histories.
use Rattle.std.proofs.Common.{◌≡◌, refl, ℕ, zero, suc, ◌+◌, ◌≤◌, Bool, true, false, ◌&&◌, List, [], ◌∷◌, ◌++◌, length, take, drop, flat_map, Some, slice_get, sym, ◌∙◌, ap, subst, arith, append_assoc}
use Rattle.std.specs.List.{AllByRecursion}
use Rattle.std.proofs.lemmas.List.{append-nil}
use Rattle.gd_prim.specs.declared.Primitive.{Primitive}
use Rattle.gd_prim.specs.declared.Batch.{Batch}
use Rattle.gd_prim.specs.Builtin.{builtin}
use Rattle.gd_prim.specs.History.{prims_of, is_history}
use Rattle.gd_prim.specs.WellFormed.{may_follow, all_follow}

-- of two lists that begin one list the shorter begins the longer
pub longer : {A : Type 0} (a b c d : List A) → a ++ b ≡ c ++ d → length c ≤ length a → (t : List A) × (a ≡ c ++ t) × (d ≡ t ++ b)
longer a b [] d is few = (a, refl, sym is)
longer [] b (x ∷ c) d is few = absurd (omega (arith, few))
longer (y ∷ a) b (x ∷ c) d is few =
    let heads : y ≡ x = cc in
    let tails : a ++ b ≡ c ++ d = cc in
    let (t, a_is, d_is) = longer a b c d tails (omega (arith, few)) in
    (t, (λ i. heads i ∷ a_is i), d_is)

-- what stands in a front stands in the whole
pub get_front : {A : Type 0} (xs ys : List A) (k : ℕ) (x : A) → slice_get xs k ≡ Some x → slice_get (xs ++ ys) k ≡ Some x
get_front [] ys k x is = cc
get_front (y ∷ xs) ys zero x is = is
get_front (y ∷ xs) ys (suc k) x is = get_front xs ys k x is

-- what stands behind a front
pub get_behind : {A : Type 0} (xs ys : List A) (k n : ℕ) → n ≡ length xs + k → slice_get (xs ++ ys) n ≡ slice_get ys k
get_behind [] ys k n is = let same : n ≡ k = omega (arith, is) in ap (slice_get ys) same
get_behind (x ∷ xs) ys k zero is = absurd (omega (arith, is))
get_behind (x ∷ xs) ys k (suc n) is = get_behind xs ys k n (omega (arith, is))

-- what is left behind a front
pub drop_front : {A : Type 0} (xs ys : List A) (n : ℕ) → n ≡ length xs → drop n (xs ++ ys) ≡ ys
drop_front [] ys n is = ap (λ (k : ℕ). drop k ys) is
drop_front (x ∷ xs) ys zero is = absurd (omega (arith, is))
drop_front (x ∷ xs) ys (suc n) is = drop_front xs ys n (omega (arith, is))

-- a list up to what stands in it, and from there on
pub split_at : {A : Type 0} (xs : List A) (k : ℕ) (x : A) → slice_get xs k ≡ Some x → (ys : List A) × (xs ≡ take k xs ++ x ∷ ys) × (length (take k xs) ≡ k)
split_at [] k x is = cc
split_at (y ∷ xs) zero x is = (xs, (let same : y ≡ x = cc in ap (λ z. z ∷ xs) same), refl)
split_at (y ∷ xs) (suc k) x is = let (ys, xs_is, long) = split_at xs k x is in (ys, ap (λ l. y ∷ l) xs_is, ap suc long)

-- what holds of each holds of that of this number
pub each_there : {A : Type 0} (P : A → Type 0) (xs : List A) (k : ℕ) (x : A) → AllByRecursion P xs → slice_get xs k ≡ Some x → P x
each_there P [] k x each is = cc
each_there P (y ∷ xs) zero x each is = let same : y ≡ x = cc in subst P same each.0
each_there P (y ∷ xs) (suc k) x each is = each_there P xs k x each.1 is

-- what follows for each
pub each_so : {A : Type 0} (P Q : A → Type 0) (xs : List A) → ((x : A) → P x → Q x) → AllByRecursion P xs → AllByRecursion Q xs
each_so P Q [] so each = tt
each_so P Q (x ∷ xs) so each = (so x each.0, each_so P Q xs so each.1)

-- ---- histories

and_parts : (x y : Bool) → (x && y) ≡ true → (x ≡ true) × (y ≡ true)
and_parts true y is = (refl, is)
and_parts false y is = cc

-- in batches that follow one another each may follow those before it
pub follows_there : (prims : List Primitive) (requests : ℕ) (xs : List Batch) (b : Batch) (ys : List Batch) → all_follow prims requests (xs ++ b ∷ ys) ≡ true → may_follow (prims ++ flat_map (λ c. c.prims) xs) (requests + length xs) b ≡ true
follows_there prims requests [] b ys all =
    let none : requests + 0 ≡ requests = omega arith in
    (λ i. may_follow (append-nil prims i) (none i) b) ∙ (and_parts (may_follow prims requests b) (all_follow (prims ++ b.prims) (requests + 1) ys) all).0
follows_there prims requests (x ∷ xs) b ys all =
    let rest = (and_parts (may_follow prims requests x) (all_follow (prims ++ x.prims) (requests + 1) (xs ++ b ∷ ys)) all).1 in
    let count : requests + suc (length xs) ≡ requests + 1 + length xs = omega arith in
    (λ i. may_follow (sym (append_assoc prims x.prims (flat_map (λ c. c.prims) xs)) i) (count i) b) ∙ follows_there (prims ++ x.prims) (requests + 1) xs b ys rest

-- each batch of a history may follow those before it
pub history_follows : (xs : List Batch) (b : Batch) (ys : List Batch) → is_history (xs ++ b ∷ ys) ≡ true → may_follow (prims_of xs) (length xs) b ≡ true
unfolding prims_of is_history
history_follows xs b ys all = let none : 0 + length xs ≡ length xs = omega arith in ap (λ (n : ℕ). may_follow (builtin ++ flat_map (λ c. c.prims) xs) n b) (sym none) ∙ follows_there builtin 0 xs b ys all

-- one batch more that may follow
follow_behind : (prims : List Primitive) (requests : ℕ) (xs : List Batch) (b : Batch) → all_follow prims requests xs ≡ true → may_follow (prims ++ flat_map (λ c. c.prims) xs) (requests + length xs) b ≡ true → all_follow prims requests (xs ++ b ∷ []) ≡ true
follow_behind prims requests [] b all may =
    let none : requests + 0 ≡ requests = omega arith in
    let here : may_follow prims requests b ≡ true = sym (λ i. may_follow (append-nil prims i) (none i) b) ∙ may in
    ap (λ (t : Bool). t && true) here
follow_behind prims requests (x ∷ xs) b all may =
    let (first, rest) = and_parts (may_follow prims requests x) (all_follow (prims ++ x.prims) (requests + 1) xs) all in
    let count : requests + suc (length xs) ≡ requests + 1 + length xs = omega arith in
    let there : may_follow ((prims ++ x.prims) ++ flat_map (λ c. c.prims) xs) (requests + 1 + length xs) b ≡ true = sym (λ i. may_follow (sym (append_assoc prims x.prims (flat_map (λ c. c.prims) xs)) i) (count i) b) ∙ may in
    ap (λ (t : Bool). t && all_follow (prims ++ x.prims) (requests + 1) (xs ++ b ∷ [])) first ∙ follow_behind (prims ++ x.prims) (requests + 1) xs b rest there

-- a history with a batch more that may follow
pub history_more : (xs : List Batch) (b : Batch) → is_history xs ≡ true → may_follow (prims_of xs) (length xs) b ≡ true → is_history (xs ++ b ∷ []) ≡ true
unfolding prims_of is_history
history_more xs b all may = let none : length xs ≡ 0 + length xs = omega arith in follow_behind builtin 0 xs b all (ap (λ (n : ℕ). may_follow (builtin ++ flat_map (λ c. c.prims) xs) n b) (sym none) ∙ may)
