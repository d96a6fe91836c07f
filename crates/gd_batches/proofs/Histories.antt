-- The batches of a history, one by one, and what each keeps.
use Rattle.std.proofs.Common.{◌≡◌, ◌∙◌, refl, ℕ, zero, suc, ◌+◌, ◌-◌, ◌<◌, ◌≤◌, Bool, true, false, not, List, [], ◌∷◌, ◌++◌, length, take, drop, flat_map, Option, Some, None, slice_get, IsTrue, nat_lt, if◌then◌else◌, sym, ap, subst, arith, append_assoc, length-append}
use Rattle.std.specs.Prelude.{nat_eq}
use Rattle.std.specs.Option.{is_some}
use Rattle.std.specs.List.{AllByRecursion}
use Rattle.std.proofs.lemmas.List.{take-append-drop}
use Rattle.std.proofs.lemmas.Grind.{flat_map-append}
use Rattle.std.proofs.lemmas.Bool.{and_parts}
use Rattle.std.proofs.lemmas.Bool.Decides.{nat_tests}
use Rattle.gd_prim.specs.declared.Primitive.{Primitive}
use Rattle.gd_prim.specs.declared.Batch.{Batch}
use Rattle.gd_prim.specs.Builtin.{builtin}
use Rattle.gd_prim.specs.History.{prims_of, prims_at, is_history}
use Rattle.gd_prim.specs.WellFormed.{may_hold, is_well_placed, first_bad, bad_place, may_follow, all_follow}
use Rattle.gd_prim.specs.Limits.{limits, first_full}
use Rattle.gd_list_laws.proofs.Histories.{prims_more}

-- ---- one batch more

pub there_is : {A : Type 0} (xs : List A) (n : ℕ) → n < length xs → (x : A) × (slice_get xs n ≡ Some x)
there_is [] n few = absurd (omega (arith, few))
there_is (x ∷ xs) zero few = (x, refl)
there_is (x ∷ xs) (suc n) few = there_is xs n (omega (arith, few))

pub take_one : {A : Type 0} (xs : List A) (n : ℕ) (x : A) → slice_get xs n ≡ Some x → take (n + 1) xs ≡ take n xs ++ x ∷ []
take_one [] n x is = cc
take_one (y ∷ xs) zero x is = let same : y ≡ x = cc in ap (λ z. z ∷ []) same
take_one (y ∷ xs) (suc n) x is =
    let next : suc n + 1 ≡ suc (n + 1) = omega arith in
    ap (λ k. take k (y ∷ xs)) next ∙ ap (λ l. y ∷ l) (take_one xs n x is)

-- the list from a number on, up to the next batch
pub drop_one : {A : Type 0} (xs : List A) (from n : ℕ) (x : A) → from ≤ n → slice_get xs n ≡ Some x → drop from (take (n + 1) xs) ≡ drop from (take n xs) ++ x ∷ []
drop_one xs from n x le is = ap (drop from) (take_one xs n x is) ∙ behind (take n xs) from (x ∷ []) (omega (arith, le, count xs n x is))
  where
    count : {A : Type 0} (xs : List A) (n : ℕ) (x : A) → slice_get xs n ≡ Some x → length (take n xs) ≡ n
    count [] n x is = cc
    count (y ∷ xs) zero x is = refl
    count (y ∷ xs) (suc n) x is = ap suc (count xs n x is)

    behind : {A : Type 0} (ys : List A) (k : ℕ) (zs : List A) → k ≤ length ys → drop k (ys ++ zs) ≡ drop k ys ++ zs
    behind ys zero zs few = refl
    behind [] (suc k) zs few = absurd (omega (arith, few))
    behind (y ∷ ys) (suc k) zs few = behind ys k zs (omega (arith, few))

-- and what follows it
pub drop_rest : {A : Type 0} (xs : List A) (from n : ℕ) (x : A) → from ≤ n → slice_get xs n ≡ Some x → (rest : List A) × (drop from xs ≡ drop from (take n xs) ++ x ∷ rest)
drop_rest [] from n x le is = cc
drop_rest (y ∷ xs) zero zero x le is = (xs, let same : y ≡ x = cc in ap (λ z. z ∷ xs) same)
drop_rest (y ∷ xs) (suc from) zero x le is = absurd (omega (arith, le))
drop_rest (y ∷ xs) zero (suc n) x le is = let (rest, same) = drop_rest xs zero n x (omega arith) is in (rest, ap (λ l. y ∷ l) same)
drop_rest (y ∷ xs) (suc from) (suc n) x le is = drop_rest xs from n x (omega (arith, le)) is

-- ---- its primitives

pub next_prims : (h : List Batch) (n : ℕ) (b : Batch) → slice_get h n ≡ Some b → prims_at h (n + 1) ≡ prims_at h n ++ b.prims
next_prims h n b is = ap prims_of (take_one h n b is) ∙ prims_more (take n h) b

all_prims : (h : List Batch) (n : ℕ) → (rest : List Primitive) × (prims_of h ≡ prims_at h n ++ rest)
unfolding prims_of
all_prims h n = (
  flat_map (λ b. b.prims) (drop n h),
  ap (λ l. builtin ++ flat_map (λ b. b.prims) l) (sym (take-append-drop n h)) ∙ ap (λ l. builtin ++ l) (flat_map-append (λ b. b.prims) (take n h) (drop n h)) ∙ sym (append_assoc builtin (flat_map (λ b. b.prims) (take n h)) (flat_map (λ b. b.prims) (drop n h))),
)

-- they stand between the ends of the batches before and with it
pub prims_between : (h : List Batch) (n : ℕ) (b : Batch) (a c : List Primitive) → slice_get h n ≡ Some b → a ≡ prims_at h n → c ≡ prims_at h (n + 1) → take (length c - length a) (drop (length a) (prims_of h)) ≡ b.prims
prims_between h n b a c is a_is c_is =
    let (rest, whole) = all_prims h (n + 1) in
    let next = next_prims h n b is in
    let split : prims_of h ≡ a ++ (b.prims ++ rest) = whole ∙ ap (λ l. l ++ rest) (next ∙ ap (λ l. l ++ b.prims) (sym a_is)) ∙ append_assoc a b.prims rest in
    let count : length c - length a ≡ length b.prims = omega (arith, ap length (c_is ∙ next), length-append (prims_at h n) b.prims, ap length a_is) in
    ap (λ l. take (length c - length a) (drop (length a) l)) split ∙ ap (take (length c - length a)) (past a (b.prims ++ rest)) ∙ ap (λ k. take k (b.prims ++ rest)) count ∙ front b.prims rest
  where
    past : (xs ys : List Primitive) → drop (length xs) (xs ++ ys) ≡ ys
    past [] ys = refl
    past (x ∷ xs) ys = past xs ys

    front : (xs ys : List Primitive) → take (length xs) (xs ++ ys) ≡ xs
    front [] ys = refl
    front (x ∷ xs) ys = ap (λ l. x ∷ l) (front xs ys)

pub prims_within : (h : List Batch) (n : ℕ) (b : Batch) (a c : List Primitive) → slice_get h n ≡ Some b → a ≡ prims_at h n → c ≡ prims_at h (n + 1) → (length a ≤ length c) × (length c ≤ length (prims_of h))
prims_within h n b a c is a_is c_is =
    let (rest, whole) = all_prims h (n + 1) in
    let next = next_prims h n b is in
    let one = ap length (c_is ∙ next) in
    let two = ap length whole in
    (omega (arith, one, length-append (prims_at h n) b.prims, ap length a_is), omega (arith, two, ap length c_is, length-append (prims_at h (n + 1)) rest))

-- ---- what a batch of a history keeps

none_of : {A : Type 0} (o : Option A) → not (is_some o) ≡ true → o ≡ None
none_of None is = refl
none_of (Some x) is = cc

chosen : (b : Bool) (rest : Option ℕ) (n : ℕ) → (if b then rest else Some n) ≡ None → (b ≡ true) × (rest ≡ None)
chosen true rest n none = (refl, none)
chosen false rest n none = cc

passes : {A : Type 0} (b : Bool) (x : A) (rest : Option A) → (if b then Some x else rest) ≡ None → b ≡ false
passes true x rest none = cc
passes false x rest none = refl

not_above : (limit n : ℕ) → nat_lt limit n ≡ false → n ≤ limit
not_above limit n is = grind (arith, nat_tests)

same_number : (n m : ℕ) → nat_eq n m ≡ true → n ≡ m
same_number n m same = grind (arith, nat_tests)

-- a primitive of a batch of this moment
pub record IsOf (moment : ℕ) (p : Primitive) : Type 0 where
  pub same : p.moment ≡ moment
  pub holds : IsTrue (may_hold p.value)

placed : (before : List Primitive) (moment i : ℕ) (p : Primitive) → is_well_placed before moment i p ≡ true → IsOf moment p
placed before moment i p is =
    let h = (and_parts _ _ is).0 in
    let g = (and_parts _ _ h).0 in
    let f = (and_parts _ _ g).0 in
    let e = (and_parts _ _ f).0 in
    let d = and_parts _ _ e in
    let l = (and_parts _ _ d.0).0 in
    let c = and_parts _ _ l in
    record { same = same_number p.moment moment d.1; holds = c.1 }

each_of : (before : List Primitive) (moment i : ℕ) (ps : List Primitive) → first_bad before moment i ps ≡ None → AllByRecursion (IsOf moment) ps
each_of before moment i [] none = tt
each_of before moment i (p ∷ ps) none =
    let both = chosen (is_well_placed before moment i p) (first_bad (before ++ p ∷ []) moment (i + 1) ps) (length before) none in
    (placed before moment i p both.0, each_of (before ++ p ∷ []) moment (i + 1) ps both.1)

-- A batch of a history: it has few primitives, of its moment, that may hold their values.
pub record IsKept (b : Batch) : Type 0 where
  pub few : length b.prims ≤ 4096
  pub each : AllByRecursion (IsOf b.moment) b.prims

kept : (prims : List Primitive) (requests : ℕ) (b : Batch) → may_follow prims requests b ≡ true → IsKept b
kept prims requests b may =
    let both = and_parts _ _ may in
    record {
      few = not_above 4096 (length b.prims) (passes _ _ _ (none_of (first_full (limits prims requests b.prims)) both.1));
      each = each_of prims b.moment 0 b.prims (none_of (bad_place prims b) both.0);
    }

all_kept : (prims : List Primitive) (requests : ℕ) (bs : List Batch) → all_follow prims requests bs ≡ true → AllByRecursion IsKept bs
all_kept prims requests [] all = tt
all_kept prims requests (b ∷ bs) all =
    let both = and_parts (may_follow prims requests b) (all_follow (prims ++ b.prims) (requests + 1) bs) all in
    (kept prims requests b both.0, all_kept (prims ++ b.prims) (requests + 1) bs both.1)

pub history_kept : (h : List Batch) → IsTrue (is_history h) → AllByRecursion IsKept h
unfolding is_history
history_kept h all = all_kept builtin 0 h all

pub each_at : {A : Type 0} (P : A → Type 0) (xs : List A) (k : ℕ) (x : A) → AllByRecursion P xs → slice_get xs k ≡ Some x → P x
each_at P [] k x each is = cc
each_at P (y ∷ xs) zero x each is = let same : y ≡ x = cc in subst P same each.0
each_at P (y ∷ xs) (suc k) x each is = each_at P xs k x each.1 is

pub each_so : {A : Type 0} (P Q : A → Type 0) (xs : List A) → ((x : A) → P x → Q x) → AllByRecursion P xs → AllByRecursion Q xs
each_so P Q [] so each = tt
each_so P Q (x ∷ xs) so each = (so x each.0, each_so P Q xs so each.1)

pub prims_held : (h : List Batch) (n : ℕ) (b : Batch) → IsTrue (is_history h) → slice_get h n ≡ Some b → AllByRecursion (λ p. IsTrue (may_hold p.value)) b.prims
prims_held h n b history is = each_so (IsOf b.moment) (λ p. IsTrue (may_hold p.value)) b.prims (λ p k. k.holds) (each_at IsKept h n b (history_kept h history) is).each

-- ---- each element of a list

pub each_behind : {A : Type 0} (P : A → Type 0) (n : ℕ) (xs : List A) → AllByRecursion P xs → AllByRecursion P (drop n xs)
each_behind P zero xs each = each
each_behind P (suc n) [] each = each
each_behind P (suc n) (x ∷ xs) each = each_behind P n xs each.1

pub each_joined : {A : Type 0} (P : A → Type 0) (xs : List A) (x : A) → AllByRecursion P xs → P x → AllByRecursion P (xs ++ x ∷ [])
each_joined P [] x each one = (one, tt)
each_joined P (y ∷ xs) x each one = (each.0, each_joined P xs x each.1 one)
