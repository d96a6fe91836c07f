-- The batches of a history, one by one.
use Rattle.std.proofs.Common.{◌⊎◌, inl, inr, ◌≡◌, ◌∙◌, refl, ℕ, zero, suc, ◌+◌, ◌-◌, ◌<◌, ◌≤◌, Bool, true, false, not, List, [], ◌∷◌, ◌++◌, length, take, drop, flat_map, Option, Some, None, slice_get, IsTrue, nat_lt, if◌then◌else◌, sym, ap, subst, arith, append_assoc, length-append, length-take, length-drop}
use Rattle.std.specs.Prelude.{nat_eq}
use Rattle.std.specs.Option.{is_some}
use Rattle.std.specs.List.{AllByRecursion}
use Rattle.std.proofs.lemmas.List.{append-nil, take-append-drop}
use Rattle.std.proofs.lemmas.Grind.{flat_map-append}
use Rattle.std.proofs.lemmas.Bool.{and_parts}
use Rattle.std.proofs.lemmas.Bool.Decides.{nat_tests}
use Rattle.gd_prim.specs.declared.Primitive.{Primitive}
use Rattle.gd_prim.specs.declared.Batch.{Batch}
use Rattle.gd_prim.specs.Builtin.{builtin}
use Rattle.gd_prim.specs.History.{prims_of, prims_at, is_history}
use Rattle.gd_prim.specs.WellFormed.{may_hold, is_well_placed, first_bad, bad_place, may_follow, all_follow}
use Rattle.gd_prim.specs.Limits.{limits, first_full}
use Rattle.std.specs.Int.{w16, to_be_bytes}
use Rattle.gd_bytes.specs.Group.{spelling, batch_bytes}
use Rattle.gd_codec.specs.Writable.{PrimitiveMay, BatchMay, MayWrite}
use Rattle.gd_log.specs.Stored.{IsEarly}
use Rattle.gd_follow_laws.specs.World.{IsRun}
use Rattle.gd_follow.specs.Asks.{IsLongest, run_of}
use Rattle.gd_list_laws.proofs.Histories.{prims_more}

-- ---- one batch more

pub there_is : {A : Type 0} (xs : List A) (n : ℕ) → n < length xs → (x : A) × (slice_get xs n ≡ Some x)
there_is [] n few = absurd (omega (arith, few))
there_is (x ∷ xs) zero few = (x, refl)
there_is (x ∷ xs) (suc n) few = there_is xs n (omega (arith, few))

pub take_one : {A : Type 0} (xs : List A) (n : ℕ) (x : A) → slice_get xs n ≡ Some x → take (n + 1) xs ≡ take n xs ++ x ∷ []
take_one [] n x is = cc
take_one (y ∷ xs) zero x is = let same : y ≡ x = cc in ap (λ z. z ∷ []) same
take_one (y ∷ xs) (suc n) x is =
    let next : suc n + 1 ≡ suc (n + 1) = omega arith in
    ap (λ k. take k (y ∷ xs)) next ∙ ap (λ l. y ∷ l) (take_one xs n x is)

-- ---- its primitives

pub next_prims : (h : List Batch) (n : ℕ) (b : Batch) → slice_get h n ≡ Some b → prims_at h (n + 1) ≡ prims_at h n ++ b.prims
next_prims h n b is = ap prims_of (take_one h n b is) ∙ prims_more (take n h) b

all_prims : (h : List Batch) (n : ℕ) → (rest : List Primitive) × (prims_of h ≡ prims_at h n ++ rest)
unfolding prims_of
all_prims h n = (
  flat_map (λ b. b.prims) (drop n h),
  ap (λ l. builtin ++ flat_map (λ b. b.prims) l) (sym (take-append-drop n h)) ∙ ap (λ l. builtin ++ l) (flat_map-append (λ b. b.prims) (take n h) (drop n h)) ∙ sym (append_assoc builtin (flat_map (λ b. b.prims) (take n h)) (flat_map (λ b. b.prims) (drop n h))),
)

-- they stand between the ends of the batches before and with it
pub prims_between : (h : List Batch) (n : ℕ) (b : Batch) (a c : List Primitive) → slice_get h n ≡ Some b → a ≡ prims_at h n → c ≡ prims_at h (n + 1) → take (length c - length a) (drop (length a) (prims_of h)) ≡ b.prims
prims_between h n b a c is a_is c_is =
    let (rest, whole) = all_prims h (n + 1) in
    let next = next_prims h n b is in
    let split : prims_of h ≡ a ++ (b.prims ++ rest) = whole ∙ ap (λ l. l ++ rest) (next ∙ ap (λ l. l ++ b.prims) (sym a_is)) ∙ append_assoc a b.prims rest in
    let count : length c - length a ≡ length b.prims = omega (arith, ap length (c_is ∙ next), length-append (prims_at h n) b.prims, ap length a_is) in
    ap (λ l. take (length c - length a) (drop (length a) l)) split ∙ ap (take (length c - length a)) (past a (b.prims ++ rest)) ∙ ap (λ k. take k (b.prims ++ rest)) count ∙ front b.prims rest
  where
    past : (xs ys : List Primitive) → drop (length xs) (xs ++ ys) ≡ ys
    past [] ys = refl
    past (x ∷ xs) ys = past xs ys

    front : (xs ys : List Primitive) → take (length xs) (xs ++ ys) ≡ xs
    front [] ys = refl
    front (x ∷ xs) ys = ap (λ l. x ∷ l) (front xs ys)

pub prims_within : (h : List Batch) (n : ℕ) (b : Batch) (a c : List Primitive) → slice_get h n ≡ Some b → a ≡ prims_at h n → c ≡ prims_at h (n + 1) → (length a ≤ length c) × (length c ≤ length (prims_of h))
prims_within h n b a c is a_is c_is =
    let (rest, whole) = all_prims h (n + 1) in
    let next = next_prims h n b is in
    let one = ap length (c_is ∙ next) in
    let two = ap length whole in
    (omega (arith, one, length-append (prims_at h n) b.prims, ap length a_is), omega (arith, two, ap length c_is, length-append (prims_at h (n + 1)) rest))

-- ---- what a batch of a history keeps

none_of : {A : Type 0} (o : Option A) → not (is_some o) ≡ true → o ≡ None
none_of None is = refl
none_of (Some x) is = cc

chosen : (b : Bool) (rest : Option ℕ) (n : ℕ) → (if b then rest else Some n) ≡ None → (b ≡ true) × (rest ≡ None)
chosen true rest n none = (refl, none)
chosen false rest n none = cc

passes : {A : Type 0} (b : Bool) (x : A) (rest : Option A) → (if b then Some x else rest) ≡ None → b ≡ false
passes true x rest none = cc
passes false x rest none = refl

not_above : (limit n : ℕ) → nat_lt limit n ≡ false → n ≤ limit
not_above limit n is = grind (arith, nat_tests)

same_number : (n m : ℕ) → nat_eq n m ≡ true → n ≡ m
same_number n m same = grind (arith, nat_tests)

-- a primitive of a batch of this moment
pub record IsOf (moment : ℕ) (p : Primitive) : Type 0 where
  pub same : p.moment ≡ moment
  pub holds : IsTrue (may_hold p.value)

placed : (before : List Primitive) (moment i : ℕ) (p : Primitive) → is_well_placed before moment i p ≡ true → IsOf moment p
placed before moment i p is =
    let h = (and_parts _ _ is).0 in
    let g = (and_parts _ _ h).0 in
    let f = (and_parts _ _ g).0 in
    let e = (and_parts _ _ f).0 in
    let d = and_parts _ _ e in
    let l = (and_parts _ _ d.0).0 in
    let c = and_parts _ _ l in
    record { same = same_number p.moment moment d.1; holds = c.1 }

each_of : (before : List Primitive) (moment i : ℕ) (ps : List Primitive) → first_bad before moment i ps ≡ None → AllByRecursion (IsOf moment) ps
each_of before moment i [] none = tt
each_of before moment i (p ∷ ps) none =
    let both = chosen (is_well_placed before moment i p) (first_bad (before ++ p ∷ []) moment (i + 1) ps) (length before) none in
    (placed before moment i p both.0, each_of (before ++ p ∷ []) moment (i + 1) ps both.1)

-- A batch of a history: it has few primitives, of its moment, that may hold their values.
pub record IsKept (b : Batch) : Type 0 where
  pub few : length b.prims ≤ 4096
  pub each : AllByRecursion (IsOf b.moment) b.prims

kept : (prims : List Primitive) (requests : ℕ) (b : Batch) → may_follow prims requests b ≡ true → IsKept b
kept prims requests b may =
    let both = and_parts _ _ may in
    record {
      few = not_above 4096 (length b.prims) (passes _ _ _ (none_of (first_full (limits prims requests b.prims)) both.1));
      each = each_of prims b.moment 0 b.prims (none_of (bad_place prims b) both.0);
    }

all_kept : (prims : List Primitive) (requests : ℕ) (bs : List Batch) → all_follow prims requests bs ≡ true → AllByRecursion IsKept bs
all_kept prims requests [] all = tt
all_kept prims requests (b ∷ bs) all =
    let both = and_parts (may_follow prims requests b) (all_follow (prims ++ b.prims) (requests + 1) bs) all in
    (kept prims requests b both.0, all_kept (prims ++ b.prims) (requests + 1) bs both.1)

pub history_kept : (h : List Batch) → IsTrue (is_history h) → AllByRecursion IsKept h
unfolding is_history
history_kept h all = all_kept builtin 0 h all

pub each_at : {A : Type 0} (P : A → Type 0) (xs : List A) (k : ℕ) (x : A) → AllByRecursion P xs → slice_get xs k ≡ Some x → P x
each_at P [] k x each is = cc
each_at P (y ∷ xs) zero x each is = let same : y ≡ x = cc in subst P same each.0
each_at P (y ∷ xs) (suc k) x each is = each_at P xs k x each.1 is

-- ---- runs of batches

abbrev pub run : List Batch → ℕ → ℕ → List Batch
run h from count = take count (drop from h)

-- a run with the next batch
pub run_more : (h : List Batch) (from count n : ℕ) (b : Batch) → n ≡ from + count → slice_get h n ≡ Some b → run h from (count + 1) ≡ run h from count ++ b ∷ []
run_more h from count n b n_is is = take_one (drop from h) count b (behind h from count n b n_is is)
  where
    behind : (h : List Batch) (from count n : ℕ) (b : Batch) → n ≡ from + count → slice_get h n ≡ Some b → slice_get (drop from h) count ≡ Some b
    behind h zero count n b n_is is = let same : n ≡ count = omega (arith, n_is) in sym (ap (slice_get h) same) ∙ is
    behind [] (suc from) count n b n_is is = cc
    behind (x ∷ h) (suc from) count zero b n_is is = absurd (omega (arith, n_is))
    behind (x ∷ h) (suc from) count (suc n) b n_is is = behind h from count n b (omega (arith, n_is)) is

-- the bytes of its group
pub run_bytes : (h : List Batch) (from count n total : ℕ) (b : Batch) → n ≡ from + count → slice_get h n ≡ Some b → total ≡ length (spelling (run h from count)) → total + length (batch_bytes b) ≡ length (spelling (run h from (count + 1)))
run_bytes h from count n total b n_is is total_is =
    let more = run_more h from count n b n_is is in
    let bytes = flat_map-append batch_bytes (run h from count) (b ∷ []) ∙ ap (λ l. flat_map batch_bytes (run h from count) ++ l) (append-nil (batch_bytes b)) in
    let one : length (spelling (run h from count)) ≡ 2 + length (flat_map batch_bytes (run h from count)) = spelled (run h from count) in
    let two : length (spelling (run h from (count + 1))) ≡ 2 + length (flat_map batch_bytes (run h from (count + 1))) = spelled (run h from (count + 1)) in
    let three = ap length (ap (flat_map batch_bytes) more ∙ bytes) in
    omega (arith, total_is, one, two, three, length-append (flat_map batch_bytes (run h from count)) (batch_bytes b))
  where
    spelled : (bs : List Batch) → length (spelling bs) ≡ 2 + length (flat_map batch_bytes bs)
    spelled bs = omega (arith, length-append (to_be_bytes w16 (length bs)) (flat_map batch_bytes bs))

pub run_one : (h : List Batch) (from : ℕ) (b : Batch) → slice_get h from ≡ Some b → run h from 1 ≡ b ∷ []
run_one h from b is = run_more h from 0 from b (omega arith) is

-- a run of a list at moments of a clock may be written
pub run_may : (h : List Batch) (from count : ℕ) → IsTrue (is_history h) → AllByRecursion IsEarly h → 0 < count → count ≤ 256 → from + count ≤ length h → MayWrite (run h from count)
run_may h from count history early some few within =
    let long : length (run h from count) ≡ count = omega (arith, length-take count (drop from h), length-drop from h, within) in
    record { some = omega (arith, long, some); few = omega (arith, long, few); each = front count (drop from h) (behind from h (may h (history_kept h history) early)) }
  where
    prims_may : (m : ℕ) (ps : List Primitive) → AllByRecursion (IsOf m) ps → AllByRecursion (PrimitiveMay m) ps
    prims_may m [] of = tt
    prims_may m (p ∷ ps) of = (record { same = of.0.same; holds = of.0.holds }, prims_may m ps of.1)

    may : (bs : List Batch) → AllByRecursion IsKept bs → AllByRecursion IsEarly bs → AllByRecursion BatchMay bs
    may [] kept early = tt
    may (b ∷ bs) kept early = (record { moment = early.0.early; few = kept.0.few; each = prims_may b.moment b.prims kept.0.each }, may bs kept.1 early.1)

    behind : (n : ℕ) (bs : List Batch) → AllByRecursion BatchMay bs → AllByRecursion BatchMay (drop n bs)
    behind zero bs each = each
    behind (suc n) [] each = each
    behind (suc n) (b ∷ bs) each = behind n bs each.1

    front : (n : ℕ) (bs : List Batch) → AllByRecursion BatchMay bs → AllByRecursion BatchMay (take n bs)
    front zero bs each = tt
    front (suc n) [] each = tt
    front (suc n) (b ∷ bs) each = (each.0, front n bs each.1)

-- where not even one batch has a small group, it is too large
pub too_large : (h : List Batch) (from most count : ℕ) (b : Batch) → 1 ≤ most → from < length h → slice_get h from ≡ Some b → count ≡ 0 → IsLongest h from most count → (length (spelling (b ∷ [])) ≡ 2 + length (batch_bytes b)) × (500_000 < length (spelling (b ∷ [])))
too_large h from most count b some there is none l = (total, by l.longest)
  where
    total : length (spelling (b ∷ [])) ≡ 2 + length (batch_bytes b)
    total = omega (arith, length-append (batch_bytes b) [])

    by : (count ≡ most) ⊎ ((from + count ≡ length h) ⊎ (500_000 < length (spelling (run h from (count + 1))))) → 500_000 < length (spelling (b ∷ []))
    by (inl all) = absurd (omega (arith, all, none, some))
    by (inr (inl all)) = absurd (omega (arith, all, none, there))
    by (inr (inr large)) =
        let one : count + 1 ≡ 1 = omega (arith, none) in
        subst (λ bs. 500_000 < length (spelling bs)) (ap (run h from) one ∙ run_one h from b is) large

-- ---- an answer as one of a primary

pub run_is : (h : List Batch) (from count : ℕ) → from ≤ length h → IsRun h (record { from = from; group = run_of h from count })
run_is h from count few = (
  take from h,
  drop count (drop from h),
  sym (take-append-drop from h) ∙ ap (λ l. take from h ++ l) (sym (take-append-drop count (drop from h))) ∙ sym (append_assoc (take from h) (take count (drop from h)) (drop count (drop from h))),
  (let long = length-take from h in omega (arith, long, few)),
)
