-- Laws of groups: batches in whole groups, those of a group that is not full, and what follows both.
use Rattle.std.proofs.Common.{◌≡◌, ◌∙◌, refl, sym, ap, subst, ℕ, zero, suc, ◌+◌, ◌<◌, Bool, true, false, ◌&&◌, ◌||◌, nat_le, List, [], ◌∷◌, ◌++◌, length, take, sum_by, flat_map, Option, Some, None, slice_get, arith, add-zero, append_assoc, length-append}
use Rattle.std.specs.Prelude.{if◌then◌else◌}
use Rattle.std.specs.List.{AllByRecursion}
use Rattle.std.proofs.lemmas.List.{append-nil}
use Rattle.std.proofs.lemmas.Bool.{and_parts}
use Rattle.std.proofs.lemmas.Bool.Decides.{nat_tests}
use Rattle.std.proofs.lemmas.Grind.{flat_map-append}
use Rattle.gd_prim.specs.declared.Primitive.{Primitive}
use Rattle.gd_prim.specs.declared.Batch.{Batch}
use Rattle.gd_prim.specs.Builtin.{builtin}
use Rattle.gd_prim.specs.History.{prims_of}
use Rattle.gd_prim.specs.WellFormed.{may_follow, all_follow}
use Rattle.gd_dump_laws.specs.Dump.{BatchFits, dump_head, batch_text, IsDump, Whole}
use Rattle.gd_dump_laws.specs.Restoring.{is_full, in_groups, BeginsWith, Follow, IsNoOther, EndsUnfit}
use Rattle.gd_dump_laws.proofs.Follows.{heads_same}

-- ---- groups

abbrev grown_by : List Batch → Batch → List Batch → Bool → List Batch
grown_by begun b bs full = if full then (begun ++ b ∷ []) ++ in_groups [] bs else in_groups (begun ++ b ∷ []) bs

-- what is left over of batches behind those of a group that has begun
abbrev left_by : List Batch → (List Batch → List Batch) → Bool → List Batch
left_by more rest full = if full then rest [] else rest more

abbrev left_over : List Batch → List Batch → List Batch
left_over begun [] = begun
left_over begun (b ∷ bs) = left_by (begun ++ b ∷ []) (λ more. left_over more bs) (is_full (begun ++ b ∷ []))

regroup : (begun : List Batch) (b : Batch) (bs : List Batch) → (begun ++ b ∷ []) ++ bs ≡ begun ++ b ∷ bs
regroup begun b bs = append_assoc begun (b ∷ []) bs

-- the batches of whole groups, and what is left over
groups_split : (begun bs : List Batch) → in_groups begun bs ++ left_over begun bs ≡ begun ++ bs
groups_split begun [] = sym (append-nil begun)
groups_split begun (b ∷ bs) = by (groups_split [] bs) (groups_split (begun ++ b ∷ []) bs) (is_full (begun ++ b ∷ []))
  where
    by : in_groups [] bs ++ left_over [] bs ≡ bs → in_groups (begun ++ b ∷ []) bs ++ left_over (begun ++ b ∷ []) bs ≡ (begun ++ b ∷ []) ++ bs → (full : Bool)
        → grown_by begun b bs full ++ left_by (begun ++ b ∷ []) (λ more. left_over more bs) full ≡ begun ++ b ∷ bs
    by anew on true = append_assoc (begun ++ b ∷ []) (in_groups [] bs) (left_over [] bs) ∙ ap (λ (l : List Batch). (begun ++ b ∷ []) ++ l) anew ∙ regroup begun b bs
    by anew on false = on ∙ regroup begun b bs

groups_joined : (begun xs ys : List Batch) → in_groups begun (xs ++ ys) ≡ in_groups begun xs ++ in_groups (left_over begun xs) ys
groups_joined begun [] ys = refl
groups_joined begun (b ∷ bs) ys = by (groups_joined [] bs ys) (groups_joined (begun ++ b ∷ []) bs ys) (is_full (begun ++ b ∷ []))
  where
    by : in_groups [] (bs ++ ys) ≡ in_groups [] bs ++ in_groups (left_over [] bs) ys → in_groups (begun ++ b ∷ []) (bs ++ ys) ≡ in_groups (begun ++ b ∷ []) bs ++ in_groups (left_over (begun ++ b ∷ []) bs) ys → (full : Bool)
        → grown_by begun b (bs ++ ys) full ≡ grown_by begun b bs full ++ in_groups (left_by (begun ++ b ∷ []) (λ more. left_over more bs) full) ys
    by anew on true = ap (λ (l : List Batch). (begun ++ b ∷ []) ++ l) anew ∙ sym (append_assoc (begun ++ b ∷ []) (in_groups [] bs) (in_groups (left_over [] bs) ys))
    by anew on false = on

none_behind : (xs ys : List Batch) → xs ++ ys ≡ xs → ys ≡ []
none_behind xs [] is = refl
none_behind xs (y ∷ ys) is = absurd (omega (arith, ap length is, length-append xs (y ∷ ys)))

-- behind whole groups others begin anew
pub groups_behind : (done bs : List Batch) → in_groups [] done ≡ done → in_groups [] (done ++ bs) ≡ done ++ in_groups [] bs
groups_behind done bs whole =
    let none : left_over [] done ≡ [] = none_behind done (left_over [] done) (ap (λ (l : List Batch). l ++ left_over [] done) (sym whole) ∙ groups_split [] done) in
    groups_joined [] done bs ∙ ap (λ (l : List Batch). l ++ in_groups (left_over [] done) bs) whole ∙ ap (λ (l : List Batch). done ++ in_groups l bs) none

-- of a group that is not full all is left over
open_left : (group : List Batch) → in_groups [] group ≡ [] → left_over [] group ≡ group
open_left group part = ap (λ (l : List Batch). l ++ left_over [] group) (sym part) ∙ groups_split [] group

one_more : (group : List Batch) (b : Batch) (full : Bool) → in_groups [] group ≡ [] → is_full (group ++ b ∷ []) ≡ full → in_groups [] (group ++ b ∷ []) ≡ (if full then group ++ b ∷ [] else [])
one_more group b full part is =
    groups_joined [] group (b ∷ []) ∙ ap (λ (l : List Batch). l ++ in_groups (left_over [] group) (b ∷ [])) part ∙ ap (λ (l : List Batch). in_groups l (b ∷ [])) (open_left group part)
    ∙ ap (grown_by group b []) is ∙ by full
  where
    by : (full : Bool) → grown_by group b [] full ≡ (if full then group ++ b ∷ [] else [])
    by true = append-nil (group ++ b ∷ [])
    by false = refl

-- with one more the group is full, or not
pub group_full : (group : List Batch) (b : Batch) → in_groups [] group ≡ [] → is_full (group ++ b ∷ []) ≡ true → in_groups [] (group ++ b ∷ []) ≡ group ++ b ∷ []
group_full group b part full = one_more group b true part full

pub group_open : (group : List Batch) (b : Batch) → in_groups [] group ≡ [] → is_full (group ++ b ∷ []) ≡ false → in_groups [] (group ++ b ∷ []) ≡ []
group_open group b part short = one_more group b false part short

none_front : (xs ys : List Batch) → xs ++ ys ≡ [] → xs ≡ []
none_front [] ys is = refl
none_front (x ∷ xs) ys is = cc

-- a front of a group that is not full is not full
pub group_front : (xs ys : List Batch) → in_groups [] (xs ++ ys) ≡ [] → in_groups [] xs ≡ []
group_front xs ys part = none_front (in_groups [] xs) (in_groups (left_over [] xs) ys) (sym (groups_joined [] xs ys) ∙ part)

-- a group that is not full has fewer than 256 batches
few_from : (begun bs : List Batch) → length begun < 256 → in_groups begun bs ≡ [] → length (begun ++ bs) < 256
few_from begun [] few part = subst (λ (l : List Batch). length l < 256) (sym (append-nil begun)) few
few_from begun (b ∷ bs) few part = by (few_from (begun ++ b ∷ []) bs) (is_full (begun ++ b ∷ [])) refl part
  where
    few_more : (m : ℕ) (other : Bool) → (nat_le 256 m || other) ≡ false → m < 256
    few_more m other is = grind (arith, nat_tests)

    by : (length (begun ++ b ∷ []) < 256 → in_groups (begun ++ b ∷ []) bs ≡ [] → length ((begun ++ b ∷ []) ++ bs) < 256) → (full : Bool) → is_full (begun ++ b ∷ []) ≡ full → grown_by begun b bs full ≡ [] → length (begun ++ b ∷ bs) < 256
    by on true is part = let none : begun ++ b ∷ [] ≡ [] = none_front (begun ++ b ∷ []) (in_groups [] bs) part in absurd (omega (arith, ap length none, length-append begun (b ∷ [])))
    by on false is part = subst (λ (l : List Batch). length l < 256) (regroup begun b bs) (on (few_more (length (begun ++ b ∷ [])) (nat_le 4_096 (sum_by (λ c. length c.prims) (begun ++ b ∷ []))) is) part)

pub group_few : (group : List Batch) → in_groups [] group ≡ [] → length group < 256
group_few group part = few_from [] group (omega arith) part

-- ---- batches that follow

followed_by : (prims : List Primitive) (requests : ℕ) (xs ys : List Batch) → all_follow prims requests xs ≡ true → all_follow (prims ++ flat_map (λ c. c.prims) xs) (requests + length xs) ys ≡ true → all_follow prims requests (xs ++ ys) ≡ true
followed_by prims requests [] ys one two = ap (λ (l : List Primitive). all_follow l requests ys) (sym (append-nil prims)) ∙ ap (λ (n : ℕ). all_follow (prims ++ []) n ys) (sym (add-zero requests)) ∙ two
followed_by prims requests (x ∷ xs) ys one two =
    let (first, rest) = and_parts (may_follow prims requests x) (all_follow (prims ++ x.prims) (requests + 1) xs) one in
    let count : requests + 1 + length xs ≡ requests + length (x ∷ xs) = omega arith in
    let there : all_follow ((prims ++ x.prims) ++ flat_map (λ c. c.prims) xs) (requests + 1 + length xs) ys ≡ true =
    ap (λ (l : List Primitive). all_follow l (requests + 1 + length xs) ys) (append_assoc prims x.prims (flat_map (λ c. c.prims) xs)) ∙ ap (λ (n : ℕ). all_follow (prims ++ (x.prims ++ flat_map (λ c. c.prims) xs)) n ys) count ∙ two in
    ap (λ (t : Bool). t && all_follow (prims ++ x.prims) (requests + 1) (xs ++ ys)) first ∙ followed_by (prims ++ x.prims) (requests + 1) xs ys rest there

pub prims_joined : (list xs : List Batch) → prims_of (list ++ xs) ≡ prims_of list ++ flat_map (λ c. c.prims) xs
unfolding prims_of
prims_joined list xs = ap (λ (l : List Primitive). builtin ++ l) (flat_map-append (λ (c : Batch). c.prims) list xs) ∙ sym (append_assoc builtin (flat_map (λ (c : Batch). c.prims) list) (flat_map (λ (c : Batch). c.prims) xs))

-- what follows batches that follow a list follows it with them
pub follow_joined : (list xs ys : List Batch) → Follow list xs → Follow (list ++ xs) ys → Follow list (xs ++ ys)
follow_joined list xs ys one two =
    followed_by (prims_of list) (length list) xs ys one (ap (λ (l : List Primitive). all_follow l (length list + length xs) ys) (sym (prims_joined list xs)) ∙ ap (λ (n : ℕ). all_follow (prims_of (list ++ xs)) n ys) (sym (length-append list xs)) ∙ two)

pub follow_none : (list : List Batch) → Follow list []
follow_none list = refl

-- ---- a text that begins with batches

pub begins_more : (text more : List ℕ) (first : ℕ) (batches : List Batch) → BeginsWith text first batches → BeginsWith (text ++ more) first batches
begins_more text more first batches b = record {
  small = b.small;
  each = b.each;
  rest = b.rest ++ more;
  is = ap (λ (l : List ℕ). l ++ more) b.is ∙ append_assoc (dump_head first ++ flat_map batch_text batches) b.rest more;
}

front_all : (xs ys : List Batch) → AllByRecursion BatchFits (xs ++ ys) → AllByRecursion BatchFits xs
front_all [] ys each = tt
front_all (x ∷ xs) ys each = (each.0, front_all xs ys each.1)

pub begins_front : (text : List ℕ) (first : ℕ) (xs ys : List Batch) → BeginsWith text first (xs ++ ys) → BeginsWith text first xs
begins_front text first xs ys b = record {
  small = b.small;
  each = front_all xs ys b.each;
  rest = flat_map batch_text ys ++ b.rest;
  is = b.is ∙ ap (λ (l : List ℕ). (dump_head first ++ l) ++ b.rest) (flat_map-append batch_text xs ys) ∙ parts (dump_head first) (flat_map batch_text xs) (flat_map batch_text ys) b.rest;
}
  where
    parts : (a b c d : List ℕ) → (a ++ (b ++ c)) ++ d ≡ (a ++ b) ++ (c ++ d)
    parts a b c d = simp append_assoc

-- a text has one first number
pub one_first : (text : List ℕ) (m n : ℕ) (xs ys : List Batch) → BeginsWith text m xs → BeginsWith text n ys → m ≡ n
one_first text m n xs ys a b =
    (heads_same m n (flat_map batch_text xs ++ a.rest) (flat_map batch_text ys ++ b.rest) a.small b.small
    (sym (append_assoc (dump_head m) (flat_map batch_text xs) a.rest) ∙ sym a.is ∙ b.is ∙ append_assoc (dump_head n) (flat_map batch_text ys) b.rest)).0

pub whole_begins : (text : List ℕ) (first : ℕ) (batches : List Batch) → Whole text (Some first) batches → BeginsWith text first batches
whole_begins text first batches (small, each, (rest, is, none)) = record { small = small; each = each; rest = rest; is = is }

-- the first number of a whole dump, as it was read
pub dump_first : (text : List ℕ) (number have : ℕ) (first : Option ℕ) (batches : List Batch) → IsDump text number batches → Whole text first batches → IsNoOther first have → number ≡ have
dump_first text number have None batches (fits, is) (none, no_head) same = absurd (no_head number (flat_map batch_text batches ++ _) fits.first (is ∙ append_assoc (dump_head number) (flat_map batch_text batches) _))
dump_first text number have (Some first) batches (fits, is) whole same =
    one_first text number first batches batches (record { small = fits.first; each = fits.each; rest = _; is = is }) (whole_begins text first batches whole) ∙ same

-- ---- the first that may not follow

there : (group : List Batch) (k : ℕ) (b : Batch) → slice_get group k ≡ Some b → (rest : List Batch) × (group ≡ (take k group ++ b ∷ []) ++ rest) × (length (take k group) ≡ k)
there [] k b is = cc
there (x ∷ xs) zero b is = (xs, let same : x ≡ b = cc in ap (λ (y : Batch). y ∷ xs) same, refl)
there (x ∷ xs) (suc k) b is = let (rest, parts, long) = there xs k b is in (rest, ap (λ (l : List Batch). x ∷ l) parts, ap suc long)

-- of a group behind whole groups the first that may not follow ends the text so
pub unfit_ends : (list : List Batch) (text : List ℕ) (done group after : List Batch) (k number : ℕ) (b : Batch) → in_groups [] done ≡ done → Follow list done → BeginsWith text (length list) (done ++ group)
    → slice_get group k ≡ Some b → in_groups [] (take k group) ≡ [] → all_follow (prims_of (list ++ done)) (length (list ++ done)) (take k group) ≡ true
    → may_follow (prims_of ((list ++ done) ++ take k group)) (length (list ++ done) + k) b ≡ false → number ≡ length (list ++ done) + k → after ≡ list ++ done → EndsUnfit list text number after
unfit_ends list text done group after k number b whole follow begins is part before unfit number_is after_is =
    let (rest, parts, long) = there group k b is in
    let front = take k group in
    let count : length (list ++ done) + k ≡ length list + length (done ++ front) = omega (arith, length-append list done, length-append done front, long) in
    let all : done ++ group ≡ ((done ++ front) ++ b ∷ []) ++ rest = ap (λ (l : List Batch). done ++ l) parts ∙ joined done front (b ∷ []) rest in
    record {
      batches = done ++ front;
      batch = b;
      begins = begins_front text (length list) ((done ++ front) ++ b ∷ []) rest (subst (BeginsWith text (length list)) all begins);
      follow = follow_joined list done front follow before;
      unfit = ap (λ (n : ℕ). may_follow (prims_of (list ++ (done ++ front))) n b) (sym count) ∙ ap (λ (l : List Batch). may_follow (prims_of l) (length (list ++ done) + k) b) (sym (append_assoc list done front)) ∙ unfit;
      place = number_is ∙ count;
      is = after_is ∙ ap (λ (l : List Batch). list ++ l) (sym (groups_behind done front whole ∙ ap (λ (l : List Batch). done ++ l) part ∙ append-nil done));
    }
  where
    joined : (a b c d : List Batch) → a ++ ((b ++ c) ++ d) ≡ ((a ++ b) ++ c) ++ d
    joined a b c d = simp append_assoc
