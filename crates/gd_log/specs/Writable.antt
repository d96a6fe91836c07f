-- Laws of batches that may follow one another: as a group they may be written, and have few bytes.
use Rattle.std.proofs.Common.{◌≡◌, ◌≤◌, ℕ, ◌+◌, ◌*◌, List, [], ◌∷◌, ◌++◌, length, Bool, true, false, if◌then◌else◌, Option, Some, None, refl, arith, nat_lt, length-append}
use Rattle.std.specs.Prelude.{flat_map, sum_by, nat_eq, not}
use Rattle.std.specs.Option.{is_some}
use Rattle.std.specs.List.{AllByRecursion}
use Rattle.std.specs.Int.{to_be_bytes, w16, w64}
use Rattle.std.proofs.lemmas.Bool.{and_parts}
use Rattle.std.proofs.lemmas.Bool.Decides.{nat_tests}
use Rattle.std.proofs.lemmas.List.Sums.{sum_by-cons, sum_by-append}
use Rattle.gd_base.specs.declared.datum.Datum.{Datum}
use Rattle.gd_base.specs.declared.datum.Datum.TheVariants as datum
use Rattle.gd_prim.specs.declared.Primitive.{Primitive}
use Rattle.gd_prim.specs.declared.Batch.{Batch}
use Rattle.gd_prim.specs.History.{prims_of}
use Rattle.gd_prim.specs.WellFormed.{is_well_placed, first_bad, bad_place, may_follow, all_follow}
use Rattle.gd_prim.specs.Limits.{limits, first_full, text_bytes}
use Rattle.gd_bytes.specs.Group.{spelling, batch_bytes, primitive_bytes, reference_bytes, value_bytes, name_bytes}
use Rattle.gd_codec.specs.Writable.{PrimitiveMay, BatchMay, MayWrite}
use Rattle.gd_log.specs.Stored.{IsEarly, MayAppend}

-- ---- a batch that may follow

none_of : {A : Type 0} (o : Option A) → not (is_some o) ≡ true → o ≡ None
none_of None is = refl
none_of (Some x) is = cc

-- is well formed, and passes no limit
pub may_parts : (prims : List Primitive) (requests : ℕ) (b : Batch) → may_follow prims requests b ≡ true → (bad_place prims b ≡ None) × (first_full (limits prims requests b.prims) ≡ None)
may_parts prims requests b may =
    let both = and_parts _ _ may in
    (none_of (bad_place prims b) both.0, none_of (first_full (limits prims requests b.prims)) both.1)

-- and the others may follow behind it
pub follow_parts : (prims : List Primitive) (requests : ℕ) (b : Batch) (more : List Batch) → all_follow prims requests (b ∷ more) ≡ true → (may_follow prims requests b ≡ true) × (all_follow (prims ++ b.prims) (requests + 1) more ≡ true)
follow_parts prims requests b more follow = and_parts (may_follow prims requests b) (all_follow (prims ++ b.prims) (requests + 1) more) follow

-- ---- a well formed batch may be written

chosen : (b : Bool) (rest : Option ℕ) (n : ℕ) → (if b then rest else Some n) ≡ None → (b ≡ true) × (rest ≡ None)
chosen true rest n none = (refl, none)
chosen false rest n none = cc

same_number : (n m : ℕ) → nat_eq n m ≡ true → n ≡ m
same_number n m same = grind (arith, nat_tests)

-- a primitive that is well placed
placed : (before : List Primitive) (moment i : ℕ) (p : Primitive) → is_well_placed before moment i p ≡ true → PrimitiveMay moment p
placed before moment i p is =
    let h = (and_parts _ _ is).0 in
    let g = (and_parts _ _ h).0 in
    let f = (and_parts _ _ g).0 in
    let e = (and_parts _ _ f).0 in
    let d = and_parts _ _ e in
    let l = (and_parts _ _ d.0).0 in
    let c = and_parts _ _ l in
    record { same = same_number p.moment moment d.1; holds = c.1 }

each_may : (before : List Primitive) (moment i : ℕ) (ps : List Primitive) → first_bad before moment i ps ≡ None → AllByRecursion (PrimitiveMay moment) ps
each_may before moment i [] none = tt
each_may before moment i (p ∷ ps) none =
    let both = chosen (is_well_placed before moment i p) (first_bad (before ++ p ∷ []) moment (i + 1) ps) (length before) none in
    (placed before moment i p both.0, each_may (before ++ p ∷ []) moment (i + 1) ps both.1)

-- ---- a batch within the limits

passes : {A : Type 0} (b : Bool) (x : A) (rest : Option A) → (if b then Some x else rest) ≡ None → (b ≡ false) × (rest ≡ None)
passes true x rest none = cc
passes false x rest none = (refl, none)

not_above : (limit n : ℕ) → nat_lt limit n ≡ false → n ≤ limit
not_above limit n is = grind (arith, nat_tests)

-- it has few primitives, and its texts and those before it few bytes
record IsWithin (prims b : List Primitive) : Type 0 where
  few : length b ≤ 4096
  short : sum_by text_bytes prims + sum_by text_bytes b ≤ 134_217_728

within : (prims : List Primitive) (requests : ℕ) (b : List Primitive) → first_full (limits prims requests b) ≡ None → IsWithin prims b
within prims requests b none =
    let first = passes _ _ _ none in
    let second = passes _ _ _ first.1 in
    let third = passes _ _ _ second.1 in
    record { few = not_above 4096 (length b) first.0; short = not_above 134_217_728 (sum_by text_bytes prims + sum_by text_bytes b) third.0 }

-- ---- how many bytes it has

reference_short : (o : Option ℕ) → length (reference_bytes o) ≤ 4
reference_short None = omega arith
reference_short (Some p) = omega arith

-- a primitive by its parts
parts : (l r t s pr g : Option ℕ) (lv : Bool) (m : ℕ) (v : Datum) (n : Option (List ℕ)) → length (value_bytes v) + length (name_bytes n)
    ≤ 14 + text_bytes (record { left = l; right = r; typ = t; scope = s; value = v; name = n; previous = pr; live = lv; moment = m; lang = g })
parts l r t s pr g lv m datum.Empty None = omega arith
parts l r t s pr g lv m datum.Empty (Some x) = omega arith
parts l r t s pr g lv m (datum.Text y) None = omega arith
parts l r t s pr g lv m (datum.Text y) (Some x) = omega arith
parts l r t s pr g lv m (datum.Int y) None = omega arith
parts l r t s pr g lv m (datum.Int y) (Some x) = omega arith
parts l r t s pr g lv m (datum.Bool y) None = omega arith
parts l r t s pr g lv m (datum.Bool y) (Some x) = omega arith
parts l r t s pr g lv m (datum.Moment y z) None = omega arith
parts l r t s pr g lv m (datum.Moment y z) (Some x) = omega arith
parts l r t s pr g lv m (datum.Object y) None = omega arith
parts l r t s pr g lv m (datum.Object y) (Some x) = omega arith

joined : (a b c d e f g h : List ℕ) → length (a ++ b ++ c ++ d ++ e ++ f ++ g ++ h) ≡ length a + length b + length c + length d + length e + length f + length g + length h
joined a b c d e f g h = simp length-append

primitive_short : (p : Primitive) → length (primitive_bytes p) ≤ 40 + text_bytes p
primitive_short p = omega (
  arith,
  joined (reference_bytes p.left) (reference_bytes p.right) (reference_bytes p.typ) (reference_bytes p.scope) (reference_bytes p.previous) (reference_bytes p.lang) (value_bytes p.value) (name_bytes p.name),
  reference_short p.left,
  reference_short p.right,
  reference_short p.typ,
  reference_short p.scope,
  reference_short p.previous,
  reference_short p.lang,
  parts p.left p.right p.typ p.scope p.previous p.lang p.live p.moment p.value p.name,
)

all_short : (ps : List Primitive) → length (flat_map primitive_bytes ps) ≤ 40 * length ps + sum_by text_bytes ps
all_short [] = omega arith
all_short (p ∷ ps) = omega (arith, length-append (primitive_bytes p) (flat_map primitive_bytes ps), primitive_short p, all_short ps, sum_by-cons text_bytes p ps)

-- a batch of few primitives
batch_short : (b : Batch) → length b.prims ≤ 4096 → length (batch_bytes b) ≤ 163_850 + sum_by text_bytes b.prims
batch_short b few =
    let eight : length (to_be_bytes w64 b.moment) ≡ 8 = refl in
    let two : length (to_be_bytes w16 (length b.prims)) ≡ 2 = refl in
    omega (arith, eight, two, all_short b.prims, length-append (to_be_bytes w64 b.moment ++ to_be_bytes w16 (length b.prims)) (flat_map primitive_bytes b.prims), length-append (to_be_bytes w64 b.moment) (to_be_bytes w16 (length b.prims)))

-- ---- a list of batches

each_batch_may : (prims : List Primitive) (requests : ℕ) (more : List Batch) → all_follow prims requests more ≡ true → AllByRecursion IsEarly more → AllByRecursion BatchMay more
each_batch_may prims requests [] follow early = tt
each_batch_may prims requests (b ∷ more) follow early =
    let both = follow_parts prims requests b more follow in
    let may = may_parts prims requests b both.0 in
    (record { moment = early.0.early; few = (within prims requests b.prims may.1).few; each = each_may prims b.moment 0 b.prims may.0 }, each_batch_may (prims ++ b.prims) (requests + 1) more both.1 early.1)

all_batches_short : (prims : List Primitive) (requests : ℕ) (more : List Batch) → all_follow prims requests more ≡ true → sum_by text_bytes prims ≤ 134_217_728 → length (flat_map batch_bytes more) + sum_by text_bytes prims ≤ 163_850 * length more + 134_217_728
all_batches_short prims requests [] follow short = omega arith
all_batches_short prims requests (b ∷ more) follow short =
    let both = follow_parts prims requests b more follow in
    let w = within prims requests b.prims (may_parts prims requests b both.0).1 in
    let sum = sum_by-append text_bytes prims b.prims in
    let rest = all_batches_short (prims ++ b.prims) (requests + 1) more both.1 (omega (arith, sum, w.short)) in
    omega (arith, rest, sum, batch_short b w.few, length-append (batch_bytes b) (flat_map batch_bytes more))

-- a list of which one may follow has texts within the limit
few_texts : (prims : List Primitive) (requests : ℕ) (more : List Batch) → 1 ≤ length more → all_follow prims requests more ≡ true → sum_by text_bytes prims ≤ 134_217_728
few_texts prims requests [] some follow = absurd (omega arith)
few_texts prims requests (b ∷ more) some follow =
    let w = within prims requests b.prims (may_parts prims requests b (follow_parts prims requests b more follow).0).1 in
    omega (arith, w.short)

-- As a group they may be written.
pub may_write : (bs more : List Batch) → MayAppend bs more → MayWrite more
may_write bs more may = record { some = may.some; few = may.few; each = each_batch_may (prims_of bs) (length bs) more may.follow may.early }

-- The group has at most as many bytes as a payload may have.
pub group_short : (bs more : List Batch) → MayAppend bs more → length (spelling more) ≤ 268_435_456
group_short bs more may =
    let two : length (to_be_bytes w16 (length more)) ≡ 2 = refl in
    let all = all_batches_short (prims_of bs) (length bs) more may.follow (few_texts (prims_of bs) (length bs) more may.some may.follow) in
    omega (arith, all, may.few, two, length-append (to_be_bytes w16 (length more)) (flat_map batch_bytes more))
