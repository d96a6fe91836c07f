-- Batches that may follow one another.
use Rattle.std.proofs.Common.{◌≡◌, ℕ, zero, suc, ◌+◌, List, [], ◌∷◌, ◌++◌, length, take, refl, sym, ap, ◌∙◌, append_assoc, subst, arith}
use Rattle.std.specs.Prelude.{Bool, true, false, ◌&&◌, flat_map, Option, Some, None, if◌then◌else◌, nat_lt, sum_by, ◌≤◌, not, is_some, slice_get}
use Rattle.std.proofs.lemmas.Bool.{ltb-false}
use Rattle.gd_prim.specs.declared.What.{What}
use Rattle.gd_prim.specs.declared.What.TheVariants as what
use Rattle.gd_prim.specs.Limits.{Count, limits, first_full, text_bytes, max_batch, max_prims, max_text, max_requests}
use Rattle.std.proofs.lemmas.List.{append-nil}
use Rattle.gd_prim.specs.declared.Primitive.{Primitive}
use Rattle.gd_prim.specs.declared.Batch.{Batch}
use Rattle.gd_prim.specs.WellFormed.{may_follow, all_follow, first_bad, is_well_placed, refers_back, refers_below}
use Rattle.gd_store.specs.Indexed.{may_enter}

-- both of two tests
pub both : (a b : Bool) → a ≡ true → b ≡ true → (a && b) ≡ true
both true b ha hb = hb
both false b ha hb = ha

-- the first of two tests
pub first : (a b : Bool) → (a && b) ≡ true → a ≡ true
first true b h = refl
first false b h = h

-- the second
pub second : (a b : Bool) → (a && b) ≡ true → b ≡ true
second true b h = h
second false b h = cc

-- one more that may follow
follows_snoc : (prims before : List Primitive) (n m : ℕ) (bs : List Batch) (b : Batch) → before ≡ prims ++ flat_map (λ b. b.prims) bs → m ≡ n + length bs
    → all_follow prims n bs ≡ true → may_follow before m b ≡ true → all_follow prims n (bs ++ b ∷ []) ≡ true
follows_snoc prims before n m [] b is_before is h may =
    let same : prims ≡ before = sym (is_before ∙ append-nil prims) in
    let number : n ≡ m = omega arith in
    both _ _ (ap (λ ps. may_follow ps n b) same ∙ ap (λ k. may_follow before k b) number ∙ may) refl
follows_snoc prims before n m (c ∷ bs) b is_before is h may =
    both _ _ (first _ _ h) (follows_snoc (prims ++ c.prims) before (n + 1) m bs b
    (is_before ∙ sym (append_assoc prims c.prims (flat_map (λ b. b.prims) bs))) (omega arith) (second _ _ h) may)

pub follows_more : (prims before : List Primitive) (m : ℕ) (bs : List Batch) (b : Batch) → before ≡ prims ++ flat_map (λ b. b.prims) bs → m ≡ length bs
    → all_follow prims 0 bs ≡ true → may_follow before m b ≡ true → all_follow prims 0 (bs ++ b ∷ []) ≡ true
follows_more prims before m bs b is_before is h may = follows_snoc prims before 0 m bs b is_before (omega arith) h may

-- the first ones follow
pub follows_take : (prims : List Primitive) (n : ℕ) (bs : List Batch) (k : ℕ) → all_follow prims n bs ≡ true → all_follow prims n (take k bs) ≡ true
follows_take prims n bs zero h = refl
follows_take prims n [] (suc k) h = refl
follows_take prims n (b ∷ bs) (suc k) h = both _ _ (first _ _ h) (follows_take (prims ++ b.prims) (n + 1) bs k (second _ _ h))

-- a batch that passes no limit leaves room
pub record Room (prims : List Primitive) (count : ℕ) (more : List Primitive) : Type 0 where
  pub batch : length more ≤ max_batch
  pub prims_fit : length prims + length more ≤ max_prims
  pub text : sum_by text_bytes prims + sum_by text_bytes more ≤ max_text
  pub requests : count + 1 ≤ max_requests

-- the test failed, and what comes behind it gives nothing
none_of : {A : Type 0} (b : Bool) (x : A) (o : Option A) → (if b then Some x else o) ≡ None → (b ≡ false) × (o ≡ None)
none_of true x o h = cc
none_of false x o h = (refl, h)

-- the first limit is not passed, nor one of the others
not_full : (what : What) (reached limit : ℕ) (ls : List Count) → first_full ((what, reached, limit) ∷ ls) ≡ None → (reached ≤ limit) × (first_full ls ≡ None)
not_full what reached limit ls h =
    let parts : (nat_lt limit reached ≡ false) × (first_full ls ≡ None) = none_of (nat_lt limit reached) (what, reached) (first_full ls) h in
    (ltb-false limit reached parts.0, parts.1)

pub room : (prims : List Primitive) (count : ℕ) (more : List Primitive) → first_full (limits prims count more) ≡ None → Room prims count more
room prims count more h =
    let count_left : List Count = (what.Requests, count + 1, max_requests) ∷ [] in
    let text_left : List Count = (what.Text, sum_by text_bytes prims + sum_by text_bytes more, max_text) ∷ count_left in
    let prims_left : List Count = (what.Primitives, length prims + length more, max_prims) ∷ text_left in
    let batch : (length more ≤ max_batch) × (first_full prims_left ≡ None) = not_full what.Batch (length more) max_batch prims_left h in
    let fits : (length prims + length more ≤ max_prims) × (first_full text_left ≡ None) = not_full what.Primitives (length prims + length more) max_prims text_left batch.1 in
    let text : (sum_by text_bytes prims + sum_by text_bytes more ≤ max_text) × (first_full count_left ≡ None) = not_full what.Text (sum_by text_bytes prims + sum_by text_bytes more) max_text count_left fits.1 in
    let requests : (count + 1 ≤ max_requests) × (first_full [] ≡ None) = not_full what.Requests (count + 1) max_requests [] text.1 in
    record { batch = batch.0; prims_fit = fits.0; text = text.0; requests = requests.0 }

-- the test that it is nothing
pub nothing : {A : Type 0} (o : Option A) → not (is_some o) ≡ true → o ≡ None
nothing None h = refl
nothing (Some x) h = cc

-- a batch among those that follow is small
pub small_batch : (prims : List Primitive) (count : ℕ) (bs : List Batch) (n : ℕ) (b : Batch) → all_follow prims count bs ≡ true → slice_get bs n ≡ Some b → length b.prims ≤ max_batch
small_batch prims count [] n b h is = cc
small_batch prims count (c ∷ bs) zero b h is =
    let same : c ≡ b = cc in
    let fits : first_full (limits prims count c.prims) ≡ None = nothing _ (second _ _ (first _ _ h)) in
    subst (λ (x : Batch). length x.prims ≤ max_batch) same (room prims count c.prims fits).batch
small_batch prims count (c ∷ bs) (suc n) b h is = small_batch (prims ++ c.prims) (count + 1) bs n b (second _ _ h) is

-- a test failed on the way
pub not_bad : (b : Bool) (o : Option ℕ) (n : ℕ) → (if b then o else Some n) ≡ None → (b ≡ true) × (o ≡ None)
not_bad true o n h = (refl, h)
not_bad false o n h = cc

-- the fifth of more
fifth : (a b c d e f : Bool) → (a && (b && (c && (d && (e && f))))) ≡ true → e ≡ true
fifth a b c d e f h = first e f (second d (e && f) (second c (d && (e && f)) (second b (c && (d && (e && f))) (second a (b && (c && (d && (e && f)))) h))))

-- the primitives of a well-formed batch may be entered
pub good_enters : (before : List Primitive) (moment i : ℕ) (ps : List Primitive) → first_bad before moment i ps ≡ None → may_enter before ps ≡ true
good_enters before moment i [] good = refl
good_enters before moment i (p ∷ ps) good =
    let parts : (is_well_placed before moment i p ≡ true) × (first_bad (before ++ p ∷ []) moment (i + 1) ps ≡ None) =
    not_bad (is_well_placed before moment i p) (first_bad (before ++ p ∷ []) moment (i + 1) ps) (length before) good in
    let placed : is_well_placed before moment i p ≡ true = parts.0 in
    let room : nat_lt (length before) max_prims ≡ true = second _ _ (first _ _ (first _ _ placed)) in
    let back : refers_back (length before) p ≡ true = first _ _ (first _ _ (first _ _ (first _ _ (first _ _ (first _ _ (first _ _ (first _ _ placed))))))) in
    let below : refers_below (length before) p.previous ≡ true = fifth (refers_below (length before) p.left) (refers_below (length before) p.right) (refers_below (length before) p.typ) (refers_below (length before) p.scope) (refers_below (length before) p.previous) (refers_below (length before) p.lang && true) back in
    both _ _ (both _ _ (both _ _ below (second _ _ placed)) room) (good_enters (before ++ p ∷ []) moment (i + 1) ps parts.1)
