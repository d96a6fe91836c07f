-- What the fields of a store say of its batches.
use Rattle.std.proofs.Common.{◌≡◌, ℕ, ◌+◌, ◌-◌, ◌<◌, ◌≤◌, get_or, List, [], ◌∷◌, ◌++◌, length, take, drop, refl, sym, ap, ◌∙◌, length-append, subst, arith}
use Rattle.std.specs.Prelude.{flat_map, true, None, Some, sum_by, not, is_some, option_map, slice_get}
use Rattle.std.proofs.lemmas.List.{take-append-le, take-take, length-take-le}
use Rattle.std.proofs.lemmas.List.Sums.{sum_by-append, sum_by-take-drop}
use Rattle.gd_prim.specs.declared.Primitive.{Primitive}
use Rattle.gd_prim.specs.declared.Batch.{Batch}
use Rattle.gd_prim.specs.Builtin.{builtin}
use Rattle.gd_prim.specs.History.{prims_of, prims_at, is_history}
use Rattle.gd_prim.specs.Limits.{text_bytes, limits, first_full}
use Rattle.gd_prim.specs.WellFormed.{bad_place, all_follow}
use Rattle.gd_store.specs.declared.store.Request.{Request}
use Rattle.gd_store.specs.Stored.{cut, Rises, batches, end_after, IsStored}
use Rattle.gd_store.proofs.Cut.{cut_whole, front_whole, length_cut, rises_le, rises_more, rises_front, end_after_le, end_after_next, nth_batch, cut_more, cut-take, last_batch}
use Rattle.gd_store.specs.Indexed.{may_enter}
use Rattle.gd_store.proofs.History.{front_of_all}
use Rattle.gd_store.proofs.Follows.{Room, room, both, follows_more, follows_take, small_batch, good_enters}

-- the primitives of batches, opened
prims_of-is : (bs : List Batch) → prims_of bs ≡ builtin ++ flat_map (λ b. b.prims) bs
unfolding prims_of
prims_of-is bs = refl

-- there is a batch for each request
pub count_of_batches : (prims : List Primitive) (requests : List Request) → length (batches prims requests) ≡ length requests
count_of_batches prims requests = length_cut 70 prims requests

-- the list is that of its batches
pub all_of_batches : (prims : List Primitive) (requests : List Request) (text : ℕ) → IsStored prims requests text → prims_of (batches prims requests) ≡ prims
unfolding prims_of
all_of_batches prims requests text stored =
    ap (λ front. front ++ flat_map (λ b. b.prims) (cut 70 prims requests)) (sym stored.begins) ∙ cut_whole 70 prims requests stored.whole

-- its front of the first requests
pub front_at : (prims : List Primitive) (requests : List Request) (text : ℕ) (bs : List Batch) (end n : ℕ) → IsStored prims requests text → batches prims requests ≡ bs
    → end ≡ length (prims_at bs n) → take end prims ≡ prims_at bs n
front_at prims requests text bs end n stored view is =
    ap (λ k. take k prims) is ∙ ap (take (length (prims_at bs n))) (sym (all_of_batches prims requests text stored) ∙ ap prims_of view) ∙ front_of_all bs n

pub front_is : (prims : List Primitive) (requests : List Request) (text : ℕ) (bs : List Batch) (n : ℕ) → IsStored prims requests text → batches prims requests ≡ bs
    → take (length (prims_at bs n)) prims ≡ prims_at bs n
front_is prims requests text bs n stored view = front_at prims requests text bs (length (prims_at bs n)) n stored view refl

-- a batch that is well formed and passes no limit may be entered behind it
pub batch_fits : (prims more : List Primitive) (requests : List Request) (text : ℕ) (bs : List Batch) (b : Batch) → IsStored prims requests text → batches prims requests ≡ bs
    → more ≡ b.prims → first_full (limits (prims_of bs) (length bs) b.prims) ≡ None → length prims + length more ≤ 2_097_151
batch_fits prims more requests text bs b stored view same fits =
    let whole : prims_of bs ≡ prims = ap prims_of (sym view) ∙ all_of_batches prims requests text stored in
    let space : length (prims_of bs) + length b.prims ≤ 2_097_151 = (room (prims_of bs) (length bs) b.prims fits).prims_fit in
    omega (arith, space, ap length whole, ap length same)

pub batch_enters : (prims more : List Primitive) (requests : List Request) (text : ℕ) (bs : List Batch) (b : Batch) → IsStored prims requests text → batches prims requests ≡ bs
    → more ≡ b.prims → bad_place (prims_of bs) b ≡ None → may_enter prims more ≡ true
batch_enters prims more requests text bs b stored view same good =
    ap (may_enter prims) same ∙ ap (λ ps. may_enter ps b.prims) (sym (all_of_batches prims requests text stored) ∙ ap prims_of view)
    ∙ good_enters (prims_of bs) b.moment 0 b.prims good

-- and they may follow one another
pub history_of_batches : (prims : List Primitive) (requests : List Request) (text : ℕ) → IsStored prims requests text → is_history (batches prims requests) ≡ true
unfolding is_history
history_of_batches prims requests text stored = stored.follows

-- its front is that of the first ones
pub front_of_batches : (prims : List Primitive) (requests : List Request) (text n : ℕ) → IsStored prims requests text
    → prims_at (batches prims requests) n ≡ take (end_after 70 requests n) prims
unfolding prims_of
front_of_batches prims requests text n stored =
    ap (λ front. front ++ flat_map (λ b. b.prims) (take n (cut 70 prims requests))) (sym stored.begins) ∙ front_whole 70 prims requests (length prims) n stored.whole

-- which ends where the requests do
pub length_front : (prims : List Primitive) (requests : List Request) (text n : ℕ) → IsStored prims requests text
    → length (prims_at (batches prims requests) n) ≡ end_after 70 requests n
length_front prims requests text n stored =
    ap length (front_of_batches prims requests text n stored)
    ∙ length-take-le (end_after 70 requests n) prims (end_after_le 70 requests (length prims) n stored.whole).1

-- a request says where its batch ends, and of which moment it is
pub request_ends : (prims : List Primitive) (requests : List Request) (text n : ℕ) (r : Request) → IsStored prims requests text → n < length requests → r ≡ get_or requests n r
    → r.end ≡ length (prims_at (batches prims requests) (n + 1))
request_ends prims requests text n r stored below is =
    ap (λ (q : Request). q.end) is ∙ sym (end_after_next 70 requests n r below) ∙ sym (length_front prims requests text (n + 1) stored)

pub request_moment : (prims : List Primitive) (requests : List Request) (n : ℕ) (r : Request) → n < length requests → r ≡ get_or requests n r
    → option_map (λ b. b.moment) (slice_get (batches prims requests) n) ≡ Some r.moment
request_moment prims requests n r below is =
    ap (option_map (λ (b : Batch). b.moment)) (nth_batch 70 prims requests n r below) ∙ ap (λ (q : Request). Some q.moment) (sym is)

-- the built-in primitives are in the list
past_builtin : (prims : List Primitive) (requests : List Request) (text : ℕ) → IsStored prims requests text → 70 ≤ length prims
past_builtin prims requests text stored = rises_le 70 requests (length prims) stored.whole

-- one request more
pub stored_more : (prims more : List Primitive) (requests : List Request) (r : Request) (text bytes : ℕ) → IsStored prims requests text
    → r.end ≡ length prims + length more → bytes ≡ sum_by text_bytes more
    → bad_place (prims_of (batches prims requests)) (record { moment = r.moment; prims = more }) ≡ None
    → first_full (limits (prims_of (batches prims requests)) (length (batches prims requests)) more) ≡ None
    → IsStored (prims ++ more) (requests ++ r ∷ []) (text + bytes)
stored_more prims more requests r text bytes stored end is_bytes good fits = record {
  begins = take-append-le 70 prims more (past_builtin prims requests text stored) ∙ stored.begins;
  whole = rw (length-append prims more, ← end) (rises_more 70 requests (length prims) r stored.whole (omega arith));
  follows = ap (all_follow builtin 0) (cut_more 70 prims more requests r stored.whole end)
      ∙ follows_more builtin (prims_of (batches prims requests)) (length (batches prims requests)) (batches prims requests) batch (prims_of-is (batches prims requests)) refl stored.follows
      (both _ _ (ap (λ o. not (is_some o)) good) (ap (λ o. not (is_some o)) fits));
  counted = omega (arith, stored.counted, is_bytes, sum_by-append text_bytes prims more);
  few_prims = omega (arith, space.prims_fit, length-append prims more);
  few_requests = omega (arith, space.requests, length-append requests (r ∷ []));
  little_text = omega (arith, space.text, stored.counted, is_bytes);
}
  where
    batch : Batch
    batch = record { moment = r.moment; prims = more }

    space : Room prims (length requests) more
    space = room prims (length requests) more
        (ap (λ ps. first_full (limits ps (length requests) more)) (sym (all_of_batches prims requests text stored))
        ∙ ap (λ n. first_full (limits (prims_of (batches prims requests)) n more)) (sym (count_of_batches prims requests)) ∙ fits)

-- so many requests of it
pub stored_front : (prims : List Primitive) (requests : List Request) (text n rest : ℕ) → IsStored prims requests text → n ≤ length requests
    → rest + sum_by text_bytes (drop (end_after 70 requests n) prims) ≡ text
    → IsStored (take (end_after 70 requests n) prims) (take n requests) rest
stored_front prims requests text n rest stored within is =
    let end : ℕ = end_after 70 requests n in
    let inside : (70 ≤ end) × (end ≤ length prims) = end_after_le 70 requests (length prims) n stored.whole in
    let count : length (take end prims) ≡ end = length-take-le end prims inside.1 in
    record {
      begins = take-take 70 end prims inside.0 ∙ stored.begins;
      whole = subst (λ last. Rises 70 (take n requests) last) (sym count) (rises_front 70 requests (length prims) n stored.whole);
      follows = ap (all_follow builtin 0) (cut-take 70 prims requests (length prims) n stored.whole) ∙ follows_take builtin 0 (batches prims requests) n stored.follows;
      counted = omega (arith, is, stored.counted, sum_by-take-drop text_bytes prims end);
      few_prims = omega (arith, count, inside.1, stored.few_prims);
      few_requests = omega (arith, length-take-le n requests within, stored.few_requests);
      little_text = omega (arith, is, stored.little_text);
    }

-- where the requests but the last end
pub record LastPart (prims : List Primitive) (requests : List Request) (text end : ℕ) : Type 0 where
  pub within : end ≤ length prims
  pub small : length (drop end prims) ≤ 4_096
  pub counted : sum_by text_bytes (drop end prims) ≤ text
  pub stored : IsStored (take end prims) (take (length requests - 1) requests) (text - sum_by text_bytes (drop end prims))
  pub front : batches (take end prims) (take (length requests - 1) requests) ≡ take (length (batches prims requests) - 1) (batches prims requests)

pub last_part : (prims : List Primitive) (requests : List Request) (text end : ℕ) → IsStored prims requests text → 0 < length requests
    → end ≡ end_after 70 requests (length requests - 1) → LastPart prims requests text end
last_part prims requests text end stored some is =
    let n : ℕ = length requests - 1 in
    let bound : (70 ≤ end_after 70 requests n) × (end_after 70 requests n ≤ length prims) = end_after_le 70 requests (length prims) n stored.whole in
    let counted : sum_by text_bytes (drop end prims) ≤ text = omega (arith, stored.counted, sum_by-take-drop text_bytes prims end) in
    record {
      within = omega (arith, bound.1, is);
      small = subst (λ e. length (drop e prims) ≤ 4_096) (sym is) (small_batch builtin 0 (batches prims requests) n _ stored.follows
          (last_batch 70 prims requests n (record { end = 0; moment = 0 }) stored.whole (omega arith)));
      counted = counted;
      stored = subst (λ e. IsStored (take e prims) (take n requests) (text - sum_by text_bytes (drop end prims))) (sym is)
          (stored_front prims requests text n (text - sum_by text_bytes (drop end prims)) stored (omega arith)
          (ap (λ e. text - sum_by text_bytes (drop end prims) + sum_by text_bytes (drop e prims)) (sym is) ∙ omega arith));
      front = ap (λ e. batches (take e prims) (take n requests)) is ∙ cut-take 70 prims requests (length prims) n stored.whole
          ∙ ap (λ k. take (k - 1) (batches prims requests)) (sym (count_of_batches prims requests));
    }

-- the same of equal fields
pub stored_same : (prims ps : List Primitive) (requests rs : List Request) (text t : ℕ) → IsStored prims requests text → ps ≡ prims → rs ≡ requests → t ≡ text → IsStored ps rs t
stored_same prims ps requests rs text t stored same_prims same_requests same_text =
    subst (λ k. IsStored ps rs k) (sym same_text) (subst (λ qs. IsStored ps qs text) (sym same_requests) (subst (λ xs. IsStored xs requests text) (sym same_prims) stored))

pub batches_same : (prims ps : List Primitive) (requests rs : List Request) → ps ≡ prims → rs ≡ requests → batches ps rs ≡ batches prims requests
batches_same prims ps requests rs same_prims same_requests = ap (λ xs. batches xs rs) same_prims ∙ ap (λ qs. batches prims qs) same_requests
