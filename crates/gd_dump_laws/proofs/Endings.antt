-- A text has one ending for a list, and makes one list of it.
use Rattle.std.proofs.Common.{◌≡◌, ◌⊎◌, inl, inr, ⊎_elim, ◌∙◌, refl, sym, ap, subst, ℕ, zero, suc, ◌+◌, ◌<◌, ◌≤◌, true, false, List, [], ◌∷◌, ◌++◌, length, flat_map, Option, Some, None, arith, append_assoc, append-nil, add-zero, length-append}
use Rattle.std.proofs.lemmas.Bool.{and_parts}
use Rattle.gd_prim.specs.declared.Primitive.{Primitive}
use Rattle.gd_prim.specs.declared.Batch.{Batch}
use Rattle.gd_prim.specs.History.{prims_of}
use Rattle.gd_prim.specs.WellFormed.{may_follow, all_follow}
use Rattle.gd_dump_laws.specs.Dump.{BatchFits, batch_text, dump_head, dump_end, IsDump, IsBadDumpAt, Whole}
use Rattle.gd_dump_laws.specs.Restoring.{in_groups, BeginsWith, Follow, Ending, whole, bad, starts_elsewhere, unfit, IsNoOther, EndsWhole, EndsBad, StartsElsewhere, EndsUnfit, Restores}
use Rattle.gd_dump_laws.proofs.Batches.{Sound-batch, items_front}
use Rattle.gd_dump_laws.proofs.Follows.{heads_same, no_batch}
use Rattle.gd_dump_laws.proofs.Texts.{one_dump, one_whole}
use Rattle.gd_dump_laws.proofs.Groups.{begins_front, one_first, whole_begins, prims_joined}

less_or : (a b : ℕ) → (a < b) ⊎ ((a ≡ b) ⊎ (b < a))
less_or zero zero = inr (inl refl)
less_or zero (suc b) = inl (omega arith)
less_or (suc a) zero = inr (inr (omega arith))
less_or (suc a) (suc b) = ⊎_elim (λ less. inl (omega (arith, less))) (λ rest. inr (⊎_elim (λ same. inl (ap suc same)) (λ more. inr (omega (arith, more))) rest)) (less_or a b)

-- ---- the beginnings of one text

tails : (text : List ℕ) (n : ℕ) (xs ys : List Batch) (a : BeginsWith text n xs) (b : BeginsWith text n ys) → flat_map batch_text xs ++ a.rest ≡ flat_map batch_text ys ++ b.rest
tails text n xs ys a b =
    (heads_same n n (flat_map batch_text xs ++ a.rest) (flat_map batch_text ys ++ b.rest) a.small b.small
    (sym (append_assoc (dump_head n) (flat_map batch_text xs) a.rest) ∙ sym a.is ∙ b.is ∙ append_assoc (dump_head n) (flat_map batch_text ys) b.rest)).1

-- the longer one begins with the shorter one
shorter_front : (text : List ℕ) (n : ℕ) (xs ys : List Batch) → BeginsWith text n xs → BeginsWith text n ys → length ys ≤ length xs → (zs : List Batch) × (xs ≡ ys ++ zs)
shorter_front text n xs ys a b le = let (zs, is, rest) = items_front batch_text BatchFits _ Sound-batch.exact ys xs a.rest b.rest a.each b.each (inl le) (tails text n xs ys a b) in (zs, is)

-- all batches that are whole begin with each beginning
whole_front : (text : List ℕ) (n : ℕ) (xs ys : List Batch) → Whole text (Some n) xs → BeginsWith text n ys → (zs : List Batch) × (xs ≡ ys ++ zs)
whole_front text n xs ys (small, each, (rest, is, none)) b =
    let a : BeginsWith text n xs = record { small = small; each = each; rest = rest; is = is } in
    let (zs, same, more) = items_front batch_text BatchFits _ Sound-batch.exact ys xs rest b.rest each b.each (inr none) (tails text n xs ys a b) in
    (zs, same)

dump_begins : (text : List ℕ) (n : ℕ) (xs : List Batch) → IsDump text n xs → BeginsWith text n xs
dump_begins text n xs (fits, is) = record { small = fits.first; each = fits.each; rest = dump_end (length xs); is = is }

-- and so do all batches of a dump
dump_front : (text : List ℕ) (n : ℕ) (xs ys : List Batch) → IsDump text n xs → BeginsWith text n ys → (zs : List Batch) × (xs ≡ ys ++ zs)
dump_front text n xs ys (fits, is) b =
    let a : BeginsWith text n xs = record { small = fits.first; each = fits.each; rest = dump_end (length xs); is = is } in
    let (zs, same, more) = items_front batch_text BatchFits _ Sound-batch.exact ys xs (dump_end (length xs)) b.rest fits.each b.each (inr (no_batch (length xs))) (tails text n xs ys a b) in
    (zs, same)

-- ---- batches that follow, and one that may not

rest_follows : (prims : List Primitive) (requests : ℕ) (xs ys : List Batch) → all_follow prims requests (xs ++ ys) ≡ true → all_follow (prims ++ flat_map (λ c. c.prims) xs) (requests + length xs) ys ≡ true
rest_follows prims requests [] ys follow = ap (λ (l : List Primitive). all_follow l (requests + 0) ys) (append-nil prims) ∙ ap (λ (n : ℕ). all_follow prims n ys) (add-zero requests) ∙ follow
rest_follows prims requests (x ∷ xs) ys follow =
    let (first, rest) = and_parts (may_follow prims requests x) (all_follow (prims ++ x.prims) (requests + 1) (xs ++ ys)) follow in
    let count : requests + length (x ∷ xs) ≡ requests + 1 + length xs = omega arith in
    ap (λ (l : List Primitive). all_follow l (requests + length (x ∷ xs)) ys) (sym (append_assoc prims x.prims (flat_map (λ c. c.prims) xs)))
    ∙ ap (λ (n : ℕ). all_follow ((prims ++ x.prims) ++ flat_map (λ c. c.prims) xs) n ys) count ∙ rest_follows (prims ++ x.prims) (requests + 1) xs ys rest

no_unfit : (list good zs : List Batch) (b : Batch) → Follow list ((good ++ b ∷ []) ++ zs) → may_follow (prims_of (list ++ good)) (length list + length good) b ≡ false → ⊥
no_unfit list good zs b follow refused =
    let all : all_follow (prims_of list) (length list) (good ++ b ∷ zs) ≡ true = ap (λ (l : List Batch). all_follow (prims_of list) (length list) l) (sym (append_assoc good (b ∷ []) zs)) ∙ follow in
    let there = rest_follows (prims_of list) (length list) good (b ∷ zs) all in
    let (first, rest) = and_parts (may_follow (prims_of list ++ flat_map (λ c. c.prims) good) (length list + length good) b) _ there in
    let may : may_follow (prims_of (list ++ good)) (length list + length good) b ≡ true = ap (λ (l : List Primitive). may_follow l (length list + length good) b) (prims_joined list good) ∙ first in
    cc

-- ---- two endings

whole_bad : (list : List Batch) (text : List ℕ) (n : ℕ) (a c : List Batch) → EndsWhole list text a → EndsBad list text n c → ⊥
whole_bad list text n a c w b = b.bad.none (record { first = length list; batches = w.batches }, w.dump)

whole_starts : (list : List Batch) (text : List ℕ) (asked have : ℕ) (a c : List Batch) → EndsWhole list text a → StartsElsewhere list text asked have c → ⊥
whole_starts list text asked have a c w s = s.other (one_first text asked (length list) [] w.batches s.begins (dump_begins text (length list) w.batches w.dump) ∙ sym s.count)

whole_unfit : (list : List Batch) (text : List ℕ) (k : ℕ) (a c : List Batch) → EndsWhole list text a → EndsUnfit list text k c → ⊥
whole_unfit list text k a c w u =
    let (zs, is) = dump_front text (length list) w.batches (u.batches ++ u.batch ∷ []) w.dump u.begins in
    no_unfit list u.batches zs u.batch (subst (Follow list) is w.follow) u.unfit

-- the first number of a text that begins, as it was checked
whole_number : (list : List Batch) (text : List ℕ) (n : ℕ) (xs ys : List Batch) (first : Option ℕ) → Whole text first xs → IsNoOther first (length list) → BeginsWith text n ys → (n ≡ length list) × Whole text (Some (length list)) xs
whole_number list text n xs ys None (none, no_head) same b = absurd (no_head n (flat_map batch_text ys ++ b.rest) b.small (b.is ∙ append_assoc (dump_head n) (flat_map batch_text ys) b.rest))
whole_number list text n xs ys (Some first) w same b = (one_first text n first ys xs b (whole_begins text first xs w) ∙ same, subst (λ (k : ℕ). Whole text (Some k) xs) same w)

bad_starts : (list : List Batch) (text : List ℕ) (n asked have : ℕ) (a c : List Batch) → EndsBad list text n a → StartsElsewhere list text asked have c → ⊥
bad_starts list text n asked have a c b s = s.other ((whole_number list text asked b.batches [] b.first b.whole b.same s.begins).0 ∙ sym s.count)

bad_unfit : (list : List Batch) (text : List ℕ) (n k : ℕ) (a c : List Batch) → EndsBad list text n a → EndsUnfit list text k c → ⊥
bad_unfit list text n k a c b u =
    let (same, w) = whole_number list text (length list) b.batches (u.batches ++ u.batch ∷ []) b.first b.whole b.same u.begins in
    let (zs, is) = whole_front text (length list) b.batches (u.batches ++ u.batch ∷ []) w u.begins in
    no_unfit list u.batches zs u.batch (subst (Follow list) is b.follow) u.unfit

starts_unfit : (list : List Batch) (text : List ℕ) (asked have k : ℕ) (a c : List Batch) → StartsElsewhere list text asked have a → EndsUnfit list text k c → ⊥
starts_unfit list text asked have k a c s u = s.other (one_first text asked (length list) [] (u.batches ++ u.batch ∷ []) s.begins u.begins ∙ sym s.count)

one_fault : (text : List ℕ) (m n : ℕ) → IsBadDumpAt text m → IsBadDumpAt text n → m ≡ n
one_fault text m n a b = ⊎_elim (λ less. absurd (a.longest n less b.within b.begins)) (λ rest. ⊎_elim (λ same. same) (λ more. absurd (b.longest m more a.within a.begins)) rest) (less_or m n)

-- of two batches that may not follow neither stands before the other
unfit_before : (list : List Batch) (text : List ℕ) (j k : ℕ) (a c : List Batch) (u : EndsUnfit list text j a) (v : EndsUnfit list text k c) → length u.batches < length v.batches → ⊥
unfit_before list text j k a c u v less =
    let front = begins_front text (length list) v.batches (v.batch ∷ []) v.begins in
    let (zs, is) = shorter_front text (length list) v.batches (u.batches ++ u.batch ∷ []) front u.begins (omega (arith, less, length-append u.batches (u.batch ∷ []))) in
    no_unfit list u.batches zs u.batch (subst (Follow list) is v.follow) u.unfit

none_more : (xs ys zs : List Batch) → xs ≡ ys ++ zs → length ys ≡ length xs → xs ≡ ys
none_more xs ys [] is long = is ∙ append-nil ys
none_more xs ys (z ∷ zs) is long = absurd (omega (arith, long, ap length is, length-append ys (z ∷ zs)))

unfit_same : (list : List Batch) (text : List ℕ) (j k : ℕ) (a c : List Batch) (u : EndsUnfit list text j a) (v : EndsUnfit list text k c) → u.batches ≡ v.batches
unfit_same list text j k a c u v =
    ⊎_elim (λ less. absurd (unfit_before list text j k a c u v less)) (λ rest. ⊎_elim same (λ more. absurd (unfit_before list text k j c a v u more)) rest) (less_or (length u.batches) (length v.batches))
  where
    same : length u.batches ≡ length v.batches → u.batches ≡ v.batches
    same long =
        let (zs, is) = shorter_front text (length list) v.batches u.batches (begins_front text (length list) v.batches (v.batch ∷ []) v.begins) (begins_front text (length list) u.batches (u.batch ∷ []) u.begins) (omega (arith, long)) in
        sym (none_more v.batches u.batches zs is long)

-- ---- each text has one at most

pub one_ending : (list : List Batch) (text : List ℕ) (e f : Ending) (a c : List Batch) → Restores list text e a → Restores list text f c → (e ≡ f) × (a ≡ c)
one_ending list text whole whole a c v w = (refl, v.is ∙ ap (λ (l : List Batch). list ++ l) (one_dump text (length list) (length list) v.batches w.batches v.dump w.dump).1 ∙ sym w.is)
one_ending list text whole (bad n) a c v w = absurd (whole_bad list text n a c v w)
one_ending list text whole (starts_elsewhere asked have) a c v w = absurd (whole_starts list text asked have a c v w)
one_ending list text whole (unfit k) a c v w = absurd (whole_unfit list text k a c v w)
one_ending list text (bad n) whole a c v w = absurd (whole_bad list text n c a w v)
one_ending list text (bad m) (bad n) a c v w =
    (ap bad (one_fault text m n v.bad w.bad), v.is ∙ ap (λ (l : List Batch). list ++ in_groups [] l) (one_whole text v.first w.first v.batches w.batches v.whole w.whole).1 ∙ sym w.is)
one_ending list text (bad n) (starts_elsewhere asked have) a c v w = absurd (bad_starts list text n asked have a c v w)
one_ending list text (bad n) (unfit k) a c v w = absurd (bad_unfit list text n k a c v w)
one_ending list text (starts_elsewhere asked have) whole a c v w = absurd (whole_starts list text asked have c a w v)
one_ending list text (starts_elsewhere asked have) (bad n) a c v w = absurd (bad_starts list text n asked have c a w v)
one_ending list text (starts_elsewhere asked have) (starts_elsewhere other there) a c v w =
    let first = one_first text asked other [] [] v.begins w.begins in
    let count = v.count ∙ sym w.count in
    (λ i. starts_elsewhere (first i) (count i), v.is ∙ sym w.is)
one_ending list text (starts_elsewhere asked have) (unfit k) a c v w = absurd (starts_unfit list text asked have k a c v w)
one_ending list text (unfit k) whole a c v w = absurd (whole_unfit list text k c a w v)
one_ending list text (unfit k) (bad n) a c v w = absurd (bad_unfit list text n k c a w v)
one_ending list text (unfit k) (starts_elsewhere asked have) a c v w = absurd (starts_unfit list text asked have k c a w v)
one_ending list text (unfit j) (unfit k) a c v w =
    let same = unfit_same list text j k a c v w in
    (ap unfit (v.place ∙ ap (λ (l : List Batch). length list + length l) same ∙ sym w.place), v.is ∙ ap (λ (l : List Batch). list ++ in_groups [] l) same ∙ sym w.is)
