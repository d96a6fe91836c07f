-- Batches that wait to be shown.
use Rattle.std.proofs.Common.{◌≡◌, refl, ℕ, ◌+◌, Bool, true, false, List, [], ◌∷◌, ◌++◌, length, take, Option, None, Some, sym, subst, ap, ◌∙◌, arith, append_assoc, append-nil}
use Rattle.std.specs.Prelude.{◌&&◌, not, flat_map}
use Rattle.std.specs.Option.{is_some}
use Rattle.gd_prim.specs.declared.Primitive.{Primitive}
use Rattle.gd_prim.specs.declared.Batch.{Batch}
use Rattle.gd_prim.specs.Builtin.{builtin}
use Rattle.gd_prim.specs.History.{prims_of, is_history}
use Rattle.gd_prim.specs.WellFormed.{bad_place, may_follow, all_follow}
use Rattle.gd_prim.specs.Limits.{limits, first_full}
use Rattle.gd_shared.specs.Shared.{MayFollow}

both : (a b : Bool) → (a && b) ≡ true → (a ≡ true) × (b ≡ true)
both true true is = (refl, refl)
both true false is = cc
both false b is = cc

none : {X : Type 0} (o : Option X) → not (is_some o) ≡ true → o ≡ None
none None is = refl
none (Some x) is = cc

-- of batches that may follow one another each may follow those before it
follows_at : (prims : List Primitive) (n : ℕ) (xs : List Batch) (b : Batch) (ys : List Batch) → all_follow prims n (xs ++ b ∷ ys) ≡ true → may_follow (prims ++ flat_map (λ (c : Batch). c.prims) xs) (n + length xs) b ≡ true
follows_at prims n [] b ys is =
    subst (λ (ps : List Primitive). may_follow ps (n + 0) b ≡ true) (sym (append-nil prims))
    (subst (λ (m : ℕ). may_follow prims m b ≡ true) (omega arith) (both (may_follow prims n b) (all_follow (prims ++ b.prims) (n + 1) ys) is).0)
follows_at prims n (c ∷ xs) b ys is =
    let rest = (both (may_follow prims n c) (all_follow (prims ++ c.prims) (n + 1) (xs ++ b ∷ ys)) is).1 in
    subst (λ (ps : List Primitive). may_follow ps (n + length (c ∷ xs)) b ≡ true) (append_assoc prims c.prims (flat_map (λ (d : Batch). d.prims) xs))
    (subst (λ (m : ℕ). may_follow ((prims ++ c.prims) ++ flat_map (λ (d : Batch). d.prims) xs) m b ≡ true) (omega arith) (follows_at (prims ++ c.prims) (n + 1) xs b ys rest))

-- the first batch that waits may follow those before it
pub first_follows : (bs : List Batch) (b : Batch) (rest : List Batch) → is_history (bs ++ b ∷ rest) ≡ true → MayFollow bs b
unfolding is_history prims_of
first_follows bs b rest is =
    let prims = builtin ++ flat_map (λ (c : Batch). c.prims) bs in
    let follows : may_follow prims (length bs) b ≡ true = subst (λ (n : ℕ). may_follow prims n b ≡ true) (omega arith) (follows_at builtin 0 bs b rest is) in
    let parts = both (not (is_some (bad_place prims b))) (not (is_some (first_full (limits prims (length bs) b.prims)))) follows in
    record { well_formed = none (bad_place prims b) parts.0; fits = none (first_full (limits prims (length bs) b.prims)) parts.1 }

-- what is shown is a front of all
pub front_of : (shown pending : List Batch) → shown ≡ take (length shown) (shown ++ pending)
front_of [] pending = refl
front_of (b ∷ shown) pending = ap (λ (bs : List Batch). b ∷ bs) (front_of shown pending)

-- the first batch that waits may be appended to a publisher
pub may_hand : (shown pending waiting : List Batch) (b : Batch) (rest : List Batch) → waiting ≡ b ∷ rest → is_history (shown ++ pending ++ waiting) ≡ true → MayFollow (shown ++ pending) b
may_hand shown pending waiting b rest is history = first_follows (shown ++ pending) b rest (subst (λ (bs : List Batch). is_history (shown ++ pending ++ bs) ≡ true) is history)

-- and then the same batches are pending or wait
pub handed : (pending waiting next left : List Batch) (b : Batch) → waiting ≡ b ∷ left → next ≡ pending ++ b ∷ [] → next ++ left ≡ pending ++ waiting
handed pending waiting next left b is now = ap (λ (bs : List Batch). bs ++ left) now ∙ append_assoc pending (b ∷ []) left ∙ ap (λ (bs : List Batch). pending ++ bs) (sym is)
