-- The primitives of a list of batches and of its front.
use Rattle.std.proofs.Common.{◌≡◌, ℕ, List, ◌++◌, length, take, drop, refl, sym, ap, ◌∙◌, append_assoc, length-append, subst, ◌+◌, ◌≤◌, arith}
use Rattle.std.specs.Prelude.{flat_map}
use Rattle.std.proofs.lemmas.List.{take-append-drop}
use Rattle.std.proofs.lemmas.Grind.{flat_map-append}
use Rattle.std.proofs.Math.Seq.{take-append_seam}
use Rattle.gd_prim.specs.declared.Batch.{Batch}
use Rattle.gd_prim.specs.Builtin.{builtin}
use Rattle.gd_prim.specs.History.{prims_of, prims_at}

-- more batches bring their primitives behind
pub prims_of-append : (bs cs : List Batch) → prims_of (bs ++ cs) ≡ prims_of bs ++ flat_map (λ b. b.prims) cs
unfolding prims_of
prims_of-append bs cs =
    ap (λ more. builtin ++ more) (flat_map-append (λ (b : Batch). b.prims) bs cs) ∙ sym (append_assoc builtin (flat_map (λ b. b.prims) bs) (flat_map (λ b. b.prims) cs))

-- the primitives of the first n are a front of all
pub front_of_all : (bs : List Batch) (n : ℕ) → take (length (prims_at bs n)) (prims_of bs) ≡ prims_at bs n
front_of_all bs n =
    ap (λ cs. take (length (prims_at bs n)) (prims_of cs)) (sym (take-append-drop n bs))
    ∙ ap (take (length (prims_at bs n))) (prims_of-append (take n bs) (drop n bs))
    ∙ take-append_seam (prims_at bs n) (flat_map (λ b. b.prims) (drop n bs))

-- so there are no more of them
pub front_le_all : (bs : List Batch) (n : ℕ) → length (prims_at bs n) ≤ length (prims_of bs)
front_le_all bs n =
    let split : length (prims_of bs) ≡ length (prims_at bs n) + length (flat_map (λ (b : Batch). b.prims) (drop n bs)) =
    ap (λ cs. length (prims_of cs)) (sym (take-append-drop n bs)) ∙ ap length (prims_of-append (take n bs) (drop n bs)) ∙ length-append (prims_at bs n) (flat_map (λ b. b.prims) (drop n bs)) in
    omega arith

-- before the first request there are the built-in ones
pub seventy : (bs : List Batch) → length (prims_at bs 0) ≡ 70
unfolding prims_of
seventy bs = refl

-- so there are always so many
pub past_seventy : (bs : List Batch) → 70 ≤ length (prims_of bs)
past_seventy bs = subst (λ n. n ≤ length (prims_of bs)) (seventy bs) (front_le_all bs 0)
