-- Batches behind the batches of a history.
use Rattle.std.proofs.Common.{◌≡◌, ℕ, ◌+◌, List, [], ◌∷◌, ◌++◌, length, Bool, true, ◌&&◌, flat_map, sym, ◌∙◌, ap, append_assoc, length-append, arith}
use Rattle.std.proofs.lemmas.List.{append-nil}
use Rattle.std.proofs.lemmas.Grind.{flat_map-append}
use Rattle.gd_prim.specs.declared.Primitive.{Primitive}
use Rattle.gd_prim.specs.declared.Batch.{Batch}
use Rattle.gd_prim.specs.Builtin.{builtin}
use Rattle.gd_prim.specs.History.{prims_of}
use Rattle.gd_prim.specs.WellFormed.{may_follow, all_follow}

-- one batch more brings its primitives behind the others
pub prims_more : (bs : List Batch) (b : Batch) → prims_of (bs ++ b ∷ []) ≡ prims_of bs ++ b.prims
unfolding prims_of
prims_more bs b =
    ap (λ (l : List Primitive). builtin ++ l) (flat_map-append (λ (c : Batch). c.prims) bs (b ∷ []) ∙ ap (λ (l : List Primitive). flat_map (λ (c : Batch). c.prims) bs ++ l) (append-nil b.prims))
    ∙ sym (append_assoc builtin (flat_map (λ (c : Batch). c.prims) bs) b.prims)

-- behind a batch that may follow the others follow as if it were of the history
pub follow_more : (bs : List Batch) (b : Batch) (rest : List Batch) → may_follow (prims_of bs) (length bs) b ≡ true → all_follow (prims_of bs) (length bs) (b ∷ rest) ≡ all_follow (prims_of (bs ++ b ∷ [])) (length (bs ++ b ∷ [])) rest
follow_more bs b rest may =
    let count : length bs + 1 ≡ length (bs ++ b ∷ []) = omega (arith, length-append bs (b ∷ [])) in
    ap (λ (t : Bool). t && all_follow (prims_of bs ++ b.prims) (length bs + 1) rest) may
    ∙ ap (λ (l : List Primitive). all_follow l (length bs + 1) rest) (sym (prims_more bs b))
    ∙ ap (λ (n : ℕ). all_follow (prims_of (bs ++ b ∷ [])) n rest) count
