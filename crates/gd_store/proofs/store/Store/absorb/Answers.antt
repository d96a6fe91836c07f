use Rattle.std.proofs.Common.{◌≡◌, ℕ, ◌+◌, ◌++◌, ◌∷◌, [], List, None, length, sum_by, refl, ap, ◌∙◌, arith}
use Rattle.gd_prim.specs.declared.Primitive.{Primitive}
use Rattle.gd_prim.specs.declared.Batch.{Batch}
use Rattle.gd_prim.specs.History.{prims_of}
use Rattle.gd_prim.specs.Limits.{text_bytes, limits, first_full}
use Rattle.gd_prim.specs.WellFormed.{bad_place}
use Rattle.gd_store.specs.declared.store.Request.{Request}
use Rattle.gd_store.specs.Stored.{batches, IsStored}
use Rattle.gd_store.proofs.Cut.{cut_more}
use Rattle.gd_store.proofs.Stored.{stored_more, stored_same, batches_same, batch_fits, batch_enters}
use Rattle.gd_store.proofs.store.Store.absorb.Goals as goal

-- the fields that the call leaves, by the values of the walk
stored : (prims copied ps : List Primitive) (requests rs : List Request) (text bytes before count : ℕ) (bs : List Batch) (b : Batch) → IsStored prims requests text
    → batches prims requests ≡ bs → bad_place (prims_of bs) b ≡ None → first_full (limits (prims_of bs) (length bs) b.prims) ≡ None
    → copied ≡ b.prims → bytes ≡ sum_by text_bytes copied → before ≡ length prims → count ≡ length copied
    → ps ≡ prims ++ copied → rs ≡ requests ++ record { end = before + count; moment = b.moment } ∷ [] → IsStored ps rs (text + bytes)
stored prims copied ps requests rs text bytes before count bs b kept view good fits same is_bytes is_before is_count new_prims new_requests =
    stored_same _ _ _ _ _ _
    (stored_more prims b.prims requests (record { end = before + count; moment = b.moment }) text bytes kept (omega (arith, ap length same)) (is_bytes ∙ ap (sum_by text_bytes) same)
    (ap (λ cs. bad_place (prims_of cs) b) view ∙ good) (ap (λ cs. first_full (limits (prims_of cs) (length cs) b.prims)) view ∙ fits))
    (new_prims ∙ ap (λ more. prims ++ more) same) new_requests refl

-- and their batches
appended : (prims copied ps : List Primitive) (requests rs : List Request) (text before count : ℕ) (bs : List Batch) (b : Batch) → IsStored prims requests text
    → batches prims requests ≡ bs → copied ≡ b.prims → before ≡ length prims → count ≡ length copied
    → ps ≡ prims ++ copied → rs ≡ requests ++ record { end = before + count; moment = b.moment } ∷ [] → batches ps rs ≡ bs ++ b ∷ []
appended prims copied ps requests rs text before count bs b kept view same is_before is_count new_prims new_requests =
    batches_same _ ps _ rs (new_prims ∙ ap (λ more. prims ++ more) same) new_requests
    ∙ cut_more 70 prims b.prims requests (record { end = before + count; moment = b.moment }) kept.whole (omega (arith, ap length same))
    ∙ ap (λ cs. cs ++ b ∷ []) view

pub append-requires-clause-few : goal.append-requires-clause-few
append-requires-clause-few c =
    batch_fits c.self.inside.prims c.in_ok-more.more c.self.inside.requests.items c.self.inside.text c.args.self.now c.args.batch.now c.self.invariant c.self.view_is c.in_ok-more.ensures c.requires.fits

pub append-requires-clause-entered : goal.append-requires-clause-entered
append-requires-clause-entered c =
    batch_enters c.self.inside.prims c.in_ok-more.more c.self.inside.requests.items c.self.inside.text c.args.self.now c.args.batch.now c.self.invariant c.self.view_is c.in_ok-more.ensures c.requires.well_formed

pub invariant_of-self-2 : goal.invariant_of-self-2
invariant_of-self-2 c =
    stored c.self.inside.prims c.in_ok-more.more _ c.self.inside.requests.items _ c.self.inside.text _ c.len.result c.len-2.result c.args.self.now c.args.batch.now c.self.invariant
    c.self.view_is c.requires.well_formed c.requires.fits c.in_ok-more.ensures (c.batch_text_bytes-bytes.ensures.bytes ∙ ap (sum_by text_bytes) c.as_slice.ensures)
    c.len.ensures c.len-2.ensures c.in_ok-append.ensures.prims c.in_ok-append.ensures.requests

pub returns-clause-ok : goal.returns-clause-ok
returns-clause-ok c =
    appended c.self.inside.prims c.in_ok-more.more _ c.self.inside.requests.items _ c.self.inside.text c.len.result c.len-2.result c.args.self.now c.args.batch.now c.self.invariant
    c.self.view_is c.in_ok-more.ensures c.len.ensures c.len-2.ensures c.in_ok-append.ensures.prims c.in_ok-append.ensures.requests
