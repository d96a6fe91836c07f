use Rattle.std.proofs.Common.{◌≡◌, ℕ, ◌-◌, ◌<◌, List, length, take, drop, sum_by, sym, ap, ◌∙◌, arith}
use Rattle.gd_prim.specs.declared.Primitive.{Primitive}
use Rattle.gd_prim.specs.declared.Batch.{Batch}
use Rattle.gd_prim.specs.Limits.{text_bytes}
use Rattle.gd_store.specs.declared.store.Request.{Request}
use Rattle.gd_store.specs.Stored.{batches, end_after, IsStored}
use Rattle.gd_store.proofs.Stored.{LastPart, last_part, count_of_batches, stored_same, batches_same}
use Rattle.gd_store.proofs.store.Store.retract_last.Goals as goal

-- the last part, by the values of the walk
part : (prims : List Primitive) (requests rs : List Request) (text len end : ℕ) (bs : List Batch) → IsStored prims requests text → batches prims requests ≡ bs → 0 < length bs
    → rs ≡ requests → len ≡ length rs → end ≡ end_after 70 rs (len - 1) → LastPart prims requests text end
part prims requests rs text len end bs stored view some same count is =
    last_part prims requests text end stored (omega (arith, ap length view, count_of_batches prims requests))
    (is ∙ ap (λ n. end_after 70 rs (n - 1)) count ∙ ap (λ qs. end_after 70 qs (length qs - 1)) same)

pub from_place-requires : goal.from_place-requires
from_place-requires c =
    let last : LastPart c.self.inside.prims c.self.inside.requests.items c.self.inside.text c.end_after-end.result =
    part _ _ c.as_slice.result.now _ c.len-kept.result _ _ c.self.invariant c.self.view_is c.requires c.as_slice.ensures.value (c.len-kept.ensures ∙ sym c.as_slice.ensures.len) c.end_after-end.ensures in
    omega (arith, last.within, ap length c.as_slice-2.ensures)

pub batch_text_bytes-requires : goal.batch_text_bytes-requires
batch_text_bytes-requires c =
    let last : LastPart c.self.inside.prims c.self.inside.requests.items c.self.inside.text c.end_after-end.result =
    part _ _ c.as_slice.result.now _ c.len-kept.result _ _ c.self.invariant c.self.view_is c.requires c.as_slice.ensures.value (c.len-kept.ensures ∙ sym c.as_slice.ensures.len) c.end_after-end.ensures in
    omega (arith, last.small, ap length c.from_place.ensures, ap (λ (ps : List Primitive). length (drop c.end_after-end.result ps)) c.as_slice-2.ensures)

pub overflow_sub-self : goal.overflow_sub-self
overflow_sub-self c =
    let last : LastPart c.self.inside.prims c.self.inside.requests.items c.self.inside.text c.end_after-end.result =
    part _ _ c.as_slice.result.now _ c.len-kept.result _ _ c.self.invariant c.self.view_is c.requires c.as_slice.ensures.value (c.len-kept.ensures ∙ sym c.as_slice.ensures.len) c.end_after-end.ensures in
    omega (
      arith,
      last.counted,
      c.batch_text_bytes.ensures.bytes,
      ap (λ (ps : List Primitive). sum_by text_bytes ps) c.from_place.ensures,
      ap (λ (ps : List Primitive). sum_by text_bytes (drop c.end_after-end.result ps)) c.as_slice-2.ensures,
    )

pub truncate-requires : goal.truncate-requires
truncate-requires c =
    let last : LastPart c.self.inside.prims c.self.inside.requests.items c.self.inside.text c.end_after-end.result =
    part _ _ c.as_slice.result.now _ c.len-kept.result _ _ c.self.invariant c.self.view_is c.requires c.as_slice.ensures.value (c.len-kept.ensures ∙ sym c.as_slice.ensures.len) c.end_after-end.ensures in
    last.within

-- the requests that stay
kept : (requests rs stay : List Request) (len : ℕ) → stay ≡ take (len - 1) requests → len ≡ length rs → rs ≡ requests → stay ≡ take (length requests - 1) requests
kept requests rs stay len is count same = is ∙ ap (λ n. take (n - 1) requests) count ∙ ap (λ qs. take (length qs - 1) requests) same

-- the bytes that go
bytes : (prims ps gone : List Primitive) (end n : ℕ) → n ≡ sum_by text_bytes gone → gone ≡ drop end ps → ps ≡ prims → n ≡ sum_by text_bytes (drop end prims)
bytes prims ps gone end n is is_gone same = is ∙ ap (sum_by text_bytes) is_gone ∙ ap (λ xs. sum_by text_bytes (drop end xs)) same

pub invariant_of-self : goal.invariant_of-self
invariant_of-self c =
    let last : LastPart c.self.inside.prims c.self.inside.requests.items c.self.inside.text c.end_after-end.result =
    part _ _ c.as_slice.result.now _ c.len-kept.result _ _ c.self.invariant c.self.view_is c.requires c.as_slice.ensures.value (c.len-kept.ensures ∙ sym c.as_slice.ensures.len) c.end_after-end.ensures in
    stored_same _ _ _ _ _ _ last.stored c.truncate.ensures
    (kept _ c.as_slice.result.now _ c.len-kept.result c.truncate-2.ensures.items (c.len-kept.ensures ∙ sym c.as_slice.ensures.len) c.as_slice.ensures.value)
    (ap (λ n. c.self.inside.text - n) (bytes _ c.as_slice-2.result.now c.from_place.result.now _ _ c.batch_text_bytes.ensures.bytes c.from_place.ensures c.as_slice-2.ensures))

pub returns : goal.returns
returns c =
    let last : LastPart c.self.inside.prims c.self.inside.requests.items c.self.inside.text c.end_after-end.result =
    part _ _ c.as_slice.result.now _ c.len-kept.result _ _ c.self.invariant c.self.view_is c.requires c.as_slice.ensures.value (c.len-kept.ensures ∙ sym c.as_slice.ensures.len) c.end_after-end.ensures in
    batches_same _ _ _ _ c.truncate.ensures
    (kept _ c.as_slice.result.now _ c.len-kept.result c.truncate-2.ensures.items (c.len-kept.ensures ∙ sym c.as_slice.ensures.len) c.as_slice.ensures.value)
    ∙ last.front ∙ ap (λ (bs : List Batch). take (length bs - 1) bs) c.self.view_is
