-- What a write does after the batches of a store.
use Rattle.std.proofs.Common.{◌≡◌, ◌≢◌, ◌≤◌, ℕ, List, length, true, not, Option, Some, None, Result, Ok, Err, refl, sym, ap, subst, take, ◌∙◌}
use Rattle.std.specs.Prelude.{IsTrue, is_some}
use Rattle.std.proofs.Math.Seq.{take-length}
use Rattle.std.proofs.lemmas.Bool.{and_parts}
use Rattle.gd_grammar.specs.Chain.{◌>>=◌, map_err}
use Rattle.gd_prim.specs.declared.Batch.{Batch}
use Rattle.gd_prim.specs.declared.Primitive.{Primitive}
use Rattle.gd_prim.specs.declared.What.{What}
use Rattle.gd_prim.specs.History.{prims_of, is_history}
use Rattle.gd_prim.specs.Limits.{limits, first_full}
use Rattle.gd_prim.specs.WellFormed.{bad_place, may_follow, max_moment}
use Rattle.gd_tree.specs.Json as tree
use Rattle.gd_defs.specs.Write.{WriteRequest, carried_all, exec, fitting}
use Rattle.gd_defs.specs.Write.Links.{ChangeFault, full, unknown}
use Rattle.gd_runs.specs.Request.{exec_after}
use Rattle.gd_write_laws.proofs.Laws.{writes_follow}
use Rattle.gd_write_laws.proofs.Histories.{history-sound, history-some}
use Rattle.gd_carry.specs.PassedOn.{intent_of}
use Rattle.gd_carry.specs.declared.fault.ChangeFault.{ChangeFault as Refusal}
use Rattle.gd_carry.specs.declared.fault.ChangeFault.TheVariants as fault
use Rattle.gd_carry.specs.Outcome.{fault_of}
use Rattle.gd_carry.specs.Exec.{carried_out, done_of, written}
use Rattle.gd_carry.proofs.Whole.{exec_written}
use Rattle.gd_change.specs.Fault.{IsSmall}
use Rattle.gd_change.proofs.Spared.{Spares, all-spare, chain, meaning-spares}

-- after all batches
exec_after-is : (bs : List Batch) (w : WriteRequest) (moment : ℕ) → exec_after bs w moment ≡ exec (prims_of bs) (length bs) w moment
exec_after-is bs w moment = ap (λ (cs : List Batch). exec (prims_of cs) (length bs) w moment) (take-length bs)

-- what was written decides, unless it passes a limit
after_written : (bs : List Batch) (w : WriteRequest) (moment : ℕ) (r : Result (Batch × tree.Json) ChangeFault) → written (prims_of bs) w moment ≡ r
    → exec_after bs w moment ≡ (r >>= λ d. fitting (prims_of bs) (length bs) d.0 d.1)
after_written bs w moment r is = exec_after-is bs w moment
    ∙ exec_written (prims_of bs) (length bs) w moment
    ∙ ap (λ (x : Result (Batch × tree.Json) ChangeFault). x >>= λ d. fitting (prims_of bs) (length bs) d.0 d.1) is

-- it is done
pub done_after : (bs : List Batch) (w : WriteRequest) (moment : ℕ) (b : Batch) (j : tree.Json) → written (prims_of bs) w moment ≡ Ok (b, j) → first_full (limits (prims_of bs) (length bs) b.prims) ≡ None
    → exec_after bs w moment ≡ Ok (b, j)
done_after bs w moment b j is fits = after_written bs w moment (Ok (b, j)) is ∙ rw fits refl

-- a limit would be passed
pub full_after : (bs : List Batch) (w : WriteRequest) (moment : ℕ) (b : Batch) (j : tree.Json) (what : What) (count : ℕ) → written (prims_of bs) w moment ≡ Ok (b, j)
    → first_full (limits (prims_of bs) (length bs) b.prims) ≡ Some (what, count) → exec_after bs w moment ≡ Err (full what count)
full_after bs w moment b j what count is passed = after_written bs w moment (Ok (b, j)) is ∙ rw passed refl

-- it is refused
pub refused_after : (bs : List Batch) (w : WriteRequest) (moment : ℕ) (f : ChangeFault) → written (prims_of bs) w moment ≡ Err f → exec_after bs w moment ≡ Err f
refused_after bs w moment f is = after_written bs w moment (Err f) is

none : (place : Option ℕ) → not (is_some place) ≡ true → place ≡ None
none None is = refl
none (Some place) is = cc

-- its batch breaks no rule
pub well_formed_after : (bs : List Batch) (w : WriteRequest) (moment : ℕ) (b : Batch) (j : tree.Json) → IsTrue (is_history bs) → moment ≤ max_moment → exec_after bs w moment ≡ Ok (b, j) → bad_place (prims_of bs) b ≡ None
well_formed_after bs w moment b j history early is =
    let follows : may_follow (prims_of bs) (length bs) b ≡ true =
    writes_follow (prims_of bs) (length bs) w moment b j (history-sound bs history) (history-some bs) early (sym (exec_after-is bs w moment) ∙ is) in
    none (bad_place (prims_of bs) b) (and_parts _ _ follows).0

written-spares : (prims : List Primitive) (w : WriteRequest) (moment : ℕ) → Spares (written prims w moment)
written-spares prims w moment =
    chain (map_err unknown (intent_of prims w)) (λ i. carried_out prims w.asks i moment) (meaning-spares (intent_of prims w))
    (λ i. chain (carried_all (record { scope = i.0; moment = moment }) prims i.1) (λ m. Ok (done_of moment prims w.asks m)) (all-spare (record { scope = i.0; moment = moment }) prims i.1) (λ m. tt))

-- a refusal of what was written tells no count
pub small_refusal : (prims : List Primitive) (w : WriteRequest) (moment : ℕ) (e : Refusal) → (e ≢ fault.Memory → written prims w moment ≡ Err (fault_of e)) → IsSmall e
small_refusal prims w moment (fault.Full what count) is =
    absurd (subst (λ (r : Result (Batch × tree.Json) ChangeFault). Spares r) (is (λ same. cc)) (written-spares prims w moment))
small_refusal prims w moment (fault.NoSuchId id) is = tt
small_refusal prims w moment (fault.NoSuchProperty path) is = tt
small_refusal prims w moment (fault.BadQuery code path) is = tt
small_refusal prims w moment (fault.NotUnique path) is = tt
small_refusal prims w moment (fault.KeyTaken key holder) is = tt
small_refusal prims w moment (fault.StaleVersion previous successor) is = tt
small_refusal prims w moment fault.Memory is = tt

-- a view of all batches has the primitives of all
pub all_viewed : (bs cs : List Batch) (n : ℕ) → cs ≡ take n bs → n ≡ length bs → prims_of cs ≡ prims_of bs
all_viewed bs cs n is all = ap prims_of (is ∙ ap (λ (m : ℕ). take m bs) all ∙ take-length bs)
