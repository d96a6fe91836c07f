-- What a write comes to, by what its steps gave.
use Rattle.std.proofs.Common.{◌≡◌, ◌≢◌, ◌≤◌, ◌<◌, ℕ, ◌+◌, List, [], ◌∷◌, length, true, false, nat_lt, None, Result, Ok, Err, IfOk, refl, ap, sym, subst, ◌∙◌, arith}
use Rattle.std.proofs.lemmas.Bool.Decides.{nat_tests}
use Rattle.gd_prim.specs.declared.Batch.{Batch}
use Rattle.gd_prim.specs.declared.What.TheVariants as what
use Rattle.gd_prim.specs.History.{prims_of}
use Rattle.gd_prim.specs.Limits.{limits, first_full}
use Rattle.gd_prim.specs.WellFormed.{bad_place, max_moment}
use Rattle.gd_tree.specs.Json.{Json, compact}
use Rattle.gd_log.specs.Stored.{MayAppend}
use Rattle.gd_defs.specs.Write.{WriteRequest, ChangeFault, full, exec}
use Rattle.gd_defs.specs.History.{prims_at}
use Rattle.gd_runs.specs.Request.{exec_after}
use Rattle.gd_runs.specs.Legal.{History, batches, size, history_bytes, kept_bytes, max_history, exec_line}
use Rattle.gd_runs.proofs.Rounds.{length_batches}
use Rattle.gd_json.specs.declared.value.Json.{Json as Value}
use Rattle.gd_json.specs.View.{view}
use Rattle.gd_change.specs.PassedOn.{ChangeFault as Fault}
use Rattle.gd_change.specs.PassedOn.fault
use Rattle.gd_change.specs.Fault.{GivesChange, fault_of}
use Rattle.gd_writer.proofs.Alone.{written_may}

-- what a call that gave a batch and a result says of the write
pub done_is : (expected : Result (Batch × Json) ChangeFault) (r : Result (Batch × Value) Fault) (done : Batch × Value) → r ≡ Ok done → GivesChange expected r → expected ≡ Ok (done.0, view done.1)
done_is expected r done is gives = subst (λ (s : Result (Batch × Value) Fault). GivesChange expected s) is gives

-- what a call that gave a refusal says of the write
pub fault_is : (expected : Result (Batch × Json) ChangeFault) (r : Result (Batch × Value) Fault) (f : Fault) → r ≡ Err f → GivesChange expected r → f ≢ fault.Memory → expected ≡ Err (fault_of f)
fault_is expected r f is gives = subst (λ (s : Result (Batch × Value) Fault). GivesChange expected s) is gives

-- the batch of a write that a call gave may be appended
pub may_be_written : (bs cs : List Batch) (w : WriteRequest) (moment : ℕ) (r : Result (Batch × Value) Fault) → bs ≡ cs → moment ≤ max_moment → GivesChange (exec_after bs w moment) r
    → IfOk r (λ done. bad_place (prims_of bs) done.0 ≡ None) → IfOk r (λ done. first_full (limits (prims_of bs) (length bs) done.0.prims) ≡ None)
    → IfOk r (λ done. MayAppend cs (done.0 ∷ []))
may_be_written bs cs w moment (Err f) same early gives well_formed fits = tt
may_be_written bs cs w moment (Ok done) same early gives well_formed fits =
    subst (λ (xs : List Batch). MayAppend xs (done.0 ∷ [])) same (written_may bs w moment (done.0, view done.1) gives early well_formed fits)

above : (limit n : ℕ) → limit < n → nat_lt limit n ≡ true
above limit n h = grind (arith, nat_tests)

within : (limit n : ℕ) → n ≤ limit → nat_lt limit n ≡ false
within limit n h = grind (arith, nat_tests)

module _ (h : History) (w : WriteRequest) (moment bytes : ℕ) where
  -- the write after all batches of the history
  after_all : exec_after (batches h) w moment ≡ exec (prims_at (batches h) (size h)) (size h) w moment
  after_all = ap (λ (n : ℕ). exec (prims_at (batches h) n) n w moment) (length_batches h)

  -- a write that is refused by what it asks
  pub refused_line : (f : ChangeFault) → exec_after (batches h) w moment ≡ Err f → exec_line h w moment bytes ≡ Err f
  refused_line f does = let is : exec (prims_at (batches h) (size h)) (size h) w moment ≡ Err f = sym after_all ∙ does in rw is refl

  -- one by which the history would grow too long
  pub full_line : (batch : Batch) (j : Json) (n : ℕ) → exec_after (batches h) w moment ≡ Ok (batch, j) → n ≡ history_bytes h + (bytes + length (compact j)) → max_history < n
      → exec_line h w moment bytes ≡ Err (full what.History n)
  full_line batch j n does count over =
      let is : exec (prims_at (batches h) (size h)) (size h) w moment ≡ Ok (batch, j) = sym after_all ∙ does in
      let long : nat_lt max_history (history_bytes h + kept_bytes bytes j) ≡ true = ap (nat_lt max_history) (sym count) ∙ above max_history n over in
      let told : exec_line h w moment bytes ≡ Err (full what.History (history_bytes h + kept_bytes bytes j)) = rw is (rw long refl) in
      told ∙ ap (λ (m : ℕ). Err (full what.History m)) (sym count)

  -- one that may be stored
  pub done_line : (batch : Batch) (j : Json) → exec_after (batches h) w moment ≡ Ok (batch, j) → history_bytes h + kept_bytes bytes j ≤ max_history → exec_line h w moment bytes ≡ Ok (batch, j)
  done_line batch j does room =
      let is : exec (prims_at (batches h) (size h)) (size h) w moment ≡ Ok (batch, j) = sym after_all ∙ does in
      let short : nat_lt max_history (history_bytes h + kept_bytes bytes j) ≡ false = within max_history (history_bytes h + kept_bytes bytes j) room in
      rw is (rw short refl)
