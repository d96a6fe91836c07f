-- The batch of a write, appended as a group of its own.
use Rattle.std.proofs.Common.{◌≡◌, ◌≤◌, ℕ, List, [], ◌∷◌, length, drop, Option, Some, None, Result, Ok, Err, refl, ap, arith}
use Rattle.gd_grammar.specs.Chain.{◌>>=◌, map_err}
use Rattle.gd_prim.specs.declared.Batch.{Batch}
use Rattle.gd_prim.specs.declared.What.{What}
use Rattle.gd_prim.specs.declared.Primitive.{Primitive}
use Rattle.gd_prim.specs.History.{prims_of}
use Rattle.gd_prim.specs.WellFormed.{bad_place, max_moment}
use Rattle.gd_prim.specs.Limits.{limits, first_full}
use Rattle.gd_tree.specs.Json.{Json, Items}
use Rattle.gd_defs.specs.Write.{WriteSet, WriteRequest, Resolved, ChangeFault, unknown, scope_of, changes_of, resolved_all, carried_all, result_of, exec, fitting}
use Rattle.gd_defs.specs.Write.Carried.{Made}
use Rattle.gd_log.specs.Stored.{MayAppend}
use Rattle.gd_runs.specs.Request.{exec_after}

-- what a chain gives, its last step gives
last_gives : {A B E : Type 0} (r : Result A E) (step : A → Result B E) (b : B) → (r >>= step) ≡ Ok b → (a : A) × (step a ≡ Ok b)
last_gives (Ok a) step b is = (a, is)
last_gives (Err e) step b is = cc

-- what passes no limit is given as it is
fitting_gives : (prims : List Primitive) (requests : ℕ) (b : Batch) (j : Json) (done : Batch × Json) → fitting prims requests b j ≡ Ok done → done.0 ≡ b
fitting_gives prims requests b j done is = by (first_full (limits prims requests b.prims)) refl
  where
    by : (o : Option (What × ℕ)) → first_full (limits prims requests b.prims) ≡ o → done.0 ≡ b
    by None o_is = let gave : Ok (b, j) ≡ Ok done = rw o_is at is in cc
    by (Some passed) o_is = let gave = rw o_is at is in cc

-- the steps of a write, from its last one up
abbrev finished : List Primitive → ℕ → WriteSet → ℕ → Made Items → Result (Batch × Json) ChangeFault
finished prims requests asks moment m = fitting prims requests (record { moment = moment; prims = drop (length prims) m.0 }) (result_of asks (m.1 m.0))

abbrev carrying : List Primitive → ℕ → WriteSet → ℕ → Option ℕ → List Resolved → Result (Batch × Json) ChangeFault
carrying prims requests asks moment scope rs = carried_all (record { scope = scope; moment = moment }) prims rs >>= λ m. finished prims requests asks moment m

abbrev resolving : List Primitive → ℕ → WriteSet → ℕ → Option ℕ → Result (Batch × Json) ChangeFault
resolving prims requests asks moment scope = map_err unknown (resolved_all prims (changes_of asks)) >>= λ rs. carrying prims requests asks moment scope rs

-- the batch of a write is of its moment
exec_moment : (prims : List Primitive) (requests : ℕ) (w : WriteRequest) (moment : ℕ) (done : Batch × Json) → exec prims requests w moment ≡ Ok done → done.0.moment ≡ moment
exec_moment prims requests w moment done is =
    let (scope, resolves) = last_gives (map_err unknown (scope_of prims w.scope)) (λ scope. resolving prims requests w.asks moment scope) done is in
    let (rs, carries) = last_gives (map_err unknown (resolved_all prims (changes_of w.asks))) (λ rs. carrying prims requests w.asks moment scope rs) done resolves in
    let (m, gives) = last_gives (carried_all (record { scope = scope; moment = moment }) prims rs) (λ m. finished prims requests w.asks moment m) done carries in
    ap (λ (b : Batch). b.moment) (fitting_gives prims requests (record { moment = moment; prims = drop (length prims) m.0 }) (result_of w.asks (m.1 m.0)) done gives)

-- one that is well formed behind these, passes no limit and has a moment of a clock may be appended
pub may_alone : (bs : List Batch) (b : Batch) → bad_place (prims_of bs) b ≡ None → first_full (limits (prims_of bs) (length bs) b.prims) ≡ None → b.moment ≤ max_moment → MayAppend bs (b ∷ [])
may_alone bs b well_formed fits early = record { some = omega arith; few = omega arith; follow = rw (well_formed, fits) refl; early = (record { early = early }, tt) }

-- the batch that a write makes may be
pub written_may : (bs : List Batch) (w : WriteRequest) (moment : ℕ) (done : Batch × Json) → exec_after bs w moment ≡ Ok done → moment ≤ max_moment
    → bad_place (prims_of bs) done.0 ≡ None → first_full (limits (prims_of bs) (length bs) done.0.prims) ≡ None → MayAppend bs (done.0 ∷ [])
written_may bs w moment done is early well_formed fits =
    may_alone bs done.0 well_formed fits (let same = exec_moment _ _ w moment done is in omega (arith, same, early))
