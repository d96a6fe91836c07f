-- A write carried out whole, but for the limits of the store.
use Rattle.std.specs.Prelude.{ℕ, List, Option, drop, length, Result, Ok}
use Rattle.gd_grammar.specs.Chain.{◌>>=◌, map_err}
use Rattle.gd_prim.specs.declared.Batch.{Batch}
use Rattle.gd_prim.specs.declared.Primitive.{Primitive}
use Rattle.gd_tree.specs.Json.{Json, Items}
use Rattle.gd_defs.specs.Write.{WriteSet, WriteRequest, Resolved, carried_all, result_of}
use Rattle.gd_defs.specs.Write.Carried.{Made}
use Rattle.gd_defs.specs.Write.Links.{ChangeFault, unknown}
use Rattle.gd_intent.specs.Walk.{intent_of}

-- the batch of what was made behind the primitives before, and what the write prints at the state at its end
abbrev pub done_of : ℕ → List Primitive → WriteSet → Made Items → Batch × Json
done_of moment prims asks m = (record { moment = moment; prims = drop (length prims) m.0 }, result_of asks (m.1 m.0))

-- the batch and the result of a write whose words are looked up: its scope, and its changes
abbrev pub carried_out : List Primitive → WriteSet → Option ℕ × List Resolved → ℕ → Result (Batch × Json) ChangeFault
carried_out prims asks i moment = carried_all (record { scope = i.0; moment = moment }) prims i.1 >>= λ m. Ok (done_of moment prims asks m)

-- the batch and the result of a write, whichever limits of the store it passes
abbrev pub written : List Primitive → WriteRequest → ℕ → Result (Batch × Json) ChangeFault
written prims w moment = map_err unknown (intent_of prims w) >>= λ i. carried_out prims w.asks i moment
