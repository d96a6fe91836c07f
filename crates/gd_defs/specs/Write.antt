-- What a write does: its words are looked up at the state before, then it is carried out over the state with its batch so far.
pub mod Parts
pub mod Links
pub mod Carried
pub use Rattle.gd_defs.specs.Write.Links.{ChangeFault, unknown, not_unique, key_taken, stale_version, full}
use Rattle.std.specs.Prelude.{ℕ, ◌+◌, List, [], ◌∷◌, true, Option, Some, None, unwrap_or, drop, length, Result, Ok, Err, decimal}
use Rattle.gd_prim.specs.declared.Primitive.{Primitive}
use Rattle.gd_grammar.specs.Chain.{◌>>=◌}
use Rattle.gd_prim.specs.declared.Batch.{Batch}
use Rattle.gd_prim.specs.declared.What.{What}
use Rattle.gd_prim.specs.Limits.{limits, first_full}
use Rattle.gd_grammar.specs.Chain.{map_err}
use Rattle.gd_tree.specs.Json.{Json, null, list, object, Items, no_items, item, Members as JsonMembers}
use Rattle.gd_defs.specs.Asked.{Unknown, place_named, context_of}
use Rattle.gd_defs.specs.Change as change
use Rattle.gd_defs.specs.Change.{Change}
use Rattle.gd_defs.specs.Write.Parts.{Members, type_text, resolved}
use Rattle.gd_defs.specs.Write.Links.{Stamp}
use Rattle.gd_defs.specs.Write.Carried.{Made, Subject, subject_of, carried}

-- what a write asks: one change, or several that are carried out together
pub data WriteSet : Type 0 where
  one_change : Change → WriteSet
  changes : List Change → WriteSet

-- a write: what it asks, and the id of the scope of all that it makes
pub record WriteRequest : Type 0 where
  pub scope : Option (List ℕ)
  pub asks : WriteSet

-- the changes of a list, each behind the path of its root, which is its number, counted from this one on
abbrev pub numbered : ℕ → List Change → List (List (List ℕ) × Change)
numbered n [] = []
numbered n (c ∷ cs) = (decimal n ∷ [], c) ∷ numbered (n + 1) cs

-- the changes of a write, in order, each behind the path of its root: one alone has no number
abbrev pub changes_of : WriteSet → List (List (List ℕ) × Change)
changes_of (one_change c) = ([], c) ∷ []
changes_of (changes cs) = numbered 0 cs

-- the object that the id of a scope names, if there is one
abbrev pub scope_of : List Primitive → Option (List ℕ) → Result (Option ℕ) Unknown
scope_of prims None = Ok None
scope_of prims (Some t) = place_named prims t >>= λ o. Ok (Some o)

-- the existing object of the root, if it names one, and the members with their words looked up
abbrev pub resolved_root : List Primitive → List (List ℕ) → Change → Result (Option ℕ × Members) Unknown
resolved_root prims path c = by c.root
  where
    by : change.Root → Result (Option ℕ × Members) Unknown
    by (change.to_create w) = context_of prims None (type_text c.members) >>= λ t. resolved prims None t path c.members >>= λ ms. Ok (None, ms)
    by (change.existing_object t) = place_named prims t >>= λ o. context_of prims None (type_text c.members) >>= λ x.
        resolved prims (Some o) x path c.members >>= λ ms. Ok (Some o, ms)

-- a change with its words looked up: the path of its root, the root, the existing object that it names, if it does, and the members
pub record Resolved : Type 0 where
  pub path : List (List ℕ)
  pub root : change.Root
  pub on : Option ℕ
  pub members : Members

-- changes with their words looked up at one state, in order
abbrev pub resolved_all : List Primitive → List (List (List ℕ) × Change) → Result (List Resolved) Unknown
resolved_all prims [] = Ok []
resolved_all prims (c ∷ cs) = resolved_root prims c.0 c.1 >>= λ r. resolved_all prims cs >>= λ rs. Ok (record { path = c.0; root = c.1.root; on = r.0; members = r.1 } ∷ rs)

-- the object on which the root is carried out
abbrev pub root_subject : Stamp → List (List ℕ) → List Primitive → change.Root → Option ℕ → Members → Result Subject ChangeFault
root_subject s path prims (change.to_create w) _ ms = subject_of s path prims w ms
root_subject s path prims (change.existing_object t) on ms = Ok (record { object = unwrap_or on 0; existed = true; prims = prims })

-- carrying out the root: the primitives with those of the write, and what prints once the final state is known
abbrev pub carried_root : Stamp → List Primitive → Resolved → Result (Made JsonMembers) ChangeFault
carried_root s prims r = root_subject s r.path prims r.root r.on r.members >>= λ o. carried s r.path o.prims o r.members

-- carrying out changes, one after another, each over the state with what those before it made
abbrev pub carried_all : Stamp → List Primitive → List Resolved → Result (Made Items) ChangeFault
carried_all s prims [] = Ok (prims, λ final. no_items)
carried_all s prims (r ∷ rs) = carried_root s prims r >>= λ m. carried_all s m.0 rs >>= λ ms. Ok (ms.0, λ final. item (object (m.1 final)) (ms.1 final))

-- what a write prints, of what its changes do: of one alone that, else the list
abbrev pub result_of : WriteSet → Items → Json
result_of (changes cs) js = list js
result_of (one_change c) (item j js) = j
result_of (one_change c) no_items = null

-- a batch and its result, unless the batch passes a limit
abbrev pub fitting : List Primitive → ℕ → Batch → Json → Result (Batch × Json) ChangeFault
fitting prims requests b j = by (first_full (limits prims requests b.prims))
  where
    by : Option (What × ℕ) → Result (Batch × Json) ChangeFault
    by None = Ok (b, j)
    by (Some passed) = Err (full passed.0 passed.1)

-- the batch and the result of a write at a moment, after the primitives that so many requests made, or why it is refused
abbrev pub exec : List Primitive → ℕ → WriteRequest → ℕ → Result (Batch × Json) ChangeFault
exec prims requests w moment =
    map_err unknown (scope_of prims w.scope) >>= λ scope.
    map_err unknown (resolved_all prims (changes_of w.asks)) >>= λ rs.
    carried_all (record { scope = scope; moment = moment }) prims rs >>= λ m.
    fitting prims requests (record { moment = moment; prims = drop (length prims) m.0 }) (result_of w.asks (m.1 m.0))
