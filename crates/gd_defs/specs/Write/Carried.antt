-- Carrying out a write, member by member, over the state with the batch so far.
use Rattle.std.specs.Prelude.{ℕ, List, [], ◌∷◌, ◌++◌, Bool, true, false, ◌&&◌, if◌then◌else◌, filter, length, codes, Result, Ok, Err, bytes_eq}
use Rattle.gd_prim.specs.declared.Primitive.{Primitive}
use Rattle.gd_grammar.specs.Chain.{◌>>=◌}
use Rattle.gd_prim.specs.Live.{objects}
use Rattle.gd_tree.specs.Json.{Json, text, list, object, Items, no_items, item, Members as JsonMembers, no_members as no_json_members, member as json_member}
use Rattle.gd_defs.specs.Ids.{id_text, guid}
use Rattle.gd_defs.specs.Property.{Property}
use Rattle.gd_defs.specs.Change.{CreateWord, unless_exists, unconditional}
use Rattle.gd_defs.specs.Write.Parts.{Target, to_object, Item, as_spelled, its_id, its_guid, fact, connect, nested, several, ManyItems, no_more, and_then, Members, no_members, member, created, has_fact}
use Rattle.gd_defs.specs.Write.Links.{ChangeFault, not_unique, Stamp, new_object, inserted, connected}

-- the members of a connect form with its answer in place of its word
abbrev pub answered : List ℕ → JsonMembers → JsonMembers
answered answer no_json_members = no_json_members
answered answer (json_member k j ms) = if bytes_eq k (codes "connect") then json_member k (text answer) ms else json_member k j (answered answer ms)

abbrev mutual
  -- an object has each fact of a clause's own
  pub has_own : List Primitive → Members → ℕ → Bool
  has_own prims no_members o = true
  has_own prims (created ms) o = has_own prims ms o
  has_own prims (member name i ms) o = has_item prims i o && has_own prims ms o

  -- an object has the facts of a member
  pub has_item : List Primitive → Item → ℕ → Bool
  has_item prims (fact p t j) o = has_fact prims p o t
  has_item prims (several is) o = has_items prims is o
  has_item prims _ o = true

  -- an object has the facts of each item of a list
  pub has_items : List Primitive → ManyItems → ℕ → Bool
  has_items prims no_more o = true
  has_items prims (and_then i is) o = has_item prims i o && has_items prims is o

-- what a part of a write has made: the primitives so far, and what it prints once the final state is known
abbrev pub Made : Type 0 → Type 0
Made A = List Primitive × (List Primitive → A)

-- the object that a clause is carried out on, whether it was there, and the primitives so far
pub record Subject : Type 0 where
  pub object : ℕ
  pub existed : Bool
  pub prims : List Primitive

-- a new object as the one of a clause
abbrev pub create : Stamp → List Primitive → Subject
create s prims = record { object = length prims; existed = false; prims = prims ++ new_object s ∷ [] }

-- the object of a create: the one that has its own facts where it asks for that, else a new one
abbrev pub subject_of : Stamp → List (List ℕ) → List Primitive → CreateWord → Members → Result Subject ChangeFault
subject_of s path prims unconditional ms = Ok (create s prims)
subject_of s path prims unless_exists ms = by (filter (has_own prims ms) (objects prims))
  where
    by : List ℕ → Result Subject ChangeFault
    by [] = Ok (create s prims)
    by (o ∷ []) = Ok (record { object = o; existed = true; prims = prims })
    by _ = Err (not_unique path)

-- what `create` prints
abbrev pub created_text : Bool → Json
created_text existed = text (if existed then codes "existed" else codes "created")

-- carrying out a fact: it is inserted, unless its object existed
abbrev pub fact_made : Stamp → List (List ℕ) → List Primitive → Property → Subject → Target → Json → Result (Made Json) ChangeFault
fact_made s path prims p o t j = if o.existed then Ok (prims, λ final. j) else inserted s path prims p o.object t >>= λ d. Ok (d.0, λ final. j)

abbrev mutual
  -- carrying out the members of a clause on its object, in order
  pub carried : Stamp → List (List ℕ) → List Primitive → Subject → Members → Result (Made JsonMembers) ChangeFault
  carried s path prims o no_members = Ok (prims, λ final. no_json_members)
  carried s path prims o (created ms) = carried s path prims o ms >>= λ r. Ok (r.0, λ final. json_member (codes "create") (created_text o.existed) (r.1 final))
  carried s path prims o (member name i ms) = carried_item s (path ++ name ∷ []) prims o i >>= λ m. carried s path m.0 o ms >>= λ r.
      Ok (r.0, λ final. json_member name (m.1 final) (r.1 final))

  -- carrying out one member
  pub carried_item : Stamp → List (List ℕ) → List Primitive → Subject → Item → Result (Made Json) ChangeFault
  carried_item s path prims o (as_spelled j) = Ok (prims, λ final. j)
  carried_item s path prims o its_id = Ok (prims, λ final. text (id_text final o.object))
  carried_item s path prims o its_guid = Ok (prims, λ final. text (guid o.object))
  carried_item s path prims o (fact p t j) = fact_made s path prims p o t j
  carried_item s path prims o (connect p w t previous ms) = connected s path prims p o.object w t previous >>= λ d. Ok (d.0, λ final. object (answered d.1 ms))
  carried_item s path prims o (nested p w ms) = subject_of s path prims w ms >>= λ n. carried s path n.prims n ms >>= λ r.
      inserted s path r.0 p o.object (to_object n.object) >>= λ d. Ok (d.0, λ final. object (r.1 final))
  carried_item s path prims o (several is) = carried_items s path prims o is >>= λ r. Ok (r.0, λ final. list (r.1 final))

  -- carrying out the items of a list, in order
  pub carried_items : Stamp → List (List ℕ) → List Primitive → Subject → ManyItems → Result (Made Items) ChangeFault
  carried_items s path prims o no_more = Ok (prims, λ final. no_items)
  carried_items s path prims o (and_then i is) = carried_item s path prims o i >>= λ m. carried_items s path m.0 o is >>= λ r.
      Ok (r.0, λ final. item (m.1 final) (r.1 final))
