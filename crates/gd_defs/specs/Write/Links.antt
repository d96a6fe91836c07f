-- What inserting, deleting and updating links makes, over the state with the batch so far.
use Rattle.std.specs.Prelude.{ℕ, List, [], ◌∷◌, ◌++◌, Bool, true, false, not, ◌&&◌, ◌==◌, nat_lt, Option, Some, None, option_and_then, slice_get, if◌then◌else◌, map, length, codes, Result, Ok, Err}
use Rattle.std.specs.Option.{option_eq}
use Rattle.gd_base.specs.declared.datum.Datum.{Datum}
use Rattle.gd_base.specs.declared.datum.Datum.TheVariants as datum
use Rattle.gd_prim.specs.declared.Primitive.{Primitive}
use Rattle.gd_prim.specs.declared.What.{What}
use Rattle.gd_prim.specs.Builtin.{english_place}
use Rattle.gd_prim.specs.Live.{refers, successor, passes_at, language_of}
use Rattle.gd_defs.specs.Ids.{key_leads}
use Rattle.gd_defs.specs.Query.{Code, bad_connect, bad_previous}
use Rattle.gd_defs.specs.Property.{Property, answers, near_of}
use Rattle.gd_defs.specs.Asked.{Unknown, bad_query}
use Rattle.gd_defs.specs.Change.{ConnectWord, insert, delete, update}
use Rattle.gd_defs.specs.Write.Parts.{Target, to_object, to_value, to_key, is_target, equal_links, has_fact}

-- why a write is refused: it has no meaning, an answer too many at a path, a key and its holder, a link and its successor, a limit and the number that would be reached
pub data ChangeFault : Type 0 where
  unknown : Unknown → ChangeFault
  not_unique : List (List ℕ) → ChangeFault
  key_taken : List ℕ → ℕ → ChangeFault
  stale_version : ℕ → ℕ → ChangeFault
  full : What → ℕ → ChangeFault

-- what all primitives of a batch have in common
pub record Stamp : Type 0 where
  pub scope : Option ℕ
  pub moment : ℕ

-- a new object
abbrev pub new_object : Stamp → Primitive
new_object s = record { left = None; right = None; typ = None; scope = s.scope; value = datum.Empty; name = None; previous = None; live = true; moment = s.moment; lang = None }

-- a primitive between a near end and a far end, turned where the property is reversed
abbrev pub between : Bool → ℕ → Option ℕ → Primitive → Primitive
between reversed near far p = if reversed then record p { left = far; right = Some near } else record p { left = Some near; right = far }

-- the language that a link of a value names: of a text that of its property, unless it is English
abbrev pub named_language : Datum → Option ℕ → Option ℕ
named_language (datum.Text t) (Some l) = if l == english_place then None else Some l
named_language _ _ = None

-- a link from an object to a target, as the successor of a previous one or a new one
abbrev pub new_link : Stamp → Property → ℕ → Target → Option ℕ → Primitive
new_link s p o t previous = by t
  where
    base : Datum → Primitive
    base v = record { left = None; right = None; typ = Some p.stored; scope = s.scope; value = v; name = None; previous = previous; live = true; moment = s.moment; lang = named_language v p.language }

    by : Target → Primitive
    by (to_object x) = between p.reversed o (Some x) (base datum.Empty)
    by (to_value d) = between p.reversed o None (base d)
    by (to_key x key) = between p.reversed o (Some x) (base (datum.Text key))

-- the successor by which a link is deleted
abbrev pub deletion : Stamp → List Primitive → ℕ → Primitive
deletion s prims k = by (slice_get prims k)
  where
    by : Option Primitive → Primitive
    by None = new_object s
    by (Some p) = record p { scope = s.scope; name = None; previous = Some k; live = false; moment = s.moment }

-- a fault of meaning that is met while a write is carried out
abbrev pub refused : {A : Type 0} → Code → List (List ℕ) → Result A ChangeFault
refused code path = Err (unknown (bad_query code path))

-- the primitives so far, and the answer of a connect
abbrev pub Done : Type 0
Done = List Primitive × List ℕ

-- the object that the key of a target leads to, if it is another one
abbrev pub other_holder : List Primitive → ℕ → Target → Option ℕ
other_holder prims o (to_key namespace key) = option_and_then (λ h. if h == o then None else Some h) (key_leads prims namespace key)
other_holder prims o _ = None

-- an outcome, unless another object holds the key of the target
abbrev pub unless_taken : Option ℕ → Target → Result Done ChangeFault → Result Done ChangeFault
unless_taken (Some h) (to_key namespace key) r = Err (key_taken key h)
unless_taken _ t r = r

-- inserting: an equal link stays, of a unique property no other may be there, else a link is made
abbrev pub inserted : Stamp → List (List ℕ) → List Primitive → Property → ℕ → Target → Result Done ChangeFault
inserted s path prims p o t =
    if has_fact prims p o t then Ok (prims, codes "present")
    else if p.unique && nat_lt 0 (length (answers prims p o)) then Err (not_unique path)
    else unless_taken (other_holder prims o t) t (Ok (prims ++ new_link s p o t None ∷ [], codes "inserted"))

-- deleting: each equal link gets a successor that is not live
abbrev pub deleted : Stamp → List Primitive → Property → ℕ → Target → Result Done ChangeFault
deleted s prims p o t = if has_fact prims p o t then Ok (prims ++ map (deletion s prims) (equal_links prims p o t), codes "deleted") else Ok (prims, codes "absent")

-- updating: the one answer of a unique property gives way to the target
abbrev pub updated : Stamp → List (List ℕ) → List Primitive → Property → ℕ → Target → Result Done ChangeFault
updated s path prims p o t = if not p.unique then refused bad_connect (path ++ codes "connect" ∷ [])
    else if has_fact prims p o t then Ok (prims, codes "present") else by (answers prims p o)
  where
    by : List ℕ → Result Done ChangeFault
    by [] = Ok (prims ++ new_link s p o t None ∷ [], codes "inserted")
    by (k ∷ []) = Ok (prims ++ new_link s p o t (Some k) ∷ [], codes "updated")
    by _ = Err (not_unique path)

-- the language of a target: of a text that of its property; nothing else has one
abbrev pub target_language : Property → Target → Option ℕ
target_language p (to_value (datum.Text t)) = p.language
target_language p _ = None

-- a place has a link of this object, property and language that is marked live
abbrev pub is_link_of : List Primitive → Property → ℕ → Option ℕ → ℕ → Bool
is_link_of prims p o language k = passes_at (λ q. q.live && refers q.typ p.stored && refers (near_of p q) o && option_eq ◌==◌ (language_of q) language) prims k

-- updating a link that is named: it gives way to the target, if it has no successor yet
abbrev pub updated_from : Stamp → List (List ℕ) → List Primitive → Property → ℕ → Target → ℕ → Result Done ChangeFault
updated_from s path prims p o t k =
    if not (is_link_of prims p o (target_language p t) k) then refused bad_previous (path ++ codes "previous" ∷ []) else by (successor prims k)
  where
    by : Option ℕ → Result Done ChangeFault
    by (Some n) = Err (stale_version k n)
    by None = if is_target prims p t k then Ok (prims, codes "present") else Ok (prims ++ new_link s p o t (Some k) ∷ [], codes "updated")

-- carrying out a connect form: the primitives with what it made, and its answer
abbrev pub connected : Stamp → List (List ℕ) → List Primitive → Property → ℕ → ConnectWord → Target → Option ℕ → Result Done ChangeFault
connected s path prims p o insert t previous = inserted s path prims p o t
connected s path prims p o delete t previous = deleted s prims p o t
connected s path prims p o update (to_key namespace key) previous = refused bad_connect (path ++ codes "connect" ∷ [])
connected s path prims p o update t None = updated s path prims p o t
connected s path prims p o update t (Some k) = updated_from s path prims p o t k
