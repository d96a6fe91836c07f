-- Which objects meet a query, in which order, and what each weighs.
use Rattle.std.specs.Prelude.{ℕ, ◌+◌, pos, List, [], ◌∷◌, Bool, true, not, ◌&&◌, ◌||◌, Option, Some, None, option_map, unwrap_or, slice_get, if◌then◌else◌, filter, map, take, length, sum_by}
use Rattle.std.specs.List.{list_any}
use Rattle.std.specs.Option.{option_map_or}
use Rattle.std.specs.Ordering.{nat_cmp, ordering_then, ordering_reverse, is_lt}
use Rattle.std.specs.declared.cmp.Ordering.{Ordering}
use Rattle.std.specs.declared.cmp.Ordering.TheVariants.{Less, Equal, Greater}
use Rattle.gd_base.specs.declared.datum.Datum.{Datum}
use Rattle.gd_base.specs.declared.datum.Datum.TheVariants as datum
use Rattle.gd_base.specs.declared.datum.Precision.TheVariants.{Time}
use Rattle.gd_prim.specs.declared.Primitive.{Primitive}
use Rattle.gd_prim.specs.Live.{objects, end_at, value_at, object_datum, language_at}
use Rattle.gd_base.specs.Order.{datum_cmp}
use Rattle.gd_defs.specs.Data.{passes}
use Rattle.gd_defs.specs.Query.{Mode, required, optional, forbidden}
use Rattle.gd_defs.specs.Property.{Property, answers, answer_datum, far_end, first}
use Rattle.gd_defs.specs.Asked.{Own, its_id, its_guid, its_timestamp, its_link, its_value, its_namespace, its_lang, Key, by_guid, by_timestamp, by_property, SortKey, Asking, Members, no_members, own, asks, Asked}

-- the moment of the primitive at a place, in the precision of times
abbrev pub timestamp : List Primitive → ℕ → Datum
timestamp prims o = option_map_or (λ p. datum.Moment (pos p.moment) Time) (slice_get prims o) datum.Empty

-- what a computed member tells of an object and of the link that led to it
abbrev pub own_datum : List Primitive → Own → ℕ → ℕ → Datum
own_datum prims its_id link o = datum.Object o
own_datum prims its_guid link o = datum.Object o
own_datum prims its_timestamp link o = timestamp prims o
own_datum prims its_link link o = datum.Object link
own_datum prims its_value link o = value_at prims link
own_datum prims its_namespace link o = object_datum (end_at (λ p. p.right) prims link)
own_datum prims its_lang link o = object_datum (language_at prims link)

-- the object at the other end of a link; 0 where there is none, of which nothing is asked then
abbrev pub far : List Primitive → Property → ℕ → ℕ
far prims p link = unwrap_or (far_end prims p link) 0

-- a mode is met: required where an answer is found, forbidden where none is, optional ever
abbrev pub meets_mode : Mode → Bool → Bool
meets_mode required found = found
meets_mode optional found = true
meets_mode forbidden found = not found

-- an answer meets a member: it passes the test, and it and the object at its other end meet the clause
abbrev pub answer_meets : List Primitive → Asking → (ℕ → ℕ → Bool) → ℕ → Bool
answer_meets prims a meets_clause k = passes a.test (answer_datum prims a.property k) && meets_clause k (far prims a.property k)

-- an object, reached by a link, meets a clause
abbrev pub meets : List Primitive → Members → ℕ → ℕ → Bool
meets prims no_members link o = true
meets prims (own name w t operand ms) link o = passes t (own_datum prims w link o) && meets prims ms link o
meets prims (asks name a clause ms) link o =
    meets_mode a.mode (list_any (answer_meets prims a (λ k x. meets prims clause k x)) (answers prims a.property o))
    && meets prims ms link o

-- the answers that meet a member, in order of their places
abbrev pub met : List Primitive → Asking → Members → ℕ → List ℕ
met prims a clause o = filter (answer_meets prims a (meets prims clause)) (answers prims a.property o)

-- some answer meets a member
abbrev pub is_met : List Primitive → Asking → Members → ℕ → Bool
is_met prims a clause o = list_any (answer_meets prims a (meets prims clause)) (answers prims a.property o)

-- the place at which a sort key of an object stands: its own, or that of the first value of a property
abbrev pub key_place : List Primitive → ℕ → SortKey → Option ℕ
key_place prims o s = by s.key
  where
    by : Key → Option ℕ
    by by_guid = Some o
    by by_timestamp = Some o
    by (by_property p) = first (answers prims p o)

-- the sort key that stands at a place
abbrev pub key_value : List Primitive → SortKey → ℕ → Datum
key_value prims s place = by s.key
  where
    by : Key → Datum
    by by_guid = datum.Object place
    by by_timestamp = timestamp prims place
    by (by_property p) = value_at prims place

-- the order of two keys, upward or downward, where a missing one comes last in both
abbrev pub key_cmp : Bool → Option Datum → Option Datum → Ordering
key_cmp descending None None = Equal
key_cmp descending None (Some b) = Greater
key_cmp descending (Some a) None = Less
key_cmp descending (Some a) (Some b) = if descending then ordering_reverse (datum_cmp a b) else datum_cmp a b

-- a row: an object, the link that led to it, and the places of its sort keys
pub record Row : Type 0 where
  pub object : ℕ
  pub link : ℕ
  pub keys : List (Option ℕ)

-- the row of an object
abbrev pub row_of : List Primitive → List SortKey → ℕ → ℕ → Row
row_of prims sort link o = record { object = o; link = link; keys = map (key_place prims o) sort }

-- the first key of a row, missing where the row has none
abbrev pub first_key : List (Option ℕ) → Option ℕ
first_key [] = None
first_key (k ∷ ks) = k

-- the keys of a row behind the first one
abbrev pub later_keys : List (Option ℕ) → List (Option ℕ)
later_keys [] = []
later_keys (k ∷ ks) = ks

-- the order of rows by their keys, one after another; a key beyond the last one counts as missing
abbrev pub keys_cmp : List Primitive → List SortKey → List (Option ℕ) → List (Option ℕ) → Ordering
keys_cmp prims [] ks ls = Equal
keys_cmp prims (s ∷ ss) ks ls =
    ordering_then (key_cmp s.descending (option_map (key_value prims s) (first_key ks)) (option_map (key_value prims s) (first_key ls)))
    (keys_cmp prims ss (later_keys ks) (later_keys ls))

-- the order of rows: by their keys, then by their objects
abbrev pub row_cmp : List Primitive → List SortKey → Row → Row → Ordering
row_cmp prims sort a b = ordering_then (keys_cmp prims sort a.keys b.keys) (nat_cmp a.object b.object)

-- rows, or others in an order, with one more in front of the first that it precedes
abbrev pub insert_row : {A : Type 0} → (A → A → Ordering) → A → List A → List A
insert_row cmp r [] = r ∷ []
insert_row cmp r (s ∷ rows) = if is_lt (cmp r s) then r ∷ s ∷ rows else s ∷ insert_row cmp r rows

-- rows, or others, put in order among such that are; those that tie stay as they stood
abbrev pub sorted_onto : {A : Type 0} → (A → A → Ordering) → List A → List A → List A
sorted_onto cmp done [] = done
sorted_onto cmp done (r ∷ rows) = sorted_onto cmp (insert_row cmp r done) rows

-- rows in the order of sort keys; without keys as they stand
abbrev pub in_order : List Primitive → List SortKey → List Row → List Row
in_order prims [] rows = rows
in_order prims (s ∷ ss) rows = sorted_onto (row_cmp prims (s ∷ ss)) [] rows

-- the rows that a member prints: the answers that meet it, in its order and up to its limit
abbrev pub printed : List Primitive → Asking → Members → ℕ → List Row
printed prims a clause o = take a.limit (in_order prims a.sort (map (λ k. row_of prims a.sort k (far prims a.property k)) (met prims a clause o)))

-- the rows of a query: the objects that meet its root clause, in its order
abbrev pub rows : List Primitive → Asked → List Row
rows prims q = sorted_onto (row_cmp prims q.sort) [] (map (λ o. row_of prims q.sort 0 o) (filter (meets prims q.members 0) (objects prims)))

-- ---- weights

-- an object, reached by a link, meets the given members of a clause: its literals, and the tests of what is computed
abbrev pub meets_given : List Primitive → Members → ℕ → ℕ → Bool
meets_given prims no_members link o = true
meets_given prims (own name w t operand ms) link o = passes t (own_datum prims w link o) && meets_given prims ms link o
meets_given prims (asks name a clause ms) link o = (not a.given || is_met prims a clause o) && meets_given prims ms link o

-- what the sort keys of a clause weigh: one for each answer of a property
abbrev pub sort_weight : List Primitive → List SortKey → ℕ → ℕ
sort_weight prims [] o = 0
sort_weight prims (s ∷ ss) o = by s.key + sort_weight prims ss o
  where
    by : Key → ℕ
    by (by_property p) = length (answers prims p o)
    by _ = 0

-- a weight goes on behind a member: unless that is required and no answer meets it
abbrev pub goes_on : Mode → Bool → Bool
goes_on required found = found
goes_on _ found = true

-- the weight of an object in a clause with these sort keys: what its members add, one after another; the sum ends after the first required member without an answer
abbrev pub weight : List Primitive → List SortKey → Members → ℕ → ℕ → ℕ
weight prims sort no_members link o = sort_weight prims sort o
weight prims sort (own name w t operand ms) link o = weight prims sort ms link o
weight prims sort (asks name a clause ms) link o =
    (if a.counted then length (met prims a clause o)
    else sum_by (λ k. 1 + weight prims a.sort clause k (far prims a.property k)) (filter (answer_meets prims a (meets_given prims clause)) (answers prims a.property o)))
    + (if goes_on a.mode (is_met prims a clause o) then weight prims sort ms link o else 0)

-- the candidates of a query: the objects that meet the given members of its root
abbrev pub candidates : List Primitive → Asked → List ℕ
candidates prims q = filter (meets_given prims q.members 0) (objects prims)

-- the weight of an object as a candidate
abbrev pub row_weight : List Primitive → Asked → ℕ → ℕ
row_weight prims q o = weight prims q.sort q.members 0 o
