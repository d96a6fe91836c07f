-- How much work a query may take: a count over the list of primitives, live or not.
use Rattle.std.specs.Prelude.{ℕ, ◌+◌, ◌*◌, min, max, List, length, map, filter, sum_by, fold, not, ◌&&◌, ◌||◌, ◌==◌, Option, Some, None, is_some, if◌then◌else◌}
use Rattle.std.specs.Option.{option_map_or}
use Rattle.gd_prim.specs.declared.Primitive.{Primitive}
use Rattle.gd_prim.specs.Live.{refers, places_where}
use Rattle.gd_defs.specs.Property.{Property, near_of, far_end, expects_of, holds_values}
use Rattle.gd_defs.specs.Asked.{Key, by_property, SortKey, Members, no_members, own, asks, Asked, name_property}
use Rattle.gd_defs.specs.Rows.{printed}
use Rattle.gd_defs.specs.Reply.{Mark, page, is_too_wide, operand_of, is_clause}
use Rattle.gd_runs.specs.RootSets.{RootSet, with_typ, set_size, set_places, root_sets}
use Rattle.gd_runs.specs.Shape.Ids.{own_ids, style_ids}

-- the primitives, live or not, that have an object at the near end of a property
abbrev pub with_near : List Primitive → Property → ℕ → List ℕ
with_near prims p s = places_where (λ k. refers (near_of p k) s) prims

-- the primitives, live or not, that have the typ of a property, and an object at its near end
abbrev pub near : List Primitive → Property → ℕ → List ℕ
near prims p s = places_where (λ k. refers k.typ p.stored && refers (near_of p k) s) prims

-- the lesser of two numbers: of the primitives that have the typ of a property, and of those that have an object at its near end
abbrev pub few : List Primitive → Property → ℕ → ℕ
few prims p s = min (length (with_typ prims p)) (length (with_near prims p s))

-- the work of asking an object for the values of a property
abbrev pub value_work : List Primitive → Property → ℕ → ℕ
value_work prims p s = 1 + few prims p s + length (near prims p s)

-- the work at the far end of each link of a property from an object, and one more for each
abbrev pub each_far : List Primitive → Property → ℕ → (ℕ → ℕ) → ℕ
each_far prims p s f = sum_by (λ k. 1 + at_far (far_end prims p k)) (near prims p s)
  where
    at_far : Option ℕ → ℕ
    at_far None = 0
    at_far (Some o) = f o

-- the work of sort keys on an object
abbrev pub sort_work : List Primitive → List SortKey → ℕ → ℕ
sort_work prims keys s = sum_by (λ k. by k.key) keys
  where
    by : Key → ℕ
    by (by_property p) = value_work prims p s
    by _ = 0

-- the work of a clause on an object: for each property one, its fewest primitives, and the work at the far ends of its links; without a form an object is asked for its name
abbrev pub work : List Primitive → List SortKey → Members → ℕ → ℕ
work prims sort no_members s = sort_work prims sort s
work prims sort (own name w t operand ms) s = work prims sort ms s
work prims sort (asks name a clause ms) s =
    (1 + few prims a.property s + each_far prims a.property s (λ o.
    if holds_values (expects_of a.property.expected) && not a.property.reversed then 0
    else if is_clause a.style then work prims a.sort clause o else value_work prims name_property o))
    + work prims sort ms s

-- ---- the root set

-- the work of a set: for each of its members one, and the work of the root at its place, none where that is missing
abbrev pub set_work : List Primitive → Asked → RootSet → ℕ
set_work prims q s = sum_by (λ place. 1 + option_map_or (work prims q.sort q.members) place 0) (set_places prims s)

-- the work of a query: that of a smallest set, of several the greatest
abbrev pub query_work : List Primitive → Asked → ℕ
query_work prims q =
    let sets : List RootSet = root_sets prims q.members in
    let least : ℕ = fold min (length prims) (map (set_size prims) sets) in
    fold max 0 (map (set_work prims q) (filter (λ s. set_size prims s == least) sets))

-- ---- what a page prints

-- how many nested answers and ids a clause prints of an object; a member that prints its operand prints none
abbrev pub printed_count : List Primitive → Members → ℕ → ℕ → ℕ
printed_count prims no_members link o = 0
printed_count prims (own name w t operand ms) link o = own_ids prims w operand link o + printed_count prims ms link o
printed_count prims (asks name a clause ms) link o =
    (if is_some (operand_of a.style) then 0
    else sum_by (λ r. 1 + style_ids prims a r.link + (if is_clause a.style then printed_count prims clause r.link r.object else 0)) (printed prims a clause o))
    + printed_count prims ms link o

-- how many rows, nested answers and ids a page prints; a count prints none, nor does a page that is refused as too wide
abbrev pub page_answers : List Primitive → Asked → Option Mark → ℕ
page_answers prims q after = if q.count || is_too_wide prims q after then 0 else sum_by (λ r. 1 + printed_count prims q.members 0 r.object) (page prims q after)

-- the greatest number of steps that a reading may have left when it begins
abbrev pub first_left : List Primitive → Asked → Option Mark → ℕ
first_left prims q after = 1024 * (1 + query_work prims q) + 1024 * (1 + page_answers prims q after)
