-- The order of rows that carry their values is the order of the rows of a query.
use Rattle.std.specs.Prelude.{◌≡◌, ℕ, List, [], ◌∷◌, Bool, Option, None, Some, option_map, filter, map, take, length, nat_lt}
use Rattle.std.specs.List.Sorted.{IsPermutation}
use Rattle.std.specs.Ordering.{nat_cmp, is_lt}
use Rattle.gd_prim.specs.declared.Primitive.{Primitive}
use Rattle.gd_prim.specs.Live.{objects}
use Rattle.gd_defs.specs.Asked.{SortKey, Asked}
use Rattle.gd_defs.specs.Rows.{key_value, first_key, later_keys, row_of, meets, rows, sorted_onto}
use Rattle.gd_defs.specs.Rows as defs
use Rattle.gd_defs.specs.Reply.{Mark, mark_row, page, has_more}
use Rattle.gd_order_laws.specs.Window.{Each, Apart}
use Rattle.gd_window.specs.declared.keys.Key.{Key}
use Rattle.gd_window.specs.declared.row.Row.{Row}
use Rattle.gd_window.specs.Rows.{first_value, later_values, row_cmp}
use Rattle.gd_window.specs.Kept.{rows_behind}

-- the places of keys
abbrev pub places : List Key → List (Option ℕ)
places ks = map (λ k. k.place) ks

-- a row as the definitions have it, which look its values up; no link leads to it
abbrev pub defined : Row → defs.Row
defined r = record { object = r.id; link = 0; keys = places r.keys }

-- the directions of sort keys
abbrev pub directions : List SortKey → List Bool
directions sort = map (λ s. s.descending) sort

-- the value of each sort key is the one at its place, and missing where the place is
abbrev pub CarriesKeys : List Primitive → List SortKey → List Key → Type 0
CarriesKeys prims [] ks = Unit {0}
CarriesKeys prims (s ∷ sort) ks = (first_value ks ≡ option_map (key_value prims s) (first_key (places ks))) × CarriesKeys prims sort (later_values ks)

-- a row carries the values that stand at the places of its keys
abbrev pub Carries : List Primitive → List SortKey → Row → Type 0
Carries prims sort r = CarriesKeys prims sort r.keys

-- Rows that carry their values are ordered as the definitions order them.
abbrev pub RowsAreAsDefined : Type 0
RowsAreAsDefined = (prims : List Primitive) (sort : List SortKey) (a b : Row) → Carries prims sort a → Carries prims sort b → row_cmp (directions sort) a b ≡ defs.row_cmp prims sort (defined a) (defined b)

-- a window begins behind a mark: there is no mark and no row, or the row carries its values and is that of the mark
abbrev pub IsMarkRow : List Primitive → List SortKey → Option Mark → Option Row → Type 0
IsMarkRow prims sort None None = Unit {0}
IsMarkRow prims sort None (Some r) = ⊥
IsMarkRow prims sort (Some m) None = ⊥
IsMarkRow prims sort (Some m) (Some r) = Carries prims sort r × (defined r ≡ mark_row prims sort m)

-- rows that are offered: they carry their values, and are the rows of a query, each once, in any order
pub record AreRowsOf (prims : List Primitive) (q : Asked) (offered : List Row) : Type 0 where
  pub carry : Each (Carries prims q.sort) offered
  pub once : Apart (defs.row_cmp prims q.sort) (map defined offered)
  pub all : IsPermutation (map defined offered) (rows prims q)

-- what a window gives of rows is the page behind a mark, and it tells truly whether more follow
pub record IsPage (prims : List Primitive) (q : Asked) (mark : Option Mark) (after : Option Row) (offered : List Row) : Type 0 where
  pub given : map defined (take q.limit (rows_behind (directions q.sort) after offered)) ≡ page prims q mark
  pub more : nat_lt q.limit (length (rows_behind (directions q.sort) after offered)) ≡ has_more prims q mark

-- A window to which the rows of a query are offered, each once and in any order, gives the page behind the mark at which it begins.
abbrev pub WindowsGivePages : Type 0
WindowsGivePages = (prims : List Primitive) (q : Asked) (mark : Option Mark) (after : Option Row) (offered : List Row) → IsMarkRow prims q.sort mark after → AreRowsOf prims q offered → IsPage prims q mark after offered

-- ---- rows with their values

-- keys that stand at these places, one for each sort key, with the values there
abbrev pub keys_at : List Primitive → List SortKey → List (Option ℕ) → List Key
keys_at prims [] places = []
keys_at prims (s ∷ sort) places = record { value = option_map (key_value prims s) (first_key places); place = first_key places } ∷ keys_at prims sort (later_keys places)

-- a row of the definitions with the values of its keys
abbrev pub with_values : List Primitive → List SortKey → defs.Row → Row
with_values prims sort r = record { keys = keys_at prims sort r.keys; id = r.object }

-- A window that begins at the row of a mark, and to which the row of each object that meets a query is offered once, in any order, gives the page behind the mark.
abbrev pub ObjectsGivePages : Type 0
ObjectsGivePages = (prims : List Primitive) (q : Asked) (mark : Option Mark) (os : List ℕ) → Apart nat_cmp os → IsPermutation os (filter (meets prims q.members 0) (objects prims))
    → IsPage prims q mark (option_map (λ m. with_values prims q.sort (mark_row prims q.sort m)) mark) (map (λ o. with_values prims q.sort (row_of prims q.sort 0 o)) os)

-- rows behind a mark, if there is one, as the definitions compare them
abbrev pub behind_mark : List Primitive → List SortKey → Option Mark → List defs.Row → List defs.Row
behind_mark prims sort None rows = rows
behind_mark prims sort (Some m) rows = filter (λ r. is_lt (defs.row_cmp prims sort (mark_row prims sort m) r)) rows

-- Of the rows of any objects, those that come behind the row of a mark are, in their order, those that the definitions put in order behind the mark.
abbrev pub RowsBehindAreAsDefined : Type 0
RowsBehindAreAsDefined = (prims : List Primitive) (q : Asked) (mark : Option Mark) (os : List ℕ)
    → map defined (rows_behind (directions q.sort) (option_map (λ m. with_values prims q.sort (mark_row prims q.sort m)) mark) (map (λ o. with_values prims q.sort (row_of prims q.sort 0 o)) os))
    ≡ sorted_onto (defs.row_cmp prims q.sort) [] (behind_mark prims q.sort mark (map (row_of prims q.sort 0) os))

-- a row is told by its keys with their values: it has a key for each sort key, and no link leads to it
abbrev pub IsTold : List Primitive → List SortKey → defs.Row → Type 0
IsTold prims sort r = defined (with_values prims sort r) ≡ r

-- The row of an object is.
abbrev pub ObjectsAreTold : Type 0
ObjectsAreTold = (prims : List Primitive) (sort : List SortKey) (o : ℕ) → IsTold prims sort (row_of prims sort 0 o)

-- So is that of a mark.
abbrev pub MarksAreTold : Type 0
MarksAreTold = (prims : List Primitive) (sort : List SortKey) (m : Mark) → IsTold prims sort (mark_row prims sort m)

-- Of any rows that are told, those that come behind the row of a mark are, in their order, those that the definitions put in order behind the mark.
abbrev pub RowsToldAreAsDefined : Type 0
RowsToldAreAsDefined = (prims : List Primitive) (q : Asked) (mark : Option Mark) (rows : List defs.Row) → Each (IsTold prims q.sort) rows
    → map defined (rows_behind (directions q.sort) (option_map (λ m. with_values prims q.sort (mark_row prims q.sort m)) mark) (map (with_values prims q.sort) rows))
    ≡ sorted_onto (defs.row_cmp prims q.sort) [] (behind_mark prims q.sort mark rows)
