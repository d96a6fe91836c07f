-- The laws of orders, of windows and of pages.
use Rattle.std.specs.Prelude.{◌≡◌, ℕ, ◌*◌, ◌≤◌, List, [], ◌∷◌, ◌++◌, true, None, Some, length, take, map, flat_map}
use Rattle.std.specs.Cmp.{IsTotalOrder}
use Rattle.std.specs.Bool.{Decides}
use Rattle.std.specs.List.Sorted.{IsPermutation}
use Rattle.std.specs.Ordering.{nat_cmp}
use Rattle.std.specs.declared.cmp.Ordering.TheVariants.{Equal}
use Rattle.gd_base.specs.declared.datum.Datum.{Datum}
use Rattle.gd_base.specs.Order.{datum_cmp, datum_eq}
use Rattle.gd_prim.specs.declared.Primitive.{Primitive}
use Rattle.gd_prim.specs.Live.{objects}
use Rattle.gd_defs.specs.Asked.{SortKey, Asked}
use Rattle.gd_defs.specs.Rows.{Row, row_of, keys_cmp, row_cmp, rows, meets, sorted_onto}
use Rattle.gd_defs.specs.Reply.{row_mark, mark_row, rows_after}
use Rattle.gd_order_laws.specs.Window.{In, Apart, Rising, kept_onto}
use Rattle.gd_order_laws.specs.Pages.{pages}

-- The order of data is total, and only equal data tie.
pub record DataAreOrdered : Type 0 where
  pub total : IsTotalOrder datum_cmp
  pub decides : (a b : Datum) → Decides (datum_eq a b) (a ≡ b)

-- The order of key lists is total, whatever their lengths are.
abbrev pub KeysAreOrdered : Type 0
KeysAreOrdered = (prims : List Primitive) (sort : List SortKey) → IsTotalOrder (keys_cmp prims sort)

-- an order of rows is total, and rows that tie are of one object
pub record IsRowOrder (prims : List Primitive) (sort : List SortKey) : Type 0 where
  pub total : IsTotalOrder (row_cmp prims sort)
  pub ties : (a b : Row) → row_cmp prims sort a b ≡ Equal → a.object ≡ b.object

-- The order of rows is total, and rows that tie are of one object.
abbrev pub RowsAreOrdered : Type 0
RowsAreOrdered = (prims : List Primitive) (sort : List SortKey) → IsRowOrder prims sort

-- a row is that of an object that meets the query
pub record IsRowOf (prims : List Primitive) (q : Asked) (r : Row) : Type 0 where
  pub object : ℕ
  pub stands : In object (objects prims)
  pub meeting : meets prims q.members 0 object ≡ true
  pub is : row_of prims q.sort 0 object ≡ r

-- the rows of a query rise; each is of an object that meets it, each such object has one, and none has two
pub record StandOnce (prims : List Primitive) (q : Asked) : Type 0 where
  pub rising : Rising (row_cmp prims q.sort) (rows prims q)
  pub once : Apart nat_cmp (map (λ r. r.object) (rows prims q))
  pub all : (o : ℕ) → In o (objects prims) → meets prims q.members 0 o ≡ true → In (row_of prims q.sort 0 o) (rows prims q)
  pub known : (r : Row) → In r (rows prims q) → IsRowOf prims q r

-- The rows of a query rise, one for each object that meets it.
abbrev pub RowsStandOnce : Type 0
RowsStandOnce = (prims : List Primitive) (q : Asked) → StandOnce prims q

-- The order in which rows are offered does not matter, where no two tie.
abbrev pub OfferedInAnyOrder : Type 0
OfferedInAnyOrder = (prims : List Primitive) (sort : List SortKey) (xs ys : List Row) → IsPermutation xs ys → Apart (row_cmp prims sort) xs → Apart (row_cmp prims sort) ys
    → sorted_onto (row_cmp prims sort) [] xs ≡ sorted_onto (row_cmp prims sort) [] ys

-- The first rows of all can be kept row by row: of those kept so far and one more the first ones.
abbrev pub WindowKeeps : Type 0
WindowKeeps = (prims : List Primitive) (sort : List SortKey) (n : ℕ) (done more : List Row) → take n (sorted_onto (row_cmp prims sort) done more) ≡ kept_onto (row_cmp prims sort) n (take n done) more

-- The mark of a row of a query, read again by its places, is that row.
abbrev pub MarksGiveRows : Type 0
MarksGiveRows = (prims : List Primitive) (q : Asked) (r : Row) → In r (rows prims q) → mark_row prims q.sort (row_mark r) ≡ r

-- Behind the mark of a row come the rows behind it.
abbrev pub RowsFollowMarks : Type 0
RowsFollowMarks = (prims : List Primitive) (q : Asked) (done : List Row) (r : Row) (rest : List Row) → rows prims q ≡ done ++ r ∷ rest → rows_after prims q (Some (row_mark r)) ≡ rest

-- The pages of a query, each behind the mark of the last row of the one before, are its rows, where they are enough pages.
abbrev pub PagesJoin : Type 0
PagesJoin = (prims : List Primitive) (q : Asked) (n : ℕ) → length (rows prims q) ≤ n * q.limit → flat_map (λ p. p) (pages prims q n None) ≡ rows prims q
