-- The laws of writes and of histories.
use Rattle.std.specs.Prelude.{◌≡◌, ℕ, ◌<◌, ◌≤◌, List, [], ◌∷◌, ◌++◌, length, Bool, true, ◌&&◌, ◌||◌, None, Some, Ok, slice_get, take, IsTrue}
use Rattle.std.specs.List.{All}
use Rattle.gd_prim.specs.declared.Primitive.{Primitive}
use Rattle.gd_prim.specs.declared.Batch.{Batch}
use Rattle.gd_prim.specs.Live.{refers, passes_at, is_object}
use Rattle.gd_prim.specs.History.{prims_of, is_history}
use Rattle.gd_prim.specs.WellFormed.{max_moment, may_follow}
use Rattle.gd_tree.specs.Json.{Json, list, Items, no_items, item}
use Rattle.gd_defs.specs.Change.{Change, change_of}
use Rattle.gd_defs.specs.Property.{Property, near_of, answers}
use Rattle.gd_defs.specs.Write.{WriteSet, one_change, changes, WriteRequest, changes_of, exec}
use Rattle.gd_write_laws.specs.Sound.{IsSound}
use Rattle.gd_write_laws.specs.Fits.{ChangesSpell}
use Rattle.gd_tree.specs.Bounds.{IsPlain}
use Rattle.gd_write_laws.specs.Values.{MayHold, IsTyped}
use Rattle.gd_tree.specs.Bounds.{json_depth}

-- The batch of a write may follow the list that it was made on, where that is not empty, refers back and holds what it may.
abbrev pub WritesFollow : Type 0
WritesFollow = (prims : List Primitive) (requests : ℕ) (w : WriteRequest) (moment : ℕ) (b : Batch) (j : Json)
    → IsSound MayHold prims → 0 < length prims → moment ≤ max_moment → exec prims requests w moment ≡ Ok (b, j) → may_follow prims requests b ≡ true

-- The primitives of a history refer back, and may hold their values.
abbrev pub HistoriesAreSound : Type 0
HistoriesAreSound = (batches : List Batch) → IsTrue (is_history batches) → IsSound MayHold (prims_of batches)

-- The first so many batches of a history are one.
abbrev pub HistoriesHaveFronts : Type 0
HistoriesHaveFronts = (batches : List Batch) (n : ℕ) → IsTrue (is_history batches) → IsTrue (is_history (take n batches))

-- A history and the batch of a write on it are a history.
abbrev pub HistoriesGrow : Type 0
HistoriesGrow = (batches : List Batch) (w : WriteRequest) (moment : ℕ) (b : Batch) (j : Json)
    → IsTrue (is_history batches) → moment ≤ max_moment → exec (prims_of batches) (length batches) w moment ≡ Ok (b, j) → IsTrue (is_history (batches ++ b ∷ []))

-- The types of the code hold a list with the batch of a write, where they hold the list and what each literal of the write spells; T is the test of texts.
abbrev pub ListsStayTyped : Type 0
ListsStayTyped = (T : List ℕ → Bool) (prims : List Primitive) (requests : ℕ) (w : WriteRequest) (moment : ℕ) (b : Batch) (j : Json)
    → IsSound (IsTyped T) prims → 0 < length prims → ChangesSpell (IsTyped T) (changes_of w.asks) → exec prims requests w moment ≡ Ok (b, j) → IsSound (IsTyped T) (prims ++ b.prims)

-- the items of a list spell changes, in order
abbrev pub SpellEach : Items → List Change → Type 0
SpellEach no_items [] = Unit {0}
SpellEach (item j js) (c ∷ cs) = (change_of j ≡ Ok c) × SpellEach js cs
SpellEach _ _ = ⊥

-- a JSON value spells what a write asks: one change, or as a list several
abbrev pub SpellsSet : Json → WriteSet → Type 0
SpellsSet query (one_change c) = change_of query ≡ Ok c
SpellsSet query (changes cs) = (js : Items) × (query ≡ list js) × SpellEach js cs

-- They hold what a JSON value spells whose texts pass the test.
abbrev pub PlainIsTyped : Type 0
PlainIsTyped = (T : List ℕ → Bool) (query : Json) (a : WriteSet) → IsPlain T query → SpellsSet query a → ChangesSpell (IsTyped T) (changes_of a)

-- primitives whose values the types of the code hold, without names
pub record AreTyped (T : List ℕ → Bool) (prims : List Primitive) : Type 0 where
  pub values : All (λ p. IsTyped T p.value) prims
  pub unnamed : All (λ p. p.name ≡ None) prims

-- The types of the code hold the values of a batch, whose primitives have no names.
abbrev pub BatchesAreTyped : Type 0
BatchesAreTyped = (T : List ℕ → Bool) (prims : List Primitive) (requests : ℕ) (w : WriteRequest) (moment : ℕ) (b : Batch) (j : Json)
    → IsSound (IsTyped T) prims → 0 < length prims → ChangesSpell (IsTyped T) (changes_of w.asks) → exec prims requests w moment ≡ Ok (b, j) → AreTyped T b.prims

-- A write ends no object.
abbrev pub ObjectsStay : Type 0
ObjectsStay = (prims : List Primitive) (requests : ℕ) (w : WriteRequest) (moment : ℕ) (b : Batch) (j : Json)
    → IsSound MayHold prims → 0 < length prims → exec prims requests w moment ≡ Ok (b, j) → (k : ℕ) → is_object prims k ≡ true → is_object (prims ++ b.prims) k ≡ true

-- The result of a write is no deeper than what spells it.
abbrev pub ResultsAreFlat : Type 0
ResultsAreFlat = (prims : List Primitive) (requests : ℕ) (query : Json) (w : WriteRequest) (moment : ℕ) (b : Batch) (j : Json)
    → SpellsSet query w.asks → exec prims requests w moment ≡ Ok (b, j) → json_depth j ≤ json_depth query

-- an answer of a property on an object: a link of the stored property, with the object at its near end, above the object
pub record IsAnswer (prims : List Primitive) (p : Property) (o k : ℕ) : Type 0 where
  pub link : passes_at (λ q. refers q.typ p.stored && refers (near_of p q) o) prims k ≡ true
  pub above : o < k

-- Each primitive that has an object as an end stands above the object.
abbrev pub LinksStandAbove : Type 0
LinksStandAbove = (prims : List Primitive) (k : ℕ) (q : Primitive) (o : ℕ) → IsSound MayHold prims → slice_get prims k ≡ Some q
    → (refers q.left o || refers q.right o || refers q.typ o || refers q.scope o) ≡ true → o < k

-- Each answer of a property on an object is a link of it that stands above the object.
abbrev pub AnswersStandAbove : Type 0
AnswersStandAbove = (prims : List Primitive) (p : Property) (o : ℕ) → IsSound MayHold prims → All (IsAnswer prims p o) (answers prims p o)

-- The answers on an object behind a list stand behind it too: those on a new object lie in its batch alone.
abbrev pub NewAnswersAreNew : Type 0
NewAnswersAreNew = (prims more : List Primitive) (p : Property) (o : ℕ) → IsSound MayHold (prims ++ more) → length prims ≤ o → All (λ k. length prims < k) (answers (prims ++ more) p o)
