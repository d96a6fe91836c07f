-- The published copies: what operations do to them, and what each place at their table knows.
use Rattle.std.specs.Prelude.{◌≡◌, ℕ, List, [], ◌∷◌, ◌++◌, length}
use Rattle.core.specs.declared.option.Option.{Option}
use Rattle.core.specs.declared.option.Option.TheVariants.{Some}
use mathlib.Core.Option.{some}
use mathlib.Core.List.{IsPrefix}
use lib.ListN.{get_elem?}
use Rattle.logbook.specs.Pages.{Named}
use Rattle.gd_prim.specs.declared.Batch.{Batch}
use Rattle.gd_shared.specs.History.{FrontValue, counter_of}
use Rattle.gd_shared.specs.declared.published.Published.{Published}
use Rattle.gd_shared.specs.declared.published.Op.{Op}
use Rattle.gd_shared.specs.declared.published.Op.TheVariants.{Add, Close}

-- what an operation does to a copy
abbrev pub applied : Published → Op → Published
applied copy (Add batch) = record copy { store = copy.store ++ batch ∷ [] }
applied copy (Close front) = record copy { front = front }

-- the batches that operations add
abbrev pub added : List Op → List Batch
added [] = []
added (Add batch ∷ ops) = batch ∷ added ops
added (Close front ∷ ops) = added ops

-- a front goes on from another one of the same history
abbrev pub GoesOn : FrontValue → FrontValue → Type 0
GoesOn later earlier = (earlier.history ≡ later.history) × IsPrefix earlier.list later.list

-- the rule of the table: the front of the published copy is that of its store, and goes on from each front that a place knows
abbrev pub IsTable : Published → List (Option FrontValue) → Type 0
IsTable copy known = (copy.front.list ≡ copy.store) × ((place : ℕ) (front : FrontValue) → get_elem? known place ≡ some (Some front) → GoesOn copy.front front)

-- a place takes the published copy, whose front goes on from the one that it knew, and knows that front then
abbrev pub Takes : Option FrontValue → Published → Option FrontValue → Type 0
Takes known copy knows = (copy.front.list ≡ copy.store) × ((front : FrontValue) → known ≡ Some front → GoesOn copy.front front) × (knows ≡ Some copy.front)

-- what a publisher keeps, of the copy that is shown, the front that its place knows, the pending operations, the counter, the front of the history so far and the number of batches
pub record IsPublisher (shown : Published) (known : Option FrontValue) (ops : List Op) (counter : Named) (front : FrontValue) (total : ℕ) : Type 0 where
  pub of_store : shown.front.list ≡ shown.store
  pub one_history : shown.front.history ≡ front.history
  pub knows : known ≡ Some shown.front
  pub counts : counter ≡ counter_of front.history
  pub recorded : IsPrefix shown.store front.list
  pub pending : IsPrefix front.list (shown.store ++ added ops)
  pub number : total ≡ length (shown.store ++ added ops)

-- what a seat keeps: its place knows a front that goes on from the one that was entered last, and it was told of the same history
pub record IsSeated (known : Option FrontValue) (entered told : FrontValue) : Type 0 where
  pub last : FrontValue
  pub knows : known ≡ Some last
  pub goes_on : GoesOn last entered
  pub one_history : told.history ≡ entered.history
