-- The first faults of form of the parts of a query, as words of their own.
use Rattle.std.specs.Prelude.{ℕ, List, ◌∷◌, Bool, Option}
use Rattle.std.specs.Result.{result_err}
use Rattle.gd_tree.specs.Json.{Json, Members, no_members, member}
use Rattle.gd_defs.specs.Query.{Fault, Name, clause_of, form_of, form_or_operand, query_of}

-- the first fault of a clause of these members, at the root or elsewhere
unfoldable pub clause_fault : Bool → Members → Option Fault
clause_fault root ms = result_err (clause_of root ms)

-- the first fault of a member of this name and value alone
unfoldable pub member_fault : Bool → List ℕ → Json → Option Fault
member_fault root k j = result_err (clause_of root (member k j no_members))

-- the first fault of a value as the form of a member
unfoldable pub form_fault : Name → Json → Option Fault
form_fault n j = result_err (form_of n j)

-- the first fault of a value as the form or the operand of a member
unfoldable pub value_fault : Name → Json → Option Fault
value_fault n j = result_err (form_or_operand n j (form_of n j))

-- a fault as it is seen from above the member of this name
abbrev pub below : List ℕ → Fault → Fault
below name f = record { code = f.code; path = name ∷ f.path }

-- the first fault of a value as the query of a read
unfoldable pub query_fault : Json → Option Fault
query_fault j = result_err (query_of j)
