-- What tests ask of values and objects, taken apart.
use Rattle.std.specs.Prelude.{ℕ, Bool, true, false, Option, Some, None}
use Rattle.gd_base.specs.declared.datum.Datum.{Datum}
use Rattle.gd_base.specs.declared.datum.Datum.TheVariants as datum
use Rattle.gd_defs.specs.Data.{Test, anything, equals, differs, is_one_of, is_below, is_above, matches_words}
use Rattle.gd_template.specs.View.{Parts}
use Rattle.gd_defs.specs.Template.{Clauses, clause, Constraint, value_is, value_not, value_in, below, above, matches}

-- a test of a value leaves open of which kind that is
abbrev pub asks_kind : Test → Bool
asks_kind anything = true
asks_kind (differs v) = true
asks_kind _ = false

-- what a test of a value asks beside its kind
abbrev pub value_constraint : Test → Option Constraint
value_constraint anything = None
value_constraint (equals v) = Some (value_is v)
value_constraint (differs v) = Some (value_not v)
value_constraint (is_one_of vs) = Some (value_in vs)
value_constraint (is_below v e) = Some (below v e)
value_constraint (is_above v e) = Some (above v e)
value_constraint (matches_words p) = Some (matches p)

-- the place of the object that a datum is
abbrev pub place_of : Datum → Option ℕ
place_of (datum.Object o) = Some o
place_of _ = None

-- a clause of these parts in front of others, if there is one
abbrev pub with_clause : Option Parts → Clauses → Clauses
with_clause (Some c) rest = clause c.0 c.1 c.2 rest
with_clause None rest = rest
