-- What is gathered of a template while its items are read.
use Rattle.std.specs.Prelude.{◌≡◌, ◌≤◌, ℕ, List, [], ◌∷◌, ◌++◌, map, Ok}
use Rattle.gd_defs.specs.Template as defs
use Rattle.gd_template.specs.Seen.{constraint_of}
use Rattle.gd_template.specs.View.{Parts as ClauseParts, parts}
use Rattle.gd_tplang.specs.Meaning.{constraints_of, constraints_in, meaning}
use Rattle.gd_tplang.specs.Written.{Item, test, clause, Items, no_items, item, template_of}
use Rattle.gd_tplang.specs.declared.build.Parts.{Parts}

-- constraints, and the parts of clauses
pub record Gathered : Type 0 where
  pub constraints : List defs.Constraint
  pub clauses : List ClauseParts

-- nothing yet
abbrev pub nothing : Gathered
nothing = record { constraints = []; clauses = [] }

-- what the code has gathered
abbrev pub gathered : Parts → Gathered
gathered p = record { constraints = map constraint_of p.constraints.items; clauses = map parts p.clauses.items }

-- the constraints that an item stands for
abbrev pub item_constraints : Item → List defs.Constraint
item_constraints (test t) = constraints_of t
item_constraints (clause mode hop t) = []

-- the parts of the clause that an item is
abbrev pub item_clauses : Item → List ClauseParts
item_clauses (test t) = []
item_clauses (clause mode hop t) = (mode, hop, meaning t) ∷ []

-- the parts of the clauses of a template
abbrev pub parts_in : Items → List ClauseParts
parts_in no_items = []
parts_in (item i rest) = item_clauses i ++ parts_in rest

-- with an item more
abbrev pub with_item : Item → Gathered → Gathered
with_item i g = record { constraints = g.constraints ++ item_constraints i; clauses = g.clauses ++ item_clauses i }

-- with items more
abbrev pub with_items : Items → Gathered → Gathered
with_items t g = record { constraints = g.constraints ++ constraints_in t; clauses = g.clauses ++ parts_in t }

-- the bytes are the text of a template that is not too deep
abbrev pub IsBuildable : List ℕ → Type 0
IsBuildable bytes = (t : Items) × (template_of bytes ≡ Ok t) × (defs.depth (meaning t) ≤ defs.max_depth)
