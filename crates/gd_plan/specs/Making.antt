-- What calls that make templates and clauses give.
use Rattle.std.specs.Prelude.{◌≡◌, ◌≢◌, ◌<◌, ℕ, List, [], ◌∷◌, Bool, Result, MatchResult, if◌then◌else◌}
use Rattle.gd_prim.specs.declared.End.TheVariants.{Typ}
use Rattle.gd_defs.specs.Asked.{Asking, Members, no_members, own, asks}
use Rattle.gd_defs.specs.Plan.{asked_end, link_template, clauses_of}
use Rattle.gd_defs.specs.Query.{optional}
use Rattle.gd_defs.specs.Template.{place_in, links_by, end_here, template, Clauses, no_clauses, clause, depth, clauses_depth, max_depth}
use Rattle.gd_template.specs.View.{Parts, clauses_of as listed}
use Rattle.gd_plan.specs.declared.fault.PlanFault.{PlanFault}
use Rattle.gd_plan.specs.declared.fault.PlanFault.TheVariants as fault

-- The call makes what is expected, seen through `view`, or finds it deeper than templates may be; in place of either want of memory may come.
abbrev pub Makes : {A B : Type 0} → (A → B) → (B → ℕ) → B → Result A PlanFault → Type 0
Makes view depth_of expected result = MatchResult result (λ a. view a ≡ expected) (λ e. e ≢ fault.Memory → max_depth < depth_of expected)

-- so many templates lie one within another below a clause
abbrev pub part_depth : Parts → ℕ
part_depth c = depth c.2

-- clauses of these parts in front of others
abbrev pub in_front : List Parts → Clauses → Clauses
in_front [] rest = rest
in_front (c ∷ cs) rest = clause c.0 c.1 c.2 (in_front cs rest)

-- so many templates lie one within another below clauses of these parts
abbrev pub parts_depth : List Parts → ℕ
parts_depth cs = clauses_depth (listed cs)

-- what stands in front of clauses that come of no literal
abbrev pub unless_parts : Bool → List Parts
unless_parts given = if given then [] else (optional, end_here Typ, template (place_in [] ∷ []) no_clauses) ∷ []

-- the clause of a member that asks a property
abbrev pub member_part : Asking → Members → Parts
member_part a c = (a.mode, links_by (asked_end a.property), link_template a c (clauses_of a.sort c))

-- the clauses of members: one for each that asks a property
abbrev pub member_parts : Members → List Parts
member_parts no_members = []
member_parts (own name w t j ms) = member_parts ms
member_parts (asks name a c ms) = member_part a c ∷ member_parts ms
