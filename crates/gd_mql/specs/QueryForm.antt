-- The parts of a query that have no clauses below them.
use Rattle.std.specs.Prelude.{◌≡◌, ℕ, List, [], ◌∷◌, Bool, ◌||◌, ◌&&◌, not, Result, Ok, Err, MatchResult}
use Rattle.gd_tree.specs.Json.{Json}
use Rattle.gd_tree.specs.Look.{is_null}
use Rattle.gd_defs.specs.Query as query
use Rattle.gd_defs.specs.Query.{Fault, member_name, has_operator, is_computed, is_link, is_other_list}
use Rattle.gd_fault.specs.Fault.{code_view}
use Rattle.gd_mql.specs.Names.{name_view}
use Rattle.gd_fault.specs.declared.fault.Code.{Code}
use Rattle.gd_mql.specs.declared.name.Name.{Name}

-- the call gives the name of a member that is no directive, or the code of the fault at that member
abbrev pub NameGives : Bool → List ℕ → Result Name Code → Type 0
NameGives root k result = MatchResult result (λ n. member_name root k ≡ Ok (name_view n)) (λ c. member_name root k ≡ Err (record { code = code_view c; path = k ∷ [] }))

-- the value stands for an operand: behind an operator, and at a computed word or `link`, unless it is null or a list that is none
abbrev pub takes_operand : query.Name → Json → Bool
takes_operand n j = has_operator n || (not (not (is_computed n.word || is_link n.word)) && (not (is_null j) && not (is_other_list j)))
