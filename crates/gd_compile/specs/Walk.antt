-- What a clause asks, and what of it is put in front of the rest of its members.
use Rattle.std.specs.Prelude.{◌≡◌, ◌≢◌, ℕ, ◌+◌, List, [], ◌∷◌, map, Bool, false, ◌||◌, Option, option_map, is_none, unwrap_or, Result, Ok, Err, MatchResult}
use Rattle.std.specs.Option.{option_map_or}
use Rattle.gd_grammar.specs.Chain.{◌>>=◌}
use Rattle.gd_prim.specs.declared.Primitive.{Primitive}
use Rattle.gd_defs.specs.Query as query
use Rattle.gd_defs.specs.Property.{Property, expects_of}
use Rattle.gd_defs.specs.Asked as defs
use Rattle.gd_defs.specs.Asked.Tests.{checked_test}
use Rattle.gd_defs.specs.Asked.Forms.{operand_form, clause_form}
use Rattle.gd_tree.specs.Json.{Json}
use Rattle.gd_form_laws.specs.Spelled.{form_depth}
use Rattle.gd_mql.specs.Clauses.{form_view}
use Rattle.gd_mql.specs.declared.clause.Part.{Part}
use Rattle.gd_mql.specs.declared.clause.Part.TheVariants as part
use Rattle.gd_plan.specs.Seen.{sort_key_view}
use Rattle.gd_plan.specs.Asked.{put, members_view}
use Rattle.gd_plan.specs.declared.asked.Member.{Member}
use Rattle.gd_compile.specs.declared.fault.Unknown.{Unknown}
use Rattle.gd_compile.specs.declared.fault.Unknown.TheVariants as fault
use Rattle.gd_compile.specs.declared.gathered.AskedClause.{AskedClause}
use Rattle.gd_compile.specs.declared.gathered.Gathered.{Gathered}
use Rattle.gd_compile.specs.Fault.{unknown_of}

-- a clause of the definitions, or why it has no meaning
abbrev pub Outcome : Type 0
Outcome = Result defs.Clause defs.Unknown

-- the clause that this is
abbrev pub clause_view : AskedClause → defs.Clause
clause_view c = (members_view c.members.items, map sort_key_view c.sort.items)

-- members in front of others
abbrev pub before : List Member → defs.Members → defs.Members
before [] rest = rest
before (m ∷ ms) rest = put m (before ms rest)

-- what was gathered, in front of the rest of a clause; of sort keys the first ones stay
abbrev pub in_front : Gathered → defs.Clause → defs.Clause
in_front g c = (before g.members.items c.0, unwrap_or (option_map (λ keys. map sort_key_view keys.items) g.sort) c.1)

-- a clause with members in front of its own
abbrev pub led : (defs.Members → defs.Members) → Outcome → Outcome
led g rest = rest >>= λ c. Ok (g c.0, c.1)

-- The call gives the member that leads the rest of a clause, or the reason why that has no meaning, in whose place want of memory may come.
abbrev pub Leads : (Outcome → Outcome) → Result Member Unknown → Type 0
Leads whole result = MatchResult result (λ m. (rest : Outcome) → whole rest ≡ led (put m) rest) (λ e. e ≢ fault.Memory → (rest : Outcome) → whole rest ≡ Err (unknown_of e))

-- A part is taken from the front of what is left of a clause, and what it asks is put behind what was gathered; or it has no meaning, and so has the clause.
abbrev pub Adds : Outcome → Outcome → Gathered → Gathered → Result (Unit {0}) Unknown → Type 0
Adds whole rest old new result = MatchResult result (λ _. (whole >>= λ c. Ok (in_front old c)) ≡ (rest >>= λ c. Ok (in_front new c))) (λ e. e ≢ fault.Memory → whole ≡ Err (unknown_of e))

-- a member of a clause in its context type, in front of the rest
abbrev pub asked_member : List Primitive → Option ℕ → List (List ℕ) → query.Name → query.Form → Outcome → Outcome
asked_member prims context path n f rest = option_map_or
    (λ o. defs.own_member path n o f (defs.own_test prims path o n.operator) rest)
    (defs.own_of n.word)
    (defs.member_property prims context path n >>= λ p. defs.asked_form prims path n p f >>= λ g. led g rest)

-- a clause in the context type that it has below a property, or at the root
abbrev pub asked_clause : List Primitive → Option ℕ → List (List ℕ) → query.Members → Outcome
asked_clause prims above path ms = defs.context_of prims above (defs.type_text ms) >>= λ t. defs.asked prims t path ms

-- a form below a property
abbrev pub asked_below : List Primitive → List (List ℕ) → Property → query.Members → Outcome
asked_below prims path p ms = defs.below_property prims path p ms (λ t. defs.asked prims t path ms)

-- what a literal or an operand asks of a property, with the test that its operator makes of it
abbrev pub tested_form : List Primitive → List (List ℕ) → List ℕ → Property → query.Operator → Bool → Json → Result (defs.Members → defs.Members) defs.Unknown
tested_form prims path name p operator literal j = checked_test prims (expects_of p.expected) path operator j >>= λ t. Ok (operand_form name p (expects_of p.expected) literal j t)

-- what a form {..} asks of a property, or [{..}] where a list is asked for
abbrev pub object_form : List Primitive → List (List ℕ) → List ℕ → Property → query.Clause → Bool → Result (defs.Members → defs.Members) defs.Unknown
object_form prims path name p c listed = asked_below prims path p c.1 >>= λ d. Ok (clause_form name p c.0 listed d)

-- so many parts stand among members
abbrev pub parts_count : query.Members → ℕ
parts_count query.no_members = 0
parts_count (query.member n f ms) = 1 + parts_count ms
parts_count (query.sort_by ws ms) = 1 + parts_count ms

-- so many forms {..} lie one within the other in a part
abbrev pub part_depth : Part → ℕ
part_depth (part.Member n f) = form_depth (form_view f)
part_depth (part.Sort ws) = 0

-- a member of a clause asks a property
abbrev pub asks_property : query.Members → Bool
asks_property query.no_members = false
asks_property (query.member n f ms) = is_none (defs.own_of n.word) || asks_property ms
asks_property (query.sort_by ws ms) = asks_property ms

-- a part is such a member
abbrev pub part_asks : Part → Bool
part_asks (part.Member n f) = is_none (defs.own_of n.word.now)
part_asks (part.Sort ws) = false
