-- What a query comes to, and the texts of several.
use Rattle.std.specs.Prelude.{◌≡◌, ℕ, List, [], ◌∷◌, ◌++◌, codes, Option, option_map, Result, Ok, Err}
use Rattle.gd_tree.specs.Json.{Json, compact}
use Rattle.gd_json.specs.View.{view}
use Rattle.gd_defs.specs.Lines.{Refusal}
use Rattle.gd_defs.specs.Reply as reply
use Rattle.gd_reply.specs.Refusals.{refusal_of, CountsFit}
use Rattle.gd_reply.specs.declared.answer.Answer.{Answer}
use Rattle.gd_reply.specs.declared.answer.Answer.TheVariants.{Found, Refused}

-- what is told of an answer of the definitions: the cursor and the text of its value, or its refusal
abbrev pub told_of : reply.Answer → Result (Option Json × List ℕ) Refusal
told_of (Ok found) = Ok (found.0, compact found.1)
told_of (Err r) = Err r

-- the same of an answer
abbrev pub told_by : Answer → Result (Option Json × List ℕ) Refusal
told_by (Found cursor outcome) = Ok (option_map view cursor, outcome.items)
told_by (Refused r) = Err (refusal_of r)

-- the numbers that it tells are of JSON
abbrev pub AnswerFits : Answer → Type 0
AnswerFits (Found cursor outcome) = Unit {0}
AnswerFits (Refused r) = CountsFit r

-- an answer tells this one of the definitions, and may be printed
pub record Tells (expected : reply.Answer) (a : Answer) : Type 0 where
  pub is : told_by a ≡ told_of expected
  pub fits : AnswerFits a

-- ---- texts

-- texts, a comma before each
abbrev pub further : List (List ℕ) → List ℕ
further [] = []
further (t ∷ ts) = codes "," ++ t ++ further ts

-- texts with commas between them
abbrev pub joined : List (List ℕ) → List ℕ
joined [] = []
joined (t ∷ ts) = t ++ further ts
