-- Which clauses the members of a query have: a form its own, anything else at most the one that asks for the name.
use Rattle.std.specs.Prelude.{◌≡◌, [], false, true}
use Rattle.gd_defs.specs.Asked.{Asking, Members, no_members, own, asks, name_property}
use Rattle.gd_defs.specs.Plan.{answers_of}
use Rattle.gd_defs.specs.Reply.{is_clause}
use Rattle.gd_template_laws.specs.Laws.{OnObjects}

-- no members, or the name alone
abbrev pub IsNameOnly : Members → Type 0
IsNameOnly no_members = Unit {0}
IsNameOnly (own name w t j ms) = ⊥
IsNameOnly (asks name a c ms) = (a.property ≡ name_property) × (ms ≡ no_members)

-- what does not print a clause has none but the name, and no sort keys; a literal prints none
pub record IsFormed (a : Asking) (c : Members) : Type 0 where
  pub plain : is_clause a.style ≡ false → IsNameOnly c × (a.sort ≡ [])
  pub given : a.given ≡ true → is_clause a.style ≡ false

-- so has each member, also of the clauses below
abbrev pub AreFormed : Members → Type 0
AreFormed no_members = Unit {0}
AreFormed (own name w t j ms) = AreFormed ms
AreFormed (asks name a c ms) = IsFormed a c × (OnObjects (answers_of a.property) (AreFormed c) × AreFormed ms)
