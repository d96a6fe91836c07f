-- How deep the forms of a query lie one within the other.
use Rattle.std.specs.Prelude.{ℕ, ◌+◌, max}
use Rattle.gd_defs.specs.Query as query

abbrev mutual
  -- so many forms {..} lie one within the other below a clause
  pub forms_below : query.Members → ℕ
  forms_below query.no_members = 0
  forms_below (query.sort_by ws ms) = forms_below ms
  forms_below (query.member n f ms) = max (forms_in f) (forms_below ms)

  -- so many forms {..} lie one within the other in a form
  pub forms_in : query.Form → ℕ
  forms_in query.ask = 0
  forms_in query.ask_all = 0
  forms_in (query.literal j) = 0
  forms_in (query.operand j) = 0
  forms_in (query.one d ms) = 1 + forms_below ms
  forms_in (query.many d ms) = 1 + forms_below ms
