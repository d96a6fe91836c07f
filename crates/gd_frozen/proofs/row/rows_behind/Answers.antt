use Rattle.std.proofs.Common.{◌≡◌, sym, subst, ap, ℕ, List, Ok, map}
use Rattle.gd_grammar.specs.Grammar.{Reads}
use Rattle.gd_grammar.specs.Mark.{Mark}
use Rattle.gd_bytes.specs.FrozenRead.{row_at, some_at}
use Rattle.gd_frozen.specs.Halts.{Gets}
use Rattle.gd_frozen.specs.Meaning.{row_of}
use Rattle.gd_frozen.specs.RowSteps.{some_rows_at, rows_behind_at}
use Rattle.gd_frozen.proofs.Others.{closed_at_once, not_closed, shut}
use Rattle.gd_frozen.proofs.row.rows_behind.Goals as goal

pub returns-in-Some : goal.returns-in-Some
unfolding rows_behind_at
returns-in-Some c = search (closed_at_once (some_at 1000 59 row_at) c.args.bytes.now c.in-Some.behind.now c.in-Some.ensures, c.new.ensures.items)

pub returns-in-None : goal.returns-in-None
unfolding rows_behind_at some_rows_at
returns-in-None c = subst (λ (r : Reads (List Mark)). Gets (λ x. (map row_of x.0.items, x.1.now)) r c.further_rows.result) (ap shut (sym (not_closed (some_at 1000 59 row_at) c.args.bytes.now c.in-None.ensures))) c.further_rows.ensures
