use Rattle.std.proofs.Common.{sym, subst}
use Rattle.gd_json.specs.View.{view}
use Rattle.gd_mql.specs.FormFault.{Refuses}
use Rattle.gd_mql.proofs.Literals.{directive-told}
use Rattle.gd_mql.proofs.query_form.check_directive.Goals as goal

pub returns-then-directive_fits : goal.returns-then-directive_fits
returns-then-directive_fits c = rw (← c.if-directive_fits.ensures) at (directive-told c.args.root c.args.word (view c.args.value.now))

pub returns-else-directive_fits : goal.returns-else-directive_fits
returns-else-directive_fits c = let told = rw (← c.if-directive_fits.ensures) at (directive-told c.args.root c.args.word (view c.args.value.now)) in
    subst (λ e. Refuses e c.fault_at.result) (sym told) (rw c.name.ensures at c.fault_at.ensures)
