use Rattle.std.proofs.Common.{◌∙◌, ap, sym, Ok, Bool}
use Rattle.std.specs.Prelude.{if◌then◌else◌}
use Rattle.gd_json.specs.View.{view}
use Rattle.gd_defs.specs.Query as query
use Rattle.gd_form_laws.proofs.Clauses.{operand-part, form-given, form-part}
use Rattle.gd_mql.specs.Names.{name_view}
use Rattle.gd_mql.proofs.clause.Form.of.Goals as goal

pub returns-then-wants_operand : goal.returns-then-wants_operand
returns-then-wants_operand c =
    let n = name_view c.args.name.now in
    let j = view c.args.value.now in
    operand-part n j (sym c.if-wants_operand.ensures) c.requires ∙ ap Ok (ap (λ (b : Bool). if b then query.operand j else query.literal j) (sym c.has_operator.ensures) ∙ sym c.operand.ensures)

pub of_value-requires : goal.of_value-requires
of_value-requires c = form-given (name_view c.args.name.now) (view c.args.value.now) (sym c.if-wants_operand.ensures) c.requires

pub returns : goal.returns
returns c = form-part (name_view c.args.name.now) (view c.args.value.now) (sym c.if-wants_operand.ensures) ∙ c.of_value.ensures
