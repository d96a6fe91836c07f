use Rattle.std.proofs.Common.{◌∙◌, ap, sym, false}
use Rattle.std.specs.Prelude.{option_map}
use Rattle.std.specs.Option.{option_map_or}
use Rattle.gd_base.specs.declared.datum.Datum.{Datum}
use Rattle.gd_postings.specs.Postings.{Places}
use Rattle.gd_valueidx.specs.Runs.{is_before}
use Rattle.gd_valueidx.proofs.Each.{keys_get}
use Rattle.gd_valueidx.proofs.order.stands_before.Goals as goal

pub returns-in-Some : goal.returns-in-Some
returns-in-Some c =
    c.is_before_value.ensures
    ∙ sym (ap (λ o. option_map_or (is_before c.args.value.now c.args.with) o false)
    (keys_get c.args.values.now.entries c.args.number ∙ ap (option_map (λ (e : Datum × Places). e.0)) (sym c.in-Some.ensures.entry)))

pub returns-in-None : goal.returns-in-None
returns-in-None c =
    sym (ap (λ o. option_map_or (is_before c.args.value.now c.args.with) o false)
    (keys_get c.args.values.now.entries c.args.number ∙ ap (option_map (λ (e : Datum × Places). e.0)) (sym c.in-None.ensures.entry)))
