use Rattle.std.proofs.Common.{◌∙◌, ap, sym, refl}
use Rattle.gd_base.proofs.Order.{datum_eq_decides}
use Rattle.gd_lists.specs.Entries.{without_entry}
use Rattle.gd_valueidx.specs.Values.{value_list, values_in, without_value}
use Rattle.gd_valueidx.proofs.Each.{not_one}
use Rattle.gd_valueidx.proofs.values.Values.retract.Goals as goal

pub returns-else-take_last-eq0-clause-values : goal.returns-else-take_last-eq0-clause-values
returns-else-take_last-eq0-clause-values c =
    c.take_last.ensures.values
    ∙ sym (ap (λ b. without_value b (values_in c.args.self.now))
    (not_one (value_list c.args.value.now c.args.self.now).ids (value_list c.args.value.now c.take_last.new.self).ids c.take_last.result
    (c.take_last.ensures.lists c.args.value.now ∙ ap (λ b. without_entry b (value_list c.args.value.now c.args.self.now).ids) ((datum_eq_decides c.args.value.now c.args.value.now).1 refl))
    c.take_last.ensures.left c.if-take_last-eq0.false))
