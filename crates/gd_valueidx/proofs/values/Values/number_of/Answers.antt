use Rattle.std.proofs.Common.{◌∙◌, ap}
use Rattle.std.specs.Prelude.{position}
use Rattle.std.specs.Map.{keys_of}
use Rattle.gd_base.specs.Order.{datum_eq}
use Rattle.gd_valueidx.proofs.Each.{number_is}
use Rattle.gd_valueidx.proofs.values.Values.number_of.Goals as goal

pub returns : goal.returns
returns c =
    c.get_index_of.ensures.index ∙ number_is c.self.inside.lists.entries c.args.value.now
    ∙ ap (λ es. position (datum_eq c.args.value.now) (keys_of es)) c.self.view_is
