use Rattle.std.proofs.Common.{◌∙◌, ap, arith}
use Rattle.gd_tree.specs.Json.{list}
use Rattle.gd_defs.specs.Query.{form_of}
use Rattle.gd_mql.specs.Names.{name_view}
use Rattle.gd_mql.proofs.Walked.{sole_view}
use Rattle.gd_mql.proofs.Shown.{more_other}
use Rattle.gd_mql.proofs.clause.Form.of_list.Goals as goal

pub unreachable-requires : goal.unreachable-requires
unreachable-requires c = more_other (name_view c.args.name.now) c.args.items.now c.in_default.len_at_least c.requires

pub returns-in-len1 : goal.returns-in-len1
returns-in-len1 c = ap (λ js. form_of (name_view c.args.name.now) (list js)) (sole_view c.args.items.now c.sole-item.result (omega arith) c.sole-item.is) ∙ c.of_sole.ensures
