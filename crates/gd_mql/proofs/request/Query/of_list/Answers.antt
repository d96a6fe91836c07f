use Rattle.gd_mql.proofs.Shown.{empty_root_other, more_root_other}
use Rattle.gd_mql.proofs.request.Query.of_list.Goals as goal

pub unreachable-requires : goal.unreachable-requires
unreachable-requires c = empty_root_other c.args.items.now c.in-empty.len_below c.requires

pub unreachable-requires-in_default : goal.unreachable-requires-in_default
unreachable-requires-in_default c = more_root_other c.args.items.now c.in_default.len_at_least c.requires
