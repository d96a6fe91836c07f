use Rattle.gd_json.specs.View.{members_view}
use Rattle.gd_mql.specs.Changes.{setting_view}
use Rattle.gd_mql.proofs.Entered.{change_right}
use Rattle.gd_mql.proofs.change.Change.of.Goals as goal

pub invariant_of-result : goal.invariant_of-result
invariant_of-result c = record { spells = change_right (setting_view c.setting_of.result) (members_view c.args.members.now) c.setting_of.ensures c.requires }
