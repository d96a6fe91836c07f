use Rattle.gd_json.specs.View.{view, items_view}
use Rattle.gd_mql.specs.Names.{name_view}
use Rattle.gd_mql.specs.Changes.{setting_view}
use Rattle.gd_mql.proofs.Entered.{items_right, items_shown, literal_shown}
use Rattle.gd_mql.proofs.change.Item.of_value.Goals as goal

pub invariant_of-result : goal.invariant_of-result
invariant_of-result c = record { spells = items_right (setting_view c.args.setting) (name_view c.args.name.now) (view c.args.value.now) (items_view c.in-Some-as_list.items.now) c.in-Some-as_list.ensures c.requires }

pub returns-in-Some-as_list : goal.returns-in-Some-as_list
returns-in-Some-as_list c = items_shown (setting_view c.args.setting) (name_view c.args.name.now) (view c.args.value.now) (items_view c.in-Some-as_list.items.now) c.in-Some-as_list.ensures c.requires

pub returns : goal.returns
returns c = literal_shown (setting_view c.args.setting) (name_view c.args.name.now) (view c.args.value.now) c.in_default.ensures c.in_default-as_list.ensures c.requires
