use Rattle.gd_json.specs.View.{view, items_view, members_view}
use Rattle.gd_mql.specs.Names.{name_view}
use Rattle.gd_mql.specs.Clauses.{form_view}
use Rattle.gd_mql.proofs.Shown.{object_right, object_shown, list_right, list_shown}
use Rattle.gd_mql.proofs.clause.Form.of_value.Goals as goal

pub invariant_of-result : goal.invariant_of-result
invariant_of-result c = record { spells = object_right (name_view c.args.name.now) (view c.args.value.now) (members_view c.in-Some.members.now) c.in-Some.ensures c.requires }

pub returns-in-Some : goal.returns-in-Some
returns-in-Some c = object_shown (name_view c.args.name.now) (view c.args.value.now) (members_view c.in-Some.members.now) c.in-Some.ensures c.requires

pub of_list-requires : goal.of_list-requires
of_list-requires c = list_right (name_view c.args.name.now) (view c.args.value.now) (items_view c.in-Some-as_list.items.now) c.in-Some-as_list.ensures c.requires

pub returns-in-Some-as_list : goal.returns-in-Some-as_list
returns-in-Some-as_list c = list_shown (name_view c.args.name.now) (view c.args.value.now) (items_view c.in-Some-as_list.items.now) (form_view c.of_list.result) c.in-Some-as_list.ensures c.of_list.ensures
