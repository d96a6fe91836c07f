use Rattle.std.proofs.Common.{ap}
use Rattle.gd_json.specs.View.{view, members_view}
use Rattle.gd_mql.specs.Names.{name_view}
use Rattle.gd_mql.specs.Changes.{setting_view, connect_view, target_view}
use Rattle.gd_mql.specs.Entries.{item_view}
use Rattle.gd_mql.proofs.Entered.{connect_target, connect_worded, connect_shown, nested_right, nested_worded, nested_shown, fact_target, fact_shown}
use Rattle.gd_mql.proofs.change.Item.of_form.Goals as goal

pub of-requires-clause-target : goal.of-requires-clause-target
of-requires-clause-target c = connect_target (setting_view c.args.setting) (name_view c.args.name.now) (members_view c.args.form.now) (view c.in-Some.word.now) c.in-Some.ensures c.requires

pub of-requires-clause-worded : goal.of-requires-clause-worded
of-requires-clause-worded c = connect_worded (setting_view c.args.setting) (name_view c.args.name.now) (members_view c.args.form.now) (view c.in-Some.word.now) c.in-Some.ensures c.requires

pub returns-in-Some : goal.returns-in-Some
returns-in-Some c =
    connect_shown (setting_view c.args.setting) (name_view c.args.name.now) (members_view c.args.form.now) (members_view c.of.result.members.now) (view c.in-Some.word.now) (target_view c.of.result.target) (connect_view c.of.result.word) c.of.result.previous
    c.in-Some.ensures c.requires c.of.ensures.target c.of.ensures.word c.of.ensures.previous (ap members_view c.of.ensures.members)

pub of_create-requires-clause-right : goal.of_create-requires-clause-right
of_create-requires-clause-right c = nested_right (setting_view c.args.setting) (name_view c.args.name.now) (members_view c.args.form.now) (view c.in-Some-member.word.now) c.in_default.ensures c.in-Some-member.ensures c.requires

pub of_create-requires-clause-worded : goal.of_create-requires-clause-worded
of_create-requires-clause-worded c = nested_worded (setting_view c.args.setting) (name_view c.args.name.now) (members_view c.args.form.now) (view c.in-Some-member.word.now) c.in_default.ensures c.in-Some-member.ensures c.requires

pub returns-in-Some-member : goal.returns-in-Some-member
returns-in-Some-member c =
    nested_shown (setting_view c.args.setting) (name_view c.args.name.now) (members_view c.args.form.now) (view c.in-Some-member.word.now) (item_view c.of_create.result) c.in_default.ensures c.in-Some-member.ensures c.requires c.of_create.ensures

pub of_fact-requires : goal.of_fact-requires
of_fact-requires c = fact_target (setting_view c.args.setting) (name_view c.args.name.now) (members_view c.args.form.now) c.in_default.ensures c.in_default-member.ensures c.requires

pub returns : goal.returns
returns c = fact_shown (setting_view c.args.setting) (name_view c.args.name.now) (members_view c.args.form.now) (item_view c.of_fact.result) c.in_default.ensures c.in_default-member.ensures c.requires c.of_fact.ensures
