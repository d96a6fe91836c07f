use Rattle.gd_json.specs.View.{view}
use Rattle.gd_mql.specs.Names.{name_view}
use Rattle.gd_mql.specs.Changes.{setting_view}
use Rattle.gd_mql.specs.Entries.{item_view}
use Rattle.gd_mql.proofs.Entered.{named_right, named_other, named_entered}
use Rattle.gd_mql.proofs.change.Entry.of.Goals as goal

pub of-requires : goal.of-requires
of-requires c = named_right (setting_view c.args.setting) c.args.name.now c.as_str-spelled.result.now (view c.args.value.now) (name_view c.in-Ok.name) c.as_str-spelled.ensures c.if-eq.ensures c.in-Ok.ensures c.requires

pub unreachable-requires : goal.unreachable-requires
unreachable-requires c = named_other (setting_view c.args.setting) c.args.name.now c.as_str-spelled.result.now (view c.args.value.now) _ c.as_str-spelled.ensures c.if-eq.ensures c.in-Err.ensures c.requires

pub returns : goal.returns
returns c = λ ms none. named_entered (setting_view c.args.setting) c.args.name.now c.as_str-spelled.result.now (view c.args.value.now) (name_view c.in-Ok.name) (item_view c.of.result) ms c.as_str-spelled.ensures c.if-eq.ensures c.in-Ok.ensures
    c.of.ensures none
