use Rattle.gd_json.specs.View.{view}
use Rattle.gd_mql.specs.Names.{name_view}
use Rattle.gd_mql.specs.Changes.{setting_view}
use Rattle.gd_mql.specs.Entries.{item_view}
use Rattle.gd_mql.proofs.Entered.{identity_shown, other_right}
use Rattle.gd_mql.proofs.change.Item.of.Goals as goal

pub returns-then-is_identity : goal.returns-then-is_identity
returns-then-is_identity c =
    identity_shown (setting_view c.args.setting) (name_view c.args.name.now) (view c.args.value.now) (item_view c.of_identity.result) c.if-is_identity.ensures c.requires c.of_identity.ensures

pub of_value-requires : goal.of_value-requires
of_value-requires c = other_right (setting_view c.args.setting) (name_view c.args.name.now) (view c.args.value.now) c.if-is_identity.ensures c.requires
