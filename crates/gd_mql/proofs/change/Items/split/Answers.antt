use Rattle.std.proofs.Common.{◌∙◌, ap, sym}
use Rattle.gd_defs.specs.Change as change
use Rattle.gd_mql.specs.Names.{name_view}
use Rattle.gd_mql.specs.Changes.{setting_view}
use Rattle.gd_mql.specs.Entries.{item_view}
use Rattle.gd_mql.proofs.Entered.{item_right, items_rest, items_split, items_end}
use Rattle.gd_mql.proofs.change.Items.split.Goals as goal

pub of_value-item-requires : goal.of_value-item-requires
of_value-item-requires c = item_right (setting_view c.args.self.now.setting) (name_view c.args.self.now.name) c.args.self.now.items.now c.in-Some.others.now c.in-Some.first.now c.in-Some.ensures.cases.0 c.args.self.now.spells

pub with_items-requires : goal.with_items-requires
with_items-requires c = items_rest (setting_view c.args.self.now.setting) (name_view c.args.self.now.name) c.args.self.now.items.now c.in-Some.others.now c.in-Some.first.now c.in-Some.ensures.cases.0 c.args.self.now.spells

pub returns-in-Some : goal.returns-in-Some
returns-in-Some c =
    items_split (setting_view c.args.self.now.setting) (name_view c.args.self.now.name) c.args.self.now.items.now c.in-Some.others.now c.in-Some.first.now (item_view c.of_value-item.result) c.in-Some.ensures.cases.0 c.args.self.now.spells
    c.of_value-item.ensures
    ∙ ap (change.and_then (item_view c.of_value-item.result)) (sym c.with_items.ensures)

pub returns-in-None : goal.returns-in-None
returns-in-None c = items_end (setting_view c.args.self.now.setting) (name_view c.args.self.now.name) c.args.self.now.items.now c.in-None.ensures.cases
