use Rattle.std.proofs.Common.{◌∙◌, ap, sym}
use Rattle.gd_json.specs.View.{members_view}
use Rattle.gd_mql.specs.Changes.{setting_view}
use Rattle.gd_mql.specs.Entries.{with_entry}
use Rattle.gd_mql.proofs.Entered.{entry_right, entries_rest, entries_split, entries_end}
use Rattle.gd_mql.proofs.change.Members.split.Goals as goal

pub of-entry-requires : goal.of-entry-requires
of-entry-requires c = entry_right (setting_view c.args.self.now.setting) c.args.self.now.members.now c.in-Some.others.now c.in-Some.first.now c.in-Some.ensures.cases.0 c.args.self.now.spells

pub with_members-requires : goal.with_members-requires
with_members-requires c = entries_rest (setting_view c.args.self.now.setting) c.args.self.now.members.now c.in-Some.others.now c.in-Some.first.now c.in-Some.ensures.cases.0 c.args.self.now.spells

pub returns-in-Some : goal.returns-in-Some
returns-in-Some c =
    let s = setting_view c.args.self.now.setting in
    let is = c.in-Some.ensures.cases.0 in
    entries_split s c.args.self.now.members.now c.in-Some.others.now c.in-Some.first.now is
    ∙ (c.of-entry.ensures (members_view c.in-Some.others.now) (entries_rest s c.args.self.now.members.now c.in-Some.others.now c.in-Some.first.now is c.args.self.now.spells)
    ∙ ap (with_entry c.of-entry.result) (sym c.with_members.ensures))

pub returns-in-None : goal.returns-in-None
returns-in-None c = entries_end (setting_view c.args.self.now.setting) c.args.self.now.members.now c.in-None.ensures.cases
