use Rattle.gd_json.specs.View.{view, members_view}
use Rattle.gd_mql.specs.Entries.{root_view}
use Rattle.gd_mql.proofs.Entered.{root_worded, root_create, root_other, root_existing}
use Rattle.gd_mql.proofs.change.Root.of.Goals as goal

pub of_create-requires : goal.of_create-requires
of_create-requires c = root_worded (members_view c.args.members.now) (view c.in-Some.word.now) c.in-Some.ensures c.requires

pub returns-in-Some : goal.returns-in-Some
returns-in-Some c = root_create (members_view c.args.members.now) (view c.in-Some.word.now) (root_view c.of_create.result) c.in-Some.ensures c.requires c.of_create.ensures

pub unreachable-requires : goal.unreachable-requires
unreachable-requires c = root_other (members_view c.args.members.now) c.in_default.ensures c.in-None.ensures c.requires

pub returns : goal.returns
returns c = root_existing (members_view c.args.members.now) c.in-Some-object_text.text.now c.in_default.ensures c.in-Some-object_text.ensures c.requires
