use Rattle.gd_json.specs.View.{view}
use Rattle.gd_mql.specs.Changes.{setting_view, create_view}
use Rattle.gd_mql.proofs.Entered.{create_other, create_entered}
use Rattle.gd_mql.proofs.change.Entry.of_create.Goals as goal

pub unreachable-requires : goal.unreachable-requires
unreachable-requires c = create_other (setting_view c.args.setting) (view c.args.value.now) c.in-None.ensures c.requires

pub returns : goal.returns
returns c = λ ms none. create_entered (setting_view c.args.setting) (view c.args.value.now) (create_view c.in-Some.word) ms c.in-Some.ensures c.requires none
