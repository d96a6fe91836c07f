use Rattle.gd_json.specs.View.{view, members_view}
use Rattle.gd_mql.specs.Names.{name_view}
use Rattle.gd_mql.proofs.Shown.{sole_right, sole_shown, sole_other}
use Rattle.gd_mql.proofs.clause.Form.of_sole.Goals as goal

pub invariant_of-result : goal.invariant_of-result
invariant_of-result c = record { spells = sole_right (name_view c.args.name.now) (view c.args.sole.now) (members_view c.in-Some.members.now) c.in-Some.ensures c.requires }

pub unreachable-requires : goal.unreachable-requires
unreachable-requires c = sole_other (name_view c.args.name.now) (view c.args.sole.now) c.in-None.ensures c.requires

pub returns : goal.returns
returns c = sole_shown (name_view c.args.name.now) (view c.args.sole.now) (members_view c.in-Some.members.now) c.in-Some.ensures c.requires
