use Rattle.std.proofs.Common.{◌∙◌, sym}
use Rattle.gd_json.specs.View.{view, members_view}
use Rattle.gd_mql.proofs.Shown.{sole_root_right, sole_root_shown, sole_root_other}
use Rattle.gd_mql.proofs.request.Query.of_sole.Goals as goal

pub of_root-requires : goal.of_root-requires
of_root-requires c = sole_root_right (view c.args.sole.now) (members_view c.in-Some.members.now) c.in-Some.ensures c.requires

pub unreachable-requires : goal.unreachable-requires
unreachable-requires c = sole_root_other (view c.args.sole.now) c.in-None.ensures c.requires

pub returns : goal.returns
returns c = c.of_root.ensures ∙ sym (sole_root_shown (view c.args.sole.now) (members_view c.in-Some.members.now) c.in-Some.ensures c.requires)
