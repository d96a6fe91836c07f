use Rattle.std.proofs.Common.{◌≤◌, ◌+◌, arith, codes}
use Rattle.gd_tree.specs.Bounds.{json_depth}
use Rattle.gd_json.specs.View.{view}
use Rattle.gd_mql.proofs.Envelopes.{member_depth}
use Rattle.gd_following.proofs.line.line_of.Goals as goal

pub read_from-requires : goal.read_from-requires
read_from-requires c =
    let deep : json_depth (view c.args.line) ≤ 16 = c.requires in
    let below : 1 + json_depth (view c.in-Some-take.envelope) ≤ json_depth (view c.args.line) = member_depth (codes "read") (view c.args.line) (view c.in-Some-take.envelope) c.in-Some-take.ensures in
    omega arith
