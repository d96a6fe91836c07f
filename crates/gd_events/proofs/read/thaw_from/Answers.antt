use Rattle.std.proofs.Common.{◌≤◌, ◌+◌, arith, codes}
use Rattle.gd_tree.specs.Bounds.{json_depth}
use Rattle.gd_json.specs.View.{view}
use Rattle.gd_mql.proofs.Envelopes.{member_depth}
use Rattle.gd_events.proofs.Named.{thaw_unasked, thaw_asked}
use Rattle.gd_events.proofs.read.thaw_from.Goals as goal

pub thawed-requires : goal.thawed-requires
thawed-requires c =
    let deep : json_depth (view c.args.value) ≤ 16 = c.requires.shallow in
    let below : 1 + json_depth (view c.in-Some.envelope) ≤ json_depth (view c.args.value) = member_depth (codes "read") (view c.args.value) (view c.in-Some.envelope) c.in-Some.ensures in
    omega arith

pub returns-in-None : goal.returns-in-None
returns-in-None c = λ _. thaw_unasked (view c.args.value) c.args.sid c.args.text c.requires.sid c.requires.text c.in-None.ensures

pub returns-in-Some : goal.returns-in-Some
returns-in-Some c = rw (thaw_asked (view c.args.value) (view c.in-Some.envelope) c.args.sid c.args.text c.requires.sid c.requires.text c.in-Some.ensures) c.thawed.ensures
