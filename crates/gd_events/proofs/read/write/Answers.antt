use Rattle.std.proofs.Common.{◌≤◌, ◌+◌, arith, codes}
use Rattle.gd_tree.specs.Bounds.{json_depth}
use Rattle.gd_json.specs.View.{view}
use Rattle.gd_mql.proofs.Envelopes.{member_depth}
use Rattle.gd_events.proofs.Named.{write_nobody, write_unasked, write_asked}
use Rattle.gd_events.proofs.read.write.Goals as goal

pub written-requires : goal.written-requires
written-requires c =
    let deep : json_depth (view c.args.value) ≤ 16 = c.requires in
    let below : 1 + json_depth (view c.in-Some-take.envelope) ≤ json_depth (view c.args.value) = member_depth (codes "write") (view c.args.value) (view c.in-Some-take.envelope) c.in-Some-take.ensures in
    omega arith

pub returns-in-None : goal.returns-in-None
returns-in-None c = λ _. write_nobody (view c.args.value) c.in-None.ensures

pub returns-in-None-take : goal.returns-in-None-take
returns-in-None-take c = λ _. write_unasked (view c.args.value) c.in-Some.sid c.in-Some.ensures c.in-None-take.ensures

pub returns-in-Some-take : goal.returns-in-Some-take
returns-in-Some-take c = rw (write_asked (view c.args.value) (view c.in-Some-take.envelope) c.in-Some.sid c.in-Some.ensures c.in-Some-take.ensures) c.written.ensures
