use Rattle.std.proofs.Common.{◌≤◌, ◌+◌, arith, codes, sym, subst}
use Rattle.gd_tree.specs.Bounds.{json_depth}
use Rattle.gd_json.specs.View.{view}
use Rattle.gd_mql.specs.Requests.{GivesLine}
use Rattle.gd_mql.proofs.Envelopes.{member_depth}
use Rattle.gd_mql.proofs.Sessions.{line_read}
use Rattle.gd_mql.proofs.line.line_of.Goals as goal

pub read_from-requires : goal.read_from-requires
read_from-requires c =
    let deep : json_depth (view c.args.line) ≤ 16 = c.requires.shallow in
    let below : 1 + json_depth (view c.in-Some.envelope) ≤ json_depth (view c.args.line) = member_depth (codes "read") (view c.args.line) (view c.in-Some.envelope) c.in-Some.ensures in
    omega arith

pub write_from-requires : goal.write_from-requires
write_from-requires c =
    let deep : json_depth (view c.args.line) ≤ 16 = c.requires.shallow in
    let below : 1 + json_depth (view c.in-Some-take.envelope) ≤ json_depth (view c.args.line) = member_depth (codes "write") (view c.args.line) (view c.in-Some-take.envelope) c.in-Some-take.ensures in
    omega arith

pub returns-in-Some : goal.returns-in-Some
returns-in-Some c = subst (λ r. GivesLine r c.read_from.result) (sym (line_read (view c.args.line) (view c.in-Some.envelope) c.args.sid c.requires.session c.in-Some.ensures)) c.read_from.ensures
