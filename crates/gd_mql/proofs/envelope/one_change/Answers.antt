use Rattle.std.proofs.Common.{◌≤◌, ◌+◌, arith}
use Rattle.gd_tree.specs.Bounds.{json_depth}
use Rattle.gd_json.specs.View.{view}
use Rattle.gd_mql.proofs.Envelopes.{query_depth}
use Rattle.gd_mql.proofs.envelope.one_change.Goals as goal

pub clause_of-requires : goal.clause_of-requires
clause_of-requires c =
    let deep : json_depth (view c.args.envelope) ≤ 15 = c.requires.shallow in
    let below : 1 + json_depth (view c.in-Some.clause) ≤ json_depth (view c.args.envelope) = query_depth (view c.args.envelope) (view c.in-Some.clause) c.in-Some.ensures in
    omega arith
