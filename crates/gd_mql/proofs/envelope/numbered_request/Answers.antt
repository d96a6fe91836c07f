use Rattle.std.proofs.Common.{true, ap}
use Rattle.std.specs.Prelude.{decimal}
use Rattle.gd_json.specs.View.{view}
use Rattle.gd_runs.specs.Request.{request_of}
use Rattle.gd_defs.specs.Query.{within}
use Rattle.gd_mql.proofs.Numbered.{within-refused}
use Rattle.gd_mql.proofs.envelope.numbered_request.Goals as goal

pub returns-in-Ok : goal.returns-in-Ok
returns-in-Ok c = ap (within (decimal c.args.number)) c.in-Ok.ensures

pub returns-in-Err : goal.returns-in-Err
returns-in-Err c =
    within-refused (decimal c.args.number) c.number_text.result.now (request_of true (view c.args.item)) c.in-Err.fault c.below.result c.number_text.ensures c.in-Err.ensures c.below.ensures
