use Rattle.gd_prim.specs.History.{prims_of}
use Rattle.gd_thawed.proofs.Printed.{prints_began}
use Rattle.gd_thawed.proofs.printing.page_stage.Goals as goal

pub returns : goal.returns
returns c = λ batches owed s w built trees.
    let made = c.in_ok-printing.ensures in
    prints_began batches owed s c.args.plan c.args.body c.args.rows c.args.trees c.new-none.result.items w c.in_ok-printing.printing built trees c.new-none.ensures.items made.rows made.trees made.single (made.asks, made.has) (made.page (prims_of batches)) (made.of (prims_of batches)) made.walks made.places made.low
