use Rattle.std.proofs.Common.{map}
use Rattle.gd_prim.specs.History.{prims_of}
use Rattle.gd_frozen.specs.Meaning.{walk_of}
use Rattle.gd_thawed.proofs.FromText.{prints_at}
use Rattle.gd_thawed.proofs.printing.stage_at.Goals as goal

pub returns : goal.returns
returns c = λ batches s w asked has same fit.
    let made = c.in_ok-printing.ensures in
    prints_at batches s c.args.plan w c.args.printed (map walk_of c.args.walks.items) c.args.trees c.args.rows c.args.told c.in_ok-printing.printing asked has c.requires.listed same fit made.rows made.trees made.single (made.asks, made.has) (made.page (prims_of batches)) (made.of (prims_of batches)) made.walks made.places made.low
