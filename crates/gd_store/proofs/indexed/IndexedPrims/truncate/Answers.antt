use Rattle.gd_store.proofs.Entered.{front_indexed}
use Rattle.gd_store.proofs.indexed.IndexedPrims.truncate.Goals as goal

pub invariant_of-self : goal.invariant_of-self
invariant_of-self c =
    front_indexed c.take_out_all.new.self c.self.inside.prims c.as_slice.result.now c.truncate.new.self c.args.len c.self.invariant.entered c.self.invariant.short c.as_slice.ensures c.truncate.ensures c.take_out_all.ensures
