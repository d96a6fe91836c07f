use Rattle.gd_valueidx.proofs.Runs.{drop_before, remove_before}
use Rattle.gd_valueidx.proofs.order.Order.remove_before.Goals as goal
use Rattle.std.proofs.Common.{◌∙◌, ap}
use Rattle.gd_valueidx.specs.Runs.{flat}

pub returns-then-len-eq1 : goal.returns-then-len-eq1
returns-then-len-eq1 c j at =
    ap flat c.remove-run.ensures.items
    ∙ drop_before c.args.self.now.runs.items c.args.place.run c.args.place.index j c.len.result c.index.result.now c.requires.place c.requires.some c.len.ensures.len c.if-len-eq1.true c.index.ensures at

pub returns-else-len-eq1 : goal.returns-else-len-eq1
returns-else-len-eq1 c j at =
    remove_before c.args.self.now.runs.items c.args.place.run c.args.place.index j c.index_mut.result.now c.remove.new.self c.requires.place c.requires.some c.index_mut.ensures.value c.remove.ensures at
