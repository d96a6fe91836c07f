use Rattle.std.proofs.Common.{ap, length}
use Rattle.std.specs.Map.{keys_of}
use Rattle.gd_valueidx.specs.Runs.{stands}
use Rattle.gd_valueidx.proofs.Runs.{firsts_read, run_read, placed, placed_front}
use Rattle.gd_valueidx.proofs.order.Order.place.Goals as goal

pub runs_before-count-requires : goal.runs_before-count-requires
runs_before-count-requires c =
    firsts_read (stands (keys_of c.args.values.now.entries) c.args.value.now c.args.with) c.args.self.now.runs.items c.as_slice.result.now c.args.self.now.filled c.requires c.as_slice.ensures.value

pub returns-then-count-eq0-clause-split : goal.returns-then-count-eq0-clause-split
returns-then-count-eq0-clause-split c =
    placed_front (stands (keys_of c.args.values.now.entries) c.args.value.now c.args.with) c.args.self.now.runs.items c.as_slice.result.now c.runs_before-count.result c.args.self.now.filled c.requires
    c.as_slice.ensures.value c.if-count-eq0.true c.runs_before-count.ensures.point

pub numbers_before-index-requires : goal.numbers_before-index-requires
numbers_before-index-requires c =
    run_read (stands (keys_of c.args.values.now.entries) c.args.value.now c.args.with) c.args.self.now.runs.items c.runs_before-count.result _ c.index.result.now c.as_slice-2.result.now c.requires
    (ap length c.as_slice.ensures.value) c.runs_before-count.ensures.bound c.if-count-eq0.false c.index.ensures c.as_slice-2.ensures.numbers

pub returns-clause-split : goal.returns-clause-split
returns-clause-split c =
    (placed (stands (keys_of c.args.values.now.entries) c.args.value.now c.args.with) c.args.self.now.runs.items c.as_slice.result.now c.runs_before-count.result c.numbers_before-index.result c.index.result.now
    c.as_slice-2.result.now c.args.self.now.filled c.requires c.as_slice.ensures.value c.runs_before-count.ensures.bound c.if-count-eq0.false c.runs_before-count.ensures.point c.index.ensures
    c.as_slice-2.ensures.numbers c.numbers_before-index.ensures).1
