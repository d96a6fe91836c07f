use Rattle.std.proofs.Common.{lit<}
use Rattle.std.proofs.lemmas.Iterator.{YieldsList-from_take}
use Rattle.std.proofs.lemmas.Iterator.Adapters.{YieldsList-from_skip}
use Rattle.std.proofs.lemmas.Iterator.Consumers.{map_from_collect}
use Rattle.std.proofs.lemmas.Iterator.Splits.{YieldsList-from_str_split}
use Rattle.gd_fault.proofs.ids.first_parts.Goals as goal

pub returns : goal.returns
returns c =
    let parts = YieldsList-from_str_split {s = c.split.result} 47 c.args.path.now (lit< tt) c.split.ensures.text c.split.ensures.has_more c.split.ensures.pattern in
    let source = rw (← c.skip.ensures.source) at parts in
    let behind = YieldsList-from_skip {s = c.skip.result} 1 source c.skip.ensures.count in
    let more = rw (← c.take.ensures.source) at behind in
    map_from_collect _ c.collect.ensures.ran (YieldsList-from_take {s = c.take.result} 17 more c.take.ensures.count)
