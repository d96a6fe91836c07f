use Rattle.std.proofs.Common.{ap}
use Rattle.std.specs.Map.{keys_of}
use Rattle.gd_valueidx.specs.Runs.{flat}
use Rattle.gd_valueidx.proofs.Ranked.{ordered_none}
use Rattle.gd_valueidx.proofs.values.Values.new.Goals as goal

pub invariant_of-result : goal.invariant_of-result
invariant_of-result c = (c.new-3.ensures, ordered_none (flat c.new-2.result.runs.items) (keys_of c.new.result.entries) c.new-2.ensures (ap keys_of c.new.ensures.empty))
