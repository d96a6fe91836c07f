use Rattle.gd_lookup.proofs.Calls.{counts_are}
use Rattle.gd_lookup.proofs.laws.counts_are.Goals as goal

pub returns : goal.returns
returns c = counts_are
