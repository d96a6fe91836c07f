use Rattle.gd_suspended_laws.proofs.Defined.{links_are_defined}
use Rattle.gd_suspended_laws.proofs.links_are_defined.Goals as goal

pub returns : goal.returns
returns c = links_are_defined
