use Rattle.gd_frozen.specs.Meaning.{reading_of}
use Rattle.gd_held.proofs.Coming.{ahead_comes}
use Rattle.gd_held.proofs.thawed.frozen_shown.Goals as goal

pub returns-then-shown-asked-clause-refused : goal.returns-then-shown-asked-clause-refused
returns-then-shown-asked-clause-refused c = λ batches r. ahead_comes batches c.args.shown r c.args.text.now (reading_of c.in-Ok.frozen) c.in-Ok.ensures.read c.if-shown-asked.true
