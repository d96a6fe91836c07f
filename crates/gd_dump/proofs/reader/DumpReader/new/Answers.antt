use Rattle.std.proofs.Common.{ap, refl}
use Rattle.gd_dump.proofs.Taken.{new_read}
use Rattle.gd_dump.proofs.reader.DumpReader.new.Goals as goal

pub returns-clause-read : goal.returns-clause-read
returns-clause-read c = new_read _ (ap (λ p. p.stage) c.new.ensures) c.new-2.ensures.items refl refl
