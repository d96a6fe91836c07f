use Rattle.std.proofs.Common.{subst}
use Rattle.std.proofs.lemmas.Result.{on_ok_weaker}
use Rattle.std.specs.List.{AllByRecursion}
use Rattle.gd_bytes.specs.Group.{PrimitiveFits}
use Rattle.gd_codec.proofs.Writing.{batch_fits}
use Rattle.gd_codec.proofs.write.write_batch.Goals as goal

pub returns-clause-fits : goal.returns-clause-fits
returns-clause-fits c = on_ok_weaker c.write_primitives.result (λ each. batch_fits c.args.batch.now c.requires (subst (AllByRecursion (λ p. PrimitiveFits p.moment p)) c.as_slice.ensures each)) c.write_primitives.ensures.fits
