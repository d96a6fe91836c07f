use Rattle.std.proofs.Common.{arith}
use Rattle.gd_log.proofs.Fronts.{first_there, all_there}
use Rattle.gd_log.proofs.stored.StoredLog.first_unfit.Goals as goal

pub returns-then-taken-batches-clause-first : goal.returns-then-taken-batches-clause-first
returns-then-taken-batches-clause-first g c = rw (← c.self.view_is) (
    let t = c.absorb_front-taken in
    first_there c.self.inside.store t.new.store c.args.batches.now t.result.0 c.if-taken-batches.true t.ensures.taken t.ensures.follow (t.ensures.next c.if-wanting.false))

pub returns-clause-first : goal.returns-clause-first
returns-clause-first g c = rw (← c.self.view_is) (
    let t = c.absorb_front-taken in
    all_there c.self.inside.store c.args.batches.now t.result.0 (omega (arith, c.if-taken-batches.false)) t.ensures.follow)
