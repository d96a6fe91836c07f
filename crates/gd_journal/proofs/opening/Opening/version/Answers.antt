use Rattle.std.proofs.Common.{arith}
use Rattle.gd_journal.proofs.opening.Opening.version.Goals as goal

pub returns-clause-header : goal.returns-clause-header
returns-clause-header g c = rw (← c.self.view_is) (λ f is long.
    let h = (c.self.invariant.0 f is).1 in
    h.begins (omega (arith, h.size)))

pub returns-clause-unfinished : goal.returns-clause-unfinished
returns-clause-unfinished g c = rw (← c.self.view_is) (λ f is short.
    let h = (c.self.invariant.0 f is).1 in
    (h.short (omega (arith, h.size))).2)
