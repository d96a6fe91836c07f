use Rattle.std.proofs.Common.{◌∙◌, ap, arith}
use Rattle.gd_journal.specs.State.{Journaled}
use Rattle.gd_journal.proofs.opening.Opening.finish.Goals as goal

pub returns-in-Ok-clause-opened : goal.returns-in-Ok-clause-opened
returns-in-Ok-clause-opened g c = rw (← c.self.view_is) (λ f is. rw c.of.ensures (c.in-Ok.ensures.ends f is))

pub returns-in-Ok-clause-created : goal.returns-in-Ok-clause-created
returns-in-Ok-clause-created g c = rw (← c.self.view_is) (λ f is short.
    let h = (c.self.invariant.0 f is).1 in
    ap (λ (j : Journaled _). j.version) c.of.ensures ∙ (h.short (omega (arith, h.size))).2)
