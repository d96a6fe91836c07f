use Rattle.std.proofs.Common.{refl, ap, subst}
use mathlib.Core.List.{IsPrefix}
use Rattle.gd_shared.proofs.Fronts.{one_begins}
use Rattle.gd_shared.proofs.front.Front.begins.Goals as goal

pub returns : goal.returns
returns c =
    let all = c.learn.new.self.log in
    let this : IsPrefix c.self.inside.seen.log all = subst (λ groups. IsPrefix groups all) (ap (λ s. s.log) c.again-both.ensures) c.learn.ensures.2 in
    rw (← c.self.view_is, ← c.other.view_is, c.self.invariant.0, c.other.invariant.0) (one_begins c.self.inside.seen.log c.other.inside.seen.log all this c.learn.ensures.3 _ refl)
