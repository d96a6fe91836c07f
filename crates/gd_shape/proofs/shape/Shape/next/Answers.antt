use Rattle.std.proofs.Common.{ℕ, List, subst}
use Rattle.gd_order_laws.specs.Window.{In}
use Rattle.gd_shape.proofs.shape.Shape.next.Goals as goal

pub returns-in-Some-clause-wanted : goal.returns-in-Some-clause-wanted
returns-in-Some-clause-wanted c = c.gather.ensures.still.listed c.in-Some.object (subst (λ (os : List ℕ). In c.in-Some.object os) c.as_slice.ensures.value c.in-Some.ensures.listed)
