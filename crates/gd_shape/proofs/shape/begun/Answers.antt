use Rattle.std.proofs.Common.{ℕ, List, map, subst, refl, arith}
use Rattle.gd_match_laws.specs.Walks.{rows_listed}
use Rattle.gd_order_laws.specs.Window.{In}
use Rattle.gd_plan.specs.Asked.{asked_view}
use Rattle.gd_trees.specs.View.{view as tree_view}
use Rattle.gd_shape.proofs.Knowing.{most_due}
use Rattle.gd_shape.proofs.shape.begun.Goals as goal

pub returns-clause-of : goal.returns-clause-of
returns-clause-of c = λ counted prims. record { counted = counted; known = c.new-ids.ensures prims; listed = λ o here. absurd (subst (λ (os : List ℕ). In o os) c.new.ensures.items here); first = refl; few = omega arith }

pub returns-clause-due : goal.returns-clause-due
returns-clause-due c = λ prims. most_due c.new-ids.result (rows_listed prims (asked_view c.args.asked).members (map tree_view c.args.trees.items)) c.args.places
