use Rattle.std.proofs.Common.{map, ap, subst, sym, ◌∙◌}
use Rattle.gd_prim.specs.History.{prims_of}
use Rattle.gd_runs.specs.Shape.{page_shape}
use Rattle.gd_shape.specs.Knowing.{IsKnownOf}
use Rattle.gd_match_laws.specs.Walks.{rows_listed}
use Rattle.gd_trees.specs.View.{view as tree_view}
use Rattle.gd_shape.specs.Shaping.{asked_of, trees_in, walks_in, listed_of}
use Rattle.gd_shape.proofs.Listed.{lacks_same}
use Rattle.gd_shape.proofs.shape.Shape.attempt.Goals as goal

pub page_text-requires : goal.page_text-requires
page_text-requires c = subst (λ prims. IsKnownOf prims c.args.self.now.ids) (sym c.new-sight.ensures) c.requires.known

pub returns-in-Err-clause-next : goal.returns-in-Err-clause-next
returns-in-Err-clause-next c = c.lacking.ensures.next (page_shape (prims_of c.args.view.now) (asked_of c.args.self.now) (trees_in c.args.self.now) (walks_in c.args.self.now)) c.args.self.now c.in-Err.ensures.lacks

pub returns-in-Err-clause-wanted : goal.returns-in-Err-clause-wanted
returns-in-Err-clause-wanted c = c.lacking.ensures.due (prims_of c.args.view.now) c.args.self.now
    (lacks_same (rows_listed c.new-sight.result (asked_of c.args.self.now).members (map tree_view c.as_slice.result.now)) (listed_of (prims_of c.args.view.now) c.args.self.now) c.in-Err.lack
    (ap (λ prims. rows_listed prims (asked_of c.args.self.now).members (map tree_view c.as_slice.result.now)) c.new-sight.ensures
    ∙ ap (λ ts. rows_listed (prims_of c.args.view.now) (asked_of c.args.self.now).members (map tree_view ts)) c.as_slice.ensures.value) c.in-Err.ensures.listed)
