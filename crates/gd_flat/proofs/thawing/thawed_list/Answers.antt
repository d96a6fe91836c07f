use Rattle.std.proofs.Common.{◌∙◌, sym, ap}
use Rattle.gd_defs.specs.Template.{depth}
use Rattle.gd_prim.specs.History.{prims_of}
use Rattle.gd_template.specs.View.{parts}
use Rattle.gd_flat.specs.Deep.{goes_deep}
use Rattle.gd_flat.proofs.Deep.{deep_fails_led}
use Rattle.gd_flat.proofs.thawing.thawed_list.Goals as goal

pub returns-then-is_deep-clause-fits : goal.returns-then-is_deep-clause-fits
returns-then-is_deep-clause-fits g c =
    deep_fails_led (prims_of c.args.store.now) (parts c.args.clause.now).1 (parts c.args.clause.now).2 c.args.place c.depth.result c.args.frozen.now
    (c.depth.ensures.same ∙ ap depth c.template.ensures)
    c.pieces-pieces.ensures.flat
    (ap (goes_deep c.depth.result 0) (sym c.pieces-pieces.ensures.pieces) ∙ sym c.is_deep.ensures ∙ c.if-is_deep.true)
