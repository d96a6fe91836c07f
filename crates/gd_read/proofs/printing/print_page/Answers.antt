use Rattle.std.proofs.Common.{◌∙◌, sym}
use Rattle.gd_prim.specs.History.{prims_of}
use Rattle.gd_read.specs.Marked.{mark_of}
use Rattle.gd_read.proofs.Printed.{prints_first, prints_paid}
use Rattle.gd_read.proofs.printing.print_page.Goals as goal

pub returns-clause-gives : goal.returns-clause-gives
returns-clause-gives c =
    prints_first c.args.view.now c.args.subject.now c.args.plan c.into_asked.result c.args.body c.args.window.now c.in_ok-shape.shape c.requires.built
    (sym c.are_many.ensures ∙ c.if-are_many.false) c.into_asked.ensures (c.in_ok-shape.ensures.page (prims_of c.args.view.now)) (c.in_ok-shape.ensures.of (prims_of c.args.view.now))

pub returns-clause-left : goal.returns-clause-left
returns-clause-left c = λ n.
    prints_paid (prims_of c.args.view.now) c.args.plan c.into_asked.result (mark_of c.args.subject.now.after) c.args.body c.in_ok-shape.shape c.requires.built.has c.into_asked.ensures (c.in_ok-shape.ensures.due (prims_of c.args.view.now))
    (c.in_ok-shape.ensures.paid (prims_of c.args.view.now))
