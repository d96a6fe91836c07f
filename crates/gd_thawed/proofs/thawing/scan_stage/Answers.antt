use Rattle.std.proofs.Common.{◌∙◌, sym, subst}
use Rattle.gd_template.specs.Built.{view}
use Rattle.gd_roots.specs.Rooted.{ScansDefined}
use Rattle.gd_thawed.specs.Subject.{marks_in}
use Rattle.gd_thawed.proofs.FromText.{scan_stands}
use Rattle.gd_thawed.proofs.thawing.scan_stage.Goals as goal

pub returns-in-Some-clause-thaws : goal.returns-in-Some-clause-thaws
returns-in-Some-clause-thaws g c =
    let thaws = rw c.in-Some.is at c.in_ok-matcher.ensures.thaws in
    let inside = rw c.in-Some.is at c.in_ok-matcher.ensures.inside in
    scan_stands c.args.view.now c.args.subject.now c.args.plan c.in-Some.matcher c.args.window.now (marks_in c.args.rows.now) c.args.scan c.in_ok-root.root (view c.template-2.result.now) c.template-2.ensures c.requires.meaning c.requires.asked c.requires.kept
    thaws (λ few. subst (λ u. ScansDefined c.args.view.now u c.in_ok-root.root) (c.template.ensures ∙ sym c.template-2.ensures) (c.in_ok-root.ensures.defined few)) inside c.requires.light
