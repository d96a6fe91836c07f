use Rattle.std.proofs.Common.{List, [], map, ap, subst, sym, ◌∙◌, ◌<◌, ◌≤◌}
use Rattle.std.specs.Prelude.{IfSome}
use Rattle.gd_bytes.specs.Frozen.{Body, Scan, scanning}
use Rattle.gd_defs.specs.Plan.{template_of}
use Rattle.gd_defs.specs.Template.{Template}
use Rattle.gd_plan.specs.Asked.{asked_view}
use Rattle.gd_frozen.specs.Meaning.{body_of, row_of}
use Rattle.gd_frozen.specs.declared.frozen.RowAt.{RowAt}
use Rattle.gd_shape.specs.PassedOn.{marks_of}
use Rattle.gd_read.specs.Freezing.{BodyStands, scan_ahead}
use Rattle.gd_read.proofs.Frozen.{start_stands, visit_stands, tries_tells, number_few}
use Rattle.gd_read.proofs.freezing.freeze_visit.Goals as goal

pub scan_from-requires-clause-told : goal.scan_from-requires-clause-told
scan_from-requires-clause-told c =
    tries_tells c.args.view.now (template_of (asked_view c.args.visiting.now.plan)) c.args.visiting.now.tried c.requires.asked.end c.requires.tried

pub scan_from-requires-clause-few : goal.scan_from-requires-clause-few
scan_from-requires-clause-few c = number_few c.args.visiting.now.tried c.in-Some.number c.end.result c.in-Some.ensures.number.1 c.end.ensures.few

pub frozen_with-requires : goal.frozen_with-requires
frozen_with-requires c =
    subst (λ (s : Scan). BodyStands c.args.view.now c.args.subject.now (marks_of c.args.window.now) (scanning s))
    (sym (c.in_ok-scan-in-Some.ensures ∙ ap (λ (t : Template). scan_ahead t c.args.visiting.now.tried c.in-Some.number) c.template.ensures))
    (visit_stands c.args.view.now c.args.subject.now c.args.visiting.now c.args.window.now c.in-Some.number c.requires c.in-Some.ensures.number.0
    (subst (λ n. c.in-Some.number ≤ n) c.end.ensures.end c.in-Some.ensures.number.1)
    (subst (λ n. IfSome c.args.visiting.now.last (λ last. last < n)) c.end.ensures.end c.in-Some.ensures.before))

pub frozen-requires : goal.frozen-requires
frozen-requires c =
    subst (λ (items : List RowAt). BodyStands c.args.view.now c.args.subject.now (map row_of items) (body_of c.scan_again.result)) (sym c.new.ensures.items)
    (subst (λ (b : Body). BodyStands c.args.view.now c.args.subject.now [] b) (sym c.scan_again.ensures) (start_stands c.args.view.now c.args.subject.now (asked_view c.args.visiting.now.plan) c.requires.asked))
