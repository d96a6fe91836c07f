use Rattle.std.proofs.Common.{◌≡◌, ◌∙◌, ◌≤◌, sym, ap, subst, true, length, map, take, rules, arith}
use Rattle.gd_prim.specs.History.{prims_of}
use Rattle.gd_frozen.specs.Meaning.{scan_of}
use Rattle.gd_frozen.specs.Pieces.{trees_in}
use Rattle.gd_plan.specs.Asked.{asked_view}
use Rattle.gd_runs.specs.Fitting.{trees_fit}
use Rattle.gd_template.specs.Built.{view}
use Rattle.gd_window.specs.declared.row.Row.{Row}
use Rattle.gd_thawed.specs.Subject.{marks_in}
use Rattle.gd_thawed.proofs.FromText.{count_marks, body_stands, rows_stand}
use Rattle.gd_thawed.proofs.thawing.build_stage.Goals as goal

pub returns-in_ok-build_from-in-Some-2-clause-thaws : goal.returns-in_ok-build_from-in-Some-2-clause-thaws
returns-in_ok-build_from-in-Some-2-clause-thaws g c =
    let thaws = rw c.in-Some-2.is at c.in_ok-matcher.ensures.thaws in
    let told = rw c.in-Some.is at c.in_ok-trees.ensures.thaws in
    let len = c.len-2.ensures in
    let long : c.len-2.result ≡ length c.args.rows.items = omega (arith, len) in
    let fit = subst (λ n. trees_fit (prims_of c.args.view.now) (asked_view c.args.plan) n (trees_in c.args.trees.now) ≡ true) long told.0 in
    let text = scan_of c.args.scan.now in
    let within = c.if-place-len.false in
    let at = c.place.ensures in
    let many = count_marks c.args.rows.items in
    let low : text.iter.place ≤ length (marks_in c.args.rows.items) = omega (arith, within, at, many) in
    let fits = body_stands c.args.view.now c.args.subject.now c.args.plan c.args.window.now c.args.rows.items c.args.weight (trees_in c.args.trees.now) text c.in-Some.trees (view c.template.result.now) c.template.ensures (omega (arith, within, at)) (search rules) (fit, told.1)
    (sym c.are_few.ensures ∙ c.if-not-are_few.false) thaws.0 in (
      fits,
      c.in_ok-build_from-in-Some-2.ensures c.args.view.now c.args.subject.now text (trees_in c.args.trees.now) c.requires.asked c.requires.kept told.1
          (rows_stand c.args.view.now c.args.subject.now c.args.plan c.args.window.now text c.in-Some-2.matcher c.in_ok-ids.ids (length (marks_in c.args.rows.items)) (view c.template.result.now) c.template.ensures c.requires.asked
          (c.in_ok-ids.ensures ∙ ap (map (λ (r : Row). r.id)) (c.page_of.ensures ∙ ap (λ n. take n c.rows.result.now) c.limit.ensures ∙ ap (take c.args.window.now.limit) c.rows.ensures.rows)) thaws.1 (rw c.in-Some-2.is at c.in_ok-matcher.ensures.inside (length (marks_in c.args.rows.items)) low) c.requires.light)
          fits,
    )
