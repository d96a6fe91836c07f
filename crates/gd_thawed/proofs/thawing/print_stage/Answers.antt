use Rattle.std.proofs.Common.{◌≡◌, ◌∙◌, sym, ap, subst, true, length, nat_le, arith}
use Rattle.gd_prim.specs.History.{prims_of}
use Rattle.gd_tree.specs.Trees.{trees_count}
use Rattle.gd_frozen.specs.Pieces.{trees_in}
use Rattle.gd_runs.specs.Fitting.{trees_fit}
use Rattle.gd_plan.specs.Asked.{asked_view}
use Rattle.gd_thawed.specs.Subject.{marks_in}
use Rattle.gd_thawed.proofs.FromText.{walks_told_of, ids_told_of, print_walks, print_ids, print_fits}
use Rattle.gd_thawed.proofs.thawing.print_stage.Goals as goal

pub returns-then-not-walks_fit-clause-thaws : goal.returns-then-not-walks_fit-clause-thaws
returns-then-not-walks_fit-clause-thaws g c =
    print_walks c.args.view.now c.args.subject.now c.args.plan c.args.window.now c.args.rows.items c.args.printed (trees_in c.args.told) c.args.walks.items
    (walks_told_of (prims_of c.args.view.now) c.primitives.result.now c.args.walks.items c.as_slice.result.now c.primitives.ensures.prims c.as_slice.ensures.value c.walks_fit.result c.walks_fit.ensures ∙ c.if-not-walks_fit.true)

pub returns-then-branch-clause-thaws : goal.returns-then-branch-clause-thaws
returns-then-branch-clause-thaws g c =
    let thaws = rw c.in-Some.is at c.in_ok-trees.ensures.thaws in
    let over = c.if-branch.true in
    let count = ids_told_of (prims_of c.args.view.now) c.args.plan c.asked.result.now c.in-Some.trees (trees_in c.args.told) c.as_slice-3.result.now c.in_ok-ids_printed.field-0 c.asked.ensures thaws.1 c.as_slice-3.ensures.value c.in_ok-ids_printed.ensures in
    let many = ap length c.as_slice-2.ensures.value in
    print_ids c.args.view.now c.args.subject.now c.args.plan c.args.window.now c.args.rows.items c.args.printed (trees_in c.args.told) c.args.walks.items (omega (arith, over, count, many))

pub returns-clause-thaws : goal.returns-clause-thaws
returns-clause-thaws g c =
    let told = rw c.in-Some.is at c.in_ok-trees.ensures.thaws in
    let len = c.len.ensures in
    let long : c.len.result ≡ length c.args.rows.items = omega (arith, len) in
    let fit = subst (λ n. trees_fit (prims_of c.args.view.now) (asked_view c.args.plan) n (trees_in c.args.told) ≡ true) long told.0 in
    let within = c.if-branch.false in
    let count = ids_told_of (prims_of c.args.view.now) c.args.plan c.asked.result.now c.in-Some.trees (trees_in c.args.told) c.as_slice-3.result.now c.in_ok-ids_printed.field-0 c.asked.ensures told.1 c.as_slice-3.ensures.value c.in_ok-ids_printed.ensures in
    let many = ap length c.as_slice-2.ensures.value in
    let fits = print_fits c.args.view.now c.args.subject.now c.args.plan c.args.window.now c.args.rows.items c.args.printed (trees_in c.args.told) c.args.walks.items c.in-Some.trees
    (walks_told_of (prims_of c.args.view.now) c.primitives.result.now c.args.walks.items c.as_slice.result.now c.primitives.ensures.prims c.as_slice.ensures.value c.walks_fit.result c.walks_fit.ensures ∙ c.if-not-walks_fit.false)
    (fit, told.1) (sym (ap (λ us. nat_le c.args.printed (trees_count us)) told.1) ∙ sym c.has_places.ensures ∙ c.if-not-has_places.false) (omega (arith, within, count, many)) in (
      fits,
      c.in_ok-print_from.ensures c.args.view.now c.args.subject.now c.requires.asked c.requires.kept told.1 (record { fits = fits; bounds = c.requires.bounds }),
    )
