use Rattle.std.proofs.Common.{map, ap, sym, ◌∙◌}
use Rattle.gd_plan.specs.Asked.{asked_view}
use Rattle.gd_runs.specs.Shape.{list_shape, rows_shape}
use Rattle.gd_trees.specs.View.{view as tree_view}
use Rattle.gd_frozen.specs.Meaning.{walk_of}
use Rattle.gd_shape.specs.Outcome.{seen, written}
use Rattle.gd_shape.proofs.Written.{page_told}
use Rattle.gd_shape.proofs.page.page_text.Goals as goal

pub returns-in-Ok-clause-printed : goal.returns-in-Ok-clause-printed
returns-in-Ok-clause-printed c =
    let q = asked_view c.args.asked.now in
    let ts = map tree_view c.args.trees.now in
    let page = list_shape q.listed (rows_shape c.args.sight.now q.members ts (map walk_of c.args.walks.now)) in
    page_told c.write_page.new.out.tokens c.write_page.new.told page c.into_inner.result.items c.write_page.new.out.before
    (ap (λ r. seen (λ _. (c.write_page.new.out.tokens, c.write_page.new.told)) r) (sym c.in-Ok.is) ∙ c.in_ok-write_page.ensures.printed
    ∙ ap (λ ws. written c.new-out.result.tokens (list_shape q.listed (rows_shape c.args.sight.now q.members ts ws))) c.new-told.ensures
    ∙ ap (λ out. written out page) c.new-out.ensures.tokens)
    c.into_inner.ensures.items (c.in_ok-write_page.ensures.before ∙ c.new-out.ensures.before ∙ c.in_ok-bytes.ensures.items)
