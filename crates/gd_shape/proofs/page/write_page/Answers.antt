use Rattle.std.proofs.Common.{◌≡◌, List, true, false, map, ap}
use Rattle.std.proofs.lemmas.Result.{IfOk-weaker}
use Rattle.json.specs.Token.{Token}
use Rattle.gd_bytes.specs.Frozen.{Walk}
use Rattle.gd_plan.specs.Asked.{asked_view, members_view}
use Rattle.gd_runs.specs.Shape.{list_shape, rows_shape}
use Rattle.gd_trees.specs.View.{view as tree_view}
use Rattle.gd_shape.specs.Outcome.{seen, written}
use Rattle.gd_shape.specs.Printed.{rows_print}
use Rattle.gd_shape.proofs.Alike.{page_written}
use Rattle.gd_shape.proofs.page.write_page.Goals as goal

pub returns-then-asked-clause-printed : goal.returns-then-asked-clause-printed
returns-then-asked-clause-printed c =
    let old = c.args.out.now.tokens in
    let ws = c.args.told.now in
    let new : List Token × List Walk = (c.write_rows.new.out.tokens, c.write_rows.new.told) in
    let q = asked_view c.args.asked.now in
    let ts = map tree_view c.args.trees.now in
    let ms = members_view c.as_slice-members.result.now in
    IfOk-weaker c.write_rows.result (λ outcome. seen (λ _. new) outcome ≡ written old (list_shape true (rows_print c.args.sight.now ms ts ws))) (λ outcome. seen (λ _. new) outcome ≡ written old (list_shape q.listed (rows_shape c.args.sight.now q.members ts ws)))
    (λ outcome rows. page_written c.args.sight.now q ts ms true old ws (seen (λ _. new) outcome) c.if-asked.true (ap members_view c.as_slice-members.ensures.value) rows) c.write_rows.ensures.printed

pub returns-clause-printed : goal.returns-clause-printed
returns-clause-printed c =
    let old = c.args.out.now.tokens in
    let ws = c.args.told.now in
    let new : List Token × List Walk = (c.write_first_row.new.out.tokens, c.write_first_row.new.told) in
    let q = asked_view c.args.asked.now in
    let ts = map tree_view c.args.trees.now in
    let ms = members_view c.as_slice-members.result.now in
    IfOk-weaker c.write_first_row.result (λ outcome. seen (λ _. new) outcome ≡ written old (list_shape false (rows_print c.args.sight.now ms ts ws))) (λ outcome. seen (λ _. new) outcome ≡ written old (list_shape q.listed (rows_shape c.args.sight.now q.members ts ws)))
    (λ outcome rows. page_written c.args.sight.now q ts ms false old ws (seen (λ _. new) outcome) c.if-asked.false (ap members_view c.as_slice-members.ensures.value) rows) c.write_first_row.ensures.printed
