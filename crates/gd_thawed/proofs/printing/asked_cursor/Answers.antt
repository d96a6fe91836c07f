use Rattle.gd_json.specs.View.{view as json_view}
use Rattle.gd_thawed.proofs.Printed.{asked_is}
use Rattle.gd_thawed.proofs.printing.asked_cursor.Goals as goal

pub returns-in_ok-page_cursor : goal.returns-in_ok-page_cursor
returns-in_ok-page_cursor c =
    asked_is c.args.subject.now.dateline c.args.window.now c.args.subject.now.with_cursor c.rows.result.now c.limit.result (json_view c.in_ok-page_cursor.field-0)
    c.if-subject.true c.rows.ensures.rows c.limit.ensures c.in_ok-page_cursor.ensures
