use Rattle.gd_mql.specs.Requests.{read_set_view}
use Rattle.gd_read_at.proofs.Answered.{read_ok, read_err}
use Rattle.gd_read_at.proofs.whole.reply_at.Goals as goal

pub returns-in-Ok : goal.returns-in-Ok
returns-in-Ok g c =
    read_ok c.args.store.now c.view-view.result c.earlier-below.result c.args.at c.args.line (read_set_view c.args.request) c.in-Ok.reading c.line_of-bytes.result
    c.requires.there c.view-view.ensures c.in-Ok.ensures.begun c.dateline.result c.dateline.ensures c.earlier-below.ensures c.line_of-bytes.ensures

pub returns-in-Err : goal.returns-in-Err
returns-in-Err g c =
    read_err c.args.store.now c.view-view.result c.args.at c.args.line (read_set_view c.args.request) c.in-Err.fault c.line.result
    c.requires.there c.view-view.ensures c.in-Err.ensures.begun c.line.ensures.refused c.line.ensures.memory
