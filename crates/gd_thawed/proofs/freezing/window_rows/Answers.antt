use Rattle.std.proofs.Common.{map, ap, ◌∙◌}
use Rattle.std.proofs.lemmas.Result.{IfOk-weaker}
use Rattle.gd_defs.specs.Reply.{row_mark}
use Rattle.gd_window.specs.Laws.{defined}
use Rattle.gd_window.specs.declared.row.Row.{Row}
use Rattle.gd_thawed.proofs.Frozen.{rows_marked}
use Rattle.gd_thawed.proofs.freezing.window_rows.Goals as goal

pub returns : goal.returns
returns c = IfOk-weaker c.rows_at.result _ _ (λ marks is. is ∙ ap (map (λ (r : Row). row_mark (defined r))) c.rows.ensures.rows ∙ rows_marked c.args.window.now.rows) c.rows_at.ensures
