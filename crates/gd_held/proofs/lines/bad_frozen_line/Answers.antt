use Rattle.std.proofs.Common.{◌∙◌, ap, map, ◌∷◌, ◌++◌, [], codes}
use Rattle.std.proofs.lemmas.Result.{IfOk-weaker}
use Rattle.gd_tree.specs.Json as tree
use Rattle.gd_defs.specs.Lines as printed
use Rattle.gd_json.specs.View.{member_view, members_of}
use Rattle.gd_held.proofs.lines.bad_frozen_line.Goals as goal

pub returns : goal.returns
returns c = IfOk-weaker c.refused_line.result _ _
    (λ bytes is. is
    ∙ ap (λ ms. printed.line_text (printed.err_code ∷ (codes "dateline", printed.count_json c.args.dateline) ∷ (codes "error", tree.text (codes "BadFrozen")) ∷ (codes "info", tree.object (members_of ms)) ∷ (codes "line", printed.count_json c.args.line) ∷ []))
    (c.in_ok-push_count.ensures ∙ ap (λ ms. map member_view ms ++ (codes "offset", printed.count_json c.args.offset) ∷ []) c.new-told.ensures.items))
    c.refused_line.ensures
