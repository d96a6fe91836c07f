use Rattle.std.proofs.Common.{◌++◌, codes, ap, ◌∙◌, option_map}
use Rattle.gd_json.specs.View.{view}
use Rattle.gd_reply.proofs.Found.{item_told}
use Rattle.gd_reply.proofs.answer.found_text.Goals as goal

pub returns : goal.returns
returns c = λ expected told.
    let outcome = c.args.outcome.now in
    c.in_ok-push.ensures.items ∙ ap (λ zs. zs ++ codes "}") (c.in_ok-extend_from_slice.ensures.items ∙ ap (λ zs. zs ++ outcome) c.in_ok-bytes.ensures)
    ∙ item_told (option_map view c.args.cursor.now) outcome expected told
