use Rattle.std.proofs.Common.{rules, ◌≡◌, ◌++◌, ap, sym, ◌∙◌, to_z, of_z, w64}
use Rattle.gd_tree.specs.Json.{text}
use Rattle.gd_defs.specs.Data.{datum_json}
use Rattle.gd_defs.specs.Moment.{moment_text}
use Rattle.gd_json.specs.Tokens.{tokens_of}
use Rattle.gd_shape.proofs.datum.write_value.Goals as goal

pub returns-in_ok-write_moment-in-Moment-clause-printed : goal.returns-in_ok-write_moment-in-Moment-clause-printed
returns-in_ok-write_moment-in-Moment-clause-printed c =
    let whole : to_z w64 (of_z w64 c.in-Moment.ms) ≡ c.in-Moment.ms = search rules in
    c.in_ok-write_moment-in-Moment.ensures.printed
    ∙ ap (λ ms. c.args.out.now.tokens ++ tokens_of (text (moment_text ms c.in-Moment.precision))) whole
    ∙ ap (λ d. c.args.out.now.tokens ++ tokens_of (datum_json d)) (sym c.in-Moment.is)
