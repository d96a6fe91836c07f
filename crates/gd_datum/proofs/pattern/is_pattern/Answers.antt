use Rattle.std.proofs.Common.{◌∙◌, ap, sym}
use Rattle.gd_defs.specs.Pattern.{without_star}
use Rattle.gd_datum.proofs.Words.{is_pattern-told}
use Rattle.gd_datum.proofs.pattern.is_pattern.Goals as goal

pub returns : goal.returns
returns c =
    let parts = ap without_star (sym c.as_bytes.ensures.value) ∙ sym c.body-open_end.ensures in
    c.are_words.ensures ∙ is_pattern-told c.args.text.now c.body-open_end.result.0.now c.body-open_end.result.1 parts
