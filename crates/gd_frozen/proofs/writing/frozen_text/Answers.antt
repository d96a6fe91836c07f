use Rattle.std.proofs.Common.{◌≡◌, ◌∙◌, sym, rules, List, ℕ}
use Rattle.std.specs.Prelude.{string_bytes}
use Rattle.gd_bytes.specs.Frozen.{spelling, IsFrozenText}
use Rattle.gd_frozen.specs.Meaning.{reading_of}
use Rattle.gd_frozen.specs.Written.{reading_written}
use Rattle.gd_frozen.proofs.FrozenSteady.{frozen_whole}
use Rattle.gd_frozen.proofs.Printed.{written_is}
use Rattle.gd_frozen.proofs.writing.frozen_text.Goals as goal

pub returns-clause-spelled : goal.returns-clause-spelled
returns-clause-spelled c =
    let text : c.into_bytes.result.items ≡ reading_written c.args.reading.now = search rules in
    (c.requires, text ∙ written_is c.args.reading.now c.requires)

pub returns-clause-one : goal.returns-clause-one
returns-clause-one c = λ bytes is.
    let text : c.into_bytes.result.items ≡ reading_written c.args.reading.now = search rules in
    text ∙ written_is c.args.reading.now c.requires ∙ sym is.1

pub returns-clause-again : goal.returns-clause-again
returns-clause-again c =
    let text : c.into_bytes.result.items ≡ reading_written c.args.reading.now = search rules in
    frozen_whole (reading_of c.args.reading.now) c.into_bytes.result.items (c.requires, text ∙ written_is c.args.reading.now c.requires)
