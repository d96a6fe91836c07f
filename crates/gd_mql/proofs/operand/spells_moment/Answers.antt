use Rattle.std.proofs.Common.{◌∙◌, ap}
use Rattle.gd_defs.specs.Moment.{moment_of}
use Rattle.gd_datum.specs.Spelling.{datum_of, moment_datum}
use Rattle.gd_mql.proofs.Literals.{ok-some}
use Rattle.gd_mql.proofs.operand.spells_moment.Goals as goal

pub returns : goal.returns
returns c = c.is_ok.ensures.value ∙ ok-some c.moment_from.result (moment_of c.args.text.now) moment_datum (c.moment_from.ensures.found ∙ ap datum_of c.as_bytes.ensures.value)
