use Rattle.std.proofs.Common.{◌∙◌, ◌++◌, sym, codes}
use Rattle.std.proofs.lemmas.List.{append_cancel_left}
use Rattle.gd_cache.proofs.part.outcome_in.Goals as goal

pub returns-clause-none : goal.returns-clause-none
returns-clause-none c = λ none outcome is.
    c.before_brace.ensures.none none outcome (append_cancel_left c.args.middle.now c.in_ok-rest.rest.now (outcome ++ codes "}") (sym c.in_ok-rest.ensures.found ∙ is))
