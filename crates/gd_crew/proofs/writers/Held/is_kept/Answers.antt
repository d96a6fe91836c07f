use Rattle.std.proofs.Common.{sym, subst, ◌∙◌}
use Rattle.gd_runs.specs.Side.{IsLeft}
use Rattle.gd_core_laws.specs.Lock.{HasOutcome}
use Rattle.gd_writer.specs.Outcomes.{kept_view}
use Rattle.gd_writer.specs.Side.{SideValue}
use Rattle.gd_crew.proofs.Kept.{found_some, found_none}
use Rattle.gd_crew.proofs.writers.Held.is_kept.Goals as goal

pub returns-clause-kept : goal.returns-clause-kept
returns-clause-kept g c = λ there.
    subst (λ (s : SideValue _ _). HasOutcome s.outcomes c.args.line) c.self.view_is
    (found_some (λ o. kept_view o.now) c.outcome.result c.self.inside.side.outcomes c.args.line c.outcome.ensures.found (sym c.is_some.ensures ∙ there))

pub returns-clause-left : goal.returns-clause-left
returns-clause-left g c = λ missing.
    subst (λ (s : SideValue _ _). IsLeft s.outcomes c.args.line) c.self.view_is
    (found_none (λ o. kept_view o.now) c.outcome.result c.self.inside.side.outcomes c.args.line c.outcome.ensures.found (sym c.is_some.ensures ∙ missing))
