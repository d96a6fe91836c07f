use Rattle.std.proofs.Common.{◌≡◌, ℕ, subst}
use Rattle.std.specs.Prelude.{Option, MatchOption}
use Rattle.gd_bytes.specs.File.{damaged, meaning}
use Rattle.gd_log.specs.Opening.{Loads}
use Rattle.gd_log.proofs.replay.replay.Goals as goal

pub returns-in-Some-clause-refused : goal.returns-in-Some-clause-refused
returns-in-Some-clause-refused g c = λ f is.
    subst (λ (o : Option ℕ). MatchOption o (Loads c.args.opening.now.version f c.absorb_records.new.store) (λ at. meaning f ≡ damaged at)) c.in-Some.is (c.in_ok-offset.ensures.taken f is)

pub returns-in-None-clause-all : goal.returns-in-None-clause-all
returns-in-None-clause-all g c = λ f is.
    subst (λ (o : Option ℕ). MatchOption o (Loads c.args.opening.now.version f c.absorb_records.new.store) (λ at. meaning f ≡ damaged at)) c.in-None.is (c.in_ok-offset.ensures.taken f is)
