use Rattle.gd_journal.proofs.opening.read_version.Goals as goal

pub returns-clause-value : goal.returns-clause-value
returns-clause-value g c = λ f is. c.version_by.ensures f (c.in_ok-count.ensures.bytes f is)
