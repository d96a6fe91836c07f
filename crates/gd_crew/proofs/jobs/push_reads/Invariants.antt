use Rattle.std.proofs.Common.{[], map}
use Rattle.gd_crew.specs.Seated.{job_view}
use Rattle.std.specs.Prelude.{option_copied}
use Rattle.gd_crew.specs.Jobs.{Adds}
use Rattle.gd_crew.proofs.jobs.push_reads.Given as goal

abbrev pub invariant-loop-place : goal.invariant-loop-place
invariant-loop-place l = Adds (option_copied l.cache) l.reads [] (map job_view l.initial.jobs.items) (map job_view l.jobs.items)
