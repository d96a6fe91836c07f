use Rattle.std.proofs.Common.{[], map, take}
use Rattle.gd_crew.specs.Seated.{job_view}
use Rattle.std.specs.Prelude.{option_copied}
use Rattle.gd_crew.specs.Jobs.{Adds}
use Rattle.gd_crew.proofs.Added.{own}
use Rattle.gd_crew.proofs.jobs.jobs_of.Given as goal

abbrev pub invariant-loop-write : goal.invariant-loop-write
invariant-loop-write l = Adds (option_copied l.cache) l.works.reads.items (own l.sid (take l.write-index l.works.writes.items)) [] (map job_view l.jobs.items)
