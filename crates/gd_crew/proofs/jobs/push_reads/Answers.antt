use Rattle.std.proofs.Common.{[], map}
use Rattle.gd_crew.specs.Seated.{job_view}
use Rattle.std.specs.Prelude.{option_copied}
use Rattle.gd_crew.proofs.Added.{adds_none, adds_then}
use Rattle.gd_crew.proofs.jobs.push_reads.Goals as goal

pub loop-place-init : goal.loop-place-init
loop-place-init c = adds_none (option_copied c.args.cache) c.args.reads.now (map job_view c.args.jobs.now.items)

pub loop-place-preserved : goal.loop-place-preserved
loop-place-preserved c = adds_then (option_copied c.args.cache) c.args.reads.now [] [] (map job_view c.args.jobs.now.items) (map job_view c.loop-place.jobs.items) (map job_view c.push_read.new.jobs.items) c.loop-place.invariant c.in_ok-push_read.ensures
