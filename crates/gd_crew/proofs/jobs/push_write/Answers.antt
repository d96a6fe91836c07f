use Rattle.std.proofs.Common.{map}
use Rattle.gd_crew.specs.Seated.{job_view}
use Rattle.std.specs.Prelude.{option_copied}
use Rattle.gd_crew.specs.Jobs.{job_of_write}
use Rattle.gd_crew.proofs.Added.{passes_other, takes_own, one_more_job, same_session, other_session}
use Rattle.gd_crew.proofs.jobs.push_write.Goals as goal

pub returns-then-write-sid : goal.returns-then-write-sid
returns-then-write-sid c = passes_other (option_copied c.args.cache) c.args.reads.now c.args.sid c.args.write.now (map job_view c.args.jobs.now.items) (other_session c.args.write.now.session c.args.sid c.if-write-sid.true)

pub returns : goal.returns
returns c =
    takes_own (option_copied c.args.cache) c.args.reads.now c.args.sid c.args.write.now (map job_view c.args.jobs.now.items) (map job_view c.push_reads.new.jobs.items) (map job_view c.push.new.self.items)
    (same_session c.args.write.now.session c.args.sid c.if-write-sid.false) c.in_ok-next.ensures c.requires.write
    (one_more_job c.push_reads.new.jobs.items c.push.new.self.items c.write_job.result (job_of_write c.args.write.now) c.in_ok-push.ensures.items c.write_job.ensures)
