use Rattle.std.proofs.Common.{map}
use Rattle.gd_crew.specs.Seated.{job_view}
use Rattle.std.specs.Prelude.{option_copied}
use Rattle.gd_round_lines.proofs.Read.{all_at}
use Rattle.gd_crew.specs.Jobs.{MayBeRead, job_of_read}
use Rattle.gd_crew.proofs.Added.{adds_read, read_at, one_more_job}
use Rattle.gd_crew.proofs.jobs.push_read.Goals as goal

pub returns-in_ok-push : goal.returns-in_ok-push
returns-in_ok-push c =
    let r = c.index-reads-place.result in
    let there = read_at c.args.reads.now c.args.place r c.requires.place c.index-reads-place.is in
    adds_read (option_copied c.args.cache) c.args.reads.now c.args.place r (map job_view c.args.jobs.now.items) (map job_view c.push.new.self.items) there (all_at MayBeRead c.args.reads.now c.args.place r c.requires.reads there)
    (one_more_job c.args.jobs.now.items c.push.new.self.items c.read_job.result (job_of_read (option_copied c.args.cache) r) c.in_ok-push.ensures.items c.read_job.ensures)
