use Rattle.std.proofs.Common.{◌≡◌, ◌≤◌, [], ◌∷◌, map, length, slice_get, Some, subst, sym, List}
use Rattle.std.specs.List.{AllByRecursion}
use Rattle.gd_crew.specs.Seated.{job_view}
use Rattle.std.specs.Prelude.{option_copied}
use Rattle.gd_round_lines.specs.declared.work.ReadLine.{ReadLine}
use Rattle.gd_round_lines.specs.declared.work.WriteLine.{WriteLine}
use Rattle.gd_round_lines.specs.Works.{MayBeWritten}
use Rattle.gd_round_lines.proofs.Read.{all_at}
use Rattle.gd_crew.specs.Jobs.{Adds, MayBeRead}
use Rattle.gd_crew.proofs.Added.{own, may_be_read, may_be_written, adds_none, adds_next, jobs_all, write_at, all_taken}
use Rattle.gd_crew.proofs.jobs.jobs_of.Goals as goal

pub loop-write-init : goal.loop-write-init
loop-write-init c = subst (λ (js : List _). Adds (option_copied c.args.cache) c.args.works.now.reads.items [] [] (map job_view js)) (sym c.new-jobs.ensures.items) (adds_none (option_copied c.args.cache) c.args.works.now.reads.items [])

pub push_write-requires-clause-reads : goal.push_write-requires-clause-reads
push_write-requires-clause-reads c = subst (AllByRecursion MayBeRead) (sym c.as_slice-reads.ensures.value) (may_be_read c.args.works.now c.requires.numbered)

pub push_write-requires-clause-write : goal.push_write-requires-clause-write
push_write-requires-clause-write c =
    let ws = c.as_slice-write-items.result.now in
    let i = c.loop-write.write-index in
    all_at MayBeWritten ws i c.write-item.result (subst (AllByRecursion MayBeWritten) (sym c.as_slice-write-items.ensures.value) (may_be_written c.args.works.now c.requires.numbered))
    (write_at ws i c.write-item.result c.loop-write-test.true c.write-item.is)

pub loop-write-preserved : goal.loop-write-preserved
loop-write-preserved c =
    let reads = c.args.works.now.reads.items in
    let i = c.loop-write.write-index in
    let w = c.write-item.result in
    adds_next (option_copied c.args.cache) reads c.args.sid c.args.works.now.writes.items i w [] (map job_view c.loop-write.jobs.items) (map job_view c.push_write.new.jobs.items)
    (subst (λ (ws : List WriteLine). slice_get ws i ≡ Some w) c.as_slice-write-items.ensures.value (write_at c.as_slice-write-items.result.now i w c.loop-write-test.true c.write-item.is))
    c.loop-write.invariant
    (subst (λ (rs : List ReadLine). Adds (option_copied c.args.cache) rs (own c.args.sid (w ∷ [])) (map job_view c.loop-write.jobs.items) (map job_view c.push_write.new.jobs.items)) c.as_slice-reads.ensures.value c.in_ok-next.ensures)

pub push_reads-requires : goal.push_reads-requires
push_reads-requires c = record { reads = subst (AllByRecursion MayBeRead) (sym c.as_slice-reads.ensures.value) (may_be_read c.args.works.now c.requires.numbered) }

pub returns : goal.returns
returns c =
    let reads = c.args.works.now.reads.items in
    let i = c.loop-write.write-index in
    jobs_all (option_copied c.args.cache) c.args.works.now c.args.sid (map job_view c.loop-write.jobs.items) (map job_view c.push_reads.new.jobs.items)
    (all_taken (option_copied c.args.cache) reads c.args.sid c.args.works.now.writes.items i [] (map job_view c.loop-write.jobs.items) (subst (λ (ws : List WriteLine). length ws ≤ i) c.as_slice-write-items.ensures.value c.loop-write-test.false) c.loop-write.invariant)
    (subst (λ (rs : List ReadLine). Adds (option_copied c.args.cache) rs [] (map job_view c.loop-write.jobs.items) (map job_view c.push_reads.new.jobs.items)) c.as_slice-reads.ensures.value c.in_ok-push_reads.ensures)
