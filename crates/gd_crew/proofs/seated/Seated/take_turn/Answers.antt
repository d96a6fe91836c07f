use Rattle.std.proofs.Common.{◌≡◌, refl, sym, ap, subst, slice_get, Some}
use Rattle.std.proofs.lemmas.Option.{slice_get_read}
use Rattle.gd_mql.specs.Requests.{read_set_view, write_view}
use Rattle.gd_crew.specs.Round.{begun, IsOfRound}
use Rattle.gd_crew.specs.Seated.{share_of, job_view, work_view}
use Rattle.gd_crew.proofs.Before.{of_round}
use Rattle.gd_crew.proofs.Turns as turns
use Rattle.gd_crew.proofs.Turned.{at_job, looks_for, has_room, turned_read, turned_write}
use Rattle.gd_crew.proofs.seated.Seated.take_turn.Goals as goal

pub read_turn-turn-requires-clause-line : goal.read_turn-turn-requires-clause-line
read_turn-turn-requires-clause-line g c κs within =
    let s = c.args.self.now in let j = c.index-job.result.now in
    let at : slice_get s.jobs.items s.done ≡ Some j = slice_get_read _ _ _ j refl c.requires.more c.index-job.ensures in
    c.requires.part.1.of_round.lines s.done (job_view j) (at_job s j at)

pub read_turn-turn-requires-clause-right : goal.read_turn-turn-requires-clause-right
read_turn-turn-requires-clause-right g c κs within =
    let s = c.args.self.now in let j = c.index-job.result.now in
    let at : slice_get s.jobs.items s.done ≡ Some j = slice_get_read _ _ _ j refl c.requires.more c.index-job.ensures in
    looks_for s.session.seat.told j.work c.in-Read.sid c.in-Read.request c.in-Read.look c.in-Read.is (turns.look_next s.session.seat.told (share_of s).jobs s.done (job_view j) (at_job s j at) c.requires.part.1.looks)

pub take_read-requires-clause-room : goal.take_read-requires-clause-room
take_read-requires-clause-room g c κs within =
    let s = c.args.self.now in let j = c.index-job.result.now in
    let at : slice_get s.jobs.items s.done ≡ Some j = slice_get_read _ _ _ j refl c.requires.more c.index-job.ensures in
    has_room s (turns.has_room (begun g.L.Round.named) g.L.Round.named.table c.requires.part.0 (share_of s) (job_view j) c.requires.part.1 (at_job s j at) c.in-Read.sid (read_set_view c.in-Read.request.now) (ap work_view c.in-Read.is))

pub write_turn-written-requires-clause-of_round : goal.write_turn-written-requires-clause-of_round
write_turn-written-requires-clause-of_round g c =
    let s = c.args.self.now in let j = c.index-job.result.now in
    let at : slice_get s.jobs.items s.done ≡ Some j = slice_get_read _ _ _ j refl c.requires.more c.index-job.ensures in
    let named = g.L.Round.named in let run = c.requires.part.1 in
    subst (λ before. IsOfRound (begun named) j.line before (write_view c.in-Write.request.now) j.bytes) (sym run.before)
    (of_round (begun named) named.first named.given refl (share_of s).sid (share_of s).jobs run.of_round s.done (job_view j) (at_job s j at) c.in-Write.sid (write_view c.in-Write.request.now) (ap work_view c.in-Write.is))

pub write_turn-written-requires-clause-bytes : goal.write_turn-written-requires-clause-bytes
write_turn-written-requires-clause-bytes g c =
    let s = c.args.self.now in let j = c.index-job.result.now in
    let at : slice_get s.jobs.items s.done ≡ Some j = slice_get_read _ _ _ j refl c.requires.more c.index-job.ensures in
    c.requires.part.1.of_round.short s.done (job_view j) (at_job s j at)

pub write_turn-written-requires-clause-line : goal.write_turn-written-requires-clause-line
write_turn-written-requires-clause-line g c =
    let s = c.args.self.now in let j = c.index-job.result.now in
    let at : slice_get s.jobs.items s.done ≡ Some j = slice_get_read _ _ _ j refl c.requires.more c.index-job.ensures in
    c.requires.part.1.of_round.lines s.done (job_view j) (at_job s j at)

pub returns-in-Read : goal.returns-in-Read
returns-in-Read g c = record {
  runs = λ v run.
      let s = c.args.self.now in let j = c.index-job.result.now in
      let at : slice_get s.jobs.items s.done ≡ Some j = slice_get_read _ _ _ j refl c.requires.more c.index-job.ensures in
      let turned = turned_read s c.take_read.new.self c.read_turn-turn.new.session (job_view j) (read_set_view c.in-Read.request.now) c.read_turn-turn.result c.requires.goes run.at c.read_turn-turn.ensures c.take_read.ensures in
      turns.read_kept (begun g.L.Round.named) g.L.Round.named.table v (share_of s) (share_of c.take_read.new.self) (job_view j) (at_job s j at) run turned.0 c.in-Read.sid (read_set_view c.in-Read.request.now) (ap work_view c.in-Read.is) turned.1;
}

pub returns-in-Write : goal.returns-in-Write
returns-in-Write g c = record {
  runs = λ v run.
      let s = c.args.self.now in let j = c.index-job.result.now in
      let at : slice_get s.jobs.items s.done ≡ Some j = slice_get_read _ _ _ j refl c.requires.more c.index-job.ensures in
      let turned = turned_write s c.take_written.new.self c.write_turn-written.new.session (job_view j) c.write_turn-written.result c.requires.goes c.write_turn-written.ensures c.take_written.ensures in
      turns.write_kept (begun g.L.Round.named) g.L.Round.named.table v (share_of s) (share_of c.take_written.new.self) (job_view j) (at_job s j at) run turned.0 c.in-Write.sid (write_view c.in-Write.request.now) (ap work_view c.in-Write.is) turned.1;
}
