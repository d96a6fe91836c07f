use Rattle.std.proofs.Common.{rules, sym}
use Rattle.gd_crew.specs.Round.{begun}
use Rattle.gd_crew.specs.Texts.{kept_lines}
use Rattle.gd_crew.proofs.Joined.{kept, named, begins_round, is_joined, all_may_run, all_worked, lent_same}
use Rattle.gd_crew.proofs.round.run_round.Goals as goal

pub run_named-requires-clause-side : goal.run_named-requires-clause-side
run_named-requires-clause-side g c κs within = begins_round g.D.Disk.content g.D.Disk.moment g.D.Disk.faults g.C.Clock.may c.args.side c.args.first c.args.lines.now c.requires.none c.requires.fresh

pub run_named-requires-clause-workers : goal.run_named-requires-clause-workers
run_named-requires-clause-workers g c κs within =
    all_may_run (begun (named g.D.Disk.content g.D.Disk.moment g.D.Disk.faults g.C.Clock.may c.args.side c.args.first c.args.lines.now)) c.args.side.table c.args.works.now c.args.workers.now
    (sym (c.requires.writes (kept_lines c.args.lines.now) (kept c.args.lines.now c.requires.short))) c.requires.workers

pub returns-clause-side : goal.returns-clause-side
returns-clause-side g c = is_joined g.D.Disk.content g.D.Disk.moment g.D.Disk.faults g.C.Clock.may c.args.side c.args.first c.args.lines.now g.D.Disk.images g.D.Disk.images_since _ c.run_named.result (c.requires.writes (kept_lines c.args.lines.now) (kept c.args.lines.now c.requires.short)) c.run_named.ensures.side

pub returns-clause-workers : goal.returns-clause-workers
returns-clause-workers g c =
    all_worked (begun (named g.D.Disk.content g.D.Disk.moment g.D.Disk.faults g.C.Clock.may c.args.side c.args.first c.args.lines.now)) c.args.side.table c.args.works.now c.args.workers.now c.run_named.new.workers
    (search rules) c.requires.workers c.run_named.ensures.workers

pub returns-clause-lent : goal.returns-clause-lent
returns-clause-lent g c =
    lent_same (begun (named g.D.Disk.content g.D.Disk.moment g.D.Disk.faults g.C.Clock.may c.args.side c.args.first c.args.lines.now)) c.args.side.table c.args.workers.now c.run_named.new.workers (search rules) c.run_named.ensures.workers
