use Rattle.std.proofs.Common.{◌+◌, List, length, map, sym, subst, arith}
use Rattle.std.specs.List.{AllByRecursion}
use Rattle.gd_round_lines.specs.declared.work.WriteLine.{WriteLine}
use Rattle.gd_round_lines.specs.Works.{write_of, MayBeWritten}
use Rattle.gd_caller.specs.Served.{LeftAreFresh}
use Rattle.gd_round_lines.proofs.Lines.{may_be_written}
use Rattle.gd_threads.proofs.Sides.{left_are_fresh, writes_run}
use Rattle.gd_threads.proofs.working.run.Goals as goal

pub write_left-requires-clause-may : goal.write_left-requires-clause-may
write_left-requires-clause-may g c =
    let w = c.args.works.now in
    let lines = c.requires.lines in
    subst (AllByRecursion MayBeWritten) (sym c.as_slice.ensures.value) (may_be_written c.args.first (c.args.first + length c.args.lines.now) w.writes.items (omega (arith, lines)) c.requires.within.writes)

pub write_left-requires-clause-fresh : goal.write_left-requires-clause-fresh
write_left-requires-clause-fresh g c =
    let joined = c.join-workers.new.side in
    let d = g.D.Disk in
    subst (λ (ws : List WriteLine). LeftAreFresh (map write_of ws) joined.history joined.doubt joined.outcomes) (sym c.as_slice.ensures.value)
    (left_are_fresh d.content d.moment d.images d.images_since d.faults g.C.Clock.may c.args.works.now c.args.side.now joined c.join-workers.ensures.joins)

pub returns-clause-runs : goal.returns-clause-runs
returns-clause-runs g c =
    let d = g.D.Disk in
    writes_run d.content d.moment d.images d.images_since d.faults g.C.Clock.may c.args.works.now c.args.side.now c.join-workers.new.side c.write_left.new.side c.as_slice.result.now c.as_slice.ensures.value
    c.join-workers.ensures.joins c.stored-stored.ensures.keeps c.write_left.ensures
