use Rattle.gd_base.specs.Counts.{RoseBy}
use Rattle.std.proofs.KnownBytes.{Keeps-refl}
use Rattle.gd_top.specs.Held.{Loads}
use Rattle.gd_top.proofs.Generated.{sums_printed, none_printed, untouched_keeps, sums_cause, none_cause, sums_tell}
use Rattle.gd_top.proofs.generate.generate_over.Goals as goal

pub returns-in-Ok-clause-prints : goal.returns-in-Ok-clause-prints
returns-in-Ok-clause-prints g c =
    let d = g.D.Disk in
    let k = g.K.Sink in
    let run = c.outputs_over-served in
    let sum = c.print_summary in
    let answers = rw c.in-Ok.is at run.ensures.output in
    let sums = rw c.bytes.ensures at sum.ensures.sums in
    sums_printed (g.C.Clock.may c.args.clock) (Loads (d.content c.args.disk)) (RoseBy (d.faults c.args.disk) (d.faults run.result.1)) c.args.generate.now.number c.args.generate.now.count c.in-Ok.output.bytes sum.result _ (k.held c.args.sink.now) (k.held sum.new.sink)
    answers (untouched_keeps k.held c.args.sink.now sum.new.sink) sums

pub returns-in-Ok-clause-causes : goal.returns-in-Ok-clause-causes
returns-in-Ok-clause-causes g c =
    let answers = rw c.in-Ok.is at c.outputs_over-served.ensures.output in
    sums_cause c.print_summary.result _ (g.D.Disk.content c.args.disk) answers.loaded c.print_summary.ensures.sums.ends c.print_summary.ensures.failed answers.begun

pub returns-in-Ok-clause-tells : goal.returns-in-Ok-clause-tells
returns-in-Ok-clause-tells g c = sums_tell c.args.generate.now.number c.args.generate.now.count c.print_summary.result c.print_summary.ensures.sums.ends

pub returns-in-Err-clause-prints : goal.returns-in-Err-clause-prints
returns-in-Err-clause-prints g c = none_printed _ _ _ _ _ _ _ _ (Keeps-refl (g.K.Sink.held c.args.sink.now))

pub returns-in-Err-clause-causes : goal.returns-in-Err-clause-causes
returns-in-Err-clause-causes g c = none_cause _ (g.D.Disk.content c.args.disk)
