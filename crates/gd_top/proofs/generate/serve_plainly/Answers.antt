use Rattle.std.proofs.Common.{option_map}
use Rattle.gd_base.specs.Counts.{RoseBy}
use Rattle.gd_top.specs.Ends.{IsIdle}
use Rattle.gd_top.specs.Held.{Leaves, Loads}
use Rattle.gd_top.specs.Kept.{StaysTold}
use Rattle.gd_top.proofs.Counted.{served_plain}
use Rattle.gd_top.proofs.generate.serve_plainly.Goals as goal

pub returns-clause-prints : goal.returns-clause-prints
returns-clause-prints g c =
    let d = g.D.Disk in
    let run = c.serve_over in
    let source = c.args.source.now in
    let sink = c.args.sink.now in
    let told = d.content c.args.disk in
    let may = g.C.Clock.may c.args.clock in
    served_plain may (Loads told) (Leaves may told (d.images run.result.1)) (RoseBy (d.faults c.args.disk) (d.faults run.result.1))
    (IsIdle source run.new.source sink run.new.sink × StaysTold told (d.content run.result.1) (d.images c.args.disk) (d.images run.result.1))
    (g.S.Source.left source) (g.S.Source.left run.new.source) (g.K.Sink.held sink) (g.K.Sink.held run.new.sink)
    (option_map (λ n. n.value) c.new-pace.result.cache) run.result.0 c.new-pace.ensures.cache run.ensures.prints
