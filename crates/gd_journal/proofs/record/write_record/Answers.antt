use Rattle.std.proofs.Common.{◌∙◌}
use Rattle.gd_disk.specs.Runs.{leaves_weaken, leaves_join}
use Rattle.gd_journal.specs.Shape.{IsClosed, IsDoubtful, IsStaged}
use Rattle.gd_journal.specs.State.{AtGate}
use Rattle.gd_journal.proofs.Gates.{at_rest_closed, closed_doubtful}
use Rattle.gd_journal.proofs.record.write_record.Goals as goal

pub returns-in_err-open_gate-clause-doubtful : goal.returns-in_err-open_gate-clause-doubtful
returns-in_err-open_gate-clause-doubtful g c = λ v ps p spells s.
    let d = g.D.Disk in
    let was = c.args.disk.now in
    let behind = c.stage.ensures.closed v ps (record { told = s.told; place = s.place; left = λ f now. at_rest_closed v ps f (s.left f now) }) in
    let there : AtGate (d.content c.stage.new.disk) (d.images c.stage.new.disk) c.args.gate v ps (IsStaged v ps p) = record { told = c.stage.ensures.told ∙ s.told; place = s.place; left = c.in_ok-stage.ensures.staged v ps p spells s } in
    leaves_join was c.stage.new.disk c.open_gate.new.disk (IsDoubtful v ps p)
    (leaves_weaken was c.stage.new.disk (IsClosed v ps) (IsDoubtful v ps p) (closed_doubtful v ps p) behind) (c.open_gate.ensures.doubtful v ps p there)

pub returns-clause-doubtful : goal.returns-clause-doubtful
returns-clause-doubtful g c = λ v ps p spells s.
    let d = g.D.Disk in
    let was = c.args.disk.now in
    let behind = c.stage.ensures.closed v ps (record { told = s.told; place = s.place; left = λ f now. at_rest_closed v ps f (s.left f now) }) in
    let there : AtGate (d.content c.stage.new.disk) (d.images c.stage.new.disk) c.args.gate v ps (IsStaged v ps p) = record { told = c.stage.ensures.told ∙ s.told; place = s.place; left = c.in_ok-stage.ensures.staged v ps p spells s } in
    leaves_join was c.stage.new.disk c.open_gate.new.disk (IsDoubtful v ps p)
    (leaves_weaken was c.stage.new.disk (IsClosed v ps) (IsDoubtful v ps p) (closed_doubtful v ps p) behind) (c.open_gate.ensures.doubtful v ps p there)
