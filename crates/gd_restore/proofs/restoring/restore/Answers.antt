use Rattle.std.proofs.Common.{◌≡◌, [], None, rules}
use Rattle.std.specs.Option.{ForSome, is_some}
use Rattle.gd_log.specs.State.{IsHeld}
use Rattle.gd_restore.specs.Dumps.{Loads}
use Rattle.gd_restore.proofs.Restored.{restored, restored_made}
use Rattle.gd_restore.proofs.restoring.restore.Goals as goal

pub returns-in-Ok-clause-ends : goal.returns-in-Ok-clause-ends
returns-in-Ok-clause-ends g c =
    let d = g.D.Disk in
    let first = c.new-gathering.result in
    let s = first.stored in
    let none : s.log.doubt ≡ None = search rules in
    let told : is_some (d.content s.log.disk) ≡ is_some (d.content c.args.disk) = search rules in
    let held : ForSome (d.content c.args.disk) (λ file. IsHeld (d.content s.log.disk) (d.images s.log.disk) s.log.gate s.batches) = search rules in
    let loads : Loads (d.content c.args.disk) s.batches = search rules in
    restored d.content d.images c.args.disk c.into_disk.result first c.run-end.new.gathering (g.S.Source.left c.args.source.now) c.run-end.result none told held loads c.into_disk.ensures c.run-end.ensures.opened c.run-end.ensures.ends

pub returns-in-Ok-clause-made : goal.returns-in-Ok-clause-made
returns-in-Ok-clause-made g c =
    let d = g.D.Disk in
    let first = c.new-gathering.result in
    let s = first.stored in
    let none : s.log.doubt ≡ None = search rules in
    let told : is_some (d.content s.log.disk) ≡ is_some (d.content c.args.disk) = search rules in
    let held : ForSome (d.content c.args.disk) (λ file. IsHeld (d.content s.log.disk) (d.images s.log.disk) s.log.gate s.batches) = search rules in
    let loads : Loads (d.content c.args.disk) s.batches = search rules in
    restored_made d.content d.images c.args.disk c.into_disk.result first c.run-end.new.gathering c.run-end.result none told held loads c.into_disk.ensures c.run-end.ensures.opened c.run-end.ensures.made

pub returns-in-Err-clause-made : goal.returns-in-Err-clause-made
returns-in-Err-clause-made g c = ([], tt)
