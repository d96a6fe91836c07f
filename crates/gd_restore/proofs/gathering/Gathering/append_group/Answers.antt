use Rattle.std.proofs.Common.{◌≡◌, rules}
use Rattle.gd_restore.proofs.Appends.{ok_moments, err_moments, log_before}
use Rattle.gd_restore.proofs.gathering.Gathering.append_group.Goals as goal

pub returns-in-Ok-clause-moments : goal.returns-in-Ok-clause-moments
returns-in-Ok-clause-moments g c =
    let d = g.D.Disk in
    let i = c.self.inside in
    let log : i.log ≡ c.args.self.now.stored = search rules in
    let group : c.as_slice.result.now ≡ c.args.self.now.group = search rules in
    log_before d.content d.moment d.images d.images_since i.log c.args.self.now.stored c.append.new.self.log.disk c.args.self.now.group log
    (λ held. ok_moments i.log.log.disk c.append.new.self.log.disk i.log.batches c.append.new.self.batches c.as_slice.result.now c.args.self.now.group group c.in-Ok.ensures.batches (c.in-Ok.ensures.moments held))

pub returns-in-Err-clause-moments : goal.returns-in-Err-clause-moments
returns-in-Err-clause-moments g c =
    let d = g.D.Disk in
    let i = c.self.inside in
    let log : i.log ≡ c.args.self.now.stored = search rules in
    let group : c.as_slice.result.now ≡ c.args.self.now.group = search rules in
    log_before d.content d.moment d.images d.images_since i.log c.args.self.now.stored c.append.new.self.log.disk c.args.self.now.group log
    (λ held. err_moments i.log.log.disk c.append.new.self.log.disk i.log.batches c.append.new.self.batches c.as_slice.result.now c.args.self.now.group c.in-Err.fault group c.in-Err.ensures.batches (c.in-Err.ensures.moments held))
