use Rattle.std.proofs.Common.{Err, length, refl, ◌∙◌, ap}
use Rattle.gd_prim.specs.History.{prims_of}
use Rattle.gd_prim.specs.WellFormed.{all_follow}
use Rattle.gd_log.specs.Stored.{Stored}
use Rattle.gd_log.specs.State.{HoldsBefore}
use Rattle.gd_log.specs.Writable.{may_write, group_short}
use Rattle.gd_log.proofs.Absorbs.{taken_back, holds_held, added_moments, failed_moments}
use Rattle.gd_log.proofs.stored.StoredLog.append.Goals as goal

pub append-requires-clause-group : goal.append-requires-clause-group
append-requires-clause-group g c = may_write _ _ c.requires.may

pub append-requires-clause-short : goal.append-requires-clause-short
append-requires-clause-short g c = group_short _ _ c.requires.may

pub returns-in-Ok-clause-moments : goal.returns-in-Ok-clause-moments
returns-in-Ok-clause-moments g c = rw (← c.self.view_is) (λ held.
    let d = g.D.Disk in
    let i = c.self.inside in
    let more = c.args.batches.now in
    let follow = ap (λ (v : Stored _). all_follow (prims_of v.batches) (length v.batches) more) c.self.view_is ∙ c.requires.may.follow in
    let before : HoldsBefore (d.content i.log.disk) (d.images i.log.disk) i.log.gate i.store more = record { held = holds_held (d.content i.log.disk) (d.images i.log.disk) i.log.gate i.log.doubt i.store held; follow = follow } in
    added_moments i.log.disk c.append.new.self.disk i.store c.absorb_group.new.store more c.in_ok-absorb_group.ensures.taken (c.in-Ok.ensures.moments i.store before))

pub returns-in-Err-clause-moments : goal.returns-in-Err-clause-moments
returns-in-Err-clause-moments g c = rw (← c.self.view_is) (λ held.
    let d = g.D.Disk in
    let i = c.self.inside in
    let more = c.args.batches.now in
    let follow = ap (λ (v : Stored _). all_follow (prims_of v.batches) (length v.batches) more) c.self.view_is ∙ c.requires.may.follow in
    let is_held = holds_held (d.content i.log.disk) (d.images i.log.disk) i.log.gate i.log.doubt i.store held in
    let before : HoldsBefore (d.content i.log.disk) (d.images i.log.disk) i.log.gate i.store more = record { held = is_held; follow = follow } in
    let back = taken_back i.store c.absorb_group.new.store c.withdraw.new.store more (length more) refl c.in_ok-absorb_group.ensures.taken c.withdraw.ensures in
    failed_moments i.log.disk c.append.new.self.disk i.store c.withdraw.new.store more (d.faults i.log.disk) (d.faults c.append.new.self.disk) c.in-Err.fault (g.met.D.Disk.only_now i.log.disk) back c.in-Err.ensures.cause is_held.means
    (c.in-Err.ensures.moments i.store before) (λ is. (c.in-Err.ensures.memory (ap Err is)).1))
