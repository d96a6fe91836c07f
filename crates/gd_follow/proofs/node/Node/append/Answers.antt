use Rattle.std.proofs.Common.{◌≡◌, ◌∙◌, ◌⊎◌, None, Some, Err, option_map, refl, ap, subst}
use Rattle.gd_bytes.specs.Disk.{LeavesOnly}
use Rattle.gd_bytes.specs.File.{StandsFor, MayStandFor}
use Rattle.gd_log.specs.Stored.{Holds, groups_in_doubt, doubt_after}
use Rattle.gd_follow.proofs.Moments.{appended}
use Rattle.gd_follow.proofs.node.Node.append.Goals as goal

pub returns-in-Ok-clause-moments : goal.returns-in-Ok-clause-moments
returns-in-Ok-clause-moments g c = rw (← c.self.view_is) (λ holds.
    let d = g.D.Disk in
    let i = c.self.inside in
    let none : option_map (λ v. v.items) i.doubt ≡ None = ap (λ v. v.doubt) c.self.view_is ∙ c.requires.certain in
    let held = subst (λ o. Holds (d.content i.log.log.disk) (d.images i.log.log.disk) i.log.log.gate i.log.log.doubt i.log.batches o) none holds in
    appended i.log.log.disk c.append.new.self.log.disk (record { list = i.log.batches; doubt = option_map (λ v. v.items) i.doubt }) (record { list = c.append.new.self.batches; doubt = option_map (λ v. v.items) i.doubt }) i.log.batches c.append.new.self.batches None refl none refl none (c.in-Ok.ensures.moments held))

pub returns-in-Err-DiskFault-clause-moments : goal.returns-in-Err-DiskFault-clause-moments
returns-in-Err-DiskFault-clause-moments g c = rw (← c.self.view_is) (λ holds.
    let d = g.D.Disk in
    let i = c.self.inside in
    let none : option_map (λ v. v.items) i.doubt ≡ None = ap (λ v. v.doubt) c.self.view_is ∙ c.requires.certain in
    let held = subst (λ o. Holds (d.content i.log.log.disk) (d.images i.log.log.disk) i.log.log.gate i.log.log.doubt i.log.batches o) none holds in
    let group : doubt_after (Err c.in-Err-DiskFault.field-0) c.as_slice.result.now ≡ Some c.args.past.items = ap (λ f. doubt_after (Err f) c.as_slice.result.now) c.in-Err-DiskFault.field-0-is ∙ ap (λ l. Some l) c.as_slice.ensures.value in
    let run = subst (λ o. LeavesOnly d.moment d.images d.images_since i.log.log.disk c.append.new.self.log.disk (λ file. StandsFor file i.log.batches ⊎ MayStandFor c.append.new.self.batches (groups_in_doubt o) file)) group (c.in-Err-DiskFault.ensures.moments held) in
    appended i.log.log.disk c.append.new.self.log.disk (record { list = i.log.batches; doubt = option_map (λ v. v.items) i.doubt }) (record { list = c.append.new.self.batches; doubt = Some c.args.past.items }) i.log.batches c.append.new.self.batches (Some c.args.past.items) refl none refl refl run)
