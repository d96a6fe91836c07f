use Rattle.std.proofs.Common.{◌≡◌, ◌++◌, Some, option_map, if◌then◌else◌, sym, ap, subst, rules}
use Rattle.gd_follow.specs.Node.{node_of}
use Rattle.gd_bytes.specs.Disk.{LeavesOnly}
use Rattle.gd_bytes.specs.File.{MayStandFor}
use Rattle.gd_log.specs.Stored.{Holds, groups_in_doubt}
use Rattle.gd_follow.proofs.Moments.{tried}
use Rattle.gd_follow.proofs.Nodes.{settled_list}
use Rattle.gd_follow.proofs.node.Node.settle.Goals as goal

pub returns-in-Ok-clause-ends : goal.returns-in-Ok-clause-ends
returns-in-Ok-clause-ends g c =
    let new = c.settle.new.self.batches in
    let list : c.args.self.now.list ≡ c.self.inside.log.batches = search rules in
    let doubt : c.args.self.now.doubt ≡ Some c.in-Some.group.items = search rules in
    let is : new ≡ (if c.in-Ok._counts then c.self.inside.log.batches ++ c.in-Some.group.items else c.self.inside.log.batches) = search rules in
    (new, settled_list (node_of c.args.self.now) c.self.inside.log.batches c.in-Some.group.items new c.in-Ok._counts list doubt is, ap (λ o. record { list = new; doubt = option_map (λ v. v.items) o }) c.replace.ensures.after)

pub returns-in-Ok-clause-moments : goal.returns-in-Ok-clause-moments
returns-in-Ok-clause-moments g c = rw (← c.self.view_is) (λ holds.
    let d = g.D.Disk in
    let i = c.self.inside in
    let doubt : option_map (λ v. v.items) i.doubt ≡ Some c.as_slice.result.now = search rules in
    let held = subst (λ o. Holds (d.content i.log.log.disk) (d.images i.log.log.disk) i.log.log.gate i.log.log.doubt i.log.batches o) doubt holds in
    let run = subst (λ o. LeavesOnly d.moment d.images d.images_since i.log.log.disk c.settle.new.self.log.disk (MayStandFor i.log.batches (groups_in_doubt o))) (sym doubt) (c.in-Ok.ensures.moments held) in
    tried i.log.log.disk c.settle.new.self.log.disk (record { list = i.log.batches; doubt = option_map (λ v. v.items) i.doubt }) _ run)

pub returns-after-fault-clause-moments : goal.returns-after-fault-clause-moments
returns-after-fault-clause-moments g c = rw (← c.self.view_is) (λ holds.
    let d = g.D.Disk in
    let i = c.self.inside in
    let doubt : option_map (λ v. v.items) i.doubt ≡ Some c.as_slice.result.now = search rules in
    let held = subst (λ o. Holds (d.content i.log.log.disk) (d.images i.log.log.disk) i.log.log.gate i.log.log.doubt i.log.batches o) doubt holds in
    let run = subst (λ o. LeavesOnly d.moment d.images d.images_since i.log.log.disk c.settle.new.self.log.disk (MayStandFor i.log.batches (groups_in_doubt o))) (sym doubt) (c.in-Err.ensures.moments held) in
    tried i.log.log.disk c.settle.new.self.log.disk (record { list = i.log.batches; doubt = option_map (λ v. v.items) i.doubt }) (record { list = c.settle.new.self.batches; doubt = Some c.in-Some.group.items }) run)
