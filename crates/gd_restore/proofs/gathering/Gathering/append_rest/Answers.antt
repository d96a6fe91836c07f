use Rattle.std.proofs.Common.{◌≡◌, [], rules, arith}
use Rattle.gd_dump_laws.proofs.Groups.{group_few}
use Rattle.gd_restore.proofs.Gathers.{rest_stops, rest_appended}
use Rattle.gd_restore.proofs.gathering.Gathering.append_rest.Goals as goal

pub append_group-requires-clause-few : goal.append_group-requires-clause-few
append_group-requires-clause-few g c = let few = group_few c.args.self.now.group c.requires.part in omega (arith, few)

pub returns-in-Ok-clause-whole : goal.returns-in-Ok-clause-whole
returns-in-Ok-clause-whole g c =
    rest_appended g.D.Disk.content g.D.Disk.images c.args.self.now c.append_group.new.self c.append_group.ensures.disk.told c.in-Ok.ensures.appended c.in-Ok.ensures.holds

pub returns-in-Err-clause-stops : goal.returns-in-Err-clause-stops
returns-in-Err-clause-stops g c =
    let some : c.args.self.now.group ≡ [] → ⊥ = search rules in
    rest_stops g.D.Disk.content g.D.Disk.images c.args.self.now c.append_group.new.self c.append_group.ensures.disk.told c.in-Err.stop c.requires.part some c.in-Err.ensures.failed c.in-Err.ensures.holds
