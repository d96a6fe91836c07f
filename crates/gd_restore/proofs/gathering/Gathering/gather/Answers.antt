use Rattle.std.proofs.Common.{◌≡◌, ◌++◌, ◌∷◌, [], length, rules, arith, ap, sym, subst, ◌∙◌, length-append, None, Err, false, true}
use Rattle.std.specs.Option.{is_some}
use Rattle.std.specs.List.{AllByRecursion}
use Rattle.gd_dump_laws.specs.Restoring.{is_full, in_groups, Follow}
use Rattle.gd_dump_laws.proofs.Groups.{group_few, group_open}
use Rattle.gd_log.specs.Stored.{IsEarly}
use Rattle.gd_restore.specs.Gathered.{IsFailure, HoldsAs, HoldsAfter}
use Rattle.gd_restore.specs.Restores.{Leaves, StopsAs}
use Rattle.gd_restore.specs.declared.stop.RestoreStop.TheVariants as restore
use Rattle.gd_restore.proofs.Gathers.{early_more, memory_stops, full_stops, append_gathers}
use Rattle.gd_restore.proofs.gathering.Gathering.gather.Goals as goal

pub append_group-requires-clause-few : goal.append_group-requires-clause-few
append_group-requires-clause-few g c =
    let items : c.push.new.self.items ≡ c.args.self.now.group ++ c.args.batch ∷ [] = search rules in
    let few = group_few c.args.self.now.group c.requires.ready.part in
    omega (arith, few, ap length items, length-append c.args.self.now.group (c.args.batch ∷ []))

pub returns-in-Err-clause-stops : goal.returns-in-Err-clause-stops
returns-in-Err-clause-stops g c list batches text gathers begins =
    let stored : c.args.self.now.stored ≡ c.self.inside.log = search rules in
    subst (λ s. StopsAs (restore.Memory) (Leaves g.D.Disk.content g.D.Disk.images s.log.disk) list text s.batches) stored (memory_stops g.D.Disk.content g.D.Disk.images list batches c.args.batch text c.args.self.now gathers begins)

pub returns-then-not-is_full_group-clause-ready : goal.returns-then-not-is_full_group-clause-ready
returns-then-not-is_full_group-clause-ready g c =
    let s = c.args.self.now in
    let items : c.push.new.self.items ≡ s.group ++ c.args.batch ∷ [] = search rules in
    let log : c.self.inside.log ≡ s.stored = search rules in
    let short : is_full (s.group ++ c.args.batch ∷ []) ≡ false = search rules in
    record {
      no_doubt = ap (λ l. l.log.doubt) log ∙ c.requires.ready.no_doubt;
      part = ap (in_groups []) items ∙ group_open s.group c.args.batch c.requires.ready.part short;
      early = subst (λ l. AllByRecursion IsEarly l) (sym items) (early_more s.group c.args.batch c.requires.ready.early c.requires.early);
    }

pub returns-in-Ok-append_group-clause-gathers : goal.returns-in-Ok-append_group-clause-gathers
returns-in-Ok-append_group-clause-gathers g c =
    let d = g.D.Disk in
    let s = c.args.self.now in
    let i = c.self.inside in
    let new = c.append_group.new.self in
    let items : c.push.new.self.items ≡ s.group ++ c.args.batch ∷ [] = search rules in
    let log : i.log ≡ s.stored = search rules in
    let have : i.have ≡ s.have = search rules in
    let full : is_full (s.group ++ c.args.batch ∷ []) ≡ true = search rules in
    let told : is_some (d.content new.stored.log.disk) ≡ is_some (d.content s.stored.log.disk) = c.append_group.ensures.disk.told ∙ ap (λ l. is_some (d.content l.log.disk)) log in
    let ensures = c.in-Ok-append_group.ensures in
    append_gathers d.content d.images s new c.args.batch told c.requires.ready.part full
    (record {
      batches = ensures.appended.batches ∙ (λ k. (log k).batches ++ items k);
      follow = subst (λ l. Follow l (s.group ++ c.args.batch ∷ [])) (ap (λ l. l.batches) log) (subst (λ l. Follow i.log.batches l) items ensures.appended.follow);
      group = ensures.appended.group;
      have = ensures.appended.have ∙ have;
      no_doubt = ensures.appended.no_doubt;
    })
    (λ held. ensures.holds (subst (λ l. HoldsAs d.content d.images l None) (sym log) held))

pub returns-in-Err-append_group-clause-stops : goal.returns-in-Err-append_group-clause-stops
returns-in-Err-append_group-clause-stops g c =
    let d = g.D.Disk in
    let s = c.args.self.now in
    let i = c.self.inside in
    let new = c.append_group.new.self in
    let e = c.in-Err-append_group.stop in
    let items : c.push.new.self.items ≡ s.group ++ c.args.batch ∷ [] = search rules in
    let log : i.log ≡ s.stored = search rules in
    let have : i.have ≡ s.have = search rules in
    let told : is_some (d.content new.stored.log.disk) ≡ is_some (d.content s.stored.log.disk) = c.append_group.ensures.disk.told ∙ ap (λ l. is_some (d.content l.log.disk)) log in
    let ensures = c.in-Err-append_group.ensures in
    full_stops d.content d.images s new c.args.batch told e c.requires.ready.part
    (subst (λ h. IsFailure (record { stored = s.stored; have = h; group = s.group ++ c.args.batch ∷ [] }) new e) have
    (subst (λ l. IsFailure (record { stored = s.stored; have = i.have; group = l }) new e) items
    (subst (λ l. IsFailure (record { stored = l; have = i.have; group = c.push.new.self.items }) new e) log ensures.failed)))
    (λ held. subst (λ l. HoldsAfter d.content d.images (Err e) new.stored l) items (ensures.holds (subst (λ l. HoldsAs d.content d.images l None) (sym log) held)))
