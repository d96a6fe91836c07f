use Rattle.std.proofs.Common.{arith, sym, subst, rules, ◌≡◌}
use Rattle.gd_dump_laws.proofs.Groups.{group_few}
use Rattle.gd_restore.specs.Gathered.{Begins, IsChecked, IsOther}
use Rattle.gd_restore.proofs.Stopping.{begins_on, bad_stops, refusal_stops, other_stops}
use Rattle.gd_restore.proofs.restoring.stop_bad.Goals as goal

pub check_group-requires : goal.check_group-requires
check_group-requires g c = let few = group_few c.args.gathering.now.group c.requires.ready.part in omega (arith, few)

pub returns-in-Ok-check_group-clause-stops : goal.returns-in-Ok-check_group-clause-stops
returns-in-Ok-check_group-clause-stops g c list seen whole upto b =
    let s = c.args.gathering.now in
    let have : c.have.result ≡ s.have = search rules in
    bad_stops g.D.Disk.content g.D.Disk.images list seen whole s c.args.text.now c.args.offset upto c.requires.ready.part (subst (λ n. IsChecked n c.args.text.now) have c.in-Ok.ensures.same) c.in-Ok-check_group.ensures.follow b

pub returns-in-Err-check_group-clause-stops : goal.returns-in-Err-check_group-clause-stops
returns-in-Err-check_group-clause-stops g c list seen whole upto b =
    refusal_stops g.D.Disk.content g.D.Disk.images list whole c.args.gathering.now c.in-Err-check_group.stop upto.batches c.requires.ready.part c.in-Err-check_group.ensures.refusal upto.gathers
    (subst (λ t. Begins list t upto.batches) (sym b.parts) (begins_on list upto.batches seen b.rest upto.begins))

pub returns-in-Err-clause-stops : goal.returns-in-Err-clause-stops
returns-in-Err-clause-stops g c list seen whole upto b =
    let s = c.args.gathering.now in
    let have : c.have.result ≡ s.have = search rules in
    other_stops g.D.Disk.content g.D.Disk.images list seen b.rest whole s c.args.text.now c.in-Err.stop upto.batches upto.batches b.parts (subst (λ n. IsOther n c.args.text.now c.in-Err.stop) have c.in-Err.ensures.other) upto.read upto.gathers upto.begins
