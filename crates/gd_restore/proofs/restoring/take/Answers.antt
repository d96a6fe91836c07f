use Rattle.std.proofs.Common.{◌≡◌, ◌++◌, ℕ, List, rules, subst, sym}
use Rattle.std.specs.List.{AllByRecursion}
use Rattle.gd_dump.proofs.Outcomes.{ok_so}
use Rattle.gd_log.specs.Stored.{IsEarly}
use Rattle.gd_prim.specs.declared.Batch.{Batch}
use Rattle.gd_restore.specs.Gathered.{Gathered, Upto}
use Rattle.gd_restore.specs.Restores.{Leaves, StopsAs}
use Rattle.gd_restore.proofs.Stopping.{given_early, err_more, upto_more, gather_stops, piece_elsewhere, fault_stops}
use Rattle.gd_restore.proofs.restoring.take.Goals as goal

pub gather_all-requires-clause-early : goal.gather_all-requires-clause-early
gather_all-requires-clause-early g c =
    let (text, batches, read) = c.requires.reader in
    subst (λ l. AllByRecursion IsEarly l) (sym c.into_vec.ensures) (given_early c.feed.new.self (text ++ c.args.piece.now) batches c.in-Ok.batches (c.in-Ok.ensures.fed text batches read).read)

pub returns-in-Ok-check_first-clause-upto : goal.returns-in-Ok-check_first-clause-upto
returns-in-Ok-check_first-clause-upto g c =
    let have : c.have.result ≡ c.args.gathering.now.have = search rules in
    ok_so c.gather_all.result
    (λ gathers. upto_more g.D.Disk.content g.D.Disk.images c.args.piece.now c.args.gathering.now c.gather_all.new.self c.args.text.now c.feed.new.self c.in-Ok.batches c.into_vec.result.items c.have.result c.into_vec.ensures have c.in-Ok.ensures.fed c.in-Ok-check_first.ensures.same gathers)
    c.gather_all.ensures.gathers

pub returns-in-Ok-check_first-clause-stops : goal.returns-in-Ok-check_first-clause-stops
returns-in-Ok-check_first-clause-stops g c =
    let have : c.have.result ≡ c.args.gathering.now.have = search rules in
    err_more c.gather_all.result
    (λ e. gather_stops g.D.Disk.content g.D.Disk.images c.args.piece.now c.args.gathering.now c.gather_all.new.self c.args.text.now c.feed.new.self c.in-Ok.batches c.into_vec.result.items c.have.result c.into_vec.ensures have c.in-Ok.ensures.fed c.in-Ok-check_first.ensures.same e)
    c.gather_all.ensures.stops

pub returns-in-Err-check_first-clause-stops : goal.returns-in-Err-check_first-clause-stops
returns-in-Err-check_first-clause-stops g c =
    let have : c.have.result ≡ c.args.gathering.now.have = search rules in
    piece_elsewhere g.D.Disk.content g.D.Disk.images c.args.piece.now c.args.gathering.now c.args.text.now c.feed.new.self c.in-Ok.batches c.have.result c.in-Err-check_first.stop have c.in-Ok.ensures.fed c.in-Err-check_first.ensures.other

pub returns-in-Err-clause-stops : goal.returns-in-Err-clause-stops
returns-in-Err-clause-stops g c =
    let d = g.D.Disk in
    subst (λ (s : Gathered _). (list : List Batch) (seen left : List ℕ) → Upto d.content d.images list seen c.args.gathering.now c.args.text.now → StopsAs c.stop_at.result (Leaves d.content d.images s.stored.log.disk) list ((seen ++ c.args.piece.now) ++ left) s.stored.batches) (sym c.stop_at.ensures.same)
    (fault_stops d.content d.images c.args.piece.now c.args.gathering.now c.args.text.now c.feed.new.self c.in-Err.fault c.stop_at.result c.in-Err.ensures.fed c.in-Err.ensures.stays c.stop_at.ensures.stops)
