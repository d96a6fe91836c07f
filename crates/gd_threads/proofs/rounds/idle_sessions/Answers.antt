use Rattle.std.proofs.Common.{◌∷◌, [], List, length, sym, subst, ap, ◌∙◌, arith}
use Rattle.std.proofs.lemmas.List.{length-append}
use Rattle.std.proofs.lemmas.List.Elements.{All-push}
use Rattle.std.specs.List.{All}
use Rattle.logbook.specs.Pages.{Book}
use Rattle.gd_prim.specs.declared.Batch.{Batch}
use Rattle.gd_shared.specs.Shared.{IsNewSeat}
use Rattle.gd_crew.specs.Ready.{IsIdle}
use Rattle.gd_crew.proofs.Taken.{all_but_last}
use Rattle.gd_threads.proofs.Between.{new_idle}
use Rattle.gd_threads.proofs.rounds.idle_sessions.Goals as goal

pub loop-seat-preserved : goal.loop-seat-preserved
loop-seat-preserved c =
    let inv = c.loop-seat.invariant in
    let seat = c.in-Some.seat in
    let rest = c.pop.new.self.items in
    let had = c.loop-seat.sessions.items in
    let now = c.push_reserved.ensures.items in
    let many = ap length now ∙ length-append had (c.new.result ∷ []) in
    let left = c.in-Some.ensures.len in
    let count = inv.count in
    let capacity = c.push_reserved.ensures.capacity in
    let room = inv.room in
    let parts = λ (table : Book) (shown : List Batch) (all : All (IsNewSeat table shown) c.args.seats.items). all_but_last (IsNewSeat table shown) c.loop-seat.seats.items rest seat c.in-Some.ensures.items (inv.new table shown all) in
    record {
      new = λ table shown all. (parts table shown all).0;
      idle = λ table shown all. subst (All (IsIdle table)) (sym now) (All-push (IsIdle table) had c.new.result (inv.idle table shown all) (new_idle table shown seat c.new.result c.new.ensures (parts table shown all).1));
      count = omega (arith, many, left, count);
      room = omega (arith, capacity, room);
      capacity = capacity ∙ inv.capacity;
    }
