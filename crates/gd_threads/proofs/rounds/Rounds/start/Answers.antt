use Rattle.std.proofs.Common.{◌∙◌, sym, subst, option_map, arith}
use Rattle.gd_crew.specs.PassedOn.{KeepingValue, AllRight}
use Rattle.gd_crew.proofs.PassedOn.{first_right}
use Rattle.gd_threads.proofs.Between.{begins_fresh}
use Rattle.gd_threads.proofs.rounds.Rounds.start.Goals as goal

pub invariant_of-result : goal.invariant_of-result
invariant_of-result g c =
    let side = c.in-Ok-start.side in
    let begins = c.in-Ok-start.ensures.begins in
    let seats = c.in-Ok-start.ensures.seats in
    let made = c.idle_sessions.ensures in
    let capacity = made.capacity in
    let room = c.in-Ok.ensures.capacity in
    let least = c.min.ensures in
    let some = c.get.ensures.nonzero in
    record {
      outcomes = begins.outcomes;
      fresh = begins_fresh (g.D.Disk.content c.args.disk) (g.C.Clock.may c.args.clock) g.C.Clock.may side begins;
      idle = made.idle side.table side.shown seats.1;
      all = made.count ∙ seats.0;
      room = omega (arith, capacity, room);
      some = omega (arith, least, some);
      few = omega (arith, least);
      kept = subst (λ (k : KeepingValue). AllRight side.shown k.caches) (sym c.in-Ok-of.ensures) (first_right side.shown (option_map (λ n. n.value) c.args.cache));
    }
