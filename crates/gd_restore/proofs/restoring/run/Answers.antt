use Rattle.std.proofs.Common.{◌≡◌, ◌∙◌, ◌+◌, [], ◌++◌, List, ℕ, None, length, sym, ap, subst, arith, append_assoc}
use Rattle.std.specs.Io.KnownBytes.{prepend_known, Keeps}
use Rattle.gd_restore.specs.Gathered.{Upto, HoldsAs, Tells}
use Rattle.gd_restore.specs.Restores.{Leaves, StopsAs}
use Rattle.gd_restore.proofs.Reading.{taken_more, input_so, input_stops, all_dropped}
use Rattle.gd_restore.proofs.Stopping.{no_memory}
use Rattle.gd_restore.proofs.restoring.run.Goals as goal

pub loop-input-preserved : goal.loop-input-preserved
loop-input-preserved g c =
    let d = g.D.Disk in
    let inv = c.loop-input.invariant in
    let first = c.args.gathering.now in
    let piece = c.bytes-piece.result.now in
    let filled = c.fill.new.self in
    let new = c.consume.new.self in
    let bytes : piece ≡ filled.bytes = c.bytes-piece.ensures.bytes in
    let none : new.bytes ≡ [] = ap (λ h. h.bytes) c.consume.ensures ∙ all_dropped filled.bytes piece bytes in
    let passed : new.consumed ≡ filled.consumed + length piece = ap (λ h. h.consumed) c.consume.ensures in
    let same : filled.consumed ≡ c.loop-input.input.consumed = c.in-Ok-true.ensures.same in
    let long = ap length bytes in
    let short = ap length none in
    let given = c.in-Ok-true.ensures.counted (g.S.Source.given c.args.source.now) inv.given in
    let bound = c.bytes-piece.ensures.bounded.taken in
    let a = g.S.Source.left c.args.source.now in
    let before = prepend_known c.loop-input.input.bytes (g.S.Source.left c.loop-input.source) in
    let b = g.S.Source.left c.fill.new.source in
    let holds : Type 0 = Tells (d.content first.stored.log.disk) → HoldsAs d.content d.images first.stored None in
    record {
      ready = c.in-Ok.ensures.ready;
      reader = c.in-Ok.ensures.reader;
      sound = c.in-Ok.ensures.sound;
      taken = taken_more a before b piece new.bytes c.loop-input.input.consumed new.consumed
          (λ seen. holds → Upto d.content d.images first.stored.batches seen c.loop-input.gathering c.loop-input.text) (λ seen. holds → Upto d.content d.images first.stored.batches seen c.take.new.gathering c.take.new.text) inv.taken
          (subst (λ l. Keeps before (prepend_known l b)) (sym bytes) c.in-Ok-true.ensures.kept) none (omega (arith, passed, same)) (λ seen p held. c.in-Ok.ensures.upto first.stored.batches seen (p held));
      given = omega (arith, given, passed, long, short);
      bounded = record { buffered = omega (arith, short); taken = omega (arith, bound, passed, long, short) };
      told = c.in-Ok.ensures.disk.told ∙ inv.told;
      later = omega (arith, inv.later, c.in-Ok.ensures.disk.later);
      source_later = omega (arith, inv.source_later, c.in-Ok-true.ensures.later);
    }

pub returns-in-Err-take-clause-ends : goal.returns-in-Err-take-clause-ends
returns-in-Err-take-clause-ends g c = λ held.
    let d = g.D.Disk in
    let first = c.args.gathering.now in
    let new = c.take.new.gathering in
    let before = prepend_known c.loop-input.input.bytes (g.S.Source.left c.loop-input.source) in
    let b = g.S.Source.left c.fill.new.source in
    let holds : Type 0 = Tells (d.content first.stored.log.disk) → HoldsAs d.content d.images first.stored None in
    input_so (g.S.Source.left c.args.source.now) before b c.bytes-piece.result.now c.loop-input.input.consumed
    (λ seen. holds → Upto d.content d.images first.stored.batches seen c.loop-input.gathering c.loop-input.text)
    (λ text. StopsAs c.in-Err-take.stop (Leaves d.content d.images new.stored.log.disk) first.stored.batches text new.stored.batches) c.loop-input.invariant.taken
    (subst (λ l. Keeps before (prepend_known l b)) (sym c.bytes-piece.ensures.bytes) c.in-Ok-true.ensures.kept)
    (λ seen left p. c.in-Err-take.ensures.stops first.stored.batches seen left (p held))

pub returns-in-Err-clause-ends : goal.returns-in-Err-clause-ends
returns-in-Err-clause-ends g c = λ held.
    let d = g.D.Disk in
    let first = c.args.gathering.now in
    let s = c.loop-input.gathering in
    let before = prepend_known c.loop-input.input.bytes (g.S.Source.left c.loop-input.source) in
    let b = g.S.Source.left c.fill.new.source in
    let holds : Type 0 = Tells (d.content first.stored.log.disk) → HoldsAs d.content d.images first.stored None in
    let leaves = Leaves d.content d.images s.stored.log.disk in
    input_so (g.S.Source.left c.args.source.now) before b [] c.loop-input.input.consumed
    (λ seen. holds → Upto d.content d.images first.stored.batches seen s c.loop-input.text)
    (λ text. StopsAs c.of_input.result leaves first.stored.batches text s.stored.batches) c.loop-input.invariant.taken
    (subst (λ l. Keeps before (prepend_known l b)) c.in-Err.ensures.none c.in-Err.ensures.kept)
    (λ seen left p. subst (λ e. StopsAs e leaves first.stored.batches ((seen ++ []) ++ left) s.stored.batches) (sym c.of_input.ensures)
    (input_stops leaves first.stored.batches ((seen ++ []) ++ left) s.stored.batches c.in-Err.fault
    (no_memory d.content d.images left ((seen ++ []) ++ left) s c.loop-input.text c.loop-input.invariant.ready.part first.stored.batches seen (append_assoc seen [] left) (p held))))

-- ---- whatever the source tells

pub returns-in-Err-take-clause-made : goal.returns-in-Err-take-clause-made
returns-in-Err-take-clause-made g c = λ held.
    let taken = c.loop-input.invariant.taken in
    ((taken.seen ++ c.bytes-piece.result.now) ++ [], c.in-Err-take.ensures.stops c.args.gathering.now.stored.batches taken.seen [] (taken.so held))

pub returns-in-Err-clause-made : goal.returns-in-Err-clause-made
returns-in-Err-clause-made g c = λ held.
    let d = g.D.Disk in
    let first = c.args.gathering.now in
    let s = c.loop-input.gathering in
    let leaves = Leaves d.content d.images s.stored.log.disk in
    let taken = c.loop-input.invariant.taken in
    let text : List ℕ = (taken.seen ++ []) ++ [] in (
      text,
      subst (λ e. StopsAs e leaves first.stored.batches text s.stored.batches) (sym c.of_input.ensures)
          (input_stops leaves first.stored.batches text s.stored.batches c.in-Err.fault
          (no_memory d.content d.images [] text s c.loop-input.text c.loop-input.invariant.ready.part first.stored.batches taken.seen (append_assoc taken.seen [] []) (taken.so held))),
    )

pub returns-in-Ok-false-clause-made : goal.returns-in-Ok-false-clause-made
returns-in-Ok-false-clause-made g c = λ held.
    let taken = c.loop-input.invariant.taken in
    (taken.seen, c.finish.ensures.ends c.args.gathering.now.stored.batches taken.seen (taken.so held))
