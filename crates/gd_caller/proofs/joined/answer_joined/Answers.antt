use Rattle.std.proofs.Common.{◌+◌, ℕ, List, length, map, take, sym, subst, ap, ◌∙◌, arith}
use Rattle.std.proofs.lemmas.List.{length-map}
use Rattle.std.specs.List.{AllByRecursion}
use Rattle.gd_prim.specs.declared.Batch.{Batch}
use Rattle.gd_runs.specs.Legal.{batches}
use Rattle.gd_runs.specs.Side.{Told}
use Rattle.gd_round_lines.specs.declared.work.LineNumber.{LineNumber}
use Rattle.gd_round_lines.specs.declared.work.WriteLine.{WriteLine}
use Rattle.gd_reply.specs.Replies.{reply_text}
use Rattle.gd_caller.specs.Told.{AreNumbers}
use Rattle.gd_caller.specs.Tells.{TellsAll}
use Rattle.gd_round_lines.specs.Works.{IsWriteWithin, IsReadWithin, AreApart}
use Rattle.gd_round_lines.specs.Worked.{AreWorked}
use Rattle.gd_caller.specs.Joined.{IsOfWrites, JoinedReply, AnswersReads}
use Rattle.gd_caller.proofs.Left.{still_shown, still_batches}
use Rattle.gd_caller.proofs.Lines.{short_take}
use Rattle.gd_caller.proofs.Tells.{numbers_told, outcomes_within}
use Rattle.gd_lookup.specs.Keeping.{AllRight}
use Rattle.gd_round_lines.proofs.Read.{all_at}
use Rattle.gd_caller.proofs.Counting.{reads_from, told_first}
use Rattle.gd_caller.proofs.joined.answer_joined.Goals as goal

pub tell_all-requires-clause-within : goal.tell_all-requires-clause-within
tell_all-requires-clause-within g c =
    let w = c.args.works in
    outcomes_within c.args.first (c.args.first + length w.numbers.items) w.writes.items c.take_outcomes-outcomes.result.items c.requires.within.writes
    (subst (AllByRecursion (IsOfWrites w.writes.items)) (sym c.take_outcomes-outcomes.ensures.outcomes) c.requires.outcomes)

pub answer_reads-requires-clause-shown : goal.answer_reads-requires-clause-shown
answer_reads-requires-clause-shown g c =
    let s = c.args.side.now in
    let front = ap length c.stored-stored.ensures.keeps.shows in
    let short = short_take (length s.shown) (batches s.history) in
    let taken = c.take_outcomes-outcomes.new.self in
    let shown = c.shown.ensures ∙ still_shown s taken c.take_outcomes-outcomes.ensures.side in
    let store = ap length (c.store.ensures ∙ still_batches s taken c.take_outcomes-outcomes.ensures.side) in
    omega (arith, front, short, shown, store)

pub answer_reads-requires-clause-writes : goal.answer_reads-requires-clause-writes
answer_reads-requires-clause-writes g c =
    let w = c.args.works in
    let first = c.args.first in
    subst (λ (ns : List LineNumber). AllByRecursion (IsWriteWithin first (first + length ns)) c.as_slice.result.now) (sym c.as_slice-2.ensures.value)
    (subst (λ (n : ℕ). AllByRecursion (IsWriteWithin first (first + n)) c.as_slice.result.now) (sym c.tell_all.ensures.many)
    (subst (AllByRecursion (IsWriteWithin first (first + length w.numbers.items))) (sym c.as_slice.ensures.value) c.requires.within.writes))

pub answer_reads-requires-clause-reads : goal.answer_reads-requires-clause-reads
answer_reads-requires-clause-reads g c =
    let w = c.args.works in
    let first = c.args.first in
    let count = c.tell_all.ensures.count in
    let before = length-map w.replies.items reply_text in
    let after = length-map c.tell_all.new.replies.items reply_text in
    let numbers = c.requires.within.numbers in
    let replies = c.requires.within.replies in
    subst (λ (n : ℕ). AllByRecursion (IsReadWithin first n) w.reads.items) (omega (arith, count, before, after, numbers, replies)) c.requires.within.reads

pub answer_reads-requires-clause-apart : goal.answer_reads-requires-clause-apart
answer_reads-requires-clause-apart g c = subst (AreApart c.args.works.reads.items) (sym c.as_slice.ensures.value) c.requires.within.apart

pub answer_reads-requires-clause-worked : goal.answer_reads-requires-clause-worked
answer_reads-requires-clause-worked g c =
    let s = c.args.side.now in
    let reads = c.args.works.reads.items in
    let worked = c.args.worked.items in
    let taken = c.take_outcomes-outcomes.new.self in
    let shown = c.shown.ensures ∙ still_shown s taken c.take_outcomes-outcomes.ensures.side in
    let store = c.store.ensures ∙ still_batches s taken c.take_outcomes-outcomes.ensures.side in
    subst (λ (bs : List Batch). AreWorked c.args.first reads bs c.shown.result worked) (sym store)
    (subst (λ (n : ℕ). AreWorked c.args.first reads (batches s.history) n worked) (sym shown) c.requires.worked)

pub returns-clause-answers : goal.returns-clause-answers
returns-clause-answers g c =
    let s = c.args.side.now in
    let w = c.args.works in
    let first = c.args.first in
    let begun = c.args.begun in
    let t0 = map reply_text c.tell_all.new.replies.items in
    let t1 = map reply_text c.answer_reads.new.replies.items in
    let t = subst (λ (ts : List Told). TellsAll first ts w.numbers.items c.tell_all.new.numbers.items (map reply_text w.replies.items) t0) c.take_outcomes-outcomes.ensures.outcomes c.tell_all.ensures in
    let are = numbers_told first s.outcomes w.numbers.items c.tell_all.new.numbers.items (map reply_text w.replies.items) t0 t c.requires.within.none in
    let taken = c.take_outcomes-outcomes.new.self in
    let shown = c.shown.ensures ∙ still_shown s taken c.take_outcomes-outcomes.ensures.side in
    let store = c.store.ensures ∙ still_batches s taken c.take_outcomes-outcomes.ensures.side in
    let a : AnswersReads first begun w.reads.items w.writes.items (batches s.history) (length s.shown) s.outcomes t0 t1 =
    subst (λ (bs : List Batch). AnswersReads first begun w.reads.items w.writes.items bs (length s.shown) s.outcomes t0 t1) store
    (subst (λ (n : ℕ). AnswersReads first begun w.reads.items w.writes.items c.store.result.now n s.outcomes t0 t1) shown
    (subst (λ (ws : List WriteLine). AnswersReads first begun w.reads.items ws c.store.result.now c.shown.result s.outcomes t0 t1) c.as_slice.ensures.value
    (c.answer_reads.ensures.answers s.outcomes (subst (AreNumbers first s.outcomes) (sym c.as_slice-2.ensures.value) are) (subst (λ (ws : List WriteLine). AllByRecursion (IsOfWrites ws) s.outcomes) (sym c.as_slice.ensures.value) c.requires.outcomes)))) in
    let many = a.many in
    let count = t.count in
    let long = length-map w.replies.items reply_text in
    record {
      tells = a.tells;
      many = omega (arith, many, count, long);
      each = λ j reply at.
          let (told, at_told, is) = a.each j reply at in
          let (was, at_was, told_is) = t.reply j told at_told in
          (was, at_was, subst (λ (x : List ℕ). JoinedReply first begun w.reads.items w.writes.items (batches s.history) (length s.shown) s.outcomes a.tells j x reply) told_is is);
    }

-- what is shown is what the reads are answered over
pub answer_reads-requires-clause-kept : goal.answer_reads-requires-clause-kept
answer_reads-requires-clause-kept g c =
    let s = c.args.side.now in
    let taken = c.take_outcomes-outcomes.new.self in
    let shown = c.shown.ensures ∙ still_shown s taken c.take_outcomes-outcomes.ensures.side in
    let store = c.store.ensures ∙ still_batches s taken c.take_outcomes-outcomes.ensures.side in
    subst (λ (l : List Batch). AllRight l c.args.keeping.now.caches) (c.stored-stored.ensures.keeps.shows ∙ (λ i. take (sym shown i) (sym store i))) c.requires.kept

pub returns-clause-kept : goal.returns-clause-kept
returns-clause-kept g c =
    let s = c.args.side.now in
    let taken = c.take_outcomes-outcomes.new.self in
    let shown = c.shown.ensures ∙ still_shown s taken c.take_outcomes-outcomes.ensures.side in
    let store = c.store.ensures ∙ still_batches s taken c.take_outcomes-outcomes.ensures.side in
    subst (λ (l : List Batch). AllRight l c.answer_reads.new.keeping.caches) (sym (c.stored-stored.ensures.keeps.shows ∙ (λ i. take (sym shown i) (sym store i)))) c.answer_reads.ensures.kept

pub returns-clause-counted : goal.returns-clause-counted
returns-clause-counted g c =
    let s = c.args.side.now in
    let w = c.args.works in
    let first = c.args.first in
    let texts = map reply_text w.replies.items in
    let t0 = map reply_text c.tell_all.new.replies.items in
    let t1 = map reply_text c.answer_reads.new.replies.items in
    let t = subst (λ (ts : List Told). TellsAll first ts w.numbers.items c.tell_all.new.numbers.items texts t0) c.take_outcomes-outcomes.ensures.outcomes c.tell_all.ensures in
    let long = length-map w.replies.items reply_text in
    let replies = c.requires.within.replies in
    reads_from first texts t0 t1 w.reads.items c.args.keeping.now c.answer_reads.new.keeping
    (λ x q at.
    let within = all_at (IsReadWithin first (first + length w.numbers.items)) w.reads.items x q c.requires.within.reads at in
    let low = within.0 in
    let high = within.1 in
    told_first first w.reads.items w.writes.items s.outcomes texts t0 c.requires.within.apart c.requires.outcomes t.count t.reply x q at low (omega (arith, low, high, long, replies)))
    c.answer_reads.ensures.counted
