use Rattle.std.proofs.Common.{◌+◌, ℕ, [], ◌∷◌, length, map, subst, sym, rules, arith}
use Rattle.std.proofs.lemmas.Grind.{common_steps}
use Rattle.std.specs.List.{AllByRecursion}
use Rattle.gd_writer.specs.declared.outcome.WriteOf.{WriteOf}
use Rattle.gd_writer.specs.Outcomes.{told_view, IsTold}
use Rattle.gd_reply.specs.Replies.{reply_text}
use Rattle.gd_caller.specs.Tells.{IsOutcomeWithin}
use Rattle.gd_round_lines.proofs.Read.{all_front}
use Rattle.gd_caller.proofs.Tells.{tells_more, left_and_told, told_many, told_count, tells_end}
use Rattle.gd_caller.proofs.told.tell_all.Goals as goal

pub loop-written-preserved : goal.loop-written-preserved
loop-written-preserved c =
    let inv = c.loop-written.invariant in
    let w = c.in-Some.written in
    let rest = c.pop.new.self.items in
    let items = c.in-Some.ensures.items in
    let one = c.tell_one.ensures in
    let first = c.args.first in
    let (done, is, all) = inv.tells in
    let more = told_many first (told_view w) c.loop-written.numbers.items c.tell_one.new.numbers.items (map reply_text c.loop-written.replies.items) (map reply_text c.tell_one.new.replies.items) one in
    let count = told_count first (told_view w) c.loop-written.numbers.items c.tell_one.new.numbers.items c.loop-written.replies.items c.tell_one.new.replies.items one in
    let many = inv.many in
    let had = inv.count in
    record {
      tells = (
        w ∷ done,
        left_and_told c.args.outcomes.items c.loop-written.outcomes.items rest done w is items,
        tells_more first (told_view w) (map told_view done) c.args.numbers.now.items c.loop-written.numbers.items c.tell_one.new.numbers.items (map reply_text c.args.replies.now.items) (map reply_text c.loop-written.replies.items) (map reply_text c.tell_one.new.replies.items) all one,
      );
      told = all_front (λ (x : WriteOf). IsTold x.line x.outcome) rest (w ∷ []) (subst (AllByRecursion (λ (x : WriteOf). IsTold x.line x.outcome)) items inv.told);
      within = subst (λ (n : ℕ). AllByRecursion (IsOutcomeWithin first (first + n)) rest) (sym more) (all_front (IsOutcomeWithin first (first + length c.loop-written.numbers.items)) rest (w ∷ []) (subst (AllByRecursion (IsOutcomeWithin first (first + length c.loop-written.numbers.items))) items inv.within));
      many = omega (arith, more, many);
      count = omega (arith, count, had, more);
    }

pub returns : goal.returns
returns c =
    let (done, is, all) = c.loop-written.invariant.tells in
    tells_end c.args.first c.args.outcomes.items c.loop-written.outcomes.items done c.args.numbers.now.items c.loop-written.numbers.items (map reply_text c.args.replies.now.items) (map reply_text c.loop-written.replies.items)
    (first_of (search rules, grind (arith, common_steps))) is all
