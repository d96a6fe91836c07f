use Rattle.std.proofs.Common.{◌≡◌, ◌+◌, List, ◌++◌, length, map, vec_len}
use Rattle.std.specs.List.{AllByRecursion}
use Rattle.gd_writer.specs.declared.outcome.WriteOf.{WriteOf}
use Rattle.gd_writer.specs.Outcomes.{told_view, IsTold}
use Rattle.gd_reply.specs.Replies.{reply_text}
use Rattle.gd_caller.specs.Tells.{TellsAll, IsOutcomeWithin}
use Rattle.gd_caller.proofs.told.tell_all.Given as goal

abbrev pub invariant-loop-written : goal.invariant-loop-written
invariant-loop-written l = record {
  tells : (done : List WriteOf) × (l.initial.outcomes.items ≡ l.outcomes.items ++ done)
      × TellsAll l.first (map told_view done) l.initial.numbers.items l.numbers.items (map reply_text l.initial.replies.items) (map reply_text l.replies.items);
  told : AllByRecursion (λ (w : WriteOf). IsTold w.line w.outcome) l.outcomes.items;
  within : AllByRecursion (IsOutcomeWithin l.first (l.first + length l.numbers.items)) l.outcomes.items;
  many : length l.numbers.items ≡ length l.initial.numbers.items;
  count : length l.replies.items ≡ length l.numbers.items;
}

abbrev pub decreases-loop-written : goal.decreases-loop-written
decreases-loop-written l = vec_len l.outcomes
