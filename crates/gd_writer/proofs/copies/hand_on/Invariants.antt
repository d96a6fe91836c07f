use Rattle.std.proofs.Common.{◌≡◌, ◌≤◌, ◌+◌, ◌++◌, length, IsTrue}
use Rattle.gd_prim.specs.History.{is_history}
use Rattle.gd_writer.proofs.copies.hand_on.Given as goal

abbrev pub invariant-loop-place : goal.invariant-loop-place
invariant-loop-place l = record {
  within : l._place ≤ l.count;
  all : l.publisher.pending ++ l.waiting.items ≡ l.fn.publisher.pending ++ l.fn.waiting.items;
  stays : l.publisher ≡ record l.fn.publisher { pending = l.publisher.pending };
  left : length l.waiting.items + l._place ≡ l.count;
  history : IsTrue (is_history (l.publisher.shown ++ l.publisher.pending ++ l.waiting.items));
  spare : l.fn.waiting.spare ≤ l.waiting.spare;
}
