use Rattle.std.proofs.Common.{◌≡◌, ◌≤◌, length, vec_capacity}
use Rattle.gd_round_lines.proofs.work.unread.Given as goal

abbrev pub invariant-loop-place : goal.invariant-loop-place
invariant-loop-place l = record {
  count : length l.asked.items ≡ l.place;
  room : l.count ≤ vec_capacity l.asked;
}
