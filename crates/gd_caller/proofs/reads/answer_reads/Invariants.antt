use Rattle.std.proofs.Common.{◌≡◌, ℕ, List, ◌++◌, Some, length, map, take, reverse, slice_get, vec_len}
use Rattle.std.specs.List.{AllByRecursion}
use Rattle.gd_runs.specs.Side.{Told}
use Rattle.gd_round_lines.specs.declared.work.ReadLine.{ReadLine}
use Rattle.gd_round_lines.specs.declared.worked.Worked.{Worked}
use Rattle.gd_reply.specs.Replies.{reply_text}
use Rattle.gd_caller.specs.Told.{AreNumbers}
use Rattle.gd_caller.specs.Joined.{IsOfWrites}
use Rattle.gd_lookup.specs.Keeping.{AllRight}
use Rattle.gd_caller.proofs.Joins.{Joining}
use Rattle.gd_caller.proofs.Counting.{Counting}
use Rattle.gd_caller.proofs.reads.answer_reads.Given as goal

abbrev pub invariant-loop-read : goal.invariant-loop-read
invariant-loop-read g l = record {
  done : List ReadLine;
  all : l.fn.reads.items ≡ done ++ reverse l.reads.items;
  joining : (outs : List Told) → AreNumbers l.standing.first outs l.standing.numbers.now → AllByRecursion (IsOfWrites l.standing.writes.now) outs
      → Joining l.standing.first l.begun l.fn.reads.items l.standing.writes.now l.standing.store.now l.standing.shown outs (map reply_text l.initial.replies.items) (map reply_text l.replies.items) l.floors (length done);
  worked : (j : ℕ) (w : Worked) → slice_get l.worked.items j ≡ Some (Some w) → slice_get l.initial.worked.items j ≡ Some (Some w);
  counting : Counting l.standing.first (map reply_text l.initial.replies.items) (map reply_text l.replies.items) l.fn.reads.items (length done) l.initial.keeping l.keeping;
  kept : AllRight (take l.standing.shown l.standing.store.now) l.keeping.caches;
  floors : length l.floors ≡ 64;
  count : length l.replies.items ≡ length l.initial.replies.items;
}

abbrev pub decreases-loop-read : goal.decreases-loop-read
decreases-loop-read g l = vec_len l.reads
