use Rattle.std.proofs.Common.{List, map, vec_len}
use Rattle.std.specs.List.{AllByRecursion}
use Rattle.gd_prim.specs.declared.Batch.{Batch}
use Rattle.gd_round_lines.specs.declared.work.ReadLine.{ReadLine}
use Rattle.gd_crew.specs.Seated.{reply_view}
use Rattle.gd_crew.specs.Joined.{IsReplyOver}
use Rattle.gd_crew.specs.Collected.{TakesReplies}
use Rattle.gd_crew.proofs.collect.keep_replies.Given as goal

abbrev pub invariant-loop-read : goal.invariant-loop-read
invariant-loop-read l = record {
  takes : TakesReplies l.first (map reply_view l.initial.replies.items) l.initial.worked.items l.worked.items;
  left : (reads : List ReadLine) (list : List Batch) → AllByRecursion (IsReplyOver reads list) (map reply_view l.initial.replies.items) → AllByRecursion (IsReplyOver reads list) (map reply_view l.replies.items);
}

abbrev pub decreases-loop-read : goal.decreases-loop-read
decreases-loop-read l = vec_len l.replies
