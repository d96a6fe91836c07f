use Rattle.std.proofs.Common.{◌≤◌, map, take}
use Rattle.std.specs.Io.KnownBytes.{Appends}
use Rattle.gd_reply.specs.Replies.{reply_text}
use Rattle.gd_threads.specs.PassedOn.{printed}
use Rattle.gd_top.proofs.printing.print_made.Given as goal

abbrev pub invariant-loop-reply : goal.invariant-loop-reply
invariant-loop-reply g l = record {
  gained : Appends (g.K.Sink.held l.fn.sink) (g.K.Sink.held l.sink) (printed (take l.reply-index (map reply_text l.replies)));
  later : g.K.Sink.faults l.fn.sink ≤ g.K.Sink.faults l.sink;
}
