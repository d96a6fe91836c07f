use Rattle.std.proofs.Common.{◌≤◌, ◌-◌, take}
use Rattle.std.specs.Io.KnownBytes.{Appends}
use Rattle.gd_round_lines.specs.Replies.{no_memory}
use Rattle.gd_threads.specs.PassedOn.{printed}
use Rattle.gd_top.proofs.printing.print_no_memory.Given as goal

abbrev pub invariant-loop-line : goal.invariant-loop-line
invariant-loop-line g l = record {
  above : l.first ≤ l.line;
  gained : Appends (g.K.Sink.held l.fn.sink) (g.K.Sink.held l.sink) (printed (take (l.line - l.first) (no_memory l.first (l.end - l.first))));
  later : g.K.Sink.faults l.fn.sink ≤ g.K.Sink.faults l.sink;
}
