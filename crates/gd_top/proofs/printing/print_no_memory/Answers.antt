use Rattle.std.proofs.Common.{◌≡◌, ◌+◌, ◌-◌, ℕ, suc, Some, take, slice_get, subst, ap, ◌∙◌, arith}
use Rattle.std.proofs.KnownBytes.{Appends-nil}
use Rattle.std.specs.Io.KnownBytes.{Appends}
use Rattle.gd_runs.specs.Explained.{memory_line}
use Rattle.gd_round_lines.specs.Replies.{no_memory}
use Rattle.gd_threads.specs.PassedOn.{printed}
use Rattle.gd_outside.proofs.Fronts.{at_err}
use Rattle.gd_top.proofs.Printed.{passed_at, length-passed, printed_more, printed_stops, printed_all}
use Rattle.gd_top.proofs.printing.print_no_memory.Goals as goal

pub loop-line-init : goal.loop-line-init
loop-line-init g c =
    let none : 0 ≡ c.args.first - c.args.first = omega arith in
    record {
      above = omega arith;
      gained = subst (λ (n : ℕ). Appends (g.K.Sink.held c.args.sink.now) (g.K.Sink.held c.args.sink.now) (printed (take n (no_memory c.args.first (c.args.end - c.args.first))))) none (Appends-nil (g.K.Sink.held c.args.sink.now));
      later = omega arith;
    }

pub returns-in_err-print_failure-clause-front : goal.returns-in_err-print_failure-clause-front
returns-in_err-print_failure-clause-front g c =
    let k = c.loop-line.line - c.args.first in
    let place : c.args.first + k ≡ c.loop-line.line = omega (arith, c.loop-line.invariant.above) in
    let here : slice_get (no_memory c.args.first (c.args.end - c.args.first)) k ≡ Some (memory_line c.loop-line.line) =
    passed_at c.args.first (c.args.end - c.args.first) k (omega (arith, c.loop-line.invariant.above, c.loop-line-test.true)) ∙ ap (λ (n : ℕ). Some (memory_line n)) place in
    at_err c.from_residual.result (printed_stops (g.K.Sink.held c.args.sink.now) (g.K.Sink.held c.loop-line.sink) (g.K.Sink.held c.print_failure.new.sink) (no_memory c.args.first (c.args.end - c.args.first)) k (memory_line c.loop-line.line)
    here c.loop-line.invariant.gained c.in_err-print_failure.ensures.front)

pub loop-line-preserved : goal.loop-line-preserved
loop-line-preserved g c =
    let k = c.loop-line.line - c.args.first in
    let place : c.args.first + k ≡ c.loop-line.line = omega (arith, c.loop-line.invariant.above) in
    let one : suc k ≡ (c.loop-line.line + 1) - c.args.first = omega (arith, c.loop-line.invariant.above) in
    let here : slice_get (no_memory c.args.first (c.args.end - c.args.first)) k ≡ Some (memory_line c.loop-line.line) =
    passed_at c.args.first (c.args.end - c.args.first) k (omega (arith, c.loop-line.invariant.above, c.loop-line-test.true)) ∙ ap (λ (n : ℕ). Some (memory_line n)) place in
    record {
      above = omega (arith, c.loop-line.invariant.above);
      gained = subst (λ (n : ℕ). Appends (g.K.Sink.held c.args.sink.now) (g.K.Sink.held c.print_failure.new.sink) (printed (take n (no_memory c.args.first (c.args.end - c.args.first))))) one
          (printed_more (g.K.Sink.held c.args.sink.now) (g.K.Sink.held c.loop-line.sink) (g.K.Sink.held c.print_failure.new.sink) (no_memory c.args.first (c.args.end - c.args.first)) k (memory_line c.loop-line.line)
          here c.loop-line.invariant.gained c.in_ok-print_failure.ensures.all);
      later = omega (arith, c.loop-line.invariant.later, c.print_failure.ensures.later);
    }

pub returns-clause-all : goal.returns-clause-all
returns-clause-all g c =
    let many = length-passed c.args.first (c.args.end - c.args.first) in
    printed_all (g.K.Sink.held c.args.sink.now) (g.K.Sink.held c.loop-line.sink) (no_memory c.args.first (c.args.end - c.args.first)) (c.loop-line.line - c.args.first)
    (omega (arith, many, c.loop-line.invariant.above, c.loop-line-test.false)) c.loop-line.invariant.gained
