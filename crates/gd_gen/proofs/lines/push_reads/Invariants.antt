use Rattle.std.proofs.Common.{◌≡◌, ◌-◌, ◌++◌}
use Rattle.gd_gen.specs.Lines.{read_lines}
use Rattle.gd_gen.proofs.lines.push_reads.Given as goal

-- what is written and the lines that are left are all lines
abbrev pub invariant-loop-session : goal.invariant-loop-session
invariant-loop-session l = l.bytes.items ++ read_lines l.members (10 - l.session) l.session ≡ l.initial.bytes.items ++ read_lines l.members 10 0
