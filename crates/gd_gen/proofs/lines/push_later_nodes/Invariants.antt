use Rattle.std.proofs.Common.{◌≡◌, ◌+◌, ◌-◌, ◌++◌}
use Rattle.gd_gen.specs.Lines.{later_nodes}
use Rattle.gd_gen.proofs.lines.push_later_nodes.Given as goal

-- what is written and the lines that are left are all lines
abbrev pub invariant-loop-node : goal.invariant-loop-node
invariant-loop-node l = l.bytes.items ++ later_nodes (l.fn.count + 1 - l.node) l.node l.draws ≡ l.initial.bytes.items ++ later_nodes (l.fn.count - 1) 2 l.initial.draws
