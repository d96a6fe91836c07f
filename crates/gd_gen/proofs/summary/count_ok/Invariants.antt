use Rattle.std.proofs.Common.{◌≡◌, ◌+◌, length}
use Rattle.std.specs.List.{list_all}
use Rattle.gd_gen.specs.Replies.{reply_lines, is_ok_line}
use Rattle.gd_gen.proofs.summary.count_ok.Given as goal

-- the lines that are left decide, and with those that were counted they are all
abbrev pub invariant-loop-line : goal.invariant-loop-line
invariant-loop-line l = record {
  decide : list_all is_ok_line l.lines ≡ list_all is_ok_line (reply_lines l.output);
  counted : l.count + length l.lines ≡ length (reply_lines l.output);
}

abbrev pub decreases-loop-line : goal.decreases-loop-line
decreases-loop-line l = length l.lines
