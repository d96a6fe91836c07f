use Rattle.std.proofs.Common.{◌≡◌, length}
use Rattle.gd_grammar.specs.Choice.{seen_at}
use Rattle.gd_tplang.specs.Survey.{Enough, finish, marks, marks_of}
use Rattle.gd_tplang.specs.Written.{template_at}
use Rattle.gd_tplang.proofs.survey.survey.Given as goal

abbrev pub invariant-loop-alloc : goal.invariant-loop-alloc
invariant-loop-alloc l = record {
  left : seen_at marks_of (template_at (length l.bytes)) l.bytes ≡ finish (length l.bytes) l.walk.counts (marks l.walk) l.rest;
  enough : Enough (length l.bytes) l.walk.counts l.rest;
}

abbrev pub decreases-loop-alloc : goal.decreases-loop-alloc
decreases-loop-alloc l = length l.rest
