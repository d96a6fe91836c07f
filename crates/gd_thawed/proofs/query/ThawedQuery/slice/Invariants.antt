use Rattle.std.proofs.Common.{◌≡◌, ◌+◌, ◌-◌, ◌^◌, ◌≤◌, min}
use Rattle.gd_defs.specs.Reply.{Answer}
use Rattle.gd_thawed.specs.Query.{IsGoing}
use Rattle.gd_thawed.proofs.query.ThawedQuery.slice.Given as goal

abbrev pub invariant-loop-round : goal.invariant-loop-round
invariant-loop-round g l = record {
  some : (owed : Answer) × IsGoing l.view owed l.self;
  going : (owed : Answer) → IsGoing l.view owed l.initial.self → IsGoing l.view owed l.self;
  same : l.self.subject ≡ l.initial.self.subject;
  reached : min (l.whole.before + l._round) (2 ^ 64 - 1) ≤ l.steps;
  work : l.steps ≤ l.whole.before + l.whole.size + 1024;
  later : l.whole.before ≤ l.steps;
}
