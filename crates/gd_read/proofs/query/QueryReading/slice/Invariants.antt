use Rattle.std.proofs.Common.{◌≡◌, ℕ, ◌+◌, ◌-◌, ◌^◌, ◌≤◌, min}
use Rattle.gd_read.specs.Query.{QueryGoes}
use Rattle.gd_read.specs.Left.{query_left}
use Rattle.gd_read.proofs.query.QueryReading.slice.Given as goal

abbrev pub invariant-loop-round : goal.invariant-loop-round
invariant-loop-round g l = record {
  going : QueryGoes l.view l.self;
  same : l.self.subject ≡ l.initial.self.subject;
  reached : min (l.whole.before + l._round) (2 ^ 64 - 1) ≤ l.steps;
  less : (n : ℕ) → 2 ^ 32 ≤ n → l.steps + query_left n l.view l.self ≤ l.initial.steps + query_left n l.view l.initial.self;
  work : l.steps ≤ l.whole.before + l.whole.size + 1024;
  later : l.whole.before ≤ l.steps;
}
