use Rattle.std.proofs.Common.{◌≡◌, ℕ, ◌+◌, ◌^◌, ◌≤◌, map, true}
use Rattle.std.specs.Prelude.{All, sum_by}
use Rattle.std.specs.List.{AllWithin}
use Rattle.gd_read.specs.Left.{part_left}
use Rattle.gd_read.specs.Several.{part_request, PartGoes, is_answered}
use Rattle.gd_read.proofs.several.go_on_all.Given as goal

abbrev pub invariant-loop-k : goal.invariant-loop-k
invariant-loop-k g l = record {
  requests : map part_request l.parts ≡ map part_request l.initial.parts;
  go : All (PartGoes l.view) l.parts;
  answered : AllWithin (λ part. is_answered part ≡ true) l.parts 0 l.k;
  less : (n : ℕ) → 2 ^ 32 ≤ n → l.steps + sum_by (part_left n l.view) l.parts ≤ l.initial.steps + sum_by (part_left n l.view) l.initial.parts;
  work : l.steps ≤ l.whole.before + l.whole.size + 1024;
  later : l.whole.before ≤ l.steps;
}
