use Rattle.std.proofs.Common.{◌+◌, ◌-◌, ◌^◌, ◌<◌, ◌≤◌, length}
use Rattle.gd_base.specs.Counts.{Rose}
use Rattle.gd_postings.specs.Postings.{IsSplit}
use Rattle.gd_postings.proofs.postings.search.Given as goal

abbrev pub invariant-loop-round : goal.invariant-loop-round
invariant-loop-round g l =
    IsSplit l.ids l.end l.part.low l.part.high × (l.part.high - l.part.low < 2 ^ (21 - l._round)) × (l.initial.steps ≤ l.steps) × (l.steps ≤ l.initial.steps + l._round) × (l.part.high < l.part.low + length l.ids → Rose l.initial.steps l.steps)
