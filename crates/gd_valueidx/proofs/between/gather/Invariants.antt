use Rattle.std.proofs.Common.{◌≡◌, ◌+◌, ◌≤◌, ◌++◌, length, drop}
use Rattle.std.specs.List.{filter}
use Rattle.std.specs.Map.{keys_of}
use Rattle.std.specs.Option.{option_copied}
use Rattle.gd_valueidx.specs.Runs.{IsPlace, flat, rank, is_to}
use Rattle.gd_valueidx.proofs.between.gather.Given as goal

abbrev pub invariant-loop-count : goal.invariant-loop-count
invariant-loop-count g l =
    (l.found ++ filter (is_to (keys_of l.lists.entries) (option_copied l.hi)) (drop (rank l.order.runs.items l.place.run l.place.index) (flat l.order.runs.items))
    ≡ filter (is_to (keys_of l.lists.entries) (option_copied l.hi)) (drop (rank l.order.runs.items l.fn.start.run l.fn.start.index) (flat l.order.runs.items)))
    × (length l.found ≡ l._count) × IsPlace l.order.runs.items l.place.run l.place.index × (l.initial.steps ≤ l.steps) × (l.steps ≤ l.initial.steps + l._count)
