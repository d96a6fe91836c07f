use Rattle.std.proofs.Common.{◌≡◌, ◌*◌, ◌+◌, ◌-◌}
use Rattle.gd_tplang.specs.Building.{gathered, with_items}
use Rattle.gd_grammar.specs.Choice.{seen_at}
use Rattle.gd_tplang.specs.Written.{rest_at, template_at}
use Rattle.gd_tplang.proofs.build.+build.Given as goal

abbrev pub invariant-further-loop-item : goal.invariant-further-loop-item
invariant-further-loop-item l = seen_at (λ t. with_items t (gathered l.parts)) (rest_at (template_at l.below) (63 - l._item)) l.rest ≡ seen_at (λ t. with_items t (gathered l.fn.parts)) (rest_at (template_at l.below) 63) l.bytes

abbrev pub decreases-build : goal.decreases-build
decreases-build l = 6 * l.below

abbrev pub decreases-clause : goal.decreases-clause
decreases-clause l = 6 * l.below + 1

abbrev pub decreases-item : goal.decreases-item
decreases-item l = 6 * l.below + 2

abbrev pub decreases-next_item : goal.decreases-next_item
decreases-next_item l = 6 * l.below + 3

abbrev pub decreases-items : goal.decreases-items
decreases-items l = 6 * l.below + 5

abbrev pub decreases-further : goal.decreases-further
decreases-further l = 6 * l.below + 4
