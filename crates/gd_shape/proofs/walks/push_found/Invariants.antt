use Rattle.std.proofs.Common.{◌≡◌, ◌++◌, map, drop}
use Rattle.gd_frozen.specs.Meaning.{walk_of}
use Rattle.gd_shape.specs.Knowing.{walks_found}
use Rattle.gd_shape.proofs.walks.push_found.Given as goal

abbrev pub invariant-loop-object : goal.invariant-loop-object
invariant-loop-object l = map walk_of l.walks.items ++ walks_found l.ids (drop l.object-index l.objects) ≡ map walk_of l.initial.walks.items ++ walks_found l.ids l.objects
