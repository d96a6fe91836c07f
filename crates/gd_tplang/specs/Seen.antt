-- What the code's tests are in the definitions.
use Rattle.gd_defs.specs.Query.{Mode}
use Rattle.gd_defs.specs.Template.{Hop}
use Rattle.gd_template.specs.View.{mode_of, hop_of}
use Rattle.gd_tplang.specs.Written as written
use Rattle.gd_tplang.specs.declared.head.Head.{Head}
use Rattle.gd_tplang.specs.declared.test.Relation.{Relation}
use Rattle.gd_tplang.specs.declared.test.Relation.TheVariants.{Equal, Unequal, Below, AtMost, Above, AtLeast}
use Rattle.gd_tplang.specs.declared.test.Test.{Test}
use Rattle.gd_tplang.specs.declared.test.Test.TheVariants as seen

-- how a value stands to another
abbrev pub relation_of : Relation → written.Relation
relation_of Equal = written.equal
relation_of Unequal = written.unequal
relation_of Below = written.below
relation_of AtMost = written.at_most
relation_of Above = written.above
relation_of AtLeast = written.at_least

-- the test of the definitions
abbrev pub test_of : Test → written.Test
test_of (seen.EndIs end place) = written.end_is end place
test_of seen.IsObject = written.is_object
test_of (seen.PlaceIn places) = written.place_in places.items
test_of (seen.PlaceNot place) = written.place_not place
test_of (seen.Value relation value) = written.value (relation_of relation) value
test_of (seen.ValueIn values) = written.value_in values.items
test_of (seen.ValueLike text) = written.value_like text

-- the mode of a clause, and where it leads
abbrev pub head_of : Head → Mode × Hop
head_of h = (mode_of h.mode, hop_of h.hop)
