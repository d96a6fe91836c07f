-- What the answers of properties are, tests, computed words and sort keys, as the definitions have them.
use Rattle.gd_defs.specs.Data as tests
use Rattle.gd_defs.specs.Property as property
use Rattle.gd_defs.specs.Asked as defs
use Rattle.gd_datum.specs.Values.{kind_of}
use Rattle.gd_plan.specs.declared.expects.Expects.{Expects}
use Rattle.gd_plan.specs.declared.expects.Expects.TheVariants as expects
use Rattle.gd_plan.specs.declared.test.Test.{Test}
use Rattle.gd_plan.specs.declared.test.Test.TheVariants as test
use Rattle.gd_plan.specs.declared.asked.Own.{Own}
use Rattle.gd_plan.specs.declared.asked.Own.TheVariants as own
use Rattle.gd_plan.specs.declared.asked.SortKey.{SortKey}
use Rattle.gd_plan.specs.declared.asked.SortKey.TheVariants as key

-- what the answers of a property are
abbrev pub expects_view : Expects → property.Expects
expects_view (expects.Value kind) = property.a_value (kind_of kind)
expects_view expects.Key = property.a_key
expects_view expects.SystemObject = property.an_object_of_system
expects_view expects.PlainObject = property.a_plain_object

-- the test of the definitions
abbrev pub test_view : Test → tests.Test
test_view test.Anything = tests.anything
test_view (test.Equals value) = tests.equals value
test_view (test.Differs value) = tests.differs value
test_view (test.OneOf values) = tests.is_one_of values.items
test_view (test.Below value or_equal) = tests.is_below value or_equal
test_view (test.Above value or_equal) = tests.is_above value or_equal
test_view (test.Matches pattern) = tests.matches_words pattern

-- what a computed member tells
abbrev pub own_view : Own → defs.Own
own_view own.Id = defs.its_id
own_view own.Guid = defs.its_guid
own_view own.Timestamp = defs.its_timestamp
own_view own.Link = defs.its_link
own_view own.Value = defs.its_value
own_view own.Namespace = defs.its_namespace
own_view own.Lang = defs.its_lang

-- what rows are sorted by, and the direction
abbrev pub sort_key_view : SortKey → defs.SortKey
sort_key_view (key.Guid descending) = record { key = defs.by_guid; descending = descending }
sort_key_view (key.Timestamp descending) = record { key = defs.by_timestamp; descending = descending }
sort_key_view (key.Value p descending) = record { key = defs.by_property p; descending = descending }
