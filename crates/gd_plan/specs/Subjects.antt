-- What computed members ask, by that of which they are asked.
use Rattle.std.specs.Prelude.{List, []}
use Rattle.gd_defs.specs.Asked as defs
use Rattle.gd_defs.specs.Data.{Kind, Test, anything}
use Rattle.gd_defs.specs.Plan.{value_test, object_test, object_tests, lang_tests, link_tests, namespace_tests}
use Rattle.gd_defs.specs.Template.{Constraint}
use Rattle.gd_datum.specs.Values.{kind_of}
use Rattle.gd_plan.specs.declared.subject.Subject.{Subject}
use Rattle.gd_plan.specs.declared.subject.Subject.TheVariants as subject

-- the constraints of the computed members of a clause on its object, on a link's value, or on a key's namespace
abbrev pub tests_on : Subject → defs.Members → List Constraint
tests_on subject.Object ms = object_tests ms
tests_on (subject.Value kind) ms = link_tests (kind_of kind) ms
tests_on subject.Namespace ms = namespace_tests ms

-- the constraints of a test of a value whose kind is known
abbrev pub asked_value_test : Kind → Test → List Constraint
asked_value_test k anything = []
asked_value_test k t = value_test k t

-- the constraints that the test of one computed member adds
abbrev pub own_tests : Subject → defs.Own → Test → List Constraint
own_tests subject.Object defs.its_id t = object_test t
own_tests subject.Object defs.its_guid t = object_test t
own_tests subject.Object defs.its_timestamp t = object_test t
own_tests (subject.Value kind) defs.its_value t = asked_value_test (kind_of kind) t
own_tests (subject.Value kind) defs.its_lang t = lang_tests t
own_tests subject.Namespace defs.its_namespace t = object_test t
own_tests s o t = []
