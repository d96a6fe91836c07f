-- The template of the links of a member, taken apart.
use Rattle.std.specs.Prelude.{List, ◌∷◌, ◌++◌}
use Rattle.gd_defs.specs.Data.{Kind, of_text}
use Rattle.gd_defs.specs.Property.{Property}
use Rattle.gd_defs.specs.Query.{required}
use Rattle.gd_defs.specs.Asked.{Asking, Members}
use Rattle.gd_defs.specs.Plan.{property_tests, value_test, link_tests, namespace_tests, object_test, object_tests, unless_literal, answer_end, link_template, clauses_of}
use Rattle.gd_defs.specs.Template.{Constraint, is_object, end_here, Template, template, Clauses, no_clauses, clause}
use Rattle.gd_template.specs.View.{Parts}

-- where its answers are values of a kind
abbrev pub value_links : Asking → Kind → Members → Template
value_links a k c = template (property_tests a.property ++ (value_test k a.test ++ link_tests k c)) (unless_literal a.given no_clauses)

-- the clause on what stands at the other ends of links of a property
abbrev pub far_part : Property → List Constraint → Clauses → Parts
far_part p cs inner = (required, end_here (answer_end p), template (is_object ∷ cs) inner)

-- the clauses where its answers are keys
abbrev pub key_clauses : Asking → Members → Clauses
key_clauses a c = unless_literal a.given (clause required (end_here (answer_end a.property)) (template (is_object ∷ namespace_tests c) no_clauses) no_clauses)

-- where its answers are keys
abbrev pub key_links : Asking → Members → Template
key_links a c = template (property_tests a.property ++ (value_test of_text a.test ++ link_tests of_text c)) (key_clauses a c)

-- the clause on the objects where its answers are objects
abbrev pub object_part : Asking → Members → Parts
object_part a c = far_part a.property (object_test a.test ++ object_tests c) (unless_literal a.given (clauses_of a.sort c))

-- where its answers are objects
abbrev pub object_links : Property → Parts → Template
object_links p c = template (property_tests p) (clause c.0 c.1 c.2 no_clauses)

-- whatever its answers are
abbrev pub links_of_member : Asking → Members → Template
links_of_member a c = link_template a c (clauses_of a.sort c)
