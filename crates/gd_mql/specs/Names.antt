-- The names of members as the definitions have them.
use Rattle.gd_defs.specs.Query as query
use Rattle.gd_defs.specs.Query.{Fault, fault}
use Rattle.gd_mql.specs.declared.name.Operator.{Operator}
use Rattle.gd_mql.specs.declared.name.Operator.TheVariants as operator
use Rattle.gd_mql.specs.declared.name.Name.{Name}

-- the operator that this is
abbrev pub operator_view : Operator → query.Operator
operator_view operator.Absent = query.no_operator
operator_view operator.OneOf = query.one_of
operator_view operator.Differs = query.differs
operator_view operator.Below = query.below
operator_view operator.AtMost = query.at_most
operator_view operator.Above = query.above
operator_view operator.AtLeast = query.at_least
operator_view operator.Words = query.words

-- the name that this is
abbrev pub name_view : Name → query.Name
name_view n = record { spelled = n.spelled.now; reversed = n.reversed; word = n.word.now; operator = operator_view n.operator }
