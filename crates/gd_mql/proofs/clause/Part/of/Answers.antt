use Rattle.gd_json.specs.View.{view}
use Rattle.gd_mql.specs.Names.{name_view}
use Rattle.gd_mql.specs.Clauses.{form_view}
use Rattle.gd_mql.proofs.Shown.{sort_there, sort_shown, value_right, part_shown, misnamed_other}
use Rattle.gd_mql.proofs.clause.Part.of.Goals as goal

pub invariant_of-result : goal.invariant_of-result
invariant_of-result c = record { sorts = sort_there c.args.root c.args.name.now c.as_str-spelled.result.now (view c.args.value.now) c.as_str-spelled.ensures c.if-is_named.ensures c.requires.right }

pub returns-then-is_named : goal.returns-then-is_named
returns-then-is_named c = λ ms none. sort_shown c.args.root c.args.name.now c.as_str-spelled.result.now (view c.args.value.now) ms c.as_str-spelled.ensures c.if-is_named.ensures c.requires.right none

pub of-requires : goal.of-requires
of-requires c = value_right c.args.root c.args.name.now c.as_str-spelled.result.now (view c.args.value.now) (name_view c.in-Ok.name) c.as_str-spelled.ensures c.requires.part c.if-is_named.ensures c.in-Ok.ensures c.requires.right

pub unreachable-requires : goal.unreachable-requires
unreachable-requires c = misnamed_other c.args.root c.args.name.now c.as_str-spelled.result.now (view c.args.value.now) _ c.as_str-spelled.ensures c.requires.part c.if-is_named.ensures c.in-Err.ensures c.requires.right

pub returns : goal.returns
returns c = λ ms none. part_shown c.args.root c.args.name.now c.as_str-spelled.result.now (view c.args.value.now) ms (name_view c.in-Ok.name) (form_view c.of.result) c.as_str-spelled.ensures c.requires.part c.if-is_named.ensures c.in-Ok.ensures c.of.ensures none
