-- A test of values as constraints, from its parts.
use Rattle.std.proofs.Common.{◌≡◌, refl, ◌++◌, Some, None, if◌then◌else◌}
use Rattle.std.specs.Option.{option_to_list}
use Rattle.gd_defs.specs.Data.{Kind, Test, anything, equals, differs, is_one_of, is_below, is_above, matches_words}
use Rattle.gd_defs.specs.Plan.{value_test, of_kind}
use Rattle.gd_plan.specs.Planned.{asks_kind, value_constraint}

pub value_parts : (k : Kind) (t : Test) → option_to_list (if asks_kind t then Some (of_kind k) else None) ++ option_to_list (value_constraint t) ≡ value_test k t
value_parts k anything = refl
value_parts k (equals v) = refl
value_parts k (differs v) = refl
value_parts k (is_one_of vs) = refl
value_parts k (is_below v e) = refl
value_parts k (is_above v e) = refl
value_parts k (matches_words p) = refl
