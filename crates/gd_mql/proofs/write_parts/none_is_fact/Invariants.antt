use Rattle.std.proofs.Common.{◌≡◌, drop, not}
use Rattle.gd_json.specs.View.{items_view}
use Rattle.gd_defs.specs.Query.Operands.{all_items}
use Rattle.gd_defs.specs.Change.{is_fact}
use Rattle.gd_mql.proofs.write_parts.none_is_fact.Given as goal

abbrev pub invariant-loop-item : goal.invariant-loop-item
invariant-loop-item l = all_items (λ item. not (is_fact item)) (items_view l.items) ≡ all_items (λ item. not (is_fact item)) (items_view (drop l.item-index l.items))
