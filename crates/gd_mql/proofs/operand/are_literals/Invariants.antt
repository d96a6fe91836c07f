use Rattle.std.proofs.Common.{◌≡◌, drop}
use Rattle.gd_json.specs.View.{items_view}
use Rattle.gd_defs.specs.Query.Operands.{all_items, is_literal}
use Rattle.gd_mql.proofs.operand.are_literals.Given as goal

abbrev pub invariant-loop-item : goal.invariant-loop-item
invariant-loop-item l = all_items is_literal (items_view l.items) ≡ all_items is_literal (items_view (drop l.item-index l.items))
