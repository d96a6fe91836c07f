use Rattle.std.proofs.Common.{◌≡◌, ◌≤◌, ◌+◌, map, length}
use Rattle.std.specs.Vec.Iter.{into_iter_items}
use Rattle.gd_tree.specs.Bounds.{items_depth}
use Rattle.gd_json.specs.View.{items_view}
use Rattle.gd_defs.specs.Query.{each_numbered}
use Rattle.gd_runs.specs.Request.{clause_of}
use Rattle.gd_mql.specs.Requests.{asked_change}
use Rattle.gd_mql.proofs.Numbered.{behind}
use Rattle.gd_mql.proofs.envelope.changes_of.Given as goal

-- all spell what those before did, in front of what those that are left do
abbrev pub invariant-loop-item : goal.invariant-loop-item
invariant-loop-item l = record {
  same : each_numbered clause_of 0 (items_view l.fn.items.items)
      ≡ behind (map asked_change l.changes.items) (each_numbered clause_of (length l.changes.items) (items_view (into_iter_items l.item-iterator)));
  count : length l.changes.items + length (into_iter_items l.item-iterator) ≡ length l.fn.items.items;
  shallow : items_depth (items_view (into_iter_items l.item-iterator)) ≤ 14;
}
