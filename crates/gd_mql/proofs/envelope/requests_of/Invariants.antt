use Rattle.std.proofs.Common.{◌≡◌, ◌≤◌, ◌+◌, true, map, length}
use Rattle.std.specs.Vec.Iter.{into_iter_items}
use Rattle.gd_tree.specs.Bounds.{items_depth}
use Rattle.gd_json.specs.View.{items_view}
use Rattle.gd_defs.specs.Query.{each_numbered}
use Rattle.gd_runs.specs.Request.{request_of}
use Rattle.gd_mql.specs.Requests.{read_view}
use Rattle.gd_mql.proofs.Numbered.{behind}
use Rattle.gd_mql.proofs.envelope.requests_of.Given as goal

-- all spell what those before did, in front of what those that are left do
abbrev pub invariant-loop-item : goal.invariant-loop-item
invariant-loop-item l = record {
  same : each_numbered (request_of true) 0 (items_view l.fn.items.items)
      ≡ behind (map read_view l.requests.items) (each_numbered (request_of true) (length l.requests.items) (items_view (into_iter_items l.item-iterator)));
  count : length l.requests.items + length (into_iter_items l.item-iterator) ≡ length l.fn.items.items;
  shallow : items_depth (items_view (into_iter_items l.item-iterator)) ≤ 15;
}
