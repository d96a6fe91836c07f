use Rattle.std.proofs.Common.{◌≡◌, ◌≤◌, ◌*◌, ◌+◌, map, Bor, List, ℕ, Ok}
use Rattle.gd_grammar.specs.Chain.{◌>>=◌}
use Rattle.gd_prim.specs.History.{prims_of}
use Rattle.gd_defs.specs.Write.Parts as parts
use Rattle.gd_form_laws.specs.SpelledChange.{entries_depth, entries_len, item_depth, many_depth, many_len}
use Rattle.gd_mql.specs.Entries.{entries_left, item_view, items_left}
use Rattle.gd_intent.specs.Seen.{before, many_before}
use Rattle.gd_intent.specs.Walk.{entry_depth}
use Rattle.gd_intent.proofs.resolve.+resolved.Given as goal

abbrev pub invariant-resolved-loop-spelled : goal.invariant-resolved-loop-spelled
invariant-resolved-loop-spelled g l = record {
  whole : parts.resolved (prims_of l.view) l.on l.context (map (λ (n : Bor (List ℕ)). n.now) l.path) (entries_left l.members)
      ≡ (parts.resolved (prims_of l.view) l.on l.context (map (λ (n : Bor (List ℕ)). n.now) l.path) (entries_left l.rest) >>= λ ms. Ok (before l.entries.items ms));
  depth : entries_depth (entries_left l.rest) ≤ entries_depth (entries_left l.members);
  later : l.initial.steps ≤ l.steps;
}

abbrev pub decreases-resolved-loop-spelled : goal.decreases-resolved-loop-spelled
decreases-resolved-loop-spelled g l = entries_len (entries_left l.rest)

abbrev pub invariant-resolved_items-loop-spelled : goal.invariant-resolved_items-loop-spelled
invariant-resolved_items-loop-spelled g l = record {
  whole : parts.resolved_items (prims_of l.view) l.on (map (λ (n : Bor (List ℕ)). n.now) l.path) l.property (items_left l.items)
      ≡ (parts.resolved_items (prims_of l.view) l.on (map (λ (n : Bor (List ℕ)). n.now) l.path) l.property (items_left l.rest) >>= λ is. Ok (many_before l.done.items is));
  depth : many_depth (items_left l.rest) ≤ many_depth (items_left l.items);
  later : l.initial.steps ≤ l.steps;
}

abbrev pub decreases-resolved_items-loop-spelled : goal.decreases-resolved_items-loop-spelled
decreases-resolved_items-loop-spelled g l = many_len (items_left l.rest)

abbrev pub decreases-resolved : goal.decreases-resolved
decreases-resolved g l = 8 * entries_depth (entries_left l.members.now) + 4

abbrev pub decreases-resolved_entry : goal.decreases-resolved_entry
decreases-resolved_entry g l = 8 * entry_depth l.spelled.now + 3

abbrev pub decreases-resolved_member : goal.decreases-resolved_member
decreases-resolved_member g l = 8 * item_depth (item_view l.item.now) + 2

abbrev pub decreases-property_item : goal.decreases-property_item
decreases-property_item g l = 8 * item_depth (item_view l.item.now) + 1

abbrev pub decreases-resolved_item : goal.decreases-resolved_item
decreases-resolved_item g l = 8 * item_depth (item_view l.item.now)

abbrev pub decreases-resolved_nested : goal.decreases-resolved_nested
decreases-resolved_nested g l = 8 * entries_depth (entries_left l.members.now) + 6

abbrev pub decreases-resolved_several : goal.decreases-resolved_several
decreases-resolved_several g l = 8 * many_depth (items_left l.items.now) + 2

abbrev pub decreases-resolved_items : goal.decreases-resolved_items
decreases-resolved_items g l = 8 * many_depth (items_left l.items.now) + 1

abbrev pub decreases-resolved_clause : goal.decreases-resolved_clause
decreases-resolved_clause g l = 8 * entries_depth (entries_left l.members.now) + 5
