use Rattle.std.proofs.Common.{◌≡◌, ◌*◌, ◌+◌, drop, map, Bor, List, ℕ, Ok}
use Rattle.gd_grammar.specs.Chain.{◌>>=◌}
use Rattle.gd_defs.specs.Write.Carried as defined
use Rattle.gd_growing.specs.State.{so_far}
use Rattle.gd_intent.specs.Seen.{item_view, members_view, many_view}
use Rattle.gd_carry.specs.Depth.{item_depth, many_depth, members_depth, entry_depth}
use Rattle.gd_carry.specs.Outcome.{subject_view, all_led, many_led}
use Rattle.gd_carry.proofs.carry.+carried.Given as goal

abbrev pub invariant-carried-loop-entry : goal.invariant-carried-loop-entry
invariant-carried-loop-entry l = record {
  whole : defined.carried l.stamp (map (λ (n : Bor (List ℕ)). n.now) l.path) (so_far l.initial.growing) (subject_view l.subject) (members_view l.members)
      ≡ (defined.carried l.stamp (map (λ (n : Bor (List ℕ)). n.now) l.path) (so_far l.growing) (subject_view l.subject) (members_view (drop l.entry-index l.members)) >>= λ r. Ok (all_led l.fields.items r));
  below : l.growing.batches ≡ l.initial.growing.batches;
}

abbrev pub invariant-carried_items-loop-item : goal.invariant-carried_items-loop-item
invariant-carried_items-loop-item l = record {
  whole : defined.carried_items l.stamp (map (λ (n : Bor (List ℕ)). n.now) l.path) (so_far l.initial.growing) (subject_view l.subject) (many_view l.items)
      ≡ (defined.carried_items l.stamp (map (λ (n : Bor (List ℕ)). n.now) l.path) (so_far l.growing) (subject_view l.subject) (many_view (drop l.item-index l.items)) >>= λ r. Ok (many_led l.done.items r));
  below : l.growing.batches ≡ l.initial.growing.batches;
}

abbrev pub decreases-carried : goal.decreases-carried
decreases-carried l = 4 * members_depth (members_view l.members.now) + 2

abbrev pub decreases-carried_entry : goal.decreases-carried_entry
decreases-carried_entry l = 4 * entry_depth l.entry.now + 1

abbrev pub decreases-carried_item : goal.decreases-carried_item
decreases-carried_item l = 4 * item_depth (item_view l.item.now)

abbrev pub decreases-nested_made : goal.decreases-nested_made
decreases-nested_made l = 4 * members_depth (members_view l.members.now) + 3

abbrev pub decreases-several_made : goal.decreases-several_made
decreases-several_made l = 4 * many_depth (many_view l.items.now) + 2

abbrev pub decreases-carried_items : goal.decreases-carried_items
decreases-carried_items l = 4 * many_depth (many_view l.items.now) + 1
