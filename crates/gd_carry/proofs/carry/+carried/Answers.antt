use Rattle.std.proofs.Common.{◌∙◌, ap, sym, subst, map, drop, ◌+◌, Bor, List, ℕ, Result, Ok, refl, arith}
use Rattle.std.proofs.lemmas.Result.{err_from_is_err_and}
use Rattle.gd_grammar.specs.Chain.{◌>>=◌}
use Rattle.gd_prim.specs.declared.Primitive.{Primitive}
use Rattle.gd_tree.specs.Json as tree
use Rattle.gd_defs.specs.Write.Links.{ChangeFault}
use Rattle.gd_defs.specs.Write.Parts as parts
use Rattle.gd_defs.specs.Write.Carried as defined
use Rattle.gd_growing.specs.State.{so_far}
use Rattle.gd_intent.specs.Seen.{item_view, members_view, many_view}
use Rattle.gd_carry.specs.Outcome.{put, all_led, many_led, subject_view}
use Rattle.gd_carry.proofs.Walks.{entries_left, items_left, field_added, item_added, none_led, no_item_led}
use Rattle.gd_mql.specs.Changes.{create_view}
use Rattle.gd_intent.specs.declared.intent.Entry.{Entry}
use Rattle.gd_intent.specs.declared.intent.Item.{Item}
use Rattle.gd_carry.specs.Printed.{Field, printed_view}
use Rattle.gd_carry.specs.declared.print.Printed.{Printed}
use Rattle.gd_carry.specs.Outcome.{Makes}
use Rattle.gd_carry.proofs.Nested.{nested_view}
use Rattle.gd_carry.proofs.Nesting.{nested_done, nested_unmade, nested_unlinked}
use Rattle.gd_carry.proofs.Depths.{entry_in, item_in}
use Rattle.gd_growing.specs.Seen.{answer_word}
use Rattle.gd_carry.specs.Outcome.{fault_of}
use Rattle.gd_carry.proofs.carry.+carried.Goals as goal

pub carried-loop-entry-preserved : goal.carried-loop-entry-preserved
carried-loop-entry-preserved t c =
    let stamp = c.args.stamp.now in
    let path = map (λ (n : Bor (List ℕ)). n.now) c.args.path.now in
    let o = subject_view c.args.subject.now in
    let e = c.entry-item.result in
    let i = c.loop-entry.entry-index in
    let rest = members_view (drop (i + 1) c.args.members.now) in
    let old = c.loop-entry.fields.items in
    record {
      whole = c.loop-entry.invariant.whole
          ∙ (ap (λ (ms : parts.Members). defined.carried stamp path (so_far c.loop-entry.growing) o ms >>= λ r. Ok (all_led old r)) (entries_left c.args.members.now i e c.loop-entry-test.true c.entry-item.is)
          ∙ field_added (defined.carried stamp path (so_far c.loop-entry.growing) o (put e rest)) (defined.carried stamp path (so_far c.carried_entry.new.growing) o rest) old c.push_field.new.fields.items c.in_ok-field.field (c.in_ok-field.ensures.entry rest) c.in_ok-push_field.ensures);
      below = c.in_ok-field.ensures.below ∙ c.loop-entry.invariant.below;
    }

pub carried-returns-in_err-field-clause-members : goal.carried-returns-in_err-field-clause-members
carried-returns-in_err-field-clause-members t c =
    let p = err_from_is_err_and c.from_residual.result c.from_residual.ensures.1 in
    let stamp = c.args.stamp.now in
    let path = map (λ (n : Bor (List ℕ)). n.now) c.args.path.now in
    let o = subject_view c.args.subject.now in
    let e = c.entry-item.result in
    let i = c.loop-entry.entry-index in
    let rest = members_view (drop (i + 1) c.args.members.now) in
    let old = c.loop-entry.fields.items in
    rw (p.1, p.2) (λ known. c.loop-entry.invariant.whole
    ∙ (ap (λ (ms : parts.Members). defined.carried stamp path (so_far c.loop-entry.growing) o ms >>= λ r. Ok (all_led old r)) (entries_left c.args.members.now i e c.loop-entry-test.true c.entry-item.is)
    ∙ ap (λ (w : Result (defined.Made tree.Members) ChangeFault). w >>= λ r. Ok (all_led old r)) (c.in_err-field.ensures.entry known rest)))

pub carried_items-loop-item-preserved : goal.carried_items-loop-item-preserved
carried_items-loop-item-preserved t c =
    let stamp = c.args.stamp.now in
    let path = map (λ (n : Bor (List ℕ)). n.now) c.args.path.now in
    let o = subject_view c.args.subject.now in
    let x = c.item-item.result in
    let i = c.loop-item.item-index in
    let rest = many_view (drop (i + 1) c.args.items.now) in
    let old = c.loop-item.done.items in
    record {
      whole = c.loop-item.invariant.whole
          ∙ (ap (λ (is : parts.ManyItems). defined.carried_items stamp path (so_far c.loop-item.growing) o is >>= λ r. Ok (many_led old r)) (items_left c.args.items.now i x c.loop-item-test.true c.item-item.is)
          ∙ item_added (defined.carried_item stamp path (so_far c.loop-item.growing) o (item_view x)) (λ (prims : List Primitive). defined.carried_items stamp path prims o rest) (so_far c.carried_item.new.growing) old c.push_printed.new.items.items c.in_ok-printed.printed c.in_ok-printed.ensures.item c.in_ok-push_printed.ensures);
      below = c.in_ok-printed.ensures.below ∙ c.loop-item.invariant.below;
    }

pub carried_item-returns-in-Nested-clause-item : goal.carried_item-returns-in-Nested-clause-item
carried_item-returns-in-Nested-clause-item t c =
    let path = map (λ (n : Bor (List ℕ)). n.now) c.args.path.now in
    let same = ap (λ (es : List (Entry Item)). parts.nested c.in-Nested.property (create_view c.in-Nested.word) (members_view es)) c.deref.ensures.value
    ∙ sym (nested_view c.in-Nested.property c.in-Nested.word c.in-Nested.members) ∙ sym (ap item_view c.in-Nested.is) in
    subst (λ (i : parts.Item). Makes printed_view (defined.carried_item c.args.stamp.now path (so_far c.args.growing.now) (subject_view c.args.subject.now) i) (so_far c.nested_made.new.growing) c.nested_made.result) same c.nested_made.ensures.nested

pub nested_made-returns-in_err-fields-clause-nested : goal.nested_made-returns-in_err-fields-clause-nested
nested_made-returns-in_err-fields-clause-nested t c =
    let p = err_from_is_err_and c.from_residual-in_err-fields.result c.from_residual-in_err-fields.ensures.1 in
    let path = map (λ (n : Bor (List ℕ)). n.now) c.args.path.now in
    rw (p.1, p.2) (λ known. nested_unmade c.args.stamp.now path (so_far c.args.growing.now) (so_far c.subject_of.new.growing) c.args.property.now (create_view c.args.word) (members_view c.args.members.now) (subject_view c.args.subject.now)
    c.in_ok-nested.nested.object c.in_ok-nested.nested.existed (fault_of c.in_err-fields.field-0.0) c.in_ok-nested.ensures.subject (c.in_err-fields.ensures.members known))

pub nested_made-returns-in_err-link_made-clause-nested : goal.nested_made-returns-in_err-link_made-clause-nested
nested_made-returns-in_err-link_made-clause-nested t c =
    let p = err_from_is_err_and c.from_residual-in_err-link_made.result c.from_residual-in_err-link_made.ensures.1 in
    let path = map (λ (n : Bor (List ℕ)). n.now) c.args.path.now in
    rw (p.1, p.2) (λ known. nested_unlinked c.args.stamp.now path (so_far c.args.growing.now) (so_far c.subject_of.new.growing) (so_far c.carried.new.growing) c.args.property.now (create_view c.args.word) (members_view c.args.members.now) (subject_view c.args.subject.now)
    c.in_ok-nested.nested.object c.in_ok-nested.nested.existed c.in_ok-fields.fields (fault_of c.in_err-link_made.field-0.0) c.in_ok-nested.ensures.subject c.in_ok-fields.ensures.members (c.in_err-link_made.ensures.link known))

pub nested_made-returns-clause-nested : goal.nested_made-returns-clause-nested
nested_made-returns-clause-nested t c =
    let path = map (λ (n : Bor (List ℕ)). n.now) c.args.path.now in
    nested_done c.args.stamp.now path (so_far c.args.growing.now) (so_far c.subject_of.new.growing) (so_far c.carried.new.growing) (so_far c.link_made.new.growing) c.args.property.now (create_view c.args.word) (members_view c.args.members.now) (subject_view c.args.subject.now)
    c.in_ok-nested.nested.object c.in_ok-nested.nested.existed c.in_ok-fields.fields (answer_word c.in_ok-link_made.field-0) c.in_ok-nested.ensures.subject c.in_ok-fields.ensures.members c.in_ok-link_made.ensures.link

pub carried-carried_entry-requires : goal.carried-carried_entry-requires
carried-carried_entry-requires t c =
    let below = entry_in c.args.members.now c.loop-entry.entry-index c.entry-item.result c.loop-entry-test.true c.entry-item.is in
    omega (arith, below)

pub carried_items-carried_item-requires : goal.carried_items-carried_item-requires
carried_items-carried_item-requires t c =
    let below = item_in c.args.items.now c.loop-item.item-index c.item-item.result c.loop-item-test.true c.item-item.is in
    omega (arith, below)

pub carried-loop-entry-init : goal.carried-loop-entry-init
carried-loop-entry-init t c =
    let whole = defined.carried c.args.stamp.now (map (λ (n : Bor (List ℕ)). n.now) c.args.path.now) (so_far c.args.growing.now) (subject_view c.args.subject.now) (members_view c.args.members.now) in
    record {
      whole = none_led whole ∙ ap (λ (fs : List (Field Printed)). whole >>= λ r. Ok (all_led fs r)) (sym c.new-fields.ensures.items);
      below = refl;
    }

pub carried_items-loop-item-init : goal.carried_items-loop-item-init
carried_items-loop-item-init t c =
    let whole = defined.carried_items c.args.stamp.now (map (λ (n : Bor (List ℕ)). n.now) c.args.path.now) (so_far c.args.growing.now) (subject_view c.args.subject.now) (many_view c.args.items.now) in
    record {
      whole = no_item_led whole ∙ ap (λ (ps : List Printed). whole >>= λ r. Ok (many_led ps r)) (sym c.new-done.ensures.items);
      below = refl;
    }
