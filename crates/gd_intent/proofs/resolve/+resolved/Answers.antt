use Rattle.std.proofs.Common.{◌≡◌, ◌∙◌, ap, sym, subst, map, Bor, List, ℕ, Option, Result, Ok, arith}
use Rattle.std.proofs.lemmas.Result.{err_from_is_err_and}
use Rattle.gd_grammar.specs.Chain.{◌>>=◌}
use Rattle.gd_prim.specs.History.{prims_of}
use Rattle.gd_defs.specs.Asked as asked
use Rattle.gd_defs.specs.Change as change
use Rattle.gd_defs.specs.Write.Parts as parts
use Rattle.gd_form_laws.specs.SpelledChange.{entries_depth, many_depth}
use Rattle.gd_mql.specs.Names.{name_view}
use Rattle.gd_mql.specs.Entries.{entries_left, items_left, item_view as item_spelled, with_entry as with_spelled}
use Rattle.gd_mql.specs.declared.change.Entry.{Entry as SpelledEntry}
use Rattle.gd_compile.specs.Fault.{Finds}
use Rattle.gd_intent.specs.Seen.{before, item_view, many_before}
use Rattle.gd_intent.specs.Walk.{put, property_item}
use Rattle.gd_intent.proofs.Walks.{entry_added, item_added, entry_within, member_found}
use Rattle.gd_intent.proofs.resolve.+resolved.Goals as goal

pub resolved-loop-spelled-preserved : goal.resolved-loop-spelled-preserved
resolved-loop-spelled-preserved g t c =
    let prims = prims_of c.args.view.now in
    let path = map (λ (n : Bor (List ℕ)). n.now) c.args.path.now in
    let e = c.in-Some.spelled in
    let rest = entries_left c.in-Some.others in
    let x = c.in_ok-entry.entry in
    let old = c.loop-spelled.entries.items in
    let deep : entries_depth (entries_left c.loop-spelled.rest) ≡ entries_depth (with_spelled e rest) = ap entries_depth c.in-Some.ensures in
    let within = entry_within e rest in
    let leads : parts.resolved prims c.args.on c.args.context path (with_spelled e rest) ≡ (parts.resolved prims c.args.on c.args.context path rest >>= λ ms. Ok (put x ms))
    = subst (λ (o : Option ℕ). parts.resolved prims o c.args.context path (with_spelled e rest) ≡ (parts.resolved prims o c.args.context path rest >>= λ ms. Ok (put x ms))) c.same.ensures
    (subst (λ (o : Option ℕ). parts.resolved prims c.same.result o path (with_spelled e rest) ≡ (parts.resolved prims c.same.result o path rest >>= λ ms. Ok (put x ms))) c.same-in-Some.ensures
    (c.in_ok-entry.ensures.entry rest)) in
    record {
      whole = c.loop-spelled.invariant.whole
          ∙ (ap (λ (ms : change.Members). parts.resolved prims c.args.on c.args.context path ms >>= λ d. Ok (before old d)) c.in-Some.ensures
          ∙ entry_added (parts.resolved prims c.args.on c.args.context path (with_spelled e rest)) (parts.resolved prims c.args.on c.args.context path rest) old c.push_entry.new.entries.items x leads c.in_ok-push_entry.ensures);
      depth = omega (arith, deep, within, c.loop-spelled.invariant.depth);
      later = omega arith;
    }

pub resolved_items-loop-spelled-preserved : goal.resolved_items-loop-spelled-preserved
resolved_items-loop-spelled-preserved g t c =
    let prims = prims_of c.args.view.now in
    let path = map (λ (n : Bor (List ℕ)). n.now) c.args.path.now in
    let p = c.args.property.now in
    let i = item_spelled c.in-Some.spelled in
    let rest = items_left c.in-Some.others in
    let x = c.in_ok-item.item in
    let old = c.loop-spelled.done.items in
    let deep : many_depth (items_left c.loop-spelled.rest) ≡ many_depth (change.and_then i rest) = ap many_depth c.in-Some.ensures in
    let found : parts.resolved_item prims c.args.on path p i ≡ Ok (item_view x)
    = subst (λ (o : Option ℕ). parts.resolved_item prims o path p i ≡ Ok (item_view x)) c.same.ensures c.in_ok-item.ensures.item in
    record {
      whole = c.loop-spelled.invariant.whole
          ∙ (ap (λ (is : change.ManyItems). parts.resolved_items prims c.args.on path p is >>= λ d. Ok (many_before old d)) c.in-Some.ensures
          ∙ item_added (parts.resolved_item prims c.args.on path p i) (parts.resolved_items prims c.args.on path p rest) old c.push_item.new.items.items x found c.in_ok-push_item.ensures);
      depth = omega (arith, deep, c.loop-spelled.invariant.depth);
      later = omega arith;
    }

pub resolved_entry-returns-in_ok-item-in-Member-clause-entry : goal.resolved_entry-returns-in_ok-item-in-Member-clause-entry
resolved_entry-returns-in_ok-item-in-Member-clause-entry g t c = λ ms.
    let prims = prims_of c.args.view.now in
    let path = map (λ (n : Bor (List ℕ)). n.now) c.args.path.now in
    let n = name_view c.in-Member.name in
    let others = parts.resolved prims c.args.on c.args.context path ms in
    ap (λ (e : SpelledEntry). parts.resolved prims c.args.on c.args.context path (with_spelled e ms)) c.in-Member.is
    ∙ ap (λ (w : Result parts.Item asked.Unknown). w >>= λ r. others >>= λ rest. Ok (parts.member n.spelled r rest)) c.in_ok-item-in-Member.ensures.item

pub resolved_entry-returns-in_err-item-in-Member-clause-entry : goal.resolved_entry-returns-in_err-item-in-Member-clause-entry
resolved_entry-returns-in_err-item-in-Member-clause-entry g t c =
    let r = c.from_residual in
    let p = err_from_is_err_and r.result r.ensures.1 in
    let prims = prims_of c.args.view.now in
    let path = map (λ (n : Bor (List ℕ)). n.now) c.args.path.now in
    let n = name_view c.in-Member.name in
    rw (p.1, p.2) (λ known ms.
    ap (λ (e : SpelledEntry). parts.resolved prims c.args.on c.args.context path (with_spelled e ms)) c.in-Member.is
    ∙ ap (λ (w : Result parts.Item asked.Unknown). w >>= λ r. parts.resolved prims c.args.on c.args.context path ms >>= λ rest. Ok (parts.member n.spelled r rest)) (c.in_err-item-in-Member.ensures.item known))

pub resolved_member-returns-clause-item : goal.resolved_member-returns-clause-item
resolved_member-returns-clause-item g t c =
    let prims = prims_of c.args.view.now in
    let path = map (λ (n : Bor (List ℕ)). n.now) c.args.path.now in
    let n = name_view c.args.name.now in
    let i = item_spelled c.args.item.now in
    let there = ap (λ (names : List (Bor (List ℕ))). map (λ (n : Bor (List ℕ)). n.now) names) c.deref.ensures.value ∙ c.in_ok-below.ensures in
    member_found prims c.args.on c.args.context path n i c.property_item.result (sym c.is_computed.ensures ∙ c.if-is_computed.false)
    (subst (λ (p : List (List ℕ)). Finds item_view (property_item prims c.args.on c.args.context p n i) c.property_item.result) there c.property_item.ensures.item)
