use Rattle.std.proofs.Common.{◌≡◌, ◌≤◌, ◌+◌, ◌++◌, ◌∷◌, [], ◌∙◌, ap, sym, subst, map, Bor, List, ℕ, Option, Ok, Err, option_map, arith}
use Rattle.std.proofs.lemmas.Result.{err_from_is_err_and}
use Rattle.gd_grammar.specs.Chain.{◌>>=◌}
use Rattle.gd_prim.specs.History.{prims_of}
use Rattle.gd_defs.specs.Asked as defs
use Rattle.gd_defs.specs.Query as query
use Rattle.gd_form_laws.specs.Spelled.{forms_depth}
use Rattle.gd_mql.specs.Names.{name_view}
use Rattle.gd_mql.specs.Clauses.{clause_view as clause_spelled, form_view, left, with_part}
use Rattle.gd_mql.specs.declared.clause.Part.{Part}
use Rattle.gd_plan.specs.Seen.{own_view}
use Rattle.gd_plan.specs.Asked.{put}
use Rattle.gd_compile.specs.Fault.{unknown_of}
use Rattle.gd_compile.specs.Looks.{looks, member_looks}
use Rattle.gd_compile.proofs.Looked.{parts_next, parts_broken, items_ended, part_front, part_passed, own_looked, asks_looked, asks_refused, clause_looked, clause_refused}
use Rattle.gd_compile.specs.Walk.{Adds, asked_member, asks_property, in_front, led, part_asks}
use Rattle.gd_compile.proofs.Counted.{asks_next, counted_next}
use Rattle.gd_compile.proofs.Walks.{part_added, part_within, own_leads}
use Rattle.gd_compile.proofs.walk.+asked.Goals as goal

pub add_part-returns-in_err-member-in-Member-clause-part : goal.add_part-returns-in_err-member-in-Member-clause-part
add_part-returns-in_err-member-in-Member-clause-part g t c = λ rest.
    let r = c.from_residual-in_err-member-in-Member in
    let p = err_from_is_err_and r.result r.ensures.1 in
    let prims = prims_of c.args.view.now in
    let path = map (λ (n : Bor (List ℕ)). n.now) c.args.path.now in
    let n = name_view c.in-Member.name in
    let f = form_view c.in-Member.form in
    let e = c.in_err-member-in-Member.field-0.0 in
    let others = defs.asked prims c.args.context path rest in
    let there = ap (λ (names : List (Bor (List ℕ))). map (λ (n : Bor (List ℕ)). n.now) names) c.deref.ensures.value ∙ c.in_ok-below-in-Member.ensures in
    rw (p.1, p.2) (λ known. ap (λ (p : Part). defs.asked prims c.args.context path (with_part p rest)) c.in-Member.is
    ∙ subst (λ (p : List (List ℕ)). asked_member prims c.args.context p n f others ≡ Err (unknown_of e)) there (c.in_err-member-in-Member.ensures.member known others))

pub add_part-returns-in_ok-push-in-Member-clause-part : goal.add_part-returns-in_ok-push-in-Member-clause-part
add_part-returns-in_ok-push-in-Member-clause-part g t c = λ rest.
    let prims = prims_of c.args.view.now in
    let path = map (λ (n : Bor (List ℕ)). n.now) c.args.path.now in
    let n = name_view c.in-Member.name in
    let f = form_view c.in-Member.form in
    let m = c.in_ok-member-in-Member.member in
    let others = defs.asked prims c.args.context path rest in
    let there = ap (λ (names : List (Bor (List ℕ))). map (λ (n : Bor (List ℕ)). n.now) names) c.deref.ensures.value ∙ c.in_ok-below-in-Member.ensures in
    let found : asked_member prims c.args.context (path ++ n.spelled ∷ []) n f others ≡ led (put m) others =
    subst (λ (p : List (List ℕ)). asked_member prims c.args.context p n f others ≡ led (put m) others) there (c.in_ok-member-in-Member.ensures.member others) in
    part_added (defs.asked prims c.args.context path (with_part c.args.part.now rest)) others (λ d. (put m d.0, d.1)) (in_front c.args.gathered.now) (in_front c.push.new.self)
    (ap (λ (p : Part). defs.asked prims c.args.context path (with_part p rest)) c.in-Member.is ∙ found) c.in_ok-push-in-Member.ensures

pub add_part-returns-in-Sort-clause-part : goal.add_part-returns-in-Sort-clause-part
add_part-returns-in-Sort-clause-part g t c = λ rest.
    let prims = prims_of c.args.view.now in
    let path = map (λ (n : Bor (List ℕ)). n.now) c.args.path.now in
    subst (λ (p : Part). Adds (defs.asked prims c.args.context path (with_part p rest)) (defs.asked prims c.args.context path rest) c.args.gathered.now c.add_sort.new.gathered c.add_sort.result)
    (sym c.in-Sort.is) (c.add_sort.ensures.part rest)

pub asked_member-returns-in-Some-clause-member : goal.asked_member-returns-in-Some-clause-member
asked_member-returns-in-Some-clause-member g t c =
    own_leads (prims_of c.args.view.now) c.args.context (map (λ (n : Bor (List ℕ)). n.now) c.args.path.now) (name_view c.args.name.now) (form_view c.args.form.now) (own_view c.in-Some.own) c.own_member.result
    c.in-Some.ensures c.own_member.ensures.member

pub asked-loop-part-preserved : goal.asked-loop-part-preserved
asked-loop-part-preserved g t c =
    let prims = prims_of c.args.view.now in
    let path = map (λ (n : Bor (List ℕ)). n.now) c.args.path.now in
    let rest = left c.in-Some.others in
    let old = c.loop-part.gathered in
    let new = c.add_part.new.gathered in
    let deep : forms_depth (left c.loop-part.rest) ≡ forms_depth (with_part c.in-Some.part rest) = ap forms_depth c.in-Some.ensures in
    let within = part_within c.in-Some.part rest in
    record {
      whole = c.loop-part.invariant.whole
          ∙ (ap (λ (ms : query.Members). defs.asked prims c.args.context path ms >>= λ d. Ok (in_front old d)) c.in-Some.ensures
          ∙ subst (λ (o : Option ℕ). (defs.asked prims o path (with_part c.in-Some.part rest) >>= λ d. Ok (in_front old d)) ≡ (defs.asked prims o path rest >>= λ d. Ok (in_front new d))) c.same.ensures
          (c.in_ok-add_part.ensures.part rest));
      depth = omega (arith, deep, within, c.loop-part.invariant.depth);
      looks = parts_next (looks prims c.args.context) (left c.loop-part.rest) (with_part c.in-Some.part rest) rest c.loop-part.steps c.add_part.new.steps (c.args.steps.now + looks prims c.args.context (left c.args.members.now))
          c.in-Some.ensures c.loop-part.invariant.looks (subst (λ (o : Option ℕ). c.add_part.new.steps + looks prims o rest ≤ c.loop-part.steps + looks prims o (with_part c.in-Some.part rest)) c.same.ensures (c.add_part.ensures.looks rest));
      later = omega arith;
      counted = counted_next (asks_property (left c.args.members.now)) (asks_property (left c.loop-part.rest)) (part_asks c.in-Some.part) (asks_property rest) c.args.steps.now c.loop-part.steps c.add_part.new.steps
          c.loop-part.invariant.counted (λ asks. asks_next c.in-Some.part rest (sym (ap asks_property c.in-Some.ensures) ∙ asks)) c.in_ok-add_part.ensures.counted c.loop-part.invariant.later c.add_part.ensures.later;
    }

pub asked-returns-in_err-add_part-clause-looks : goal.asked-returns-in_err-add_part-clause-looks
asked-returns-in_err-add_part-clause-looks g t c =
    let prims = prims_of c.args.view.now in
    let rest = left c.in-Some.others in
    parts_broken (looks prims c.args.context) (left c.loop-part.rest) (with_part c.in-Some.part rest) rest c.loop-part.steps c.add_part.new.steps (c.args.steps.now + looks prims c.args.context (left c.args.members.now))
    c.in-Some.ensures c.loop-part.invariant.looks (subst (λ (o : Option ℕ). c.add_part.new.steps + looks prims o rest ≤ c.loop-part.steps + looks prims o (with_part c.in-Some.part rest)) c.same.ensures (c.add_part.ensures.looks rest))

pub asked-returns-clause-looks : goal.asked-returns-clause-looks
asked-returns-clause-looks g t c = items_ended _ _ _ c.loop-part.invariant.looks

pub add_part-returns-in_ok-push-in-Member-clause-looks : goal.add_part-returns-in_ok-push-in-Member-clause-looks
add_part-returns-in_ok-push-in-Member-clause-looks g t c = λ rest.
    let prims = prims_of c.args.view.now in
    part_front c.args.steps.now c.asked_member.new.steps (member_looks prims c.args.context (name_view c.in-Member.name) (form_view c.in-Member.form)) (looks prims c.args.context rest) (looks prims c.args.context (with_part c.args.part.now rest))
    (ap (λ (p : Part). looks prims c.args.context (with_part p rest)) c.in-Member.is) c.asked_member.ensures.looks

pub add_part-returns-in_err-member-in-Member-clause-looks : goal.add_part-returns-in_err-member-in-Member-clause-looks
add_part-returns-in_err-member-in-Member-clause-looks g t c = λ rest.
    let prims = prims_of c.args.view.now in
    part_front c.args.steps.now c.asked_member.new.steps (member_looks prims c.args.context (name_view c.in-Member.name) (form_view c.in-Member.form)) (looks prims c.args.context rest) (looks prims c.args.context (with_part c.args.part.now rest))
    (ap (λ (p : Part). looks prims c.args.context (with_part p rest)) c.in-Member.is) c.asked_member.ensures.looks

pub add_part-returns-in_err-push-in-Member-clause-looks : goal.add_part-returns-in_err-push-in-Member-clause-looks
add_part-returns-in_err-push-in-Member-clause-looks g t c = λ rest.
    let prims = prims_of c.args.view.now in
    part_front c.args.steps.now c.asked_member.new.steps (member_looks prims c.args.context (name_view c.in-Member.name) (form_view c.in-Member.form)) (looks prims c.args.context rest) (looks prims c.args.context (with_part c.args.part.now rest))
    (ap (λ (p : Part). looks prims c.args.context (with_part p rest)) c.in-Member.is) c.asked_member.ensures.looks

pub add_part-returns-in_err-below-in-Member-clause-looks : goal.add_part-returns-in_err-below-in-Member-clause-looks
add_part-returns-in_err-below-in-Member-clause-looks g t c = λ rest.
    let prims = prims_of c.args.view.now in
    part_passed c.args.steps.now (member_looks prims c.args.context (name_view c.in-Member.name) (form_view c.in-Member.form)) (looks prims c.args.context rest) (looks prims c.args.context (with_part c.args.part.now rest))
    (ap (λ (p : Part). looks prims c.args.context (with_part p rest)) c.in-Member.is)

pub add_part-returns-in-Sort-clause-looks : goal.add_part-returns-in-Sort-clause-looks
add_part-returns-in-Sort-clause-looks g t c = λ rest.
    let prims = prims_of c.args.view.now in
    subst (λ (p : Part). c.add_sort.new.steps + looks prims c.args.context rest ≤ c.args.steps.now + looks prims c.args.context (with_part p rest)) (sym c.in-Sort.is) (c.add_sort.ensures.looks rest)

pub asked_member-returns-in-Some-clause-looks : goal.asked_member-returns-in-Some-clause-looks
asked_member-returns-in-Some-clause-looks g t c =
    own_looked (prims_of c.args.view.now) c.args.context (name_view c.args.name.now) (form_view c.args.form.now) (own_view c.in-Some.own) c.args.steps.now c.own_member.new.steps c.in-Some.ensures c.own_member.ensures.looks

pub asked_member-returns-in_ok-property-in-None-clause-looks : goal.asked_member-returns-in_ok-property-in-None-clause-looks
asked_member-returns-in_ok-property-in-None-clause-looks g t c =
    asks_looked (prims_of c.args.view.now) c.args.context (name_view c.args.name.now) (form_view c.args.form.now) c.in_ok-property-in-None.property c.args.steps.now c.member_property.new.steps c.asked_form.new.steps
    c.in-None.ensures c.in_ok-property-in-None.ensures.named c.member_property.ensures.looks c.asked_form.ensures.looks

pub asked_member-returns-in_err-property-in-None-clause-looks : goal.asked_member-returns-in_err-property-in-None-clause-looks
asked_member-returns-in_err-property-in-None-clause-looks g t c =
    asks_refused (prims_of c.args.view.now) c.args.context (name_view c.args.name.now) (form_view c.args.form.now) c.args.steps.now c.member_property.new.steps c.in-None.ensures c.member_property.ensures.looks

pub asked_clause-returns-clause-looks : goal.asked_clause-returns-clause-looks
asked_clause-returns-clause-looks g t c =
    let prims = prims_of c.args.view.now in
    let ms = (clause_spelled c.args.clause.now).1 in
    clause_looked prims c.args.above ms c.in_ok-context.context (option_map (λ (n : Bor (List ℕ)). n.now) c.type_text.result) c.args.steps.now c.context_of.new.steps c.asked.new.steps
    (c.type_text.ensures ∙ ap defs.type_text c.members-members.ensures) c.in_ok-context.ensures.context c.context_of.ensures.looks
    (subst (λ (m : query.Members). c.asked.new.steps ≤ c.context_of.new.steps + looks prims c.in_ok-context.context m) c.members-members.ensures c.asked.ensures.looks)

pub asked_clause-returns-in_err-context-clause-looks : goal.asked_clause-returns-in_err-context-clause-looks
asked_clause-returns-in_err-context-clause-looks g t c =
    clause_refused (prims_of c.args.view.now) c.args.above (clause_spelled c.args.clause.now).1 (option_map (λ (n : Bor (List ℕ)). n.now) c.type_text.result) c.args.steps.now c.context_of.new.steps
    (c.type_text.ensures ∙ ap defs.type_text c.members-members.ensures) c.context_of.ensures.looks
