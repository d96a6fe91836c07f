use Rattle.std.proofs.Common.{◌≡◌, ◌++◌, ◌∷◌, [], ◌∙◌, ap, subst, map, Bor, List, ℕ}
use Rattle.gd_prim.specs.History.{prims_of}
use Rattle.gd_defs.specs.Asked as defs
use Rattle.gd_mql.specs.Names.{name_view}
use Rattle.gd_mql.specs.Clauses.{form_view, with_part}
use Rattle.gd_mql.specs.declared.clause.Part.{Part}
use Rattle.gd_plan.specs.Seen.{expects_view}
use Rattle.gd_plan.specs.Asked.{put}
use Rattle.gd_compile.specs.Walk.{in_front, led}
use Rattle.gd_compile.specs.Looks.{value_looks, part_looks}
use Rattle.gd_compile.proofs.Looked.{part_front, part_passed}
use Rattle.gd_compile.proofs.Walks.{part_added}
use Rattle.gd_compile.proofs.own.add_value_part.Goals as goal

pub returns-in_ok-push-in-Member-clause-part : goal.returns-in_ok-push-in-Member-clause-part
returns-in_ok-push-in-Member-clause-part g c = λ rest.
    let prims = prims_of c.args.view.now in
    let e = expects_view c.args.expects in
    let path = map (λ (n : Bor (List ℕ)). n.now) c.args.path.now in
    let n = name_view c.in-Member.name in
    let f = form_view c.in-Member.form in
    let m = c.in_ok-member-in-Member.member in
    let others = defs.value_members prims e path rest in
    let there = ap (λ (names : List (Bor (List ℕ))). map (λ (n : Bor (List ℕ)). n.now) names) c.deref.ensures.value ∙ c.in_ok-below-in-Member.ensures in
    let found : defs.value_member prims e (path ++ n.spelled ∷ []) n f others ≡ led (put m) others =
    subst (λ (p : List (List ℕ)). defs.value_member prims e p n f others ≡ led (put m) others) there (c.in_ok-member-in-Member.ensures.member others) in
    part_added (defs.value_members prims e path (with_part c.args.part.now rest)) others (λ d. (put m d.0, d.1)) (in_front c.args.gathered.now) (in_front c.push.new.self)
    (ap (λ (p : Part). defs.value_members prims e path (with_part p rest)) c.in-Member.is ∙ found) c.in_ok-push-in-Member.ensures

pub returns-in_ok-push-in-Member-clause-looks : goal.returns-in_ok-push-in-Member-clause-looks
returns-in_ok-push-in-Member-clause-looks g c = λ rest.
    let prims = prims_of c.args.view.now in
    let e = expects_view c.args.expects in
    part_front c.args.steps.now c.value_member.new.steps (part_looks prims e (name_view c.in-Member.name) (form_view c.in-Member.form)) (value_looks prims e rest) (value_looks prims e (with_part c.args.part.now rest))
    (ap (λ (p : Part). value_looks prims e (with_part p rest)) c.in-Member.is) c.value_member.ensures.looks

pub returns-in_err-member-in-Member-clause-looks : goal.returns-in_err-member-in-Member-clause-looks
returns-in_err-member-in-Member-clause-looks g c = λ rest.
    let prims = prims_of c.args.view.now in
    let e = expects_view c.args.expects in
    part_front c.args.steps.now c.value_member.new.steps (part_looks prims e (name_view c.in-Member.name) (form_view c.in-Member.form)) (value_looks prims e rest) (value_looks prims e (with_part c.args.part.now rest))
    (ap (λ (p : Part). value_looks prims e (with_part p rest)) c.in-Member.is) c.value_member.ensures.looks

pub returns-in_err-push-in-Member-clause-looks : goal.returns-in_err-push-in-Member-clause-looks
returns-in_err-push-in-Member-clause-looks g c = λ rest.
    let prims = prims_of c.args.view.now in
    let e = expects_view c.args.expects in
    part_front c.args.steps.now c.value_member.new.steps (part_looks prims e (name_view c.in-Member.name) (form_view c.in-Member.form)) (value_looks prims e rest) (value_looks prims e (with_part c.args.part.now rest))
    (ap (λ (p : Part). value_looks prims e (with_part p rest)) c.in-Member.is) c.value_member.ensures.looks

pub returns-in_err-below-in-Member-clause-looks : goal.returns-in_err-below-in-Member-clause-looks
returns-in_err-below-in-Member-clause-looks g c = λ rest.
    let prims = prims_of c.args.view.now in
    let e = expects_view c.args.expects in
    part_passed c.args.steps.now (part_looks prims e (name_view c.in-Member.name) (form_view c.in-Member.form)) (value_looks prims e rest) (value_looks prims e (with_part c.args.part.now rest))
    (ap (λ (p : Part). value_looks prims e (with_part p rest)) c.in-Member.is)
