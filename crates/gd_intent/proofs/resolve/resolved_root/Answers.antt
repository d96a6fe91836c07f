use Rattle.std.proofs.Common.{◌≡◌, ap, subst, map, Bor, List, ℕ, Option, None, Err}
use Rattle.std.proofs.lemmas.Result.{err_from_is_err_and}
use Rattle.gd_prim.specs.History.{prims_of}
use Rattle.gd_mql.specs.Entries.{entries_left, root_view}
use Rattle.gd_compile.specs.Fault.{unknown_of}
use Rattle.gd_intent.specs.Walk.{clause_resolved}
use Rattle.gd_intent.proofs.Roots.{root_unknown}
use Rattle.gd_intent.proofs.resolve.resolved_root.Goals as goal

pub returns-in_err-members-clause-root : goal.returns-in_err-members-clause-root
returns-in_err-members-clause-root g c =
    let r = c.from_residual-in_err-members in
    let p = err_from_is_err_and r.result r.ensures.1 in
    let prims = prims_of c.args.view.now in
    let ms = entries_left c.args.change.now.members in
    let e = unknown_of c.in_err-members.field-0.0 in
    let path = map (λ (n : Bor (List ℕ)). n.now) c.args.path.items in
    let there = ap (λ (names : List (Bor (List ℕ))). map (λ (n : Bor (List ℕ)). n.now) names) c.deref.ensures.value in
    rw (p.1, p.2) (λ known. root_unknown prims path (root_view c.args.change.now.root) ms c.in_ok-on.on e c.in_ok-on.ensures.object
    (subst (λ (at : List (List ℕ)). clause_resolved prims c.in_ok-on.on None at ms ≡ Err e) there
    (subst (λ (o : Option ℕ). clause_resolved prims o None (map (λ (n : Bor (List ℕ)). n.now) c.deref.result.now) ms ≡ Err e) c.same.ensures (c.in_err-members.ensures.members known))))
