use Rattle.std.proofs.Common.{◌≡◌, ◌++◌, ◌∷◌, [], ◌∙◌, ap, subst, map, Bor, List, ℕ, Result, Ok, codes}
use Rattle.gd_grammar.specs.Chain.{◌>>=◌}
use Rattle.gd_prim.specs.History.{prims_of}
use Rattle.gd_defs.specs.Asked as defs
use Rattle.gd_defs.specs.Query as query
use Rattle.gd_mql.specs.Clauses.{sort_view}
use Rattle.gd_plan.specs.Seen.{sort_key_view}
use Rattle.gd_compile.specs.Walk.{in_front}
use Rattle.gd_compile.proofs.Walks.{part_added}
use Rattle.gd_compile.proofs.walk.add_sort.Goals as goal

pub returns-clause-part : goal.returns-clause-part
returns-clause-part g c = λ rest.
    let prims = prims_of c.args.view.now in
    let path = map (λ (n : Bor (List ℕ)). n.now) c.args.path.now in
    let ws = sort_view c.args.words.now in
    let ks = map sort_key_view c.in_ok-keys.keys.items in
    let others = defs.asked prims c.args.context path rest in
    let there = ap (λ (names : List (Bor (List ℕ))). map (λ (n : Bor (List ℕ)). n.now) names) c.deref.ensures.value ∙ c.in_ok-below.ensures in
    let found : defs.sort_keys prims c.args.context (path ++ codes "sort" ∷ []) ws ≡ Ok ks = subst (λ (p : List (List ℕ)). defs.sort_keys prims c.args.context p ws ≡ Ok ks) there c.in_ok-keys.ensures.keys in
    part_added (defs.asked prims c.args.context path (query.sort_by ws rest)) others (λ d. (d.0, ks)) (in_front c.args.gathered.now) (in_front c.sort_by.new.self)
    (ap (λ (r : Result (List defs.SortKey) defs.Unknown). r >>= λ ks. others >>= λ d. Ok (d.0, ks)) found) c.sort_by.ensures
