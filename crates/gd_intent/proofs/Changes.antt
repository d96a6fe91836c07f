-- Changes of a write that are looked up, one after another.
use Rattle.std.proofs.Common.{◌≡◌, ◌<◌, ◌+◌, ℕ, List, [], ◌∷◌, ◌++◌, Result, Ok, Err, map, drop, length, get_or, decimal, refl, sym, ap, ◌∙◌}
use Rattle.std.proofs.lemmas.List.{drop_more}
use Rattle.gd_grammar.specs.Chain.{◌>>=◌}
use Rattle.gd_prim.specs.declared.Primitive.{Primitive}
use Rattle.gd_defs.specs.Asked.{Unknown}
use Rattle.gd_defs.specs.Change.{Change}
use Rattle.gd_defs.specs.Write.{Resolved, numbered, resolved_all}
use Rattle.gd_mql.specs.Requests.{asked_change}
use Rattle.gd_mql.specs.declared.request.ChangeRequest.{ChangeRequest}
use Rattle.gd_intent.specs.Seen.{resolved_view}
use Rattle.gd_intent.specs.Walk.{change_resolved}
use Rattle.gd_intent.specs.declared.intent.ResolvedChange.{ResolvedChange}

-- changes with their words looked up, or why one has no meaning
abbrev pub Changes : Type 0
Changes = Result (List Resolved) Unknown

joined : {A : Type 0} (x : Result A Unknown) (f : A → Resolved) (rest : Changes) (r : Resolved) → (x >>= λ a. Ok (f a)) ≡ Ok r → (x >>= λ a. rest >>= λ rs. Ok (f a ∷ rs)) ≡ (rest >>= λ rs. Ok (r ∷ rs))
joined (Err e) f rest r is = cc
joined (Ok a) f rest r is = let same : f a ≡ r = cc in ap (λ (s : Resolved). rest >>= λ rs. Ok (s ∷ rs)) same

-- the first change is looked up, and the others decide
pub first_resolved : (prims : List Primitive) (path : List (List ℕ)) (c : Change) (cs : List (List (List ℕ) × Change)) (r : Resolved) → change_resolved prims path c ≡ Ok r
    → resolved_all prims ((path, c) ∷ cs) ≡ (resolved_all prims cs >>= λ rs. Ok (r ∷ rs))
first_resolved prims path c cs r is = joined _ _ (resolved_all prims cs) r is

one_more : (cs : List ResolvedChange) (c : ResolvedChange) (rest : List Resolved) → map resolved_view (cs ++ c ∷ []) ++ rest ≡ map resolved_view cs ++ resolved_view c ∷ rest
one_more [] c rest = refl
one_more (x ∷ cs) c rest = ap (λ (rs : List Resolved). resolved_view x ∷ rs) (one_more cs c rest)

-- a change that leads the rest stands behind those before it
pub change_added : (whole rest : Changes) (cs new : List ResolvedChange) (c : ResolvedChange) → whole ≡ (rest >>= λ rs. Ok (resolved_view c ∷ rs)) → new ≡ cs ++ c ∷ []
    → (whole >>= λ rs. Ok (map resolved_view cs ++ rs)) ≡ (rest >>= λ rs. Ok (map resolved_view new ++ rs))
change_added whole (Err e) cs new c is added = ap (λ (w : Changes). w >>= λ rs. Ok (map resolved_view cs ++ rs)) is
change_added whole (Ok rs) cs new c is added = ap (λ (w : Changes). w >>= λ rs. Ok (map resolved_view cs ++ rs)) is
    ∙ ap Ok (sym (one_more cs c rs) ∙ ap (λ (xs : List ResolvedChange). map resolved_view xs ++ rs) (sym added))

-- the changes that are left begin with the one that stands there
pub numbered_left : (cs : List ChangeRequest) (n : ℕ) (c : ChangeRequest) → n < length cs → c ≡ get_or cs n c
    → numbered n (map asked_change (drop n cs)) ≡ (decimal n ∷ [], asked_change c) ∷ numbered (n + 1) (map asked_change (drop (n + 1) cs))
numbered_left cs n c within is = ap (λ (xs : List ChangeRequest). numbered n (map asked_change xs)) (drop_more cs n c within ∙ ap (λ (x : ChangeRequest). x ∷ drop (n + 1) cs) (sym is))
