-- The root of a write of which the clause has no meaning.
use Rattle.std.proofs.Common.{◌≡◌, ℕ, List, Option, Some, None, Result, Ok, Err, ap, subst, ◌∙◌}
use Rattle.gd_grammar.specs.Chain.{◌>>=◌}
use Rattle.gd_prim.specs.declared.Primitive.{Primitive}
use Rattle.gd_defs.specs.Asked as asked
use Rattle.gd_defs.specs.Change as change
use Rattle.gd_defs.specs.Write as write
use Rattle.gd_defs.specs.Write.Parts as parts
use Rattle.gd_intent.specs.Walk.{Outcome, change_resolved, clause_resolved, root_object}

abbrev pub Rooted : Type 0
Rooted = Result (Option ℕ × parts.Members) asked.Unknown

-- a change at a path, with what its words are
abbrev resolved : List (List ℕ) → change.Root → Option ℕ × parts.Members → write.Resolved
resolved path root x = record { path = path; root = root; on = x.0; members = x.1 }

-- of two steps the first refusal decides
clause_unknown : (a : Result (Option ℕ) asked.Unknown) (b : Option ℕ → Outcome) (on : Option ℕ) (e : asked.Unknown) → ◌≡◌ {A = Outcome} (a >>= b) (Err e) → ◌≡◌ {A = Rooted} (a >>= λ t. b t >>= λ ms. Ok (on, ms)) (Err e)
clause_unknown (Err x) b on e is = cc
clause_unknown (Ok t) b on e is = ap (λ (w : Outcome). w >>= λ ms. Ok (on, ms)) is

named_unknown : (p : Result ℕ asked.Unknown) (on : Option ℕ) (k : Option ℕ → Rooted) (e : asked.Unknown) → (p >>= λ o. Ok (Some o)) ≡ Ok on → k on ≡ Err e → (p >>= λ o. k (Some o)) ≡ Err e
named_unknown (Err x) on k e named unknown = cc
named_unknown (Ok o) on k e named unknown = let is : Some o ≡ on = cc in ap k is ∙ unknown

-- the object of the root is there, and its clause is refused
pub root_unknown : (prims : List Primitive) (path : List (List ℕ)) (root : change.Root) (ms : change.Members) (on : Option ℕ) (e : asked.Unknown)
    → root_object prims root ≡ Ok on → clause_resolved prims on None path ms ≡ Err e → change_resolved prims path (record { root = root; members = ms }) ≡ Err e
root_unknown prims path (change.to_create w) ms on e named unknown =
    let is : on ≡ None = cc in
    ap (λ (r : Rooted). r >>= λ x. Ok (resolved path (change.to_create w) x))
    (clause_unknown (asked.context_of prims None (parts.type_text ms)) (λ t. parts.resolved prims None t path ms) None e (subst (λ (o : Option ℕ). clause_resolved prims o None path ms ≡ Err e) is unknown))
root_unknown prims path (change.existing_object t) ms on e named unknown =
    ap (λ (r : Rooted). r >>= λ x. Ok (resolved path (change.existing_object t) x))
    (named_unknown (asked.place_named prims t) on (λ o. asked.context_of prims None (parts.type_text ms) >>= λ x. parts.resolved prims o x path ms >>= λ all. Ok (o, all)) e named
    (clause_unknown (asked.context_of prims None (parts.type_text ms)) (λ x. parts.resolved prims on x path ms) on e unknown))
