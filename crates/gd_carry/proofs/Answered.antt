-- The members of a connect form, with the answer in place of the word.
use Rattle.std.proofs.Common.{◌≡◌, ◌<◌, ◌≤◌, ◌+◌, ℕ, List, [], ◌∷◌, ◌++◌, Bool, true, false, sym, ap, ◌∙◌, map, drop, length, get_or, codes, bytes_eq}
use Rattle.std.specs.Prelude.{if◌then◌else◌}
use Rattle.gd_tree.specs.Json as tree
use Rattle.gd_json.specs.View.{view, members_view, member_view}
use Rattle.gd_json.specs.declared.value.Json.{Json}
use Rattle.gd_defs.specs.Write.Carried.{answered}
use Rattle.gd_carry.specs.Printed.{pairs_before}
use Rattle.gd_carry.proofs.Fields.{members_in_front, pair_added, pairs_added}
use Rattle.gd_carry.proofs.Walks.{left_at, past}

-- the word gets its answer
pub answer_first : (a : List ℕ) (form : List (List ℕ × Json)) (i : ℕ) (m : List ℕ × Json) (old mid new : List (List ℕ × Json)) → i < length form → m ≡ get_or form i m
    → bytes_eq m.0 (codes "connect") ≡ true → map member_view mid ≡ map member_view old ++ (m.0, tree.text a) ∷ [] → map member_view new ≡ map member_view mid ++ map member_view (drop (i + 1) form)
    → pairs_before (map member_view old) (answered a (members_view (drop i form))) ≡ answered a (members_view form) → members_view new ≡ answered a (members_view form)
answer_first a form i m old mid new within is word one more was =
    let rest = members_view (drop (i + 1) form) in
    let here : answered a (members_view (drop i form)) ≡ tree.member m.0 (tree.text a) rest = ap (λ (xs : List (List ℕ × Json)). answered a (members_view xs)) (left_at form i m within is)
    ∙ ap (λ (b : Bool). if b then tree.member m.0 (tree.text a) rest else tree.member m.0 (view m.1) (answered a rest)) word in
    pairs_added (map member_view mid) (map member_view new) (map member_view (drop (i + 1) form)) more
    ∙ pair_added (map member_view old) (map member_view mid) (m.0, tree.text a) rest one
    ∙ ap (pairs_before (map member_view old)) (sym here)
    ∙ was

-- another member stays
pub answer_later : (a : List ℕ) (form : List (List ℕ × Json)) (i : ℕ) (m : List ℕ × Json) (old new : List (List ℕ × Json)) → i < length form → m ≡ get_or form i m
    → bytes_eq m.0 (codes "connect") ≡ false → map member_view new ≡ map member_view old ++ (m.0, view m.1) ∷ []
    → pairs_before (map member_view old) (answered a (members_view (drop i form))) ≡ answered a (members_view form)
    → pairs_before (map member_view new) (answered a (members_view (drop (i + 1) form))) ≡ answered a (members_view form)
answer_later a form i m old new within is other one was =
    let rest = members_view (drop (i + 1) form) in
    let here : answered a (members_view (drop i form)) ≡ tree.member m.0 (view m.1) (answered a rest) = ap (λ (xs : List (List ℕ × Json)). answered a (members_view xs)) (left_at form i m within is)
    ∙ ap (λ (b : Bool). if b then tree.member m.0 (tree.text a) rest else tree.member m.0 (view m.1) (answered a rest)) other in
    pair_added (map member_view old) (map member_view new) (m.0, view m.1) (answered a rest) one
    ∙ ap (pairs_before (map member_view old)) (sym here)
    ∙ was

-- all members stay
pub answer_none : (a : List ℕ) (form : List (List ℕ × Json)) (i : ℕ) (old : List (List ℕ × Json)) → length form ≤ i
    → pairs_before (map member_view old) (answered a (members_view (drop i form))) ≡ answered a (members_view form) → members_view old ≡ answered a (members_view form)
answer_none a form i old end was =
    members_in_front (map member_view old) ∙ ap (λ (xs : List (List ℕ × Json)). pairs_before (map member_view old) (answered a (members_view xs))) (sym (past form i end)) ∙ was
