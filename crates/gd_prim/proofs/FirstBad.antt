-- The first place that breaks a rule, where a batch was walked to its i-th primitive.
use Rattle.std.proofs.Common.{◌≡◌, ℕ, ◌+◌, ◌<◌, List, [], ◌∷◌, ◌++◌, length, take, drop, get_or, sym, ap, ◌∙◌, append_assoc}
use Rattle.std.specs.Prelude.{true, Some, if◌then◌else◌}
use Rattle.std.proofs.lemmas.List.{take_more, length-take-le}
use Rattle.std.proofs.Math.Seq.{drop-cons}
use Rattle.std.proofs.Common.{add-one, suc, arith}
use Rattle.gd_prim.specs.declared.Primitive.{Primitive}
use Rattle.gd_prim.specs.WellFormed.{first_bad, is_well_placed}

-- what is left begins with the i-th primitive
from_here : (prims : List Primitive) (i : ℕ) (p : Primitive) → i < length prims → get_or prims i p ≡ p → drop i prims ≡ p ∷ drop (i + 1) prims
from_here prims i p below is = rw add-one (drop-cons prims i p below ∙ ap (λ x. x ∷ drop (suc i) prims) is)

-- what was walked ends with it then
to_here : (prior prims : List Primitive) (i : ℕ) (p : Primitive) → i < length prims → get_or prims i p ≡ p → prior ++ take i prims ++ p ∷ [] ≡ prior ++ take (i + 1) prims
to_here prior prims i p below is =
    append_assoc prior (take i prims) (p ∷ []) ∙ ap (λ xs. prior ++ xs) (sym (take_more prims i p below ∙ ap (λ x. take i prims ++ x ∷ []) is))

-- one primitive further
one_further : (prior prims : List Primitive) (moment i : ℕ) (p : Primitive) → i < length prims → get_or prims i p ≡ p
    → first_bad (prior ++ take i prims) moment i (drop i prims)
    ≡ (if is_well_placed (prior ++ take i prims) moment i p then first_bad (prior ++ take (i + 1) prims) moment (i + 1) (drop (i + 1) prims) else Some (length (prior ++ take i prims)))
one_further prior prims moment i p below is =
    ap (first_bad (prior ++ take i prims) moment i) (from_here prims i p below is)
    ∙ ap (λ before. if is_well_placed (prior ++ take i prims) moment i p then first_bad before moment (i + 1) (drop (i + 1) prims) else Some (length (prior ++ take i prims))) (to_here prior prims i p below is)

-- a primitive that keeps the rules leaves it to those behind it
pub goes_on : (prior prims : List Primitive) (moment i : ℕ) (p : Primitive) → i < length prims → get_or prims i p ≡ p
    → is_well_placed (prior ++ take i prims) moment (length (take i prims)) p ≡ true
    → first_bad (prior ++ take i prims) moment i (drop i prims) ≡ first_bad (prior ++ take (i + 1) prims) moment (i + 1) (drop (i + 1) prims)
goes_on prior prims moment i p below is well =
    one_further prior prims moment i p below is
    ∙ ap (λ b. if b then first_bad (prior ++ take (i + 1) prims) moment (i + 1) (drop (i + 1) prims) else Some (length (prior ++ take i prims)))
    (ap (λ n. is_well_placed (prior ++ take i prims) moment n p) (sym (length-take-le i prims (omega arith))) ∙ well)
