-- The automaton accepts UTF-8, and nothing else.
use Rattle.std.proofs.Common.{◌≡◌, refl, ℕ, ◌≤◌, Bool, true, false, ◌&&◌, ◌==◌, List, [], ◌∷◌, length, sym, ◌∙◌, ap, subst, arith}
use Rattle.std.specs.Str.{IsUtf8, is_utf8}
use Rattle.std.proofs.lemmas.Str.{IsUtf8-from_is_utf8, is_utf8-from_IsUtf8}
use Rattle.std.proofs.lemmas.Bool.Decides.{nat_tests}
use Rattle.gd_utf8.specs.Utf8.{Due, start, may_come, after, accepts}
use Rattle.gd_utf8.proofs.Runs.{IsRun, run_of_utf8, utf8_of_run}
use Rattle.gd_utf8.proofs.Exact.{IsAlive, alive_after, alive_start, and_true, and_both}

none_due : (s : Due) → s.due ≤ 0 → (s.due == 0) ≡ true
none_due s none = grind (arith, nat_tests)

-- a run is accepted
accepted : (w : List ℕ) (s : Due) → IsAlive (length w) s → IsRun (length w) s w → accepts s w ≡ true
accepted [] s alive run = none_due s alive.due
accepted (b ∷ w) s alive (c, u, comes, run, is) =
    let c_is : c ≡ b = cc is in
    let u_is : u ≡ w = cc is in
    let here : may_come (length w) s b ≡ true = subst (λ (x : ℕ). may_come (length w) s x ≡ true) c_is comes in
    let behind : IsRun (length w) (after s b) w = subst (λ (l : List ℕ). IsRun (length w) (after s b) l) u_is (subst (λ (x : ℕ). IsRun (length w) (after s x) u) c_is run) in
    and_both (may_come (length w) s b) (accepts (after s b) w) here (accepted w (after s b) (alive_after (length w) s b here alive) behind)

-- what is accepted is a run
is_run : (w : List ℕ) (s : Due) → accepts s w ≡ true → IsRun (length w) s w
is_run [] s is = refl
is_run (b ∷ w) s is =
    let (comes, behind) = and_true (may_come (length w) s b) (accepts (after s b) w) is in
    (b, w, comes, is_run w (after s b) behind, refl)

-- bytes are accepted from between two characters
pub accepts_utf8 : (w : List ℕ) → IsUtf8 w → accepts start w ≡ true
accepts_utf8 w utf8 = accepted w start (alive_start (length w)) (run_of_utf8 w utf8)

pub utf8_accepted : (w : List ℕ) → accepts start w ≡ true → IsUtf8 w
utf8_accepted w is = utf8_of_run (length w) w (is_run w start is)

alike : (a b : Bool) → (a ≡ true → b ≡ true) → (b ≡ true → a ≡ true) → a ≡ b
alike true b to from = sym (to refl)
alike false true to from = from refl
alike false false to from = refl

-- just where std's test passes
pub accepts_is : (w : List ℕ) → accepts start w ≡ is_utf8 w
accepts_is w = alike (accepts start w) (is_utf8 w) (λ is. is_utf8-from_IsUtf8 w (utf8_accepted w is)) (λ is. accepts_utf8 w (IsUtf8-from_is_utf8 w is))
