-- The part of a buffer that is held.
use Rattle.std.proofs.Common.{◌≡◌, ℕ, ◌+◌, ◌-◌, ◌≤◌, List, length, take, drop, sym, ap, subst, ◌∙◌, arith}
use Rattle.std.specs.Prelude.{slice_range}
use Rattle.std.proofs.lemmas.List.{drop-take, drop-drop}
use Rattle.std.proofs.lemmas.Grind.{common_steps}
use Rattle.gd_input.specs.Held.{Held}

short_range : (b : List ℕ) (s e : ℕ) → length (slice_range b s e) ≤ e - s
short_range b s e = grind (arith, common_steps)

range-let_go : (b : List ℕ) (s e k : ℕ) → s ≤ e → k ≤ e - s → slice_range b (s + k) e ≡ drop k (slice_range b s e)
range-let_go b s e k ordered within =
    let m = e - (s + k) in
    let parts : e - s ≡ k + m = omega arith in
    sym (ap (λ n. drop k (take n (drop s b))) parts ∙ (drop-take k m (drop s b) ∙ ap (take m) (drop-drop k s b)))

abbrev held : List ℕ → ℕ → Held
held bytes consumed = record { bytes = bytes; consumed = consumed }

pub let_go : (b : List ℕ) (s e n k : ℕ) (now : Held) → held (slice_range b s e) n ≡ now → s ≤ e → k ≤ length now.bytes
    → held (slice_range b (s + k) e) (n + k) ≡ held (drop k now.bytes) (now.consumed + k)
let_go b s e n k now is ordered within =
    let P : Held → Type 0 = λ h. k ≤ length h.bytes → held (slice_range b (s + k) e) (n + k) ≡ held (drop k h.bytes) (h.consumed + k) in
    subst P is (λ short. ap (λ l. held l (n + k)) (range-let_go b s e k ordered (omega (arith, short_range b s e)))) within
