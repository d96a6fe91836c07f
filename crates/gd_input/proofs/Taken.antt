-- What was taken of an input.
use Rattle.std.proofs.Common.{◌≡◌, ◌≤◌, ◌+◌, ℕ, List, [], ◌++◌, length, Option, Some, None, ap, sym, subst, ◌∙◌, arith, append_assoc, length-append}
use Rattle.std.specs.Io.KnownBytes.{prepend_known, Consumes}
use Rattle.std.proofs.KnownBytes.{prepend_known-nil}
use Rattle.gd_base.specs.Counts.{RoseBy}
use Rattle.gd_input.specs.Held.{Held}
use Rattle.gd_input.specs.Pieces.{Known, Advances}
use Rattle.gd_input.specs.Taken.{TakesAtLeast}

bytes_taken : (a b : Option (List ℕ)) (held : List ℕ) (n m : ℕ) → Advances a (prepend_known held b) 0 n → m ≤ n → (bytes : List ℕ) × Consumes a b bytes × (m ≤ length bytes)
bytes_taken None b held n m advances below = (advances.bytes, tt, omega (arith, advances.counted, below))
bytes_taken (Some x) None held n m advances below = absurd advances.consumed
bytes_taken (Some x) (Some y) held n m advances below =
    (advances.bytes ++ held, advances.consumed ∙ sym (append_assoc advances.bytes held y), omega (arith, advances.counted, length-append advances.bytes held, below))

fewer : (given_old given_new m n k : ℕ) → m ≤ n → RoseBy given_old given_new (n + k) → RoseBy given_old given_new m
fewer given_old given_new m n k below rose = omega (arith, below, rose)

-- what was passed was taken, with what is held
pub taken_known : (a b : Option (List ℕ)) (given_old given_new : ℕ) (held : Held) (m : ℕ) → Advances a (prepend_known held.bytes b) 0 held.consumed → RoseBy given_old given_new (held.consumed + length held.bytes) → m ≤ held.consumed
    → TakesAtLeast m a b given_old given_new
taken_known a b given_old given_new held m advances rose below =
    (bytes_taken a b held.bytes held.consumed m advances below, fewer given_old given_new m held.consumed (length held.bytes) below rose)

-- where nothing is held, what is left is the source's
pub left_known : (a b : Option (List ℕ)) (held : List ℕ) (P : List ℕ → List ℕ → Type 0) → held ≡ [] → Known a (prepend_known held b) P → Known a b P
left_known a b held P none known = subst (λ (o : Option (List ℕ)). Known a o P) (ap (λ (bytes : List ℕ). prepend_known bytes b) none ∙ prepend_known-nil b) known

-- before the first read nothing is held
pub none_taken : (given : ℕ) (held : Held) → held ≡ record { bytes = []; consumed = 0 } → RoseBy given given (held.consumed + length held.bytes)
none_taken given held new = subst (λ (h : Held). RoseBy given given (h.consumed + length h.bytes)) (sym new) (omega arith)
