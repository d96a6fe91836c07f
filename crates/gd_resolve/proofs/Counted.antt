-- Steps that are counted where something is asked for that is there.
use Rattle.std.proofs.Common.{◌≡◌, ◌≤◌, ℕ, List, Option, Some, None, IfSome, subst, arith}
use Rattle.gd_base.specs.Counts.{Rose}

-- they stay counted
pub counted_later : {A : Type 0} (P : A → Type 0) (o : Option A) (a b c : ℕ) → IfSome o (λ x. P x → Rose a b) → b ≤ c → IfSome o (λ x. P x → Rose a c)
counted_later P None a b c rose below = tt
counted_later P (Some x) a b c rose below = λ there. (let before : Rose a b = rose there in omega arith)

-- they are counted in any case
pub counted_anyhow : {A : Type 0} (P : A → Type 0) (o : Option A) (a b : ℕ) → Rose a b → IfSome o (λ x. P x → Rose a b)
counted_anyhow P None a b rose = tt
counted_anyhow P (Some x) a b rose = λ there. rose

-- what is said of a text is said of one that is the same
pub same_text : {A : Type 0} (f : List ℕ → Option A) (P : A → Type 0) (s t : List ℕ) → s ≡ t → IfSome (f s) P → IfSome (f t) P
same_text f P s t same holds = subst (λ x. IfSome (f x) P) same holds
