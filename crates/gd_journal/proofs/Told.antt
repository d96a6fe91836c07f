-- Disks that tell their content.
use Rattle.std.proofs.Common.{◌≡◌, ◌≢◌, arith, true, false, ℕ, List, Some, None, refl, ap}
use Rattle.std.specs.Prelude.{Option, IsSome, Bool, ◌==◌}
use Rattle.std.proofs.lemmas.Bool.Decides.{nat_tests}
use Rattle.std.specs.Option.{is_some}

-- the content that is told
pub content_of : (o : Option (List ℕ)) → IsSome o → (file : List ℕ) × (o ≡ Some file)
content_of None is = cc
content_of (Some f) is = (f, refl)

pub told_of : (o : Option (List ℕ)) (file : List ℕ) → o ≡ Some file → IsSome o
told_of o file is = ap is_some is

pub one_content : {o : Option (List ℕ)} (f e : List ℕ) → o ≡ Some f → o ≡ Some e → f ≡ e
one_content f e p q = cc

-- the test of a gate
pub gate_open : (open_there : Bool) (gate : ℕ) → open_there ≡ (gate == 1) → open_there ≡ true → gate ≡ 1
gate_open b gate is counts = grind (arith, nat_tests)

pub gate_shut : (open_there : Bool) (gate : ℕ) → open_there ≡ (gate == 1) → open_there ≡ false → gate ≢ 1
gate_shut b gate is closed = λ one. grind (arith, nat_tests)
