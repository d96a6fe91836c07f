-- What has no key is entered under none.
use Rattle.std.proofs.Common.{◌≡◌, ℕ, ◌==◌, false, List, Option, None, sym, subst}
use Rattle.std.proofs.Math.Bool.{and-false}
use Rattle.std.specs.Option.{option_map_or}
use Rattle.gd_keys.specs.Keys.{is_under}

pub is_under-none : (namespace : Option ℕ) (key : Option (List ℕ)) → key ≡ None → (n : ℕ) (k : List ℕ) → is_under namespace key n k ≡ false
is_under-none namespace key is n k =
    subst (λ (o : Option (List ℕ)). is_under namespace o n k ≡ false) (sym is) (and-false (option_map_or (λ place. place == n) namespace false))
