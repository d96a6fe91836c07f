-- The number that a slot keeps.
use Rattle.std.specs.Prelude.{◌≡◌, ℕ, ◌==◌, eqb, refl, Option, None, Some, unwrap_or, if◌then◌else◌}
use Rattle.std.proofs.Common.{sym}
use Rattle.std.proofs.lemmas.Bool.{cond_both, eqb-true}

-- what the number stands for
abbrev pub slot_value : ℕ → Option ℕ
slot_value number = if number == 4_294_967_295 then None else Some number

-- and the number for it
abbrev pub slot_number : Option ℕ → ℕ
slot_number value = unwrap_or value 4_294_967_295

pub same_number : (number : ℕ) → slot_number (slot_value number) ≡ number
same_number number =
    cond_both (eqb number 4_294_967_295) None (Some number) (λ value. slot_number value ≡ number)
    (λ is. sym (eqb-true number 4_294_967_295 is)) (λ _. refl)
