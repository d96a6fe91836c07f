-- Files and what they hold.
use Rattle.std.proofs.Common.{◌≡◌, List, ℕ, [], ◌∷◌, ◌++◌, Some, None, true, false, replicate, refl}
use Rattle.gd_bytes.specs.File.{first, second, header, mark, at_rest, no_payloads}
use Rattle.gd_journal.specs.Meaning.{held_by, StandsFor, IsDamagedAt, with_mark, told_by}

abbrev pub two : List (List ℕ)
two = (97 ∷ 98 ∷ []) ∷ (99 ∷ []) ∷ []

pub written : StandsFor first two (at_rest first two)
unfolding held_by
written = (refl, λ _. refl)

pub written_second : StandsFor second two (at_rest second two)
unfolding held_by
written_second = (refl, λ _. refl)

pub second_offset : held_by (header first ++ 1 ∷ 0 ∷ 0 ∷ 0 ∷ 2 ∷ 97 ∷ 98 ∷ 1 ∷ 0 ∷ 0 ∷ 0 ∷ 1 ∷ 99 ∷ 7 ∷ 1 ∷ []) ≡ Some (record { list = (8, 97 ∷ 98 ∷ []) ∷ (15, 99 ∷ []) ∷ []; damaged = None })
unfolding held_by
second_offset = refl

pub nine : held_by (replicate 9 1) ≡ Some no_payloads
unfolding held_by
nine = refl

pub ten : held_by (replicate 10 1) ≡ None
unfolding held_by
ten = refl

pub torn : IsDamagedAt 15 (header second ++ 1 ∷ 0 ∷ 0 ∷ 0 ∷ 2 ∷ 97 ∷ 98 ∷ 1 ∷ 0 ∷ 0 ∷ 0 ∷ 1 ∷ 99 ∷ [])
unfolding held_by
torn = (record { list = (8, 97 ∷ 98 ∷ []) ∷ []; damaged = Some 15 }, refl, refl)

-- ---- the mark

-- it is due in a file of the first version, once
pub due : with_mark first two ≡ two ++ mark ∷ []
due = refl

pub not_twice : with_mark first (mark ∷ two) ≡ mark ∷ two
not_twice = refl

pub not_second : with_mark second two ≡ two
not_second = refl

-- a payload is told with whether it stands before the mark; the mark itself is not
pub told : told_by (at_rest first ((97 ∷ 98 ∷ []) ∷ mark ∷ (99 ∷ []) ∷ [])) ≡ Some (record { list = (false, (8, 97 ∷ 98 ∷ [])) ∷ (true, (24, 99 ∷ [])) ∷ []; damaged = None })
unfolding told_by
told = refl

-- behind the mark its bytes are a payload as any other
pub told_twice : told_by (at_rest first (mark ∷ mark ∷ [])) ≡ Some (record { list = (true, (17, mark)) ∷ []; damaged = None })
unfolding told_by
told_twice = refl
