-- Worked rows of hits.
use Rattle.std.proofs.Common.{◌≡◌, refl, ℕ, List, [], ◌∷◌}
use Rattle.std.specs.Prelude.{codes}
use Rattle.gd_cache.specs.Hits.{Call, hits_of}

-- a read of this text at the built-in list, with a result of so many bytes
abbrev read_of : List ℕ → ℕ → Call
read_of text outcome = record { key = record { text = text; dateline = 0 }; outcome = outcome }

-- three times one query, then another, then the first again
abbrev five : List Call
five = read_of (codes "English") 50 ∷ read_of (codes "English") 50 ∷ read_of (codes "English") 50 ∷ read_of (codes "Type") 45 ∷ read_of (codes "English") 50 ∷ []

-- with room for one the second and the third find it
one_place : hits_of five 1 ≡ 2
one_place = refl

-- with room for two the last one does too
two_places : hits_of five 2 ≡ 3
two_places = refl

-- what is found last goes last
latest_stays : hits_of (read_of (codes "a") 1 ∷ read_of (codes "b") 1 ∷ read_of (codes "a") 1 ∷ read_of (codes "c") 1 ∷ read_of (codes "a") 1 ∷ read_of (codes "b") 1 ∷ []) 2 ≡ 2
latest_stays = refl

-- a long result is not kept, and drives nothing out
long_result : hits_of (read_of (codes "a") 1 ∷ read_of (codes "b") 65537 ∷ read_of (codes "b") 65537 ∷ read_of (codes "a") 1 ∷ []) 1 ≡ 1
long_result = refl

-- one text at two datelines is kept twice
two_datelines : hits_of (read_of (codes "a") 1 ∷ record { key = record { text = codes "a"; dateline = 1 }; outcome = 1 } ∷ read_of (codes "a") 1 ∷ []) 2 ≡ 1
two_datelines = refl
