-- Laws of what files stand for.
use Rattle.std.specs.Prelude.{◌≡◌, ℕ, List, ◌++◌, ◌∷◌, [], bytes_eq, Bool, true, false, ◌||◌, if◌then◌else◌, refl}
use Rattle.std.specs.List.{list_any}
use Rattle.gd_bytes.specs.File.{at_rest, Version, first, second, mark}
use Rattle.gd_journal.specs.Meaning.{marked_by, with_mark}
use Rattle.gd_journal.specs.Shape.{front}

-- what was written, with its last gate closed
pub at_rest_front : (v : Version) (ps : List (List ℕ)) → at_rest v ps ≡ front v ps ++ 0 ∷ []
unfolding front
at_rest_front v ps = refl

-- behind the mark texts may have languages, whatever stands before it
pub with_mark_marks : (v : Version) (ps : List (List ℕ)) → marked_by v (with_mark v ps) ≡ true
with_mark_marks second ps = refl
with_mark_marks first ps = by (list_any (λ p. bytes_eq p mark) ps) refl
  where
    last : (qs : List (List ℕ)) → list_any (λ p. bytes_eq p mark) (qs ++ mark ∷ []) ≡ true
    last [] = refl
    last (q ∷ qs) = either (bytes_eq q mark) _ (last qs)
      where
        either : (a b : Bool) → b ≡ true → (a || b) ≡ true
        either true b is = refl
        either false b is = is

    by : (b : Bool) → list_any (λ p. bytes_eq p mark) ps ≡ b → marked_by first (if b then ps else ps ++ mark ∷ []) ≡ true
    by true is = is
    by false is = last ps
