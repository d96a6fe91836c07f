-- The members of an object beside those of its tree.
use Rattle.std.proofs.Common.{◌≡◌, ℕ, List, [], ◌∷◌, Bool, true, false, ◌&&◌, ◌||◌, Option, Some, bytes_eq, refl, sym, ap, ◌∙◌}
use Rattle.std.specs.List.{list_all, list_any}
use Rattle.std.specs.Option.{option_map_or}
use Rattle.gd_tree.specs.Json as tree
use Rattle.gd_tree.specs.Look.{only}
use Rattle.gd_json.specs.View.{members_view}
use Rattle.gd_json.specs.declared.value.Json.{Json}

or_false : (b c : Bool) → (b || (c || false)) ≡ (b || c)
or_false true c = refl
or_false false true = refl
or_false false false = refl

-- a member has one of two names
abbrev is_named : List ℕ → List ℕ → List ℕ × Json → Bool
is_named k l m = bytes_eq m.0 k || bytes_eq m.0 l

pub only-members_view : (k l : List ℕ) (ms : List (List ℕ × Json)) → only (k ∷ l ∷ []) (members_view ms) ≡ list_all (is_named k l) ms
only-members_view k l [] = refl
only-members_view k l (m ∷ ms) = ap (λ b. b && only (k ∷ l ∷ []) (members_view ms)) (or_false (bytes_eq m.0 k) (bytes_eq m.0 l)) ∙ ap (λ b. is_named k l m && b) (only-members_view k l ms)

pub only-found : (k l : List ℕ) (ms : List (List ℕ × Json)) (found : Option tree.Members) → Some (members_view ms) ≡ found → list_all (is_named k l) ms ≡ option_map_or (only (k ∷ l ∷ [])) found false
only-found k l ms found is = sym (only-members_view k l ms) ∙ ap (λ (o : Option tree.Members). option_map_or (only (k ∷ l ∷ [])) o false) is

-- ---- up to four names

-- a member has one of four names
abbrev is_among : List ℕ → List ℕ → List ℕ → List ℕ → List ℕ × Json → Bool
is_among a b c d m = bytes_eq m.0 a || (bytes_eq m.0 b || (bytes_eq m.0 c || bytes_eq m.0 d))

-- alternatives that are the same
or_same : (x : Bool) → (x || false) ≡ x
or_same true = refl
or_same false = refl

or_four : (x y z w : Bool) → (x || (y || (z || (w || false)))) ≡ (x || (y || (z || w)))
or_four x y z w = ap (λ v. x || (y || (z || v))) (or_same w)

-- no names but some, member by member
only-tested : (ks : List (List ℕ)) (test : List ℕ × Json → Bool) → ((m : List ℕ × Json) → list_any (bytes_eq m.0) ks ≡ test m) → (ms : List (List ℕ × Json)) → only ks (members_view ms) ≡ list_all test ms
only-tested ks test same [] = refl
only-tested ks test same (m ∷ ms) = ap (λ b. b && only ks (members_view ms)) (same m) ∙ ap (λ b. test m && b) (only-tested ks test same ms)

pub only-four : (a b c d : List ℕ) (ms : List (List ℕ × Json)) → only (a ∷ b ∷ c ∷ d ∷ []) (members_view ms) ≡ list_all (is_among a b c d) ms
only-four a b c d ms = only-tested (a ∷ b ∷ c ∷ d ∷ []) (is_among a b c d) (λ m. or_four (bytes_eq m.0 a) (bytes_eq m.0 b) (bytes_eq m.0 c) (bytes_eq m.0 d)) ms
