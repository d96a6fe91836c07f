-- Values are no longer than the words that they stand in.
use Rattle.std.proofs.Common.{arith, ◌≡◌, ◌∙◌, ap, subst, sym, refl, inl, inr, true, false, ◌≤◌, ◌+◌, Bool, ℕ, List, [], ◌∷◌, ◌++◌, Option, Some, None, codes, length, cond, option_map, map, IfSome}
use Rattle.std.specs.Prelude.{is_some, bytes_eq, find, All, if◌then◌else◌}
use Rattle.std.specs.List.{AllByRecursion}
use Rattle.std.proofs.lemmas.List.{length-append}
use Rattle.gd_words.specs.Options.{Names, Setting, settings, options_of, value_of, count_in, is_each_once}
use Rattle.gd_words.proofs.Spelled.{chosen, chained, spelled, filled, begun, at_end, not_at_end}

abbrev pub IsShort : List ℕ → Type 0
IsShort text = length text ≤ 4096

-- no value of a setting is too long
abbrev AllShort : List Setting → Type 0
AllShort given = AllByRecursion (λ s. IsShort s.1) given

short : (names : Names) (words : List (List ℕ)) (due : Option (List ℕ)) (given : List Setting) → settings names words due ≡ Some given → All IsShort words → AllShort given
short names [] None given e all = subst AllShort (sym (at_end names given e)) tt
short names [] (Some due) given e all = absurd (not_at_end names due given e)
short names (word ∷ rest) (Some due) given e all =
    let first = filled names word rest due given e in
    let others : All IsShort rest = λ k d lt. all (Rattle.std.proofs.Common.suc k) d (omega arith) in
    subst AllShort (sym first.3) (all 0 word (omega arith), short names rest None first.0 first.2 others)
short names (word ∷ rest) None given e all =
    let others : All IsShort rest = λ k d lt. all (Rattle.std.proofs.Common.suc k) d (omega arith) in
    let here : IsShort word = all 0 word (omega arith) in
    elim (begun names word rest given e) [
      | inl whole ↦
          let is = ap length (spelled names word (whole.name, Some whole.value) whole.option).0 in
          let sum : length (whole.name ++ (61 ∷ whole.value)) ≡ length whole.name + length (61 ∷ whole.value) = length-append whole.name (61 ∷ whole.value) in
          let value_fits : IsShort whole.value = omega (arith, length-append (codes "--") (whole.name ++ (61 ∷ whole.value))) in
          subst AllShort (sym whole.all) (value_fits, short names rest None whole.later whole.others others)
      | inr first ↦ short names rest (Some first.name) given first.others others
    ]

found : (name : List ℕ) (given : List Setting) → AllShort given → IfSome (value_of name given) IsShort
found name [] all = tt
found name (s ∷ given) all = go (bytes_eq s.0 name) (found name given all.1)
  where
    go : (b : Bool) → IfSome (value_of name given) IsShort
        → IfSome (option_map (λ (setting : Setting). setting.1) (cond b (Some s) (find (λ setting. bytes_eq setting.0 name) given))) IsShort
    go true e = all.0
    go false e = e

-- the value of an option is not too long
pub short_value : (names : Names) (name : List ℕ) (words : List (List ℕ)) (given : List Setting) → options_of names words ≡ Some given → All IsShort words
    → IfSome (value_of name given) IsShort
unfolding options_of
short_value names name words given e all =
    let some = chained (λ (every : List Setting). if is_each_once names (count_in every) then Some every else None) (settings names words None) given e in
    let once = chosen (is_each_once names (count_in some.0)) (Some some.0) given some.2 in
    found name given (short names words None given (some.1 ∙ once.1) all)

-- a test of what a value is seen as
pub seen : {A B : Type 0} (f : A → B) (P : B → Type 0) (o : Option A) → IfSome (option_map f o) P → IfSome o (λ a. P (f a))
seen f P None e = tt
seen f P (Some a) e = e

-- something is there
pub there : {A : Type 0} (o : Option A) → is_some o ≡ true → (a : A) × (o ≡ Some a)
there None e = cc
there (Some a) e = (a, refl)
