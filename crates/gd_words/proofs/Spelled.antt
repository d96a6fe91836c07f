-- What it means for words that they spell settings.
use Rattle.std.proofs.Common.{◌≡◌, ◌∙◌, ap, subst, sym, refl, inl, inr, ◌+◌, Bool, true, false, not, ◌&&◌, ℕ, List, [], ◌∷◌, ◌++◌, Option, Some, None, codes, length, take, drop, option_map, drop-cons, get_or, eqb, add-one, ◌⊎◌}
use Rattle.std.specs.Prelude.{option_and_then, if◌then◌else◌, bytes_eq, position, ◌==◌, nat_le}
use Rattle.std.specs.Option.{option_map_or}
use Rattle.std.proofs.lemmas.Bool.{and_parts, eqb-true, not-true}
use Rattle.std.proofs.lemmas.List.{take-append-drop}
use Rattle.std.proofs.lemmas.List.Quantifiers.{position-Some}
use Rattle.std.proofs.lemmas.Slice.Eq.{bytes_eq-Decides}
use Rattle.gd_words.specs.Options.{Names, Setting, Spelled, is_name, is_option, parted, option_of, is_value, settings}

-- texts whose test of equality is true are equal
pub same_text : (a b : List ℕ) → bytes_eq a b ≡ true → a ≡ b
same_text a b e = (bytes_eq-Decides a b).0 e

-- where a chain of look-ups gives something, each one did
pub chosen : {A : Type 0} (b : Bool) (o : Option A) (a : A) → (if b then o else None) ≡ Some a → (b ≡ true) × (o ≡ Some a)
chosen true o a e = (refl, e)
chosen false o a e = cc

pub mapped : {A B : Type 0} (f : A → B) (o : Option A) (b : B) → option_map f o ≡ Some b → (a : A) × (o ≡ Some a) × (b ≡ f a)
mapped f None b e = cc
mapped f (Some a) b e = (a, refl, cc)

pub chained : {A B : Type 0} (f : A → Option B) (o : Option A) (b : B) → option_and_then f o ≡ Some b → (a : A) × (o ≡ Some a) × (f a ≡ Some b)
chained f None b e = cc
chained f (Some a) b e = (a, refl, e)

-- the text behind the dashes that spells an option
abbrev pub joined : Spelled → List ℕ
joined (name, None) = name
joined (name, Some value) = name ++ (61 ∷ value)

unparted : (text : List ℕ) → text ≡ joined (parted text)
unparted text = go (position (λ b. b == 61) text) refl
  where
    go : (o : Option ℕ) → position (λ b. b == 61) text ≡ o
        → text ≡ joined (option_map_or (λ i. (take i text, Some (drop (i + 1) text))) o (text, None))
    go None e = refl
    go (Some i) e =
        let at = position-Some (λ b. b == 61) text i 0 e in
        sym (take-append-drop i text) ∙ ap (λ rest. take i text ++ rest)
        (drop-cons text i 0 at.0 ∙ ap (λ k. get_or text i 0 ∷ drop k text) (sym (add-one i)) ∙ ap (λ b. b ∷ drop (i + 1) text) (eqb-true _ _ at.1))

-- a word that spells an option is `--`, and then its text
pub spelled : (names : Names) (word : List ℕ) (o : Spelled) → option_of names word ≡ Some o → (word ≡ codes "--" ++ joined o) × (is_name names o.0 ≡ true)
unfolding option_of
spelled names word o e =
    let met = chosen (bytes_eq (take 2 word) (codes "--") && is_option names (parted (drop 2 word))) (Some (parted (drop 2 word))) o e in
    let parts = and_parts (bytes_eq (take 2 word) (codes "--")) (is_option names (parted (drop 2 word))) met.0 in
    let is : parted (drop 2 word) ≡ o = cc (met.1) in
    let named : is_name names (parted (drop 2 word)).0 ≡ true = (and_parts (is_name names (parted (drop 2 word)).0) _ parts.1).0 in (
      sym (take-append-drop 2 word) ∙ ap (λ front. front ++ drop 2 word) (same_text _ _ parts.0)
          ∙ ap (λ text. codes "--" ++ text) (unparted (drop 2 word) ∙ ap joined is),
      subst (λ p. is_name names p.0 ≡ true) is named,
    )

-- a value by itself begins with another byte than `-`
pub begins : (word : List ℕ) → is_value word ≡ true → (x : ℕ) × (xs : List ℕ) × (word ≡ x ∷ xs) × (eqb x 45 ≡ false)
begins [] e = cc
begins (x ∷ xs) e = (x, xs, refl, not-true (eqb x 45) (and_parts (nat_le 1 (length (x ∷ xs))) (not (eqb x 45)) e).1)

-- and so it spells no option
pub no_option : (names : Names) (word : List ℕ) → is_value word ≡ true → option_of names word ≡ None
unfolding option_of
no_option names [] e = cc
no_option names (x ∷ xs) e = rw (not-true (eqb x 45) (and_parts (nat_le 1 (length (x ∷ xs))) (not (eqb x 45)) e).1) refl

-- the settings where the first word is a value that is due
pub filled : (names : Names) (word : List ℕ) (rest : List (List ℕ)) (due : List ℕ) (given : List Setting) → settings names (word ∷ rest) (Some due) ≡ Some given
    → (later : List Setting) × (is_value word ≡ true) × (settings names rest None ≡ Some later) × (given ≡ (due, word) ∷ later)
unfolding settings
filled names word rest due given e =
    let fit = chosen (is_value word) (option_map (λ later. (due, word) ∷ later) (settings names rest None)) given e in
    let some = mapped (λ (later : List Setting). (due, word) ∷ later) (settings names rest None) given fit.1 in
    (some.0, fit.0, some.1, some.2)

-- the settings where the first word spells an option, with its value or without
pub record Whole (names : Names) (word : List ℕ) (rest : List (List ℕ)) (given : List Setting) : Type 0 where
  pub name : List ℕ
  pub value : List ℕ
  pub later : List Setting
  pub option : option_of names word ≡ Some (name, Some value)
  pub others : settings names rest None ≡ Some later
  pub all : given ≡ (name, value) ∷ later

pub record Begun (names : Names) (word : List ℕ) (rest : List (List ℕ)) (given : List Setting) : Type 0 where
  pub name : List ℕ
  pub option : option_of names word ≡ Some (name, None)
  pub others : settings names rest (Some name) ≡ Some given

pub begun : (names : Names) (word : List ℕ) (rest : List (List ℕ)) (given : List Setting) → settings names (word ∷ rest) None ≡ Some given
    → (Whole names word rest given) ⊎ (Begun names word rest given)
unfolding settings
begun names word rest given e =
    let some = chained (λ (o : Spelled). option_map_or (λ value. option_map (λ later. (o.0, value) ∷ later) (settings names rest None)) o.1
    (settings names rest (Some o.0))) (option_of names word) given e in
    go some.0 some.1 some.2
  where
    go : (o : Spelled) → option_of names word ≡ Some o
        → option_map_or (λ value. option_map (λ later. (o.0, value) ∷ later) (settings names rest None)) o.1 (settings names rest (Some o.0)) ≡ Some given
        → (Whole names word rest given) ⊎ (Begun names word rest given)
    go (name, None) is f = inr (record { name = name; option = is; others = f })
    go (name, Some value) is f =
        let some = mapped (λ (later : List Setting). (name, value) ∷ later) (settings names rest None) given f in
        inl (record { name = name; value = value; later = some.0; option = is; others = some.1; all = some.2 })

pub at_end : (names : Names) (given : List Setting) → settings names [] None ≡ Some given → given ≡ []
unfolding settings
at_end names given e = cc

pub not_at_end : (names : Names) (due : List ℕ) (given : List Setting) → settings names [] (Some due) ≡ Some given → ⊥
unfolding settings
not_at_end names due given e = cc
