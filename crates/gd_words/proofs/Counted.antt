-- How the reader tests words: whether they spell settings, and how often an option is named.
use Rattle.std.proofs.Common.{arith, ◌≡◌, ◌∙◌, ap, sym, refl, inl, inr, ◌+◌, Bool, true, false, not, ◌&&◌, ℕ, List, [], ◌∷◌, Option, Some, None, map, cond, option_map, zero-add}
use Rattle.std.specs.Prelude.{option_and_then, is_some, if◌then◌else◌, bytes_eq, count_by, nat_le}
use Rattle.std.specs.Option.{option_map_or}
use Rattle.std.specs.List.{list_any, list_all}
use Rattle.std.proofs.lemmas.List.Sums.{sum_by-append}
use Rattle.std.proofs.lemmas.List.Folds.{list_all-map}
use Rattle.clap.proofs.WalkLemmas.{list_any-map}
use Rattle.gd_words.specs.Options.{Names, Setting, Spelled, is_name, option_of, is_value, settings, is_each_once, count_in, options_of}
use Rattle.gd_words.specs.Spelling.{spells, sets}
use Rattle.gd_words.proofs.Spelled.{filled, begun, no_option, at_end, not_at_end}

some_mapped : {A B : Type 0} (f : A → B) (o : Option A) → is_some o ≡ is_some (option_map f o)
some_mapped f None = refl
some_mapped f (Some a) = refl

-- the words spell settings just where the definition gives some
pub spells_is : (names : Names) (words : List (List ℕ)) (due : Option (List ℕ)) → spells names (is_some due) words ≡ is_some (settings names words due)
unfolding settings
spells_is names [] None = refl
spells_is names [] (Some due) = refl
spells_is names (word ∷ rest) (Some due) = go (is_value word) (spells_is names rest None ∙ some_mapped (λ (later : List Setting). (due, word) ∷ later) (settings names rest None))
  where
    go : (b : Bool) → spells names false rest ≡ is_some (option_map (λ (later : List Setting). (due, word) ∷ later) (settings names rest None))
        → option_map_or (λ next. spells names next rest) (if b then Some false else None) false
        ≡ is_some (if b then option_map (λ (later : List Setting). (due, word) ∷ later) (settings names rest None) else None)
    go true e = e
    go false e = refl
spells_is names (word ∷ rest) None = go (option_of names word) (spells_is names rest None) (λ name. spells_is names rest (Some name))
  where
    go : (o : Option Spelled) → spells names false rest ≡ is_some (settings names rest None) → ((name : List ℕ) → spells names true rest ≡ is_some (settings names rest (Some name)))
        → option_map_or (λ next. spells names next rest) (option_map (λ spelled. not (is_some spelled.1)) o) false
        ≡ is_some (option_and_then (λ (spelled : Spelled). option_map_or (λ value. option_map (λ (later : List Setting). (spelled.0, value) ∷ later) (settings names rest None)) spelled.1
        (settings names rest (Some spelled.0))) o)
    go None now later = refl
    go (Some (name, None)) now later = later name
    go (Some (name, Some value)) now later = now ∙ some_mapped (λ (later : List Setting). (name, value) ∷ later) (settings names rest None)

-- one setting, and the others
pub count_first : (name : List ℕ) (s : Setting) (later : List Setting) → count_in (s ∷ later) name ≡ cond (bytes_eq s.0 name) 1 0 + count_in later name
count_first name s later =
    sum_by-append (λ (setting : Setting). cond (bytes_eq setting.0 name) 1 0) (s ∷ []) later
    ∙ ap (λ n. n + count_in later name) (zero-add (cond (bytes_eq s.0 name) 1 0))

-- one word, and the others
count_word : (names : Names) (name word : List ℕ) (rest : List (List ℕ)) → count_by (sets names name) (word ∷ rest) ≡ cond (sets names name word) 1 0 + count_by (sets names name) rest
count_word names name word rest =
    sum_by-append (λ w. cond (sets names name w) 1 0) (word ∷ []) rest
    ∙ ap (λ n. n + count_by (sets names name) rest) (zero-add (cond (sets names name word) 1 0))

abbrev due_count : List ℕ → Option (List ℕ) → ℕ
due_count name None = 0
due_count name (Some due) = cond (bytes_eq due name) 1 0

-- an option is set as often as a word names it
counted : (names : Names) (name : List ℕ) (words : List (List ℕ)) (due : Option (List ℕ)) (given : List Setting) → settings names words due ≡ Some given
    → count_in given name ≡ due_count name due + count_by (sets names name) words
counted names name [] None given e = ap (λ g. count_in g name) (at_end names given e)
counted names name [] (Some due) given e = absurd (not_at_end names due given e)
counted names name (word ∷ rest) (Some due) given e =
    let first = filled names word rest due given e in
    let all : count_in given name ≡ count_in ((due, word) ∷ first.0) name = ap (λ g. count_in g name) first.3 in
    let one : count_in ((due, word) ∷ first.0) name ≡ cond (bytes_eq due name) 1 0 + count_in first.0 name = count_first name (due, word) first.0 in
    let others : count_in first.0 name ≡ 0 + count_by (sets names name) rest = counted names name rest None first.0 first.2 in
    let words : count_by (sets names name) (word ∷ rest) ≡ cond (sets names name word) 1 0 + count_by (sets names name) rest = count_word names name word rest in
    let none : cond {A = ℕ} (sets names name word) 1 0 ≡ 0 =
    ap (λ o. cond {A = ℕ} (option_map_or (λ (spelled : Spelled). bytes_eq spelled.0 name) o false) 1 0) (no_option names word first.1) in
    omega arith
counted names name (word ∷ rest) None given e = elim (begun names word rest given e) [
  | inl whole ↦
      let all : count_in given name ≡ count_in ((whole.name, whole.value) ∷ whole.later) name = ap (λ g. count_in g name) whole.all in
      let one : count_in ((whole.name, whole.value) ∷ whole.later) name ≡ cond (bytes_eq whole.name name) 1 0 + count_in whole.later name =
      count_first name (whole.name, whole.value) whole.later in
      let others : count_in whole.later name ≡ 0 + count_by (sets names name) rest = counted names name rest None whole.later whole.others in
      let words : count_by (sets names name) (word ∷ rest) ≡ cond (sets names name word) 1 0 + count_by (sets names name) rest = count_word names name word rest in
      let here : cond {A = ℕ} (sets names name word) 1 0 ≡ cond (bytes_eq whole.name name) 1 0 =
      ap (λ o. cond {A = ℕ} (option_map_or (λ (spelled : Spelled). bytes_eq spelled.0 name) o false) 1 0) whole.option in
      omega arith
  | inr first ↦
      let others : count_in given name ≡ cond (bytes_eq first.name name) 1 0 + count_by (sets names name) rest = counted names name rest (Some first.name) given first.others in
      let words : count_by (sets names name) (word ∷ rest) ≡ cond (sets names name word) 1 0 + count_by (sets names name) rest = count_word names name word rest in
      let here : cond {A = ℕ} (sets names name word) 1 0 ≡ cond (bytes_eq first.name name) 1 0 =
      ap (λ o. cond {A = ℕ} (option_map_or (λ (spelled : Spelled). bytes_eq spelled.0 name) o false) 1 0) first.option in
      omega arith
]

-- a count over a map
counted_map : {X Y : Type 0} (p : Y → Bool) (f : X → Y) (xs : List X) → count_by p (map f xs) ≡ count_by (λ x. p (f x)) xs
counted_map {X} {Y} p f [] = refl
counted_map {X} {Y} p f (x ∷ xs) =
    sum_by-append (λ y. cond (p y) 1 0) (f x ∷ []) (map f xs) ∙ ap (λ n. (0 + cond (p (f x)) 1 0) + n) (counted_map p f xs)
    ∙ sym (sum_by-append (λ x. cond (p (f x)) 1 0) (x ∷ []) xs)

-- a name among names that are seen through a function
pub named_is : {X : Type 0} (f : X → List ℕ) (name : List ℕ) (xs : List X) → list_any (λ x. bytes_eq name (f x)) xs ≡ is_name (map f xs) name
named_is f name xs = list_any-map (bytes_eq name) f xs

-- the two tests of the reader together
pub options_is : {N X : Type 0} (g : N → List ℕ) (ns : List N) (f : X → List ℕ) (xs : List X)
    → is_some (options_of (map g ns) (map f xs)) ≡ (spells (map g ns) false (map f xs) && list_all (λ n. nat_le (count_by (λ x. sets (map g ns) (g n) (f x)) xs) 1) ns)
unfolding options_of
options_is {N} {X} g ns f xs = go (settings (map g ns) (map f xs) None) refl
  where
    choice : (b : Bool) (given : List Setting) → is_some (if b then Some given else None) ≡ b
    choice true given = refl
    choice false given = refl

    go : (o : Option (List Setting)) → settings (map g ns) (map f xs) None ≡ o
        → is_some (option_and_then (λ given. if is_each_once (map g ns) (count_in given) then Some given else None) o)
        ≡ (spells (map g ns) false (map f xs) && list_all (λ n. nat_le (count_by (λ x. sets (map g ns) (g n) (f x)) xs) 1) ns)
    go None e = sym (ap (λ b. b && list_all (λ n. nat_le (count_by (λ x. sets (map g ns) (g n) (f x)) xs) 1) ns) (spells_is (map g ns) (map f xs) None ∙ ap is_some e))
    go (Some given) e =
        let same : (name : List ℕ) → count_in given name ≡ count_by (λ x. sets (map g ns) name (f x)) xs =
        λ name. counted (map g ns) name (map f xs) None given e ∙ zero-add (count_by (sets (map g ns) name) (map f xs)) ∙ counted_map (sets (map g ns) name) f xs in
        let all : count_in given ≡ (λ name. count_by (λ x. sets (map g ns) name (f x)) xs) = λ i name. same name i in
        choice (is_each_once (map g ns) (count_in given)) given
        ∙ ap (is_each_once (map g ns)) all
        ∙ list_all-map (λ name. nat_le (count_by (λ x. sets (map g ns) name (f x)) xs) 1) g ns
        ∙ sym (ap (λ b. b && list_all (λ n. nat_le (count_by (λ x. sets (map g ns) (g n) (f x)) xs) 1) ns) (spells_is (map g ns) (map f xs) None ∙ ap is_some e))
