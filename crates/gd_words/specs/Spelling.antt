-- The reader's tests of words, one after another.
use Rattle.std.specs.Prelude.{ℕ, List, [], ◌∷◌, Bool, true, false, not, Option, Some, None, option_map, is_none, if◌then◌else◌, bytes_eq}
use Rattle.std.specs.Option.{option_map_or}
use Rattle.gd_words.specs.Options.{Names, option_of, is_value}

-- whether a value is due after a word; none where the word cannot stand there
abbrev pub due_after : Names → Bool → List ℕ → Option Bool
due_after names true word = if is_value word then Some false else None
due_after names false word = option_map (λ spelled. is_none spelled.1) (option_of names word)

-- whether words spell settings, the first being a due value or not
abbrev pub spells : Names → Bool → List (List ℕ) → Bool
spells names due [] = not due
spells names due (word ∷ rest) = option_map_or (λ next. spells names next rest) (due_after names due word) false

-- whether a word spells the option of this name
abbrev pub sets : Names → List ℕ → List ℕ → Bool
sets names name word = option_map_or (λ spelled. bytes_eq spelled.0 name) (option_of names word) false
