-- The options of a command line: what their words spell.
use Rattle.std.specs.Prelude.{ℕ, ◌+◌, List, [], ◌∷◌, Bool, true, not, ◌&&◌, ◌==◌, Option, Some, None, option_map, option_and_then, if◌then◌else◌, nat_le, length, take, drop, codes, bytes_eq, slice_index, count_by, find, position}
use Rattle.std.specs.Option.{option_map_or}
use Rattle.std.specs.List.{list_any, list_all}

-- a setting: the name of an option, without its two dashes, and its value
abbrev pub Setting : Type 0
Setting = List ℕ × List ℕ

-- an option as one word spells it: its name, and its value where that stands in the same word
abbrev pub Spelled : Type 0
Spelled = List ℕ × Option (List ℕ)

-- the names of the options that a verb has
abbrev pub Names : Type 0
Names = List (List ℕ)

-- the name is one of these
abbrev pub is_name : Names → List ℕ → Bool
is_name names name = list_any (bytes_eq name) names

-- a text as a name and, behind its first `=`, a value
abbrev pub parted : List ℕ → Spelled
parted text = option_map_or (λ i. (take i text, Some (drop (i + 1) text))) (position (λ b. b == 61) text) (text, None)

-- the name is one of the options', and a value that is there is not empty
abbrev pub is_option : Names → Spelled → Bool
is_option names spelled = is_name names spelled.0 && option_map_or (λ value. nat_le 1 (length value)) spelled.1 true

-- the option that a word spells as `--name` or `--name=value`
unfoldable pub option_of : Names → List ℕ → Option Spelled
option_of names word = if bytes_eq (take 2 word) (codes "--") && is_option names (parted (drop 2 word)) then Some (parted (drop 2 word)) else None

-- a word that may be a value by itself: it is not empty and does not begin with `-`
abbrev pub is_value : List ℕ → Bool
is_value word = nat_le 1 (length word) && not (slice_index word 0 == 45)

-- the settings of options with these names that words spell one after another, each in one word or in two, where an option may still wait for its value, which is then the first word
unfoldable pub settings : Names → List (List ℕ) → Option (List ℕ) → Option (List Setting)
settings names [] None = Some []
settings names [] (Some due) = None
settings names (word ∷ rest) None = option_and_then (λ spelled.
    option_map_or (λ value. option_map (λ later. (spelled.0, value) ∷ later) (settings names rest None)) spelled.1
    (settings names rest (Some spelled.0))) (option_of names word)
settings names (word ∷ rest) (Some due) =
    if is_value word then option_map (λ later. (due, word) ∷ later) (settings names rest None) else None

-- none of these has a count above 1
abbrev pub is_each_once : Names → (List ℕ → ℕ) → Bool
is_each_once names count = list_all (λ name. nat_le (count name) 1) names

-- how often an option is set
abbrev pub count_in : List Setting → List ℕ → ℕ
count_in given name = count_by (λ setting. bytes_eq setting.0 name) given

-- the settings that words spell of options with these names, each at most once
unfoldable pub options_of : Names → List (List ℕ) → Option (List Setting)
options_of names words = option_and_then (λ given. if is_each_once names (count_in given) then Some given else None) (settings names words None)

-- the value that the option is set to
abbrev pub value_of : List ℕ → List Setting → Option (List ℕ)
value_of name given = option_map (λ setting. setting.1) (find (λ setting. bytes_eq setting.0 name) given)
