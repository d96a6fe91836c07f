-- What is entered in a list, and taken away again.
use Rattle.std.specs.Prelude.{ℕ, ◌-◌, ◌==◌, Bool, false, ◌&&◌, List, [], ◌∷◌, ◌++◌, Option, length, take, slice_get, if◌then◌else◌}
use Rattle.std.specs.Option.{option_map_or}
use Rattle.std.specs.Str.{bytes_eq}

-- what is entered is entered under this namespace and key: it has a namespace and a key, and they are these
abbrev pub is_under : Option ℕ → Option (List ℕ) → ℕ → List ℕ → Bool
is_under namespace key n k = option_map_or (λ place. place == n) namespace false && option_map_or (λ text. bytes_eq k text) key false

-- what is entered is entered under this node
abbrev pub is_of : Option ℕ → ℕ → Bool
is_of node n = option_map_or (λ place. place == n) node false

-- the list with the identity at its end, where the test holds
abbrev pub with_entry : Bool → ℕ → List ℕ → List ℕ
with_entry test id ids = if test then ids ++ id ∷ [] else ids

-- the list without its last identity, where the test holds
abbrev pub without_entry : Bool → List ℕ → List ℕ
without_entry test ids = if test then take (length ids - 1) ids else ids

-- the last identity of a list
abbrev pub last_of : List ℕ → Option ℕ
last_of ids = slice_get ids (length ids - 1)

-- the room of a list where so many identities were entered, if the test holds
abbrev pub spare_less : Bool → ℕ → ℕ
spare_less test spare = if test then spare - 1 else spare
