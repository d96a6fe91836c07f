-- The parts of a line that a node takes.
use Rattle.std.specs.Prelude.{ℕ, List, [], ◌∷◌, Bool, ◌||◌, Option, Some, None, if◌then◌else◌, codes}
use Rattle.std.specs.Int.{is_in_range}
use Rattle.std.specs.List.{list_all}
use Rattle.std.specs.Result.{result_ok}
use Rattle.hex.specs.Hex.{decode_of}
use Rattle.gd_grammar.specs.Maybe.{◌>>=◌}
use Rattle.gd_tree.specs.Json.{Json}
use Rattle.gd_tree.specs.Look.{get, members_in, text_of}
use Rattle.gd_defs.specs.Change.{made_of}
use Rattle.gd_runs.specs.Request.{session_of}
use Rattle.gd_runs.specs.Replay.{number_between}

-- a hexadecimal digit in lower case
abbrev pub is_lower_digit : ℕ → Bool
is_lower_digit c = is_in_range 48 57 c || is_in_range 97 102 c

-- the bytes that a text spells, each by two hexadecimal digits in lower case
abbrev pub bytes_spelled : List ℕ → Option (List ℕ)
bytes_spelled t = if list_all is_lower_digit t then result_ok (decode_of t) else None

-- the value of the one member of an object, where it has this name
unfoldable pub sole : List ℕ → Json → Option Json
sole name j = members_in j >>= λ ms. if made_of (name ∷ []) [] ms then get name ms else None

-- an ask: from which number on, and for how many batches at most
unfoldable pub asked : Json → Option (ℕ × ℕ)
asked j = members_in j >>= λ ms. if made_of (codes "from" ∷ codes "most" ∷ []) [] ms
    then (number_between 0 4_294_967_295 (get (codes "from") ms) >>= λ n. number_between 1 256 (get (codes "most") ms) >>= λ m. Some (n, m)) else None

-- a group that is given: from which number on, and its text
unfoldable pub given_text : Json → Option (ℕ × List ℕ)
given_text j = members_in j >>= λ ms. if made_of (codes "from" ∷ codes "group" ∷ []) [] ms
    then (number_between 0 4_294_967_295 (get (codes "from") ms) >>= λ n. get (codes "group") ms >>= λ g. text_of g >>= λ t. Some (n, t)) else None

-- a group that is given: from which number on, and its bytes
abbrev pub given : Json → Option (ℕ × List ℕ)
given j = given_text j >>= λ g. bytes_spelled g.1 >>= λ bytes. Some (g.0, bytes)

-- the session of a line that is made of a session and a read
unfoldable pub reader : Json → Option ℕ
reader j = members_in j >>= λ ms. if made_of (codes "read" ∷ codes "sid" ∷ []) [] ms then session_of (get (codes "sid") ms) else None
