-- Lists of identities under texts, under identities, and under pairs of both.
use Rattle.std.specs.Prelude.{ℕ, List, [], unwrap_or, slice_index_or}
use Rattle.std.specs.Ordering.{nat_cmp}
use Rattle.std.specs.Map.{lookup}
use Rattle.std.specs.BTreeMap.{is_at}
use Rattle.std.specs.Str.{bytes_eq}
use Rattle.gd_postings.specs.Postings.{Places}

-- the list where nothing was entered
abbrev pub nothing : Places
nothing = record { ids = []; spare = 0 }

-- the list under a text
abbrev pub text_list : List (List ℕ × Places) → List ℕ → Places
text_list lists text = unwrap_or (lookup (bytes_eq text) lists) nothing

-- the list of an identity, in a table by identity
abbrev pub id_list : List Places → ℕ → Places
id_list lists id = slice_index_or lists id nothing

-- the list under an identity and a text
abbrev pub pair_list : List (ℕ × List (List ℕ × Places)) → ℕ → List ℕ → Places
pair_list lists id text = text_list (unwrap_or (lookup (is_at (nat_cmp id)) lists) []) text
