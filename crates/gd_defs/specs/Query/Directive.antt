-- Directives of a clause: `optional`, `sort`, `limit` and `return`.
use Rattle.std.specs.Prelude.{ℕ, pos, ◌==◌, List, [], ◌∷◌, drop, Bool, true, false, ◌&&◌, ◌||◌, Option, Some, None, option_map, if◌then◌else◌, codes, bytes_eq}
use Rattle.std.specs.Int.{is_in_range}
use Rattle.std.specs.List.{list_any, starts_with}
use Rattle.gd_grammar.specs.Maybe.{◌>>=◌}
use Rattle.gd_tree.specs.Json.{Json, boolean, number, text, list, Items, no_items, item}
use Rattle.gd_tree.specs.Look.{items_len}
use Rattle.gd_defs.specs.Ids.{is_key}
use Rattle.gd_defs.specs.Query.Names.{is_path}

-- what a clause asks of its answers: one at least, nothing, none
pub data Mode : Type 0 where
  required optional forbidden : Mode

-- a word by which rows are sorted, upward or downward
pub record SortWord : Type 0 where
  pub descending : Bool
  pub word : List ℕ

-- the directives of a clause but for `sort`; the mode is absent where `optional` does not stand in it
pub record Directives : Type 0 where
  pub mode : Option Mode
  pub limit : Option ℕ
  pub count : Bool

-- the directives of a clause in which none stands
abbrev pub no_directives : Directives
no_directives = record { mode = None; limit = None; count = false }

-- the name is that of a directive
abbrev pub is_directive : List ℕ → Bool
is_directive name = list_any (bytes_eq name) (codes "optional" ∷ codes "sort" ∷ codes "limit" ∷ codes "return" ∷ [])

-- the mode that the value of `optional` spells
abbrev pub mode_of : Json → Option Mode
mode_of (boolean true) = Some optional
mode_of (boolean false) = Some required
mode_of (text t) = if bytes_eq t (codes "optional") then Some optional else if bytes_eq t (codes "required") then Some required
    else if bytes_eq t (codes "forbidden") then Some forbidden else None
mode_of _ = None

-- the limit that the value of `limit` spells: 1 to 1,000
abbrev pub limit_of : Json → Option ℕ
limit_of (number (pos n)) = if is_in_range 1 1000 n then Some n else None
limit_of _ = None

-- the text may be a sort word: a key or a path
abbrev pub may_sort : List ℕ → Bool
may_sort word = is_key word || is_path word

-- the sort word that a text spells, downward behind `-`
abbrev pub sort_word : List ℕ → Option SortWord
sort_word t =
    if starts_with ◌==◌ t (codes "-") && may_sort (drop 1 t) then Some (record { descending = true; word = drop 1 t })
    else if may_sort t then Some (record { descending = false; word = t }) else None

-- the sort words that a list of texts spells
abbrev pub sort_words : Items → Option (List SortWord)
sort_words no_items = Some []
sort_words (item (text t) js) = sort_word t >>= λ w. option_map (λ ws. w ∷ ws) (sort_words js)
sort_words (item _ js) = None

-- the sort words that the value of `sort` spells: one, or a list of 1 to 4
abbrev pub sort_of : Json → Option (List SortWord)
sort_of (text t) = option_map (λ w. w ∷ []) (sort_word t)
sort_of (list js) = if is_in_range 1 4 (items_len js) then sort_words js else None
sort_of _ = None

-- the value of `return` is `count`, the only one that there is
abbrev pub is_count : Json → Bool
is_count (text t) = bytes_eq t (codes "count")
is_count _ = false
