-- The names of members: an optional label, an optional `!`, a word, and an optional operator.
use Rattle.std.specs.Prelude.{ℕ, List, [], ◌∷◌, ◌++◌, length, drop, Bool, true, false, not, ◌&&◌, ◌||◌, ◌==◌, nat_lt, Option, Some, None, is_some, if◌then◌else◌, codes, bytes_eq, take_while}
use Rattle.std.specs.Char.{is_ascii_digit, is_ascii_lowercase}
use Rattle.std.specs.List.{list_any, list_all, starts_with, before_first, after_first}
use Rattle.gd_grammar.specs.Maybe.{◌>>=◌}
use Rattle.gd_defs.specs.Ids.{is_key_byte, is_key, path_keys}

-- the operator that ends a name, in the order of `|=`, `!=`, `<`, `<=`, `>`, `>=` and `~=`
pub data Operator : Type 0 where
  no_operator one_of differs below at_most above at_least words : Operator

-- a name, taken apart
pub record Name : Type 0 where
  pub spelled : List ℕ
  pub reversed : Bool
  pub word : List ℕ
  pub operator : Operator

-- the text is a label: 1 to 16 lower-case letters, digits or `_`, beginning with a letter
abbrev pub is_label : List ℕ → Bool
is_label [] = false
is_label (c ∷ cs) = is_ascii_lowercase c && nat_lt (length cs) 16 && list_all (λ d. is_ascii_lowercase d || is_ascii_digit d || d == 95) cs

-- the text is a path: one key or more, each behind a slash
abbrev pub is_path : List ℕ → Bool
is_path word = is_some (path_keys word)

-- the operator that a text is
abbrev pub operator_of : List ℕ → Option Operator
operator_of text = if bytes_eq text [] then Some no_operator
    else if bytes_eq text (codes "|=") then Some one_of else if bytes_eq text (codes "!=") then Some differs
    else if bytes_eq text (codes "<") then Some below else if bytes_eq text (codes "<=") then Some at_most
    else if bytes_eq text (codes ">") then Some above else if bytes_eq text (codes ">=") then Some at_least
    else if bytes_eq text (codes "~=") then Some words else None

-- the byte is a colon
abbrev pub is_colon : ℕ → Bool
is_colon c = c == 58

-- what stands behind the label, or all where there is no label
abbrev pub behind_label : List ℕ → List ℕ
behind_label name = if list_any is_colon name then after_first is_colon name else name

-- the name has no label, or one that is well formed
abbrev pub label_fits : List ℕ → Bool
label_fits name = not (list_any is_colon name) || is_label (before_first is_colon name)

-- the text begins with `!`
abbrev pub is_marked : List ℕ → Bool
is_marked body = starts_with ◌==◌ body (codes "!")

-- what stands behind `!`, or all where there is none
abbrev pub behind_mark : List ℕ → List ℕ
behind_mark body = if is_marked body then drop 1 body else body

-- the text may be a word: a key, a path, or the star that is left out; behind `!` a path alone
abbrev pub may_be_word : Bool → List ℕ → Bool
may_be_word reversed word = is_path word || (not reversed && (is_key word || bytes_eq word (codes "*")))

-- the front of a text that has bytes of words alone: of keys, slashes and stars
abbrev pub word_front : List ℕ → List ℕ
word_front text = take_while (λ c. is_key_byte c || c == 47 || c == 42) text

-- the name that a text spells
abbrev pub name_of : List ℕ → Option Name
name_of text =
    let reversed : Bool = is_marked (behind_label text) in
    let rest : List ℕ = behind_mark (behind_label text) in
    let word : List ℕ = word_front rest in
    operator_of (drop (length word) rest) >>= λ operator.
    if label_fits text && may_be_word reversed word then Some (record { spelled = text; reversed = reversed; word = word; operator = operator }) else None

-- the name ends with an operator
abbrev pub has_operator : Name → Bool
has_operator n = by n.operator
  where
    by : Operator → Bool
    by no_operator = false
    by _ = true

-- ---- words with a meaning of their own

-- the word is one of those that this profile leaves out
abbrev pub is_left_out : List ℕ → Bool
is_left_out word = list_any (bytes_eq word) (codes "*" ∷ codes "estimate-count" ∷ codes "count" ∷ codes "index" ∷ codes "unless_connected" ∷ codes "replace" ∷ [])

-- the word is this word of every object, by itself or as a path below `/type/object`
abbrev pub is_word : List ℕ → List ℕ → Bool
is_word own word = bytes_eq word own || bytes_eq word (codes "/type/object/" ++ own)

-- the word is `id` or `guid`
abbrev pub is_identity : List ℕ → Bool
is_identity word = is_word (codes "id") word || is_word (codes "guid") word

-- the word is computed, and asks for no property: `id`, `guid` or `timestamp`
abbrev pub is_computed : List ℕ → Bool
is_computed word = is_identity word || is_word (codes "timestamp") word

-- the word asks for the link that led to its object
abbrev pub is_link : List ℕ → Bool
is_link word = bytes_eq word (codes "link")
