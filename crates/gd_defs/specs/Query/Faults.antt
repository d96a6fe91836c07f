-- Why a request is refused by its form or its meaning: a code, and the path of the member.
use Rattle.std.specs.Prelude.{ℕ, ◌+◌, List, [], ◌∷◌, Option, Result, Ok, Err, decimal}
use Rattle.std.specs.Option.{ok_or}
use Rattle.gd_grammar.specs.Chain.{◌>>=◌, map_err}
use Rattle.gd_tree.specs.Json.{Json, Items, no_items, item}

-- the codes of form, and then those of meaning; `bad_connect` is one of both
pub data Code : Type 0 where
  envelope list_form bad_word left_out bad_directive bad_operand bad_write bad_create bad_connect : Code
  bad_value bad_operator value_reversed object_form bad_sort not_met bad_previous bad_lang : Code

-- a code with the names of the members that lead to its place, from the root down
pub record Fault : Type 0 where
  pub code : Code
  pub path : List (List ℕ)

-- a fault at the root, or in the envelope round it
abbrev pub root_fault : {A : Type 0} → Code → Result A Fault
root_fault code = Err (record { code = code; path = [] })

-- the value, or where there is none a fault at the root
abbrev pub or_root : {A : Type 0} → Code → Option A → Result A Fault
or_root code x = ok_or x (record { code = code; path = [] })

-- a fault at the member of this name
abbrev pub fault : {A : Type 0} → Code → List ℕ → Result A Fault
fault code name = Err (record { code = code; path = name ∷ [] })

-- the value, or where there is none a fault at the member of this name
abbrev pub or_fault : {A : Type 0} → Code → List ℕ → Option A → Result A Fault
or_fault code name x = ok_or x (record { code = code; path = name ∷ [] })

-- the outcome of what stands below a member, whose name begins the path of a fault
abbrev pub within : {A : Type 0} → List ℕ → Result A Fault → Result A Fault
within name r = map_err (λ f. record { code = f.code; path = name ∷ f.path }) r

-- what the items of a list spell, each by a function; the number of an item, counted from this one on, begins the path of its fault
abbrev pub each_numbered : {A : Type 0} → (Json → Result A Fault) → ℕ → Items → Result (List A) Fault
each_numbered f n no_items = Ok []
each_numbered f n (item j js) = within (decimal n) (f j) >>= λ x. each_numbered f (n + 1) js >>= λ xs. Ok (x ∷ xs)
