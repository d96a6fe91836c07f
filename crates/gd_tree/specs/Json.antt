-- JSON as a tree, and its compact text.
use Rattle.std.specs.Prelude.{ℕ, ◌+◌, ℤ, pos, negsuc, List, [], ◌∷◌, ◌++◌, Bool, true, false, nat_lt, ◌==◌, if◌then◌else◌, codes, decimal, flat_map}
use Rattle.gd_tree.specs.Hex.{hex}

mutual
  -- null, a truth value, a whole number, a text as its bytes, a list, or an object
  pub data Json : Type 0 where
    null : Json
    boolean : Bool → Json
    number : ℤ → Json
    text : List ℕ → Json
    list : Items → Json
    object : Members → Json

  -- the items of a list, in order
  pub data Items : Type 0 where
    no_items : Items
    item : Json → Items → Items

  -- the members of an object: names with their values, in byte order of names, each once
  pub data Members : Type 0 where
    no_members : Members
    member : List ℕ → Json → Members → Members

-- a byte of a text as it stands between quotes
abbrev pub escaped : ℕ → List ℕ
escaped c = if c == 34 then codes "\\\"" else if c == 92 then codes "\\\\" else if nat_lt 31 c then c ∷ []
    else if c == 8 then codes "\\b" else if c == 12 then codes "\\f" else if c == 10 then codes "\\n"
    else if c == 13 then codes "\\r" else if c == 9 then codes "\\t" else codes "\\u" ++ hex 4 c

-- a text in quotes
abbrev pub quoted : List ℕ → List ℕ
quoted s = 34 ∷ flat_map escaped s ++ 34 ∷ []

-- a number in decimal digits
abbrev pub number_text : ℤ → List ℕ
number_text (pos n) = decimal n
number_text (negsuc n) = 45 ∷ decimal (n + 1)

abbrev mutual
  -- the compact text of a value: without blanks, members in order of their names
  pub compact : Json → List ℕ
  compact null = codes "null"
  compact (boolean true) = codes "true"
  compact (boolean false) = codes "false"
  compact (number n) = number_text n
  compact (text s) = quoted s
  compact (list no_items) = codes "[]"
  compact (list (item j js)) = codes "[" ++ compact j ++ more_items js ++ codes "]"
  compact (object no_members) = codes "{}"
  compact (object (member k j ms)) = codes "{" ++ quoted k ++ codes ":" ++ compact j ++ more_members ms ++ codes "}"

  -- the texts of further items, a comma before each
  pub more_items : Items → List ℕ
  more_items no_items = []
  more_items (item j js) = codes "," ++ compact j ++ more_items js

  -- the texts of further members, a comma before each
  pub more_members : Members → List ℕ
  more_members no_members = []
  more_members (member k j ms) = codes "," ++ quoted k ++ codes ":" ++ compact j ++ more_members ms
