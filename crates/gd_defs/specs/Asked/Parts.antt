-- What a clause asks, once its words are looked up.
use Rattle.std.specs.Prelude.{ℕ, List, Bool, Option}
use Rattle.gd_tree.specs.Json.{Json}
use Rattle.gd_defs.specs.Data.{Test}
use Rattle.gd_defs.specs.Query.{Mode}
use Rattle.gd_defs.specs.Property.{Property}

-- what a computed member tells: of its object the id, the guid or the timestamp; of the link that led there the guid, the value, the namespace or the language
pub data Own : Type 0 where
  its_id its_guid its_timestamp its_link its_value its_namespace its_lang : Own

-- what rows are sorted by: the guid, the timestamp, or the first value of a property
pub data Key : Type 0 where
  by_guid by_timestamp : Key
  by_property : Property → Key

-- a key and its direction
pub record SortKey : Type 0 where
  pub key : Key
  pub descending : Bool

-- how an answer prints: as the operand that it met, its value, its name, its id, or the members of its clause
pub data Style : Type 0 where
  as_operand : Json → Style
  as_value as_name as_id as_clause : Style

-- what a member asks of a property
pub record Asking : Type 0 where
  pub property : Property
  pub test : Test
  pub mode : Mode
  -- it is a literal, which candidates have to meet
  pub given : Bool
  -- its answers weigh one each; else the weight of their clause is added
  pub counted : Bool
  pub style : Style
  -- it prints a list; else the one answer
  pub listed : Bool
  -- two answers are one too many
  pub single : Bool
  pub sort : List SortKey
  pub limit : ℕ

-- the members of a clause: each by its name, a computed one with a test and its operand, or one that asks a property with the clause of its answers
pub data Members : Type 0 where
  no_members : Members
  own : List ℕ → Own → Test → Option Json → Members → Members
  asks : List ℕ → Asking → Members → Members → Members

-- a clause: its members and its sort keys
abbrev pub Clause : Type 0
Clause = Members × List SortKey
