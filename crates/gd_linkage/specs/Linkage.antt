-- Lists of places by the node that they name at an end.
use Rattle.std.specs.Prelude.{◌≡◌, ℕ, ◌<◌, ◌≤◌, List, length}
use Rattle.std.specs.Option.{ForSome}
use Rattle.gd_prim.specs.declared.Primitive.{Primitive}
use Rattle.gd_prim.specs.declared.End.{End}
use Rattle.gd_prim.specs.declared.End.TheVariants.{Left, Right, Typ, Scope}
use Rattle.gd_prim.specs.End.{end_of}
use Rattle.gd_postings.specs.Postings.{Places, IsAbove}
use Rattle.gd_lists.specs.Lists.{id_list}

-- the lists of each end
pub record LinkageValue : Type 0 where
  pub left : List Places
  pub right : List Places
  pub typ : List Places
  pub scope : List Places

-- the list of a node at an end, empty where nothing was entered
abbrev pub list_of : End → ℕ → LinkageValue → Places
list_of Left node linkage = id_list linkage.left node
list_of Right node linkage = id_list linkage.right node
list_of Typ node linkage = id_list linkage.typ node
list_of Scope node linkage = id_list linkage.scope node

-- there is room for a place more in the list of each node that the primitive names
abbrev pub HasRoom : Primitive → LinkageValue → Type 0
HasRoom p linkage = (end : End) → ForSome (end_of end p) (λ node. 0 < (list_of end node linkage).spare)

-- no list has less room
abbrev pub HasNoLess : LinkageValue → LinkageValue → Type 0
HasNoLess old new = (end : End) (node : ℕ) → (list_of end node old).spare ≤ (list_of end node new).spare

-- every list has the same places
abbrev pub SamePlaces : LinkageValue → LinkageValue → Type 0
SamePlaces old new = (end : End) (node : ℕ) → (list_of end node new).ids ≡ (list_of end node old).ids

-- the place is behind those of each list that the primitive is entered in
abbrev pub IsBehind : Primitive → ℕ → LinkageValue → Type 0
IsBehind p id linkage = (end : End) → ForSome (end_of end p) (λ node. IsAbove (list_of end node linkage).ids id)

-- no list that the primitive is entered in is empty
abbrev pub HasEntries : Primitive → LinkageValue → Type 0
HasEntries p linkage = (end : End) → ForSome (end_of end p) (λ node. 0 < length (list_of end node linkage).ids)
