-- Walks that spell the ids of a page as others do.
use Rattle.std.specs.Prelude.{◌≡◌, ℕ, List, [], ◌∷◌, ◌++◌, drop, length}
use Rattle.gd_prim.specs.declared.Primitive.{Primitive}
use Rattle.gd_tree.specs.Trees.{Tree}
use Rattle.gd_bytes.specs.Frozen.{Walk}
use Rattle.gd_defs.specs.Ids.{id_text}
use Rattle.gd_defs.specs.Asked.{Asked}
use Rattle.gd_runs.specs.Shape.{walk_text, page_shape}
use Rattle.gd_match_laws.specs.Walks.{rows_listed, Tell}

-- the id of an object by the first of the walks that are left, or as it is found where none is
abbrev pub spelled : List Primitive → ℕ → List Walk → List ℕ
spelled prims o [] = id_text prims o
spelled prims o (w ∷ ws) = walk_text prims o w

-- the walks behind the first
abbrev pub behind : List Walk → List Walk
behind [] = []
behind (w ∷ ws) = ws

-- walks spell the ids of objects, one after another, as others do
abbrev pub SpellAlike : List Primitive → List ℕ → List Walk → List Walk → Type 0
SpellAlike prims [] ws vs = Unit {0}
SpellAlike prims (o ∷ os) ws vs = (spelled prims o ws ≡ spelled prims o vs) × SpellAlike prims os (behind ws) (behind vs)

-- Pages print the same with walks that spell their ids alike.
abbrev pub AlikePrint : Type 0
AlikePrint = (prims : List Primitive) (q : Asked) (ts : List Tree) (ws vs : List Walk) → SpellAlike prims (rows_listed prims q.members ts) ws vs → page_shape prims q ts ws ≡ page_shape prims q ts vs

-- Behind any walks of a page, walks that tell the next ids as they are found leave what it prints.
abbrev pub MorePrint : Type 0
MorePrint = (prims : List Primitive) (q : Asked) (ts : List Tree) (ws vs : List Walk) → Tell prims vs (drop (length ws) (rows_listed prims q.members ts)) → page_shape prims q ts (ws ++ vs) ≡ page_shape prims q ts ws
