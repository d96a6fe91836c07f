-- The references by which primitives are found.
use Rattle.std.specs.Prelude.{ℕ, List, Option}
use Rattle.gd_prim.specs.declared.Primitive.{Primitive}
use Rattle.gd_prim.specs.declared.End.{End}
use Rattle.gd_prim.specs.declared.End.TheVariants.{Left, Right, Typ, Scope}
use Rattle.gd_prim.specs.Live.{refers, places_where}

-- the reference at an end of a primitive
abbrev pub end_of : End → Primitive → Option ℕ
end_of Left p = p.left
end_of Right p = p.right
end_of Typ p = p.typ
end_of Scope p = p.scope

-- the places whose primitive has this node at the end, in rising order
abbrev pub places_with : End → ℕ → List Primitive → List ℕ
places_with end node prims = places_where (λ p. refers (end_of end p) node) prims
