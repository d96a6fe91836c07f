-- Which primitives are key links.
use Rattle.std.specs.Prelude.{ℕ, List, Bool, ◌&&◌}
use Rattle.gd_prim.specs.declared.Primitive.{Primitive}
use Rattle.gd_prim.specs.Builtin.{key_place}
use Rattle.gd_prim.specs.Live.{refers, is_text}

-- the primitive is a link of this key into this namespace
abbrev pub is_key_link : ℕ → List ℕ → Primitive → Bool
is_key_link namespace key p = refers p.typ key_place && refers p.right namespace && is_text key p.value

-- the primitive is a key link of this object, into whatever namespace
abbrev pub is_key_of : ℕ → Primitive → Bool
is_key_of object p = refers p.typ key_place && refers p.left object
