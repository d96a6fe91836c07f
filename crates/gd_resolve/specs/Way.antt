-- The way from an object up to the root.
use Rattle.std.specs.Prelude.{ℕ, zero, suc, List, [], ◌∷◌, Option, Some, None, option_map, if◌then◌else◌, ◌==◌}
use Rattle.gd_grammar.specs.Maybe.{◌>>=◌}
use Rattle.gd_prim.specs.declared.Primitive.{Primitive}
use Rattle.gd_prim.specs.Builtin.{root_place}
use Rattle.gd_prim.specs.Live.{value_at, end_at, text_of}
use Rattle.gd_defs.specs.Ids.{naming_link}

-- the key and the namespace of a key link
abbrev pub key_from : List Primitive → ℕ → Option (List ℕ × ℕ)
key_from prims k = text_of (value_at prims k) >>= λ key. end_at (λ p. p.right) prims k >>= λ namespace. Some (key, namespace)

-- the namespace of a key link, where its key is a text
abbrev pub namespace_from : List Primitive → ℕ → Option ℕ
namespace_from prims k = text_of (value_at prims k) >>= λ key. end_at (λ p. p.right) prims k

-- the key links from an object up to the root, each with a text, if at most so many lead there
abbrev pub links_up : List Primitive → ℕ → ℕ → Option (List ℕ)
links_up prims zero o = if o == root_place then Some [] else None
links_up prims (suc steps) o = if o == root_place then Some [] else naming_link prims o >>= λ k. text_of (value_at prims k) >>= λ key.
    end_at (λ p. p.right) prims k >>= λ namespace. option_map (λ ks. k ∷ ks) (links_up prims steps namespace)
