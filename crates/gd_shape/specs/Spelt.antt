-- How a link of a walk is spelled.
use Rattle.std.specs.Prelude.{ℕ, List, [], ◌++◌, unwrap_or, codes}
use Rattle.gd_prim.specs.declared.Primitive.{Primitive}
use Rattle.gd_prim.specs.Live.{value_at, text_of}

-- a slash and the text at a place, if one stands there
abbrev pub link_text : List Primitive → ℕ → List ℕ
link_text prims k = codes "/" ++ unwrap_or (text_of (value_at prims k)) []
