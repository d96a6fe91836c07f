-- The cursors that pages tell.
use Rattle.std.specs.Prelude.{◌≡◌, ◌≢◌, ◌⊎◌, ◌<◌, ℕ, List, [], ◌∷◌, false}
use Rattle.gd_tree.specs.Json.{Json, boolean, text}

-- each byte is one of ASCII that stands between quotes as it is
abbrev pub Clear : List ℕ → Type 0
Clear [] = Unit {0}
Clear (c ∷ cs) = (c ≢ 34) × (c ≢ 92) × (31 < c) × (c < 128) × Clear cs

-- a cursor that a page may tell: false, or a text that stands between quotes as it is
abbrev pub IsCursor : Json → Type 0
IsCursor c = (c ≡ boolean false) ⊎ ((t : List ℕ) × (c ≡ text t) × Clear t)
