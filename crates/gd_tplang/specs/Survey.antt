-- A walk over the text of a template that keeps of it only whether a text in it is no pattern, and how many templates lie one within the other.
use Rattle.std.specs.Prelude.{ℕ, zero, suc, ◌+◌, ◌-◌, ◌≤◌, ◌≡◌, max, List, [], ◌∷◌, length, Bool, ◌||◌, nat_lt, Result, Ok, Err, if◌then◌else◌, codes}
use Rattle.gd_grammar.specs.Chain.{◌>>=◌}
use Rattle.gd_grammar.specs.Grammar.{Reads, text_at, ended}
use Rattle.gd_defs.specs.Template.{depth, clauses_depth}
use Rattle.gd_grammar.specs.Choice.{seen_at}
use Rattle.gd_tplang.specs.Written.{Item, Items, item, item_at, rest_at, items_at, template_at}
use Rattle.gd_tplang.specs.Meaning.{clauses_in, has_bad, meaning}

-- a text is no pattern, and so many templates lie one within the other
pub record Marks : Type 0 where
  pub bad : Bool
  pub deepest : ℕ

-- the walk: how many items each open template has, the innermost first, and what was seen so far
pub record Walk : Type 0 where
  pub counts : List ℕ
  pub bad : Bool
  pub deepest : ℕ

-- the marks so far
abbrev pub marks : Walk → Marks
marks w = record { bad = w.bad; deepest = w.deepest }

-- how many items the innermost open template has
abbrev pub top : List ℕ → ℕ
top [] = 0
top (c ∷ cs) = c

-- the counts of the templates around it
abbrev pub others : List ℕ → List ℕ
others [] = []
others (c ∷ cs) = cs

-- so many templates lie one within the other below items
abbrev pub below : Items → ℕ
below t = clauses_depth (clauses_in t)

-- what a template is marked with
abbrev pub marks_of : Items → Marks
marks_of t = record { bad = has_bad t; deepest = depth (meaning t) }

-- the marks with those of items at so many levels
abbrev pub adds : ℕ → Items → Marks → Marks
adds level t m = record { bad = m.bad || has_bad t; deepest = max m.deepest (level + below t) }

-- reads the rest of a template that has so many items
abbrev pub level_at : (List ℕ → Reads Items) → ℕ → List ℕ → Reads Items
level_at inner zero bytes = items_at inner bytes
level_at inner (suc c) bytes = rest_at inner (64 - suc c) bytes

-- reads the rest of the open templates, the innermost first, where templates of at most so many levels may lie one within the other
abbrev pub finish : ℕ → List ℕ → Marks → List ℕ → Reads Marks
finish k [] m bytes = Ok (m, bytes)
finish k (c ∷ cs) m bytes = level_at (template_at (k - suc (length cs))) c bytes >>= λ t. finish k cs (adds (suc (length cs)) t.0 m) t.1

-- reads the rest behind an item, which is counted already
abbrev pub goes_on : ℕ → ℕ → List ℕ → Marks → Item → List ℕ → Reads Marks
goes_on k c cs m i bytes = level_at (template_at (k - suc (length cs))) c bytes >>= λ t. finish k cs (adds (suc (length cs)) (item i t.0) m) t.1

-- reads an item, which is counted already, and the rest
abbrev pub enters : ℕ → ℕ → List ℕ → Marks → List ℕ → Reads Marks
enters k c cs m bytes = item_at (template_at (k - suc (length cs))) bytes >>= λ i. goes_on k c cs m i.0 i.1

-- reads what stands before a further item: a space, unless it is the first one
abbrev pub space_at : ℕ → List ℕ → Reads (Unit {0})
space_at zero bytes = Ok (tt, bytes)
space_at (suc c) bytes = if nat_lt (suc c) 64 then text_at (codes " ") bytes else Err bytes

-- a template is open
abbrev pub IsOpen : Walk → Type 0
IsOpen w = w.counts ≡ top w.counts ∷ others w.counts

-- the bytes are enough for the levels that may be needed
abbrev pub Enough : ℕ → List ℕ → List ℕ → Type 0
Enough k counts bytes = length bytes + length counts ≤ k

-- the marks of the template that all of the bytes spell
abbrev pub surveyed : List ℕ → Result Marks (List ℕ)
surveyed bytes = seen_at marks_of (template_at (length bytes)) bytes >>= ended
