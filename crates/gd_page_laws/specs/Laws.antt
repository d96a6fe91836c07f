-- What a page prints from the trees of its rows.
use Rattle.std.specs.Prelude.{◌≡◌, ℕ, List, [], map, Ok}
use Rattle.gd_prim.specs.declared.Primitive.{Primitive}
use Rattle.gd_grammar.specs.Chain.{◌>>=◌}
use Rattle.gd_tree.specs.Json.{object}
use Rattle.gd_defs.specs.Query.{Query}
use Rattle.gd_defs.specs.Asked.{Asked, asked_query}
use Rattle.gd_defs.specs.Rows.{Row}
use Rattle.gd_defs.specs.Reply.{each_row, as_list, object_json}
use Rattle.gd_defs.specs.Plan.{template_of, clauses_of}
use Rattle.gd_defs.specs.Template.{tree_of, clause_lists}
use Rattle.gd_runs.specs.Shape.{object_shape, page_shape}
use Rattle.gd_template_laws.specs.Laws.{AreHeld}

-- What is printed of an object from the lists of its tree, with no walks told, is what the reply prints of it.
abbrev pub ObjectsPrint : Type 0
ObjectsPrint = (prims : List Primitive) (written : Query) (q : Asked) (o : ℕ) → AreHeld prims → asked_query prims written ≡ Ok q
    → object_shape prims q.members 0 o (clause_lists prims (clauses_of q.sort q.members) o) [] ≡ (object_json prims q.members 0 o >>= λ m. Ok (m, []))

-- What a page prints from the trees of its rows, with no walks told, is what the reply prints of the rows.
abbrev pub PagesPrint : Type 0
PagesPrint = (prims : List Primitive) (written : Query) (q : Asked) (page : List Row) → AreHeld prims → asked_query prims written ≡ Ok q
    → page_shape prims q (map (λ r. tree_of prims (template_of q) r.object) page) [] ≡ as_list q.listed (each_row (λ r. object_json prims q.members 0 r.object >>= λ m. Ok (object m)) page)
