-- A template that stands for its query.
use Rattle.std.specs.Prelude.{◌≡◌, ℕ, List, [], true, ◌&&◌, Ok}
use Rattle.gd_prim.specs.declared.Primitive.{Primitive}
use Rattle.gd_prim.specs.Live.{objects, is_object}
use Rattle.gd_grammar.specs.Chain.{◌>>=◌}
use Rattle.gd_defs.specs.Asked.{Asked}
use Rattle.gd_defs.specs.Rows.{meets, meets_given, candidates, row_weight}
use Rattle.gd_defs.specs.Reply.{object_json}
use Rattle.gd_defs.specs.Template.{is_answer, passes_template, clause_lists, weight}
use Rattle.gd_defs.specs.Plan.{template_of, clauses_of}
use Rattle.gd_page_laws.specs.PassedOn.{object_shape}
use Rattle.gd_order_laws.specs.Window.{In}

-- the template of a query has its rows as answers and its candidates as what passes, weighs them as the query does, and its lists print what the query prints
pub record Planned (prims : List Primitive) (q : Asked) : Type 0 where
  pub answers : (o : ℕ) → is_answer prims (template_of q) o ≡ (is_object prims o && meets prims q.members 0 o)
  pub passes : (o : ℕ) → passes_template prims (template_of q) o ≡ (is_object prims o && meets_given prims q.members 0 o)
  pub weighs : (o : ℕ) → In o (candidates prims q) → weight prims (template_of q) o ≡ row_weight prims q o
  pub prints : (o : ℕ) → In o (objects prims) → meets prims q.members 0 o ≡ true
      → object_shape prims q.members 0 o (clause_lists prims (clauses_of q.sort q.members) o) [] ≡ (object_json prims q.members 0 o >>= λ m. Ok (m, []))
