-- How many places are looked at below a place by a template.
use Rattle.std.specs.Prelude.{ℕ, ◌+◌, List, sum_by, if◌then◌else◌}
use Rattle.gd_prim.specs.declared.Primitive.{Primitive}
use Rattle.gd_defs.specs.Template.{Template, template, Clauses, no_clauses, clause, led_to, meets_constraints}
use Rattle.gd_work_laws.specs.Turns.{looked_at}

abbrev mutual
  -- a place that meets the constraints, and what is looked at below it; none of another
  pub reached : List Primitive → Template → ℕ → ℕ
  reached prims (template cs clauses) place = if meets_constraints prims cs place then 1 + clauses_reached prims clauses place else 0

  -- the places that are looked at by clauses, and what is below them
  pub clauses_reached : List Primitive → Clauses → ℕ → ℕ
  clauses_reached prims no_clauses place = 0
  clauses_reached prims (clause mode hop t rest) place = looked_at prims hop t place + sum_by (reached prims t) (led_to prims hop place) + clauses_reached prims rest place
