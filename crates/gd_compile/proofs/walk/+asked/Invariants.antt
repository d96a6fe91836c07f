use Rattle.std.proofs.Common.{◌≡◌, ◌≤◌, ◌*◌, ◌+◌, ◌⊎◌, true, map, Bor, List, ℕ, Ok}
use Rattle.gd_grammar.specs.Chain.{◌>>=◌}
use Rattle.gd_base.specs.Counts.{Rose}
use Rattle.gd_prim.specs.History.{prims_of}
use Rattle.gd_defs.specs.Asked as defs
use Rattle.gd_form_laws.specs.Spelled.{forms_depth, form_depth}
use Rattle.gd_mql.specs.Clauses.{clause_view, form_view, left}
use Rattle.gd_compile.specs.Looks.{looks}
use Rattle.gd_compile.specs.Walk.{asks_property, in_front, parts_count, part_depth}
use Rattle.gd_compile.proofs.walk.+asked.Given as goal

abbrev pub invariant-asked-loop-part : goal.invariant-asked-loop-part
invariant-asked-loop-part g l = record {
  whole : defs.asked (prims_of l.view) l.context (map (λ (n : Bor (List ℕ)). n.now) l.path) (left l.members)
      ≡ (defs.asked (prims_of l.view) l.context (map (λ (n : Bor (List ℕ)). n.now) l.path) (left l.rest) >>= λ c. Ok (in_front l.gathered c));
  depth : forms_depth (left l.rest) ≤ forms_depth (left l.members);
  looks : l.steps + looks (prims_of l.view) l.context (left l.rest) ≤ l.initial.steps + looks (prims_of l.view) l.context (left l.members);
  later : l.initial.steps ≤ l.steps;
  counted : asks_property (left l.members) ≡ true → (asks_property (left l.rest) ≡ true) ⊎ Rose l.initial.steps l.steps;
}

abbrev pub decreases-asked-loop-part : goal.decreases-asked-loop-part
decreases-asked-loop-part g l = parts_count (left l.rest)

abbrev pub decreases-asked : goal.decreases-asked
decreases-asked g l = 7 * forms_depth (left l.members.now) + 3

abbrev pub decreases-add_part : goal.decreases-add_part
decreases-add_part g l = 7 * part_depth l.part.now + 2

abbrev pub decreases-asked_member : goal.decreases-asked_member
decreases-asked_member g l = 7 * form_depth (form_view l.form.now) + 1

abbrev pub decreases-asked_form : goal.decreases-asked_form
decreases-asked_form g l = 7 * form_depth (form_view l.form.now)

abbrev pub decreases-asked_object : goal.decreases-asked_object
decreases-asked_object g l = 7 * forms_depth (clause_view l.clause.now).1 + 6

abbrev pub decreases-asked_below : goal.decreases-asked_below
decreases-asked_below g l = 7 * forms_depth (clause_view l.clause.now).1 + 5

abbrev pub decreases-asked_clause : goal.decreases-asked_clause
decreases-asked_clause g l = 7 * forms_depth (clause_view l.clause.now).1 + 4
