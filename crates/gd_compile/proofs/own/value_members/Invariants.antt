use Rattle.std.proofs.Common.{◌≡◌, ◌≤◌, ◌+◌, map, Bor, List, ℕ, Ok}
use Rattle.gd_grammar.specs.Chain.{◌>>=◌}
use Rattle.gd_prim.specs.History.{prims_of}
use Rattle.gd_defs.specs.Asked as defs
use Rattle.gd_mql.specs.Clauses.{left}
use Rattle.gd_plan.specs.Seen.{expects_view}
use Rattle.gd_compile.specs.Looks.{value_looks}
use Rattle.gd_compile.specs.Walk.{in_front, parts_count}
use Rattle.gd_compile.proofs.own.value_members.Given as goal

abbrev pub invariant-loop-part : goal.invariant-loop-part
invariant-loop-part g l = record {
  whole : defs.value_members (prims_of l.view) (expects_view l.expects) (map (λ (n : Bor (List ℕ)). n.now) l.path) (left l.members)
      ≡ (defs.value_members (prims_of l.view) (expects_view l.expects) (map (λ (n : Bor (List ℕ)). n.now) l.path) (left l.rest) >>= λ c. Ok (in_front l.gathered c));
  looks : l.steps + value_looks (prims_of l.view) (expects_view l.expects) (left l.rest) ≤ l.initial.steps + value_looks (prims_of l.view) (expects_view l.expects) (left l.members);
  later : l.initial.steps ≤ l.steps;
}

abbrev pub decreases-loop-part : goal.decreases-loop-part
decreases-loop-part g l = parts_count (left l.rest)
