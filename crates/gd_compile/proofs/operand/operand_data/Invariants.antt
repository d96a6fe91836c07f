use Rattle.std.proofs.Common.{◌≡◌, ◌≤◌, ◌+◌, ◌*◌, ◌++◌, drop, map, Bor, List, ℕ, Ok}
use Rattle.gd_grammar.specs.Chain.{◌>>=◌}
use Rattle.gd_prim.specs.History.{prims_of}
use Rattle.gd_defs.specs.Asked.Tests.{operand_data}
use Rattle.gd_json.specs.View.{items_view}
use Rattle.gd_tree.specs.Json.{list}
use Rattle.gd_compile.specs.Looks.{operand_steps}
use Rattle.gd_plan.specs.Seen.{expects_view}
use Rattle.gd_compile.proofs.operand.operand_data.Given as goal

abbrev pub invariant-loop-json : goal.invariant-loop-json
invariant-loop-json g l = record {
  left : operand_data (prims_of l.view) (expects_view l.expects) (map (λ (n : Bor (List ℕ)). n.now) l.path) (items_view l.operands)
      ≡ (operand_data (prims_of l.view) (expects_view l.expects) (map (λ (n : Bor (List ℕ)). n.now) l.path) (items_view (drop l.json-index l.operands)) >>= λ ds. Ok (l.read.items ++ ds));
  ids : l.steps + operand_steps (expects_view l.expects) (list (items_view (drop l.json-index l.operands))) ≤ l.initial.steps + operand_steps (expects_view l.expects) (list (items_view l.operands));
  work : l.steps ≤ l.initial.steps + 500 * l.json-index;
  later : l.initial.steps ≤ l.steps;
}
