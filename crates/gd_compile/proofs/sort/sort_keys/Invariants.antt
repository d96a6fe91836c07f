use Rattle.std.proofs.Common.{◌≡◌, ◌≤◌, ◌+◌, ◌-◌, ◌++◌, drop, length, map, Bor, List, ℕ, Ok}
use Rattle.gd_grammar.specs.Chain.{◌>>=◌}
use Rattle.gd_prim.specs.History.{prims_of}
use Rattle.gd_defs.specs.Asked as defs
use Rattle.gd_mql.specs.Clauses.{sort_view}
use Rattle.std.specs.Prelude.{sum_by}
use Rattle.gd_compile.specs.Looks.{sort_steps}
use Rattle.gd_plan.specs.Seen.{sort_key_view}
use Rattle.gd_compile.proofs.sort.sort_keys.Given as goal

abbrev pub invariant-loop-word : goal.invariant-loop-word
invariant-loop-word g l = record {
  left : defs.sort_keys (prims_of l.view) l.context (map (λ (n : Bor (List ℕ)). n.now) l.path) (sort_view l.words)
      ≡ (defs.sort_keys (prims_of l.view) l.context (map (λ (n : Bor (List ℕ)). n.now) l.path) (drop l.index (sort_view l.words)) >>= λ ks. Ok (map sort_key_view l.keys.items ++ ks));
  within : l.index ≤ length (sort_view l.words);
  looks : l.steps + sum_by (sort_steps (prims_of l.view) l.context) (drop l.index (sort_view l.words)) ≤ l.initial.steps + sum_by (sort_steps (prims_of l.view) l.context) (sort_view l.words);
  later : l.initial.steps ≤ l.steps;
}

abbrev pub decreases-loop-word : goal.decreases-loop-word
decreases-loop-word g l = length (sort_view l.words) - l.index
