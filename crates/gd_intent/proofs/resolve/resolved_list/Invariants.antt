use Rattle.std.proofs.Common.{◌≡◌, ◌≤◌, ◌++◌, map, drop, Ok}
use Rattle.gd_grammar.specs.Chain.{◌>>=◌}
use Rattle.gd_prim.specs.History.{prims_of}
use Rattle.gd_defs.specs.Write.{numbered, resolved_all}
use Rattle.gd_mql.specs.Requests.{asked_change}
use Rattle.gd_intent.specs.Seen.{resolved_view}
use Rattle.gd_intent.proofs.resolve.resolved_list.Given as goal

abbrev pub invariant-loop-number : goal.invariant-loop-number
invariant-loop-number g l = record {
  whole : resolved_all (prims_of l.view) (numbered 0 (map asked_change l.requests))
      ≡ (resolved_all (prims_of l.view) (numbered l.number (map asked_change (drop l.number l.requests))) >>= λ rs. Ok (map resolved_view l.changes.items ++ rs));
  later : l.initial.steps ≤ l.steps;
}
