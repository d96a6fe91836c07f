use Rattle.std.proofs.Common.{◌≡◌, ◌≤◌, ◌<◌, ◌+◌, ◌*◌, drop, map, Bor, List, ℕ, true}
use Rattle.std.specs.List.{list_all}
use Rattle.gd_base.specs.Counts.{Rose}
use Rattle.gd_prim.specs.Builtin.{root_place}
use Rattle.gd_prim.specs.History.{prims_of}
use Rattle.gd_defs.specs.Ids as defined
use Rattle.gd_resolve.proofs.ids.follow.Given as goal

abbrev pub invariant-loop-key : goal.invariant-loop-key
invariant-loop-key g l = record {
  left : defined.follow (prims_of l.view) root_place (map (λ (k : Bor (List ℕ)). k.now) l.keys) ≡ defined.follow (prims_of l.view) l.object (map (λ (k : Bor (List ℕ)). k.now) (drop l.key-index l.keys));
  keys : list_all (λ (k : Bor (List ℕ)). defined.is_key k.now) (drop l.key-index l.keys) ≡ true;
  work : l.steps ≤ l.initial.steps + 30 * l.key-index;
  later : l.initial.steps ≤ l.steps;
  counted : 0 < l.key-index → Rose l.initial.steps l.steps;
}
