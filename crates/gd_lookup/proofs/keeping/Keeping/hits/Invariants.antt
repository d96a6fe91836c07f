use Rattle.std.proofs.Common.{◌≡◌, ◌≤◌, ◌+◌, ◌-◌, ◌^◌, map, drop, min}
use Rattle.std.specs.Prelude.{sum}
use Rattle.gd_lookup.proofs.keeping.Keeping.hits.Given as goal

abbrev pub invariant-loop-cache : goal.invariant-loop-cache
invariant-loop-cache l = record {
  small : l.total ≤ 2 ^ 64 - 1;
  all : min (l.total + sum (map (λ s. s.hits) (drop l.cache-index l.self.caches))) (2 ^ 64 - 1) ≡ min (sum (map (λ s. s.hits) l.self.caches)) (2 ^ 64 - 1);
}
