use Rattle.std.proofs.Common.{◌≡◌, ◌++◌, drop, map, Bor, List, ℕ}
use Rattle.gd_carry.proofs.fault.path_of.Given as goal

abbrev pub invariant-loop-name : goal.invariant-loop-name
invariant-loop-name l = l.copies.items ++ map (λ (n : Bor (List ℕ)). n.now) (drop l.name-index l.names) ≡ map (λ (n : Bor (List ℕ)). n.now) l.names
