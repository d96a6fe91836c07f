use Rattle.std.proofs.Common.{◌≡◌, drop, map, Ok}
use Rattle.gd_grammar.specs.Chain.{◌>>=◌}
use Rattle.gd_defs.specs.Write as write
use Rattle.gd_growing.specs.State.{so_far}
use Rattle.gd_intent.specs.Seen.{resolved_view}
use Rattle.gd_carry.specs.Outcome.{many_led}
use Rattle.gd_carry.proofs.exec.carried_all.Given as goal

abbrev pub invariant-loop-change : goal.invariant-loop-change
invariant-loop-change l = record {
  whole : write.carried_all l.stamp (so_far l.initial.growing) (map resolved_view l.changes)
      ≡ (write.carried_all l.stamp (so_far l.growing) (map resolved_view (drop l.change-index l.changes)) >>= λ d. Ok (many_led l.parts.items d));
  below : l.growing.batches ≡ l.initial.growing.batches;
}
