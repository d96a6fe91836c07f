use Rattle.std.proofs.Common.{◌≡◌, ◌≤◌, vec_len, vec_capacity}
use Rattle.std.specs.Prelude.{replicate}
use Rattle.gd_cache.specs.Shown.{empty}
use Rattle.gd_lookup.proofs.keeping.Keeping.new.Given as goal

abbrev pub invariant-loop-session : goal.invariant-loop-session
invariant-loop-session l = record {
  caches : l.caches.items ≡ replicate l._session (empty l.entries.value);
  long : vec_len l.caches ≡ l._session;
  room : 64 ≤ vec_capacity l.caches;
}
