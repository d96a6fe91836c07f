use Rattle.std.proofs.Common.{◌≡◌, ◌<◌, ℕ, All, false, slice_index_or}
use Rattle.gd_crew.specs.Round.{begun}
use Rattle.gd_crew.specs.declared.seated.Seated.{Seated}
use Rattle.gd_crew.specs.Runs.{IsOver}
use Rattle.gd_crew.specs.Seated.{share_of, IsStarted, AllGo}
use Rattle.gd_crew.proofs.worker.pass.Given as goal

abbrev pub invariant-loop-k : goal.invariant-loop-k
invariant-loop-k g l =
    All (IsStarted (begun g.L.Round.named) g.L.Round.named.table) l.seated × AllGo (begun g.L.Round.named) g.L.Round.named.table l.fn.seated l.seated
    × (l.going ≡ false → (i : ℕ) (d : Seated) → i < l.k → IsOver (share_of (slice_index_or l.seated i d)))
