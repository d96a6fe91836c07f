-- A write side that has written has grown.
use Rattle.std.proofs.Common.{◌≡◌, ℕ, Bool, List, [], ◌∷◌, ◌++◌, sym, subst}
use Rattle.gd_defs.specs.Write.{WriteRequest}
use Rattle.gd_runs.specs.Side.{Told, IsLeft, told_of}
use Rattle.gd_core_laws.specs.Fronts.{GrowsTold}
use Rattle.gd_core_laws.proofs.Fronts.{grows_write}
use Rattle.gd_writer.specs.Side.{SideValue, state_of, Writes}
use Rattle.gd_writer.proofs.Told.{no_sessions}

pub side_grows : {D C : Type 0} (may : ℕ → Bool) (faults : D → ℕ) (old : SideValue D C) (k bytes : ℕ) (w : WriteRequest) (new : SideValue D C) → IsLeft old.outcomes k → Writes may faults old k bytes w new
    → GrowsTold old.history old.doubt old.outcomes new.history new.doubt new.outcomes
side_grows may faults old k bytes w new left writes = subst (λ (o : List Told). GrowsTold old.history old.doubt old.outcomes new.history new.doubt o) (sym writes.outcomes)
    (grows_write may (state_of old no_sessions) k bytes w old.outcomes writes.kept (state_of new no_sessions) left (writes.step no_sessions))
