-- What a run that is served keeps between rounds.
use Rattle.std.proofs.Common.{◌≡◌, refl, ℕ, Bool, List, [], Option, Some, None, sym, subst, ap, ◌∙◌}
use Rattle.logbook.specs.Pages.{Book}
use Rattle.gd_prim.specs.declared.Batch.{Batch}
use Rattle.gd_shared.specs.Shared.{SeatValue, IsNewSeat}
use Rattle.gd_crew.specs.PassedOn.{SessionValue, SideValue, Begins}
use Rattle.gd_runs.specs.Legal.{Entry}
use Rattle.gd_runs.specs.Explained.{entry_at}
use Rattle.gd_runs.proofs.Rounds.{no_some, slot}
use Rattle.gd_round_lines.specs.Fresh.{IsFreshFrom}
use Rattle.gd_crew.specs.Ready.{IsIdle}

-- a session of a new seat reads nothing
pub new_idle : (table : Book) (shown : List Batch) (seat : SeatValue) (session : SessionValue) → session ≡ record { seat = seat; held = None } → IsNewSeat table shown seat → IsIdle table session
new_idle table shown seat session is new = subst (IsIdle table) (sym is) (ap (λ (s : SeatValue). s.history) new, refl)

-- no entry of a store that was just opened is of a line
pub begins_fresh : {D C : Type 0} (content : Option (List ℕ)) (given : ℕ → Bool) (may : C → ℕ → Bool) (side : SideValue D C) → Begins content given may side → IsFreshFrom 0 side.history side.doubt
begins_fresh content given may side begins k above = record {
  entries = λ e x at same.
      let (i, is, there) = slot side.history.loaded [] e x (subst (λ (es : List Entry). entry_at (record { loaded = side.history.loaded; entries = es }) e ≡ Some x) begins.entries at) in
      no_some there;
  doubted = λ x is same. no_some (sym begins.doubt ∙ is);
}
