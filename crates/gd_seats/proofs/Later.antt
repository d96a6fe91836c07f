-- Seats later on.
use Rattle.std.proofs.Common.{◌≡◌, ℕ, List, [], Result, Ok, Err, refl, sym, subst, arith, append-nil}
use mathlib.Core.List.{IsPrefix}
use Rattle.gd_prim.specs.declared.Batch.{Batch}
use Rattle.gd_runs.specs.Request.{ReadSet}
use Rattle.gd_shared.specs.Shared.{SeatValue, EnteredValue}
use Rattle.gd_read.specs.declared.reading.Progress.{Progress}
use Rattle.gd_read.specs.declared.reading.Progress.TheVariants.{Reply, Unfinished}
use Rattle.gd_seats.specs.declared.fault.SessionFault.{SessionFault}
use Rattle.gd_seats.specs.declared.fault.SessionFault.TheVariants.{Read, Shut}
use Rattle.gd_seats.specs.declared.session.Looked.{Looked}
use Rattle.gd_seats.specs.Session.{SessionValue}
use Rattle.gd_seats.specs.Calls.{IsLater, HasEntered, WasTurnedAway, BeginsOver, LooksAs, SlicesAs, MeetsAs}
use Rattle.gd_seats.proofs.Fronts.{begins_shorter}

begins_itself : (xs : List Batch) → IsPrefix xs xs
begins_itself xs = ([], append-nil xs)

-- a seat that has entered and left
pub has_entered : (old new : SeatValue) (e : EnteredValue) → ((e.history ≡ old.history) × (e.turned_away ≡ old.turned_away) × IsPrefix old.entered e.list × IsPrefix old.told e.list)
    → new ≡ record { history = e.history; entered = e.list; told = e.list; turned_away = e.turned_away } → HasEntered old new
has_entered old new e goes is = rw is record {
  table = goes.0;
  entered = goes.2;
  told = goes.3;
  enough = omega (arith, begins_shorter old.entered e.list goes.2, begins_shorter old.told e.list goes.3);
  all = refl;
  turned_away = goes.1;
}

-- is later
pub later_entered : (old new : SeatValue) → HasEntered old new → IsLater old new
later_entered old new e =
    let told : IsPrefix old.told new.told = subst (λ l. IsPrefix old.told l) (sym e.all) e.told in record {
      table = e.table;
      entered = e.entered;
      told = told;
      seen = omega (arith, e.enough);
      turned_away = omega (arith, e.turned_away);
    }

-- so is one that was turned away
pub later_turned : (old new : SessionValue) → WasTurnedAway old new → IsLater old.seat new.seat
later_turned old new w = rw w.counted record {
  table = refl;
  entered = begins_itself old.seat.entered;
  told = begins_itself old.seat.told;
  seen = omega arith;
  turned_away = omega arith;
}

-- and a session is later that met, looked for a read, began one or went on with one
pub later_met : {A : Type 0} (old new : SessionValue) (result : Result A SessionFault) → MeetsAs old new result → IsLater old.seat new.seat
later_met old new (Ok a) met = later_entered old.seat new.seat met.0
later_met old new (Err (Read f)) met = absurd met
later_met old new (Err Shut) met = later_turned old new met

pub later_begun : (shown : ℕ) (old new : SessionValue) (r : ReadSet) (result : Result ℕ SessionFault) → BeginsOver shown old new r result → IsLater old.seat new.seat
later_begun shown old new r (Ok n) begins = later_entered old.seat new.seat begins.0
later_begun shown old new r (Err (Read f)) begins = later_entered old.seat new.seat begins.0
later_begun shown old new r (Err Shut) begins = later_turned old new begins

pub later_looked : (old new : SessionValue) (r : ReadSet) (result : Result Looked SessionFault) → LooksAs old new r result → IsLater old.seat new.seat
later_looked old new r (Ok l) looks = later_entered old.seat new.seat looks.0
later_looked old new r (Err (Read f)) looks = later_entered old.seat new.seat looks.0
later_looked old new r (Err Shut) looks = later_turned old new looks

pub later_sliced : (old new : SessionValue) (k : ℕ) (result : Result Progress SessionFault) → SlicesAs old new k result → IsLater old.seat new.seat
later_sliced old new k (Ok (Reply bytes)) slices = later_entered old.seat new.seat slices.0
later_sliced old new k (Ok Unfinished) slices = later_entered old.seat new.seat slices.0
later_sliced old new k (Err (Read f)) slices = later_entered old.seat new.seat slices.0
later_sliced old new k (Err Shut) slices = later_turned old new slices
