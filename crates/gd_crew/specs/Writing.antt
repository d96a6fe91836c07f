-- What a turn at a write line leaves of a session.
use Rattle.std.specs.Prelude.{◌≡◌, Option, Some, None}
use mathlib.Core.List.{IsPrefix}
use Rattle.gd_shared.specs.History.{FrontValue}
use Rattle.gd_shared.specs.Shared.{longer}
use Rattle.gd_seats.specs.Session.{SessionValue}

-- a session learnt of all that a receipt is of, or nothing came and it is as it was
abbrev pub LearnsOf : Option FrontValue → SessionValue → SessionValue → Type 0
LearnsOf None old new = new ≡ old
LearnsOf (Some receipt) old new = new ≡ record old { seat = record old.seat { told = longer old.seat.told receipt.list } }

-- a session may have learnt of more, and is else as it was
pub record HasLearned (old new : SessionValue) : Type 0 where
  pub table : new.seat.history ≡ old.seat.history
  pub entered : new.seat.entered ≡ old.seat.entered
  pub told : IsPrefix old.seat.told new.seat.told
  pub turned_away : new.seat.turned_away ≡ old.seat.turned_away
  pub held : new.held ≡ old.held
