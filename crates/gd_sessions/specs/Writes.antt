-- What a write does to the write side and to the session that asks for it.
use Rattle.std.specs.Prelude.{◌≡◌, ℕ, ◌+◌, ◌<◌, max, min, List, [], length, Bool, true}
use Rattle.gd_base.specs.Counts.{Rose}
use Rattle.gd_defs.specs.Write.{WriteRequest}
use Rattle.gd_runs.specs.Core.{Session}
use Rattle.gd_runs.specs.Side.{Kept, kept_stored, WriteKeeps, is_fault}
use Rattle.gd_core_laws.specs.Round.{kept_reply}
use Rattle.gd_writer.specs.Side.{SideValue, state_of}
use Rattle.gd_sessions.specs.declared.held.Held.{Held}

-- an entry that is kept as stored is among so many that are shown
abbrev pub IsShown : ℕ → Kept → Type 0
IsShown shown (kept_stored e r) = e < shown
IsShown shown _ = Unit {0}

-- a session is told what is kept of its write: it has seen an entry that is shown
abbrev pub IsToldKept : Kept → ℕ → Held → Held → Type 0
IsToldKept (kept_stored e r) shown old new = new ≡ record { seen = min shown (max (e + 1) old.seen); state = old.state }
IsToldKept _ shown old new = new ≡ old

-- a write of line k of so many bytes is carried out and its session is told, and the reply is the one to what was kept
pub record WritesFor {D C : Type 0} (may : ℕ → Bool) (faults : D → ℕ) (old : SideValue D C) (k bytes : ℕ) (w : WriteRequest) (new : SideValue D C) (before after : Held) (told_line : List ℕ) : Type 0 where
  pub kept : Kept
  pub step : (sessions : ℕ → Session) → WriteKeeps may (state_of old sessions) k bytes w kept (state_of new sessions)
  pub outcomes : new.outcomes ≡ []
  pub told : IsToldKept kept (length new.shown) before after
  pub reply : told_line ≡ kept_reply k kept
  pub fault : is_fault kept ≡ true → Rose (faults old.log.disk) (faults new.log.disk)
