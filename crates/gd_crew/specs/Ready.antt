-- Seats that are lent to the sessions of a round, and the workers that have them.
use Rattle.std.specs.Prelude.{◌≡◌, ◌⊎◌, ℕ, ◌+◌, ◌<◌, ◌≤◌, List, [], ◌∷◌, ◌++◌, length, map, None}
use Rattle.std.specs.List.{All}
use Rattle.logbook.specs.Pages.{Book}
use Rattle.gd_runs.specs.Side.{Begun}
use Rattle.gd_seats.specs.Session.{SessionValue, reads as what_reads}
use Rattle.gd_round_lines.specs.declared.work.Works.{Works}
use Rattle.gd_round_lines.specs.Works.{write_of}
use Rattle.gd_crew.specs.declared.seated.Seated.{Seated}
use Rattle.gd_crew.specs.declared.worker.Worker.{Worker}
use Rattle.gd_crew.specs.Seated.{share_of, Begins}
use Rattle.gd_crew.specs.Jobs.{AreJobs}

-- a session that nobody has is over a seat of this table, and reads nothing
abbrev pub IsIdle : Book → SessionValue → Type 0
IsIdle table session = (session.seat.history ≡ table) × (what_reads session ≡ None)

-- A session may begin with its jobs in each round whose write lines are these, and each of its read jobs is one of these reads.
pub record IsReady (table : Book) (works : Works) (s : Seated) : Type 0 where
  pub begins : (l : Begun) → l.lines ≡ map write_of works.writes.items → Begins l table s
  pub jobs : AreJobs works.reads.items (share_of s).jobs

-- the sessions of a worker may begin, and a slice has a budget
pub record IsManned (table : Book) (works : Works) (w : Worker) : Type 0 where
  pub some : 0 < w.budget
  pub most : w.budget ≤ 1_000_000
  pub sessions : All (IsReady table works) w.seated.items

-- how many seats workers have
abbrev pub lent : List Worker → ℕ
lent [] = 0
lent (w ∷ ws) = length w.seated.items + lent ws

-- a worker without a session was hired behind the others, or none was
abbrev pub MayHire : ℕ → List Worker → List Worker → Type 0
MayHire budget old new = (new ≡ old) ⊎ ((w : Worker) × (new ≡ old ++ w ∷ []) × (w.budget ≡ budget) × (w.seated.items ≡ []))
