-- What contracts see of a session, and what it keeps.
use Rattle.std.specs.Prelude.{ℕ, length, max, Option, option_map}
use Rattle.gd_runs.specs.Core as core
use Rattle.gd_shared.specs.Shared.{SeatValue}
use Rattle.gd_read.specs.Reading.{reading_view}
use Rattle.gd_read.specs.Session.{session_left}
use Rattle.gd_read.specs.declared.reading.Reading.{Reading}

-- the seat of a session, and the reading that it holds
pub record SessionValue : Type 0 where
  pub seat : SeatValue
  pub held : Option Reading

-- what it reads, as the definitions have it
abbrev pub reads : SessionValue → Option core.Reading
reads session = option_map reading_view session.held

-- how much a seat has seen: the number of batches of the longest list that it entered or was told of
abbrev pub seen_of : SeatValue → ℕ
seen_of seat = max (length seat.entered) (length seat.told)

-- how much is left of the reading that is held, at most: nothing where none is; `n` is a number that no id reaches
abbrev pub left_of : ℕ → SessionValue → ℕ
left_of n session = session_left n session.seat.entered (record { reading = session.held })
