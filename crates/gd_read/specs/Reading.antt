-- What a reading stands for, and what its slices give.
use Rattle.std.specs.Prelude.{◌≡◌, ℕ, List, Bool, true, false}
use Rattle.gd_prim.specs.declared.Batch.{Batch}
use Rattle.gd_runs.specs.Core as core
use Rattle.gd_read.specs.Query.{one_view, QueryGoes}
use Rattle.gd_read.specs.Several.{several_view, SeveralGo}
use Rattle.gd_read.specs.declared.reading.Reading.{Reading}
use Rattle.gd_read.specs.declared.reading.Reading.TheVariants as reading
use Rattle.gd_read.specs.declared.reading.Progress.{Progress}
use Rattle.gd_read.specs.declared.reading.Progress.TheVariants.{Reply, Unfinished}

-- the reading of the core
abbrev pub reading_view : Reading → core.Reading
reading_view (reading.One r) = one_view r
reading_view (reading.Several r) = several_view r

-- a reading goes on over the batches below its dateline, and owes its reply there
abbrev pub IsGoing : List Batch → Reading → Type 0
IsGoing batches (reading.One r) = QueryGoes batches r
IsGoing batches (reading.Several r) = SeveralGo batches r

-- a slice that came to a reply tells what is owed
abbrev pub Replies : List ℕ → Progress → Type 0
Replies owed (Reply bytes) = bytes.items ≡ owed
Replies owed Unfinished = Unit {0}

-- a slice came to no reply
abbrev pub is_unfinished : Progress → Bool
is_unfinished (Reply bytes) = false
is_unfinished Unfinished = true
