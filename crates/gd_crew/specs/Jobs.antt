-- The jobs of a session, which refer to the reads and writes of a round.
use Rattle.std.specs.Prelude.{◌≡◌, ℕ, ◌+◌, ◌^◌, ◌<◌, ◌≤◌, ◌==◌, List, ◌++◌, length, map, filter, Option, Some, None, IfSome, slice_get}
use Rattle.std.specs.List.{AllByRecursion}
use Rattle.gd_runs.specs.Request.{ReadSet, read, write}
use Rattle.gd_mql.specs.Requests.{read_set_view, write_view}
use Rattle.gd_cache.specs.Asked.{IsKeyOf}
use Rattle.gd_cache.specs.Shown.{Shown}
use Rattle.gd_round_lines.specs.declared.work.ReadLine.{ReadLine}
use Rattle.gd_round_lines.specs.declared.work.WriteLine.{WriteLine}
use Rattle.gd_round_lines.specs.declared.work.Works.{Works}
use Rattle.gd_round_lines.specs.Works.{write_of, AreWithin, IsKeyed}
use Rattle.gd_crew.specs.Runs.{JobValue, LookValue, writes}

-- one of these reads is of this line, and asks this
pub record IsAmong (reads : List ReadLine) (line : ℕ) (q : ReadSet) : Type 0 where
  pub place : ℕ
  pub read : ReadLine
  pub there : slice_get reads place ≡ Some read
  pub line_is : read.line ≡ line
  pub asks : read_set_view read.request ≡ q

-- a job is no longer than a line may be, and if it is a read, it is one of these reads
pub record IsJob (reads : List ReadLine) (j : JobValue) : Type 0 where
  pub line : j.line < 2 ^ 63
  pub short : j.bytes ≤ 262_144
  pub among : (s : ℕ) (q : ReadSet) → j.work ≡ read s q → IsAmong reads j.line q

-- where the reply to a read may be kept, if replies are kept and the read has its text
abbrev pub look_of : Option Shown → Option (List ℕ) → Option LookValue
look_of (Some s) (Some text) = Some (record { cache = s; text = text })
look_of (Some s) None = None
look_of None key = None

-- the job of a read, whose length is told nobody
abbrev pub job_of_read : Option Shown → ReadLine → JobValue
job_of_read cache r = record { line = r.line; bytes = 0; work = read r.session (read_set_view r.request); look = look_of cache r.key }

-- the job of a write
abbrev pub job_of_write : WriteLine → JobValue
job_of_write w = record { line = w.line; bytes = w.bytes; work = write w.session (write_view w.request); look = None }

-- the reply to a job may be kept, if it may, in this cache, under the text of the read that the job is
abbrev pub IsLook : Option Shown → JobValue → Type 0
IsLook cache j = IfSome j.look (λ l. (cache ≡ Some l.cache) × ((s : ℕ) (q : ReadSet) → j.work ≡ read s q → IsKeyOf l.text q))

-- so it is of each of these jobs
abbrev pub AreLooks : Option Shown → List JobValue → Type 0
AreLooks cache jobs = AllByRecursion (IsLook cache) jobs

-- each is such a job
abbrev pub AreJobs : List ReadLine → List JobValue → Type 0
AreJobs reads jobs = AllByRecursion (IsJob reads) jobs

-- jobs of a session that has this cache, if it has one: its write jobs are those of these write lines that are of the session, in their order
pub record AreJobsOf (cache : Option Shown) (works : Works) (sid : ℕ) (jobs : List JobValue) : Type 0 where
  pub writes_are : writes jobs ≡ filter (λ a. a.session == sid) (map write_of works.writes.items)
  pub each : AreJobs works.reads.items jobs
  pub looks : AreLooks cache jobs

-- jobs were added: these write jobs, and some of the reads
pub record Adds (cache : Option Shown) (reads : List ReadLine) (more : List WriteLine) (old new : List JobValue) : Type 0 where
  pub writes_are : writes new ≡ writes old ++ map write_of more
  pub each : AreJobs reads old → AreJobs reads new
  pub looks : AreLooks cache old → AreLooks cache new

-- a read has a number that a reply tells, and the key that it may have
abbrev pub MayBeRead : ReadLine → Type 0
MayBeRead r = (r.line < 2 ^ 63) × IsKeyed r

-- the lines that were read are numbered as lines of a round may be
abbrev pub AreNumbered : Works → Type 0
AreNumbered works = (first : ℕ) × AreWithin first (first + length works.numbers.items) works × (first + length works.numbers.items < 2 ^ 63)
