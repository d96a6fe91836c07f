-- How a run ends, and why.
use Rattle.std.specs.Prelude.{◌≡◌, ◌≢◌, ◌⊎◌, ℕ, List, Bool, true, false, Option, None, Some}
use Rattle.gd_base.specs.Counts.{RoseBy}
use Rattle.gd_bytes.specs.File.{Meaning, not_store, damaged}
use Rattle.gd_words.specs.Verbs.{Verb, dumps, restores, reads_input, prints_output}
use Rattle.gd_top.specs.declared.status.Status.{Status}
use Rattle.gd_top.specs.declared.status.Status.TheVariants as status

-- A run with this status never began: its words were out of the grammar, or its store was not opened.
abbrev pub is_refused : Status → Bool
is_refused status.Usage = true
is_refused status.DiskFault = true
is_refused status.NotStore = true
is_refused (status.Damaged offset) = true
is_refused _ = false

-- A run with this status stopped before the end of its input, but for want of memory.
abbrev pub is_stopped : Status → Bool
is_stopped status.ReadFault = true
is_stopped status.SinkFault = true
is_stopped status.TooMuch = true
is_stopped _ = false

-- A run with this status refused the text that it was to restore, or the number from which it was to dump.
abbrev pub is_of_text : Status → Bool
is_of_text (status.BadDump offset) = true
is_of_text (status.DumpFrom asked have) = true
is_of_text (status.Unfit batch) = true
is_of_text _ = false

-- the verb restores
abbrev pub is_restore : Verb → Bool
is_restore restores = true
is_restore _ = false

-- the verb restores, or dumps
abbrev pub is_of_dumps : Verb → Bool
is_of_dumps (dumps from) = true
is_of_dumps v = is_restore v

-- whether a run of a verb may end with a status: of the source's and the sink's failures only where it reads or prints, of what is said of a text only where there is one
abbrev pub may_tell : Verb → Status → Bool
may_tell v status.Usage = false
may_tell v status.ReadFault = reads_input v
may_tell v status.TooMuch = reads_input v
may_tell v status.SinkFault = prints_output v
may_tell v (status.BadDump offset) = is_restore v
may_tell v (status.Unfit batch) = is_restore v
may_tell v (status.DumpFrom asked have) = is_of_dumps v
may_tell v _ = true

-- the disk failed, or there was no memory
abbrev pub IsHindered : Status → Type 0
IsHindered s = (s ≡ status.DiskFault) ⊎ (s ≡ status.Memory)

-- over a run on the file that the words name the shelf's count of faults rose by so many, or stands at its type's end; without a file there were none
abbrev pub RisesAt : Option (List ℕ) → ℕ → ℕ → ℕ → Type 0
RisesAt None before now = λ n. n ≡ 0
RisesAt (Some path) before now = RoseBy before now

-- nothing was taken of the source, and nothing given to the sink
pub record IsIdle {S K : Type 0} (source_old source_new : S) (sink_old sink_new : K) : Type 0 where
  pub source : source_new ≡ source_old
  pub sink : sink_new ≡ sink_old

-- A run that answers round by round sends on what it prints: at each end but a failure of the sink all that the sink took is sent on, or the sink is as it was.
abbrev pub SendsRounds : {K : Type 0} → Status → (K → Bool) → (old new : K) → Type 0
SendsRounds s sent old new = s ≢ status.SinkFault → (new ≡ old) ⊎ (sent new ≡ true)

-- Why a run has this status.
pub record Causes (s : Status) (read_failed sink_failed disk_failed is_long : Type 0) (may_mean does_mean : Meaning → Type 0) : Type 0 where
  pub read_fault : s ≡ status.ReadFault → read_failed
  pub sink_fault : s ≡ status.SinkFault → sink_failed
  pub disk_fault : s ≡ status.DiskFault → disk_failed
  pub too_much : s ≡ status.TooMuch → is_long
  pub not_store_told : s ≡ status.NotStore → may_mean not_store
  pub damaged_told : (offset : ℕ) → s ≡ status.Damaged offset → may_mean (damaged offset)
  pub not_store_found : does_mean not_store → (s ≡ status.NotStore) ⊎ IsHindered s
  pub damaged_found : (offset : ℕ) → does_mean (damaged offset) → (s ≡ status.Damaged offset) ⊎ IsHindered s
