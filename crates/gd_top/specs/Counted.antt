-- What a run of lines prints whose sessions keep replies.
use Rattle.std.specs.Prelude.{◌≡◌, ◌⊎◌, ◌-◌, ◌^◌, ℕ, sum, map, min, List, [], ◌∷◌, ◌++◌, length, Bool, true, Option, Some, None, IfSome, codes, decimal}
use Rattle.std.specs.Io.KnownBytes.{Appends}
use Rattle.gd_prim.specs.declared.Batch.{Batch}
use Rattle.gd_runs.specs.Legal.{History}
use Rattle.gd_runs.specs.Explained.{Numbered, Run, lines_of}
use Rattle.gd_threads.specs.PassedOn.{KeepingValue, CountsLines, AreCounts, printed}
use Rattle.gd_round_lines.specs.Works.{texts_of}
use Rattle.gd_top.specs.declared.status.Status.{Status}
use Rattle.gd_top.specs.declared.status.Status.TheVariants as status
use Rattle.gd_top.specs.Ends.{is_refused, is_stopped}
use Rattle.gd_top.specs.Serves.{Accounts, ServesFront, ServesRounds, PrintsLines}

-- the line that tells how many reads found their reply kept, how many were answered, and how many puts found no memory
abbrev pub counts_line : ℕ → ℕ → ℕ → List ℕ
counts_line hits reads refused = (codes "{\"cache\":{\"hits\":" ++ decimal hits) ++ (codes ",\"reads\":" ++ decimal reads) ++ ((codes ",\"refused\":" ++ decimal refused) ++ codes "}}")

-- the hits that sessions counted together, and the puts that found no memory
abbrev pub hits_in : KeepingValue → ℕ
hits_in k = min (sum (map (λ s. s.hits) k.caches)) (2 ^ 64 - 1)

abbrev pub refused_in : KeepingValue → ℕ
refused_in k = min (sum (map (λ s. s.refused) k.caches)) (2 ^ 64 - 1)

-- the line of the counts of what sessions keep
abbrev pub line_of : KeepingValue → List ℕ
line_of k = counts_line (hits_in k) k.reads (refused_in k)

-- The line tells the counts of a run that printed this output for these lines, and whose sessions keep so many replies each.
pub record TellsCounts (n : ℕ) (given : List Numbered) (output line : List ℕ) : Type 0 where
  pub replies : List (List ℕ)
  pub many : length replies ≡ length given
  pub prints : output ≡ printed replies
  pub hits : ℕ
  pub reads : ℕ
  pub refused : ℕ
  pub counts : AreCounts n (texts_of given) replies hits reads refused
  pub is : line ≡ counts_line hits reads refused

-- the sink gained an output for the input that a legal history explains, and behind it the line of its counts
pub record ServesCounted (n : ℕ) (may : ℕ → Bool) (begins : List Batch → Type 0) (leaves : History → List Run → Type 0) (rises : ℕ → Type 0) (old new : Option (List ℕ)) (input : List ℕ) : Type 0 where
  pub output : List ℕ
  pub accounts : Accounts may begins leaves rises (lines_of input) output
  pub line : List ℕ
  pub tells : TellsCounts n (lines_of input) output line
  pub gained : Appends old new (output ++ (line ++ 10 ∷ []))

-- the sink gained a front of an output and the line of its counts
pub record ServesCountedFront (n : ℕ) (may : ℕ → Bool) (begins : List Batch → Type 0) (leaves : History → List Run → Type 0) (rises : ℕ → Type 0) (old new : Option (List ℕ)) (input : List ℕ) : Type 0 where
  pub output : List ℕ
  pub accounts : Accounts may begins leaves rises (lines_of input) output
  pub line : List ℕ
  pub tells : TellsCounts n (lines_of input) output line
  pub piece : List ℕ
  pub rest : List ℕ
  pub parts : piece ++ rest ≡ output ++ (line ++ 10 ∷ [])
  pub gained : Appends old new piece

-- a front of an output, or of an output and the line of its counts
abbrev pub ServesEither : ℕ → (ℕ → Bool) → (List Batch → Type 0) → (History → List Run → Type 0) → (ℕ → Type 0) → (old new : Option (List ℕ)) → List ℕ → Type 0
ServesEither n may begins leaves rises old new input = ServesFront may begins leaves rises old new input ⊎ ServesCountedFront n may begins leaves rises old new input

-- What a run of lines with this status printed whose sessions keep so many replies each: for all lines of the input an output that is explained, and the line of its counts; else what a run without that printed, or a front of the output and the line.
pub record PrintsCounted (n : ℕ) (s : Status) (may : ℕ → Bool) (begins : List Batch → Type 0) (leaves : History → List Run → Type 0) (rises : ℕ → Type 0) (unbegun : Type 0) (left left_now held_old held_new : Option (List ℕ)) : Type 0 where
  pub done : s ≡ status.Done → IfSome left (ServesCounted n may begins leaves rises held_old held_new)
  pub rounds : (s ≡ status.ReadFault) ⊎ (s ≡ status.TooMuch) → IfSome left (ServesRounds may begins leaves rises held_old held_new left_now)
  pub front : is_stopped s ≡ true → IfSome left (ServesEither n may begins leaves rises held_old held_new)
  pub memory : s ≡ status.Memory → unbegun ⊎ IfSome left (ServesFront may begins leaves rises held_old held_new)
  pub nothing : is_refused s ≡ true → unbegun

-- what a run of lines printed, whose sessions keep so many replies each, or none
abbrev pub PrintsServed : Option ℕ → Status → (ℕ → Bool) → (List Batch → Type 0) → (History → List Run → Type 0) → (ℕ → Type 0) → Type 0 → (left left_now held_old held_new : Option (List ℕ)) → Type 0
PrintsServed None s may begins leaves rises unbegun left left_now held_old held_new = PrintsLines s may begins leaves rises unbegun left left_now held_old held_new
PrintsServed (Some n) s may begins leaves rises unbegun left left_now held_old held_new = PrintsCounted n s may begins leaves rises unbegun left left_now held_old held_new

-- the sink gained an output for the input that a legal history explains, whose answers to reads were counted in what sessions keep
pub record ServesKeeping (may : ℕ → Bool) (begins : List Batch → Type 0) (leaves : History → List Run → Type 0) (rises : ℕ → Type 0) (old new : Option (List ℕ)) (had has : KeepingValue) (input : List ℕ) : Type 0 where
  pub output : List ℕ
  pub accounts : Accounts may begins leaves rises (lines_of input) output
  pub gained : Appends old new output
  pub replies : List (List ℕ)
  pub many : length replies ≡ length (lines_of input)
  pub prints : output ≡ printed replies
  pub counted : CountsLines 0 (texts_of (lines_of input)) replies had has
