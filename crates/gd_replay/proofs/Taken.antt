-- A line that was answered, and printed or not.
use Rattle.std.proofs.Common.{◌≡◌, ℕ, List, [], ◌∷◌, ◌++◌, Bool, Option, Result, Ok, Err, OnErr, MatchResult, ◌≤◌, refl, arith}
use Rattle.std.specs.Io.KnownBytes.{Appends}
use Rattle.gd_base.specs.Counts.{Rose, RoseBy}
use Rattle.gd_base.specs.declared.memory.Memory.{Memory}
use Rattle.gd_sessions.specs.PassedOn.{one_member}
use Rattle.gd_runs.specs.Core.{State}
use Rattle.gd_runs.specs.Pace.{DueOf, Left}
use Rattle.gd_replay_laws.specs.Paced.{LinePaces}
use Rattle.gd_replay_laws.specs.Runs.{LineOver}
use Rattle.gd_replay_laws.specs.Faults.{IsCounted}
use Rattle.gd_replay_laws.proofs.Faults.{rose_none}
use Rattle.gd_reply.specs.Replies.{reply_text}
use Rattle.gd_reply.specs.declared.reply.Reply.{Reply}
use Rattle.gd_sessions.specs.Running.{Answers}
use Rattle.gd_journal.specs.declared.fault.JournalFault.{JournalFault}
use Rattle.gd_journal.specs.declared.fault.JournalFault.TheVariants as journal
use Rattle.gd_replay.specs.declared.stop.Stop.{Stop}
use Rattle.gd_replay.specs.declared.stop.Stop.TheVariants as stop
use Rattle.gd_replay.specs.Stops.{IsHalt, IsCaused, end_faults}
use Rattle.gd_outside.specs.Gains.{GainsFront}
use Rattle.gd_replay.specs.Runs.{IsDue, IsUnmade, LinePrints, LineFront, LineLost, LineStops}

-- the reply was made and printed
pub printed_line : (told : Bool) (may : ℕ → Bool) (s t : State) (k : ℕ) (bytes : List ℕ) (old new : Option (List ℕ)) (a b : ℕ) (had has : Left) (reply : Result Reply Memory) → Answers (λ line. LineOver told one_member may s k bytes line t × IsCounted k line a b × ((d : DueOf) → LinePaces one_member d s k bytes line t had has)) reply
    → MatchResult reply (λ made. Appends old new (reply_text made ++ 10 ∷ [])) (λ none. ⊥) → LinePrints told may s k bytes t old new a b had has
printed_line told may s t k bytes old new a b had has (Ok made) answers printed = record { reply = reply_text made; line = answers.0; counted = answers.1; paced = answers.2; gained = printed }
printed_line told may s t k bytes old new a b had has (Err none) answers printed = absurd printed

-- or a front of it was
front_line : (told : Bool) (may : ℕ → Bool) (s t : State) (k : ℕ) (bytes : List ℕ) (leaves : State → Type 0) (old new : Option (List ℕ)) (a b : ℕ) (had has : Left) (reply : Result Reply Memory) → Answers (λ line. LineOver told one_member may s k bytes line t × IsCounted k line a b × ((d : DueOf) → LinePaces one_member d s k bytes line t had has)) reply
    → ((line : List ℕ) → IsDue reply line → GainsFront old new (line ++ 10 ∷ [])) → leaves t → LineFront told may s k bytes leaves old new a b had
front_line told may s t k bytes leaves old new a b had has (Ok made) answers front left = record { reply = reply_text made; state = t; line = answers.0; counted = answers.1; next = has; paced = answers.2; left = left; front = front (reply_text made) refl }
front_line told may s t k bytes leaves old new a b had has (Err none) (due, answers) front left = record { reply = due; state = t; line = answers.0; counted = answers.1; next = has; paced = answers.2; left = left; front = front due tt }

-- there was no memory for it
unmade_line : (s t : State) (leaves : State → Type 0) (old new : Option (List ℕ)) (a b : ℕ) (reply : Result Reply Memory) → IsUnmade reply old new → OnErr reply (leaves t → leaves s) → leaves t → a ≤ b → LineLost s leaves old new a b 0
unmade_line s t leaves old new a b (Ok made) unmade back left later = absurd unmade.none
unmade_line s t leaves old new a b (Err none) unmade back left later = record { left = back left; kept = unmade.kept; rose = rose_none a b later }

pub halted_line : (told : Bool) (may : ℕ → Bool) (s t : State) (k : ℕ) (bytes : List ℕ) (leaves : State → Type 0) (why : Stop) (rose : Type 0) (old new : Option (List ℕ)) (a b : ℕ) (had has : Left) (reply : Result Reply Memory) → IsHalt why rose (IsUnmade reply old new)
    → Answers (λ line. LineOver told one_member may s k bytes line t × IsCounted k line a b × ((d : DueOf) → LinePaces one_member d s k bytes line t had has)) reply → ((line : List ℕ) → IsDue reply line → GainsFront old new (line ++ 10 ∷ [])) → leaves t → OnErr reply (leaves t → leaves s) → a ≤ b
    → LineStops told may s k bytes leaves why old new a b had
halted_line told may s t k bytes leaves stop.SinkFault rose old new a b had has reply halt answers front left back later = front_line told may s t k bytes leaves old new a b had has reply answers front left
halted_line told may s t k bytes leaves stop.Memory rose old new a b had has reply halt answers front left back later = unmade_line s t leaves old new a b reply halt back left later
halted_line told may s t k bytes leaves stop.ReadFault rose old new a b had has reply halt answers front left back later = absurd halt
halted_line told may s t k bytes leaves stop.TooMuch rose old new a b had has reply halt answers front left back later = absurd halt
halted_line told may s t k bytes leaves (stop.Unopened f) rose old new a b had has reply halt answers front left back later = absurd halt
halted_line told may s t k bytes leaves (stop.Lost f) rose old new a b had has reply halt answers front left back later = absurd halt

-- its cause
pub halted_cause : (why : Stop) (rose unmade disk_failed : Type 0) → IsHalt why rose unmade → IsCaused why rose disk_failed
halted_cause stop.SinkFault rose unmade disk_failed halt = halt
halted_cause stop.Memory rose unmade disk_failed halt = tt
halted_cause stop.ReadFault rose unmade disk_failed halt = absurd halt
halted_cause stop.TooMuch rose unmade disk_failed halt = absurd halt
halted_cause (stop.Unopened f) rose unmade disk_failed halt = absurd halt
halted_cause (stop.Lost f) rose unmade disk_failed halt = absurd halt

-- the store was not opened again
pub lost_cause : (fault : JournalFault) (rose disk_failed : Type 0) → (fault ≡ journal.DiskFault → disk_failed) → IsCaused (stop.Lost fault) rose disk_failed
lost_cause journal.DiskFault rose disk_failed cause = cause refl
lost_cause journal.NotStore rose disk_failed cause = tt
lost_cause (journal.Damaged offset) rose disk_failed cause = tt
lost_cause journal.Memory rose disk_failed cause = tt

pub lost_rose : (fault : JournalFault) (a b : ℕ) → (fault ≡ journal.DiskFault → Rose a b) → a ≤ b → RoseBy a b (end_faults (Err (stop.Lost fault)))
lost_rose journal.DiskFault a b cause later = cause refl
lost_rose journal.NotStore a b cause later = rose_none a b later
lost_rose (journal.Damaged offset) a b cause later = rose_none a b later
lost_rose journal.Memory a b cause later = rose_none a b later

-- by a disk that tells its content
pub back_told : (reply : Result Reply Memory) (T A B : Type 0) → (T → OnErr reply (A → B)) → OnErr reply ((T → A) → T → B)
back_told (Ok made) T A B back = tt
back_told (Err none) T A B back = λ left tells. back tells (left tells)

-- a count that rose since then rose since before
pub rose_since : (a b c : ℕ) → a ≤ b → Rose b c → Rose a c
rose_since a b c before rose = omega (arith, before, rose)

pub caused_since : (why : Stop) (a b c d e f : ℕ) → a ≤ b → d ≤ e → IsCaused why (Rose b c) (Rose e f) → IsCaused why (Rose a c) (Rose d f)
caused_since stop.SinkFault a b c d e f sink disk caused = rose_since a b c sink caused
caused_since stop.Memory a b c d e f sink disk caused = tt
caused_since stop.ReadFault a b c d e f sink disk caused = absurd caused
caused_since stop.TooMuch a b c d e f sink disk caused = absurd caused
caused_since (stop.Unopened fault) a b c d e f sink disk caused = absurd caused
caused_since (stop.Lost journal.DiskFault) a b c d e f sink disk caused = rose_since d e f disk caused
caused_since (stop.Lost journal.NotStore) a b c d e f sink disk caused = tt
caused_since (stop.Lost (journal.Damaged offset)) a b c d e f sink disk caused = tt
caused_since (stop.Lost journal.Memory) a b c d e f sink disk caused = tt
