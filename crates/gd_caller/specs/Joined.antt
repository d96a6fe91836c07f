-- What the lines of a round are told whose workers answered some of its reads, once its writes were carried out.
use Rattle.std.specs.Prelude.{◌≡◌, ◌⊎◌, ◌<◌, ◌≤◌, ℕ, ◌+◌, List, length, map, Some, slice_get}
use Rattle.gd_prim.specs.declared.Batch.{Batch}
use Rattle.gd_tree.specs.Json.{Json}
use Rattle.gd_runs.specs.Legal.{batches}
use Rattle.gd_runs.specs.Side.{Told, kept_stored}
use Rattle.gd_core_laws.specs.Bounds.{kept_of, least_later}
use Rattle.gd_writer.specs.Side.{SideValue}
use Rattle.gd_round_lines.specs.declared.work.ReadLine.{ReadLine}
use Rattle.gd_round_lines.specs.declared.work.WriteLine.{WriteLine}
use Rattle.gd_round_lines.specs.declared.work.Works.{Works}
use Rattle.gd_round_lines.specs.declared.worked.Worked.{Worked}
use Rattle.gd_caller.specs.Told.{reply_or}
use Rattle.gd_reply.specs.Replies.{reply_text}
use Rattle.gd_round_lines.specs.Works.{write_of}
use Rattle.gd_caller.specs.Reads.{read_reply}
use Rattle.gd_round_lines.specs.Worked.{IsWorked}

-- what is kept is of one of these write lines
abbrev pub IsOfWrites : List WriteLine → Told → Type 0
IsOfWrites writes t = (x : ℕ) × (w : WriteLine) × (slice_get writes x ≡ Some w) × (w.line ≡ t.line)

-- the line at a place is a read of this session
abbrev pub IsReadAt : ℕ → List ReadLine → ℕ → ℕ → Type 0
IsReadAt first reads i s = (x : ℕ) × (r : ReadLine) × (slice_get reads x ≡ Some r) × (r.line ≡ first + i) × (r.session ≡ s)

-- the line at a place is a write of this session
abbrev pub IsWriteAt : ℕ → List WriteLine → ℕ → ℕ → Type 0
IsWriteAt first writes i s = (x : ℕ) × (w : WriteLine) × (slice_get writes x ≡ Some w) × (w.line ≡ first + i) × (w.session ≡ s)

-- the line at a place is a read or a write of this session
abbrev pub SessionAt : ℕ → List ReadLine → List WriteLine → ℕ → ℕ → Type 0
SessionAt first reads writes i s = IsReadAt first reads i s ⊎ IsWriteAt first writes i s

-- The reply to the line at a place, of whose write this was told: what was told, the reply to its read over the batches at the greatest number that fits, or what a worker kept of it, at a number that fits. What each line tells its session is at most what is given of its place.
pub data JoinedReply (first begun : ℕ) (reads : List ReadLine) (writes : List WriteLine) (batches : List Batch) (shown : ℕ) (outs : List Told) (tells : ℕ → ℕ) (j : ℕ) (told reply : List ℕ) : Type 0 where
  by_kept : reply ≡ told → ((e : ℕ) (r : Json) → kept_of outs (first + j) ≡ Some (kept_stored e r) → e + 1 ≤ tells j) → JoinedReply first begun reads writes batches shown outs tells j told reply
  by_caller : (x : ℕ) (r : ReadLine) → slice_get reads x ≡ Some r → r.line ≡ first + j → reply ≡ read_reply batches shown (map write_of writes) outs r
      → least_later (map write_of writes) outs r.line r.session shown ≤ tells j → JoinedReply first begun reads writes batches shown outs tells j told reply
  -- neither below what was shown when the round began, nor below what earlier lines of its session told it, nor above the number of a later write
  by_worker : (w : Worked) (is : IsWorked first reads batches shown j w) → reply ≡ w.reply.items → w.at ≤ tells j → begun ≤ w.at → w.at ≤ least_later (map write_of writes) outs is.read.line is.read.session shown
      → ((i : ℕ) → i < j → SessionAt first reads writes i is.read.session → tells i ≤ w.at) → JoinedReply first begun reads writes batches shown outs tells j told reply

-- The reads of a round were answered: each reply is what was told, or that to a read.
pub record AnswersReads (first begun : ℕ) (reads : List ReadLine) (writes : List WriteLine) (batches : List Batch) (shown : ℕ) (outs : List Told) (texts texts_now : List (List ℕ)) : Type 0 where
  -- what the line at a place tells at most
  pub tells : ℕ → ℕ
  pub many : length texts_now ≡ length texts
  pub each : (j : ℕ) (reply : List ℕ) → slice_get texts_now j ≡ Some reply → (told : List ℕ) × (slice_get texts j ≡ Some told) × JoinedReply first begun reads writes batches shown outs tells j told reply

-- The lines of a round were told what they came to: of each write what was kept of it, and each read was answered.
pub record AnswersJoined {D C : Type 0} (first begun : ℕ) (works : Works) (side : SideValue D C) (replies : List (List ℕ)) : Type 0 where
  -- what the line at a place tells at most
  pub tells : ℕ → ℕ
  pub many : length replies ≡ length works.replies.items
  pub each : (j : ℕ) (reply : List ℕ) → slice_get replies j ≡ Some reply → (was : List ℕ) × (slice_get (map reply_text works.replies.items) j ≡ Some was)
      × JoinedReply first begun works.reads.items works.writes.items (batches side.history) (length side.shown) side.outcomes tells j (reply_or (first + j) was (kept_of side.outcomes (first + j))) reply
