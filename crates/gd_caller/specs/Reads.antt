-- What answering the reads of a round does to its replies.
use Rattle.std.specs.Prelude.{◌≡◌, ◌⊎◌, ◌≤◌, ℕ, ◌-◌, List, map, take, Option, Some, slice_get, slice_set}
use Rattle.gd_prim.specs.declared.Batch.{Batch}
use Rattle.gd_runs.specs.Request.{reply_of}
use Rattle.gd_runs.specs.Side.{Told, WriteLine}
use Rattle.gd_mql.specs.Requests.{read_set_view}
use Rattle.gd_core_laws.specs.Bounds.{least_later}
use Rattle.gd_round_lines.specs.declared.work.ReadLine.{ReadLine}
use Rattle.gd_round_lines.specs.declared.work.WriteLine.{WriteLine as Written}
use Rattle.gd_round_lines.specs.declared.worked.Worked.{Worked}
use Rattle.gd_round_lines.specs.Works.{write_of}
use Rattle.gd_caller.specs.Fits.{FollowsWrites}

-- the reply to a read over batches, so many of which are shown, at the greatest number that fits it
abbrev pub read_reply : List Batch → ℕ → List WriteLine → List Told → ReadLine → List ℕ
read_reply batches shown writes outs r = reply_of batches (least_later writes outs r.line r.session shown) r.line (read_set_view r.request)

-- What a worker kept of a read is the reply to it, at a number of what is shown.
abbrev pub IsReplyTo : List Batch → ℕ → ReadLine → Worked → Type 0
IsReplyTo batches shown r w = (w.at ≤ shown) × (w.reply.items ≡ reply_of (take shown batches) w.at r.line (read_set_view r.request))

-- What a worker kept fits a read: its number is not below the floor of its session, and has what the session's writes before it told, and is not above the number of any behind it.
pub record FitsRead (shown : ℕ) (writes : List Written) (outs : List Told) (r : ReadLine) (floor : ℕ) (w : Worked) : Type 0 where
  pub above : floor ≤ w.at
  pub later : w.at ≤ least_later (map write_of writes) outs r.line r.session shown
  pub follows : FollowsWrites outs r w.at writes

-- the reply to a read, and its number: that of the caller at the greatest number that fits, or what a worker kept of it that fits
abbrev pub IsAnswer : List Batch → ℕ → List Written → List Told → ReadLine → Option Worked → ℕ → ℕ → List ℕ → Type 0
IsAnswer batches shown writes outs r worked floor at reply = ((at ≡ least_later (map write_of writes) outs r.line r.session shown) × (reply ≡ read_reply batches shown (map write_of writes) outs r))
    ⊎ ((w : Worked) × (worked ≡ Some w) × (at ≡ w.at) × (reply ≡ w.reply.items) × FitsRead shown writes outs r floor w)

-- A read was answered in place of its first reply, or stays as it is for want of memory: the floor of its session is not below what it was, nor below the number of the reply.
pub record AnswersOne (first : ℕ) (batches : List Batch) (shown : ℕ) (writes : List Written) (outs : List Told) (r : ReadLine) (worked : Option Worked) (floors floors_now : List ℕ) (texts texts_now : List (List ℕ)) : Type 0 where
  pub floor : ℕ
  pub there : slice_get floors r.session ≡ Some floor
  pub at : ℕ
  pub next : ℕ
  pub floors_are : floors_now ≡ slice_set floors r.session next
  pub above_floor : floor ≤ next
  pub above_at : at ≤ next
  pub replies : (texts_now ≡ texts) ⊎ ((reply : List ℕ) × (texts_now ≡ slice_set texts (r.line - first) reply) × IsAnswer batches shown writes outs r worked floor at reply)
