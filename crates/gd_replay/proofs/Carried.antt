-- An event that was carried out: what stays, and which lines stand before.
use Rattle.std.proofs.Common.{◌≡◌, ℕ, ◌+◌, List, [], ◌∷◌, ◌++◌, Bool, true, Option, Some, None, Result, Ok, Err, OnErr, ⊎_elim, ◌⊎◌, inl, inr, append-nil, refl, sym, subst, ◌∙◌, arith, IsTrue}
use Rattle.gd_base.specs.declared.memory.Memory.{Memory}
use Rattle.gd_base.specs.Counts.{Rose}
use Rattle.gd_prim.specs.declared.Batch.{Batch}
use Rattle.gd_journal.specs.declared.fault.JournalFault.{JournalFault}
use Rattle.gd_journal.specs.declared.fault.JournalFault.TheVariants as journal
use Rattle.gd_sessions.specs.PassedOn.{one_member, Tells, SideValue, GoesOn, Opens}
use Rattle.gd_bytes.specs.File.{StandsFor, MayStandFor}
use Rattle.gd_runs.specs.Side.{doubt_groups}
use Rattle.gd_runs.specs.Legal.{Entry, batches}
use Rattle.gd_runs.specs.Core.{Event, State, opened, reopen, ReopenStep}
use Rattle.gd_replay_laws.specs.Steps.{Takes}
use Rattle.gd_replay_laws.specs.Runs.{AreBelow}
use Rattle.gd_replay_laws.proofs.Below.{later, opened_below, takes_below}
use Rattle.gd_reply.specs.declared.reply.Reply.{Reply}
use Rattle.gd_sessions.specs.Running.{Answers, StandsForState}
use Rattle.gd_replay.specs.Kept.{Grows, IsHindrance}
use Rattle.gd_replay.specs.Stops.{Leaves, StandsBefore, GoesAlong, IsLost}
use Rattle.gd_replay.proofs.Answered.{answers_say}
use Rattle.gd_replay.proofs.Grown.{grows_same, grows_then, takes_grows}

-- ---- the lines before

-- a store that was opened again, or nothing was done
pub anew_below : (k : ℕ) (s t : State) (loaded : List Batch) → AreBelow k s → (t ≡ opened loaded) ⊎ (t ≡ s) → AreBelow (k + 1) t
anew_below k s t loaded below anew = ⊎_elim
    (λ is. subst (AreBelow (k + 1)) (sym is) (opened_below (k + 1) loaded))
    (λ is. subst (AreBelow (k + 1)) (sym is) (later k s below))
    anew

-- an event that was taken
pub taken_below : (may : ℕ → Bool) (s : State) (k bytes : ℕ) (e : Event) (t : State) (reply : List ℕ) → AreBelow k s → ((told : Bool) → Takes told one_member may s k bytes e reply t) → AreBelow (k + 1) t
taken_below may s k bytes e t reply below takes =
    takes_below true one_member may s k bytes e reply t below (takes true)

-- the batches that there were stay in front
pub taken_grows : (may : ℕ → Bool) (s : State) (k bytes : ℕ) (e : Event) (t : State) (reply : List ℕ) → ((told : Bool) → Takes told one_member may s k bytes e reply t) → Grows (batches s.history) (batches t.history)
taken_grows may s k bytes e t reply takes =
    takes_grows true may s k bytes e reply t refl (takes true)

-- so they do where it was taken by a reply that is due
pub due_grows : (told : Bool) → IsTrue told → (may : ℕ → Bool) (s : State) (k bytes : ℕ) (e : Event) (t : State) (reply : Result Reply Memory) → Answers (λ line. Takes told one_member may s k bytes e line t) reply → Grows (batches s.history) (batches t.history)
due_grows told tells may s k bytes e t reply takes =
    answers_say (λ line. Takes told one_member may s k bytes e line t) (Grows (batches s.history) (batches t.history)) reply (λ line taken. takes_grows told may s k bytes e line t tells taken) takes

-- ---- a store that was opened again

-- what stands for batches stands for them whatever is in doubt
whatever_doubt : (bs : List Batch) (d : Option Entry) (file : List ℕ) → StandsFor file bs → MayStandFor bs (doubt_groups d) file
whatever_doubt bs None file stands = stands
whatever_doubt bs (Some e) file stands = inl stands

-- what stands for a store that was opened with batches stands for them
opened_stands : (bs : List Batch) (t : State) (file : List ℕ) → t ≡ opened bs → StandsForState t file → StandsFor file bs
opened_stands bs t file is stands = subst (StandsFor file) (append-nil bs) (subst (λ (u : State). StandsForState u file) is stands)

reopened_before : (s : State) (k : ℕ) (line : List ℕ) (t : State) → ReopenStep s k line t → StandsBefore s t
reopened_before s k line t step = λ file stands. ⊎_elim
    (λ without. whatever_doubt (batches s.history) s.doubt file (opened_stands (batches s.history) t file without stands))
    (λ (e, doubt, with_it). subst (λ (d : Option Entry). MayStandFor (batches s.history) (doubt_groups d) file) (sym doubt) (inr (opened_stands (batches s.history ++ e.batch ∷ []) t file with_it stands)))
    step.1

takes_before : (told : Bool) (may : ℕ → Bool) (s : State) (k bytes : ℕ) (line : List ℕ) (t : State) → IsTrue told → Takes told one_member may s k bytes reopen line t → StandsBefore s t
takes_before told may s k bytes line t tells takes = ⊎_elim
    (λ step. reopened_before s k line t (step.0 tells))
    (λ lacks. λ file stands. subst (λ (u : State). StandsForState u file) lacks.1 stands)
    takes

-- where there was no memory for its reply
pub unmade_before : (told : Bool) → IsTrue told → (may : ℕ → Bool) (s : State) (k bytes : ℕ) (t : State) (reply : Result Reply Memory) → Answers (λ line. Takes told one_member may s k bytes reopen line t) reply → OnErr reply (StandsBefore s t)
unmade_before told tells may s k bytes t (Ok made) takes = tt
unmade_before told tells may s k bytes t (Err none) takes =
    let (line, taken) = takes in takes_before told may s k bytes line t tells taken

-- ---- the clock and the disk

module _ {D C : Type 0} (content : D → Option (List ℕ)) (faults : D → ℕ) (may : C → ℕ → Bool) where
  pub along_same : (side : SideValue D C) → GoesAlong content faults may side side
  along_same side = record { clock = refl; told = refl; later = omega arith; grows = λ tells. grows_same (batches side.history) }

  -- it goes on to tell its content
  pub tells_on : (a b : SideValue D C) → GoesAlong content faults may a b → Tells (content a.log.disk) → Tells (content b.log.disk)
  tells_on a b along tells = subst (λ (told : Bool). IsTrue told) (sym along.told) tells

  pub along_then : (a b c : SideValue D C) → GoesAlong content faults may a b → GoesAlong content faults may b c → GoesAlong content faults may a c
  along_then a b c first more = record {
    clock = more.clock ∙ first.clock;
    told = more.told ∙ first.told;
    later = omega (arith, first.later, more.later);
    grows = λ tells. grows_then (batches a.history) (batches b.history) (batches c.history) (first.grows tells) (more.grows (tells_on a b first tells));
  }

  module _ (moment : D → ℕ) (images : D → List ℕ → Type 0) (images_since : D → ℕ → List ℕ → Type 0) where
    pub along_opened : (a b : SideValue D C) → may b.clock ≡ may a.clock → Opens content moment images images_since faults a.log.disk b.log.disk → (Tells (content a.log.disk) → Grows (batches a.history) (batches b.history))
        → GoesAlong content faults may a b
    along_opened a b clock opens grows = record { clock = clock; told = opens.told; later = opens.later; grows = grows }

    pub along_stepped : (a b : SideValue D C) → GoesOn content moment images images_since faults may a b → Grows (batches a.history) (batches b.history) → GoesAlong content faults may a b
    along_stepped a b goes grows = record { clock = goes.clock; told = goes.told; later = goes.later; grows = λ tells. grows }

    pub lost_opened : (old new : D) (s : State) (fault : JournalFault) → (fault ≡ journal.DiskFault → Rose (faults old) (faults new)) → (Tells (content old) → Leaves (images new) s) → Opens content moment images images_since faults old new
        → (Tells (content old) → IsHindrance fault) → IsLost content images faults old s fault new
    lost_opened old new s fault cause holds opens hindered = record { cause = cause; holds = holds; told = opens.told; hindered = hindered; later = opens.later }
