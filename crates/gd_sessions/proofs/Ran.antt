-- What an event of a session does to a core.
use Rattle.std.proofs.Common.{◌≡◌, ◌≢◌, ℕ, ◌+◌, ◌-◌, ◌^◌, ◌<◌, ◌≤◌, min, List, [], length, Bool, true, false, None, Result, Ok, Err, IfOk, OnErr, ◌⊎◌, inl, inr, ⊎_elim, refl, sym, ap, subst, ◌∙◌, arith}
use Rattle.std.specs.Prelude.{get_or, set}
use Rattle.std.specs.Global.{Vec}
use Rattle.gd_base.specs.Counts.{Rose}
use Rattle.gd_base.specs.declared.memory.Memory.{Memory}
use Rattle.gd_runs.specs.Explained.{memory_line}
use Rattle.std.proofs.lemmas.List.{length-set}
use Rattle.gd_prim.specs.declared.Batch.{Batch}
use Rattle.gd_defs.specs.Write.{WriteRequest}
use Rattle.gd_runs.specs.Legal.{batches}
use Rattle.gd_runs.specs.Request.{ReadSet}
use Rattle.gd_runs.specs.Core.{Session, State, with_session, entered, BeginStep, SliceStep, LearnStep, FreezeStep, ThawStep, WriteStep}
use Rattle.gd_runs.specs.Side.{Kept, kept_stored, kept_late, kept_refused, kept_doubt, kept_unsettled, kept_memory, WriteKeeps, lacks_memory, is_fault}
use Rattle.gd_runs.proofs.Rounds.{length_batches}
use Rattle.gd_held.specs.PassedOn.{one_member, IsPastIds}
use Rattle.gd_core_laws.specs.Round.{kept_reply}
use Rattle.gd_replay_laws.specs.Faults.{IsCounted}
use Rattle.gd_replay_laws.proofs.Faults.{quiet_counted}
use Rattle.gd_core_laws.proofs.Laws.{kept_writes_are_steps}
use Rattle.gd_writer.specs.Side.{SideValue, state_of}
use Rattle.gd_sessions.specs.declared.held.Held.{Held}
use Rattle.gd_held.specs.Held.{reads, held_left}
use Rattle.gd_sessions.specs.Sessions.{new_session, in_session, holds_thawed, BeginsAs, SlicesAs, LearnsAs, FreezesAs, ThawsAs}
use Rattle.gd_sessions.specs.Held.{session_view, sessions_of, IsGoingOn}
use Rattle.gd_sessions.specs.Writes.{IsToldKept, WritesFor}
use Rattle.gd_sessions.specs.Running.{IsRunning, IsSliced}
use Rattle.gd_sessions.proofs.Steps.{session_stays, begin_step, slice_step, learn_step, freeze_step, thaw_step}
use Rattle.gd_sessions.proofs.Growing.{write_grows}
use Rattle.gd_sessions.proofs.Table.{state_set, mapped_at, mapped_set, all_at, all_set, all_weaker, going_more}
use Rattle.gd_sessions.proofs.Told.{told_state}

-- a session that holds the same
same_state : (bs : List Batch) (shown : ℕ) (before after : Held) → after.state ≡ before.state → IsGoingOn bs shown before → IsGoingOn bs shown after
same_state bs shown before after same holds = rw same holds

-- the reply to a write tells a failure of the disk only where one is kept
kept_counted : (k : ℕ) (kept : Kept) (before after : ℕ) → (is_fault kept ≡ true → Rose before after) → IsCounted k (kept_reply k kept) before after
kept_counted k (kept_stored e r) before after cause = quiet_counted k (kept_reply k (kept_stored e r)) before after refl
kept_counted k (kept_late e) before after cause = quiet_counted k (kept_reply k (kept_late e)) before after refl
kept_counted k (kept_refused f n) before after cause = quiet_counted k (kept_reply k (kept_refused f n)) before after refl
kept_counted k (kept_doubt n) before after cause = λ tells. cause refl
kept_counted k kept_unsettled before after cause = λ tells. cause refl
kept_counted k kept_memory before after cause = quiet_counted k (kept_reply k kept_memory) before after refl

module _ {D C : Type 0} (side : SideValue D C) (hs : List Held) (i : ℕ) (before after : Held) (lt : i < length hs) (is : before ≡ get_or hs i before) where
  abbrev old_state : State
  old_state = state_of side (sessions_of hs)

  abbrev new_state : State
  new_state = state_of side (sessions_of (set hs i after))

  -- the session stays, and so does the state
  pub run_stays : session_view after ≡ session_view before → new_state ≡ old_state
  run_stays same = state_set side hs i after lt ∙ session_stays old_state i (session_view after) (same ∙ mapped_at session_view hs i before new_session lt is)

  -- or it has entered, and holds nothing
  pub run_ends : session_view after ≡ in_session (length side.shown) None → new_state ≡ entered old_state i None
  run_ends same = state_set side hs i after lt ∙ ap (with_session old_state i) same

  pub run_begins : (k : ℕ) (r : ReadSet) (line : List ℕ) → BeginsAs (batches side.history) (length side.shown) k r line (session_view after) → BeginStep old_state k i r line new_state
  run_begins k r line begins = begin_step old_state new_state k i r line (session_view after) begins (state_set side hs i after lt)

  pub run_slices : (k : ℕ) (line : List ℕ) → SlicesAs (batches side.history) (length side.shown) k (session_view before) line (session_view after) → SliceStep one_member old_state k i line new_state
  run_slices k line slices =
      let at_i = subst (λ (x : Session). SlicesAs (batches side.history) (length side.shown) k x line (session_view after)) (mapped_at session_view hs i before new_session lt is) slices in
      slice_step one_member old_state new_state k i line (session_view after) at_i (state_set side hs i after lt)

  pub run_learns : (k m : ℕ) (line : List ℕ) → LearnsAs (length side.shown) k m (session_view before) line (session_view after) → LearnStep old_state k i m line new_state
  run_learns k m line learns =
      let at_i = subst (λ (x : Session). LearnsAs (length side.shown) k m x line (session_view after)) (mapped_at session_view hs i before new_session lt is) learns in
      learn_step old_state new_state k i m line (session_view after) at_i (state_set side hs i after lt)

  -- the same, of the reply of a call
  pub begins_ok : (bs : List Batch) (shown k : ℕ) (r : ReadSet) (result : Result (Vec ℕ) Memory) → bs ≡ batches side.history → shown ≡ length side.shown
      → IfOk result (λ reply. BeginsAs bs shown k r reply.items (session_view after)) → IfOk result (λ reply. BeginStep old_state k i r reply.items new_state)
  begins_ok bs shown k r (Ok bytes) stored count told =
      run_begins k r bytes.items (subst (λ (n : ℕ). BeginsAs (batches side.history) n k r bytes.items (session_view after)) count (subst (λ (b : List Batch). BeginsAs b shown k r bytes.items (session_view after)) stored told))
  begins_ok bs shown k r (Err e) stored count told = tt

  pub slices_ok : (bs : List Batch) (shown k : ℕ) (result : Result (Vec ℕ) Memory) → bs ≡ batches side.history → shown ≡ length side.shown
      → IfOk result (λ reply. SlicesAs bs shown k (session_view before) reply.items (session_view after)) → IfOk result (λ reply. SliceStep one_member old_state k i reply.items new_state)
  slices_ok bs shown k (Ok bytes) stored count told =
      run_slices k bytes.items (subst (λ (n : ℕ). SlicesAs (batches side.history) n k (session_view before) bytes.items (session_view after)) count
      (subst (λ (b : List Batch). SlicesAs b shown k (session_view before) bytes.items (session_view after)) stored told))
  slices_ok bs shown k (Err e) stored count told = tt

  pub slices_err : (shown : ℕ) (result : Result (Vec ℕ) Memory) → shown ≡ length side.shown → OnErr result ((session_view after ≡ session_view before) ⊎ (session_view after ≡ in_session shown None))
      → OnErr result ((new_state ≡ old_state) ⊎ (new_state ≡ entered old_state i None))
  slices_err shown (Ok bytes) count told = tt
  slices_err shown (Err e) count told = ⊎_elim (λ same. inl (run_stays same)) (λ ends. inr (run_ends (ends ∙ ap (λ (n : ℕ). in_session n None) count))) told

  pub learns_ok : (shown k m : ℕ) (result : Result (Vec ℕ) Memory) → shown ≡ length side.shown
      → IfOk result (λ reply. LearnsAs shown k m (session_view before) reply.items (session_view after)) → IfOk result (λ reply. LearnStep old_state k i m reply.items new_state)
  learns_ok shown k m (Ok bytes) count told = run_learns k m bytes.items (subst (λ (n : ℕ). LearnsAs n k m (session_view before) bytes.items (session_view after)) count told)
  learns_ok shown k m (Err e) count told = tt

  -- freezing and thawing
  pub run_freezes : (k : ℕ) (line : List ℕ) → FreezesAs (batches side.history) k (reads before.state) line → FreezeStep one_member old_state k i line old_state
  run_freezes k line freezes =
      freeze_step old_state k i line (subst (λ (x : Session). FreezesAs (batches side.history) k x.reading line) (mapped_at session_view hs i before new_session lt is) freezes)

  pub freezes_ok : (bs : List Batch) (k : ℕ) (result : Result (Vec ℕ) Memory) → bs ≡ batches side.history → IfOk result (λ reply. FreezesAs bs k (reads before.state) reply.items) → IfOk result (λ reply. FreezeStep one_member old_state k i reply.items old_state)
  freezes_ok bs k (Ok bytes) stored told = run_freezes k bytes.items (subst (λ (b : List Batch). FreezesAs b k (reads before.state) bytes.items) stored told)
  freezes_ok bs k (Err e) stored told = tt

  pub run_thaws : (k : ℕ) (r : ReadSet) (text line : List ℕ) → ThawsAs (batches side.history) (length side.shown) k r text (session_view before) line (session_view after) → ThawStep one_member old_state k i r text line new_state
  run_thaws k r text line thaws =
      let at_i = subst (λ (x : Session). ThawsAs (batches side.history) (length side.shown) k r text x line (session_view after)) (mapped_at session_view hs i before new_session lt is) thaws in
      thaw_step old_state new_state k i r text line (session_view after) at_i (state_set side hs i after lt)

  pub thaws_ok : (bs : List Batch) (shown k : ℕ) (r : ReadSet) (text : List ℕ) (result : Result (Vec ℕ) Memory) → bs ≡ batches side.history → shown ≡ length side.shown
      → IfOk result (λ reply. ThawsAs bs shown k r text (session_view before) reply.items (session_view after)) → IfOk result (λ reply. ThawStep one_member old_state k i r text reply.items new_state)
  thaws_ok bs shown k r text (Ok bytes) stored count told =
      run_thaws k r text bytes.items (subst (λ (n : ℕ). ThawsAs (batches side.history) n k r text (session_view before) bytes.items (session_view after)) count
      (subst (λ (b : List Batch). ThawsAs b shown k r text (session_view before) bytes.items (session_view after)) stored told))
  thaws_ok bs shown k r text (Err e) stored count told = tt

  -- a slice: what it took, and what is left
  pub run_sliced : (budget s u : ℕ) → (reads after.state ≢ None → min (s + budget) (2 ^ 64 - 1) ≤ u) → u ≤ s + budget + 1024
      → (holds_thawed (reads before.state) ≡ false → (n : ℕ) → IsPastIds n → u + held_left n (batches side.history) after.state ≤ s + held_left n (batches side.history) before.state)
      → IsSliced i budget (record { side = side; held = hs }) (record { side = side; held = set hs i after }) s u
  run_sliced budget s u reached work less = record {
    reached = λ holds. reached (subst (λ (x : Session). x.reading ≢ None) (mapped_set session_view hs i after new_session lt) holds);
    work = work;
    less = λ began n most. by _ _ _ _ (mapped_at (λ (h : Held). held_left n (batches side.history) h.state) hs i before 0 lt is) (mapped_set (λ (h : Held). held_left n (batches side.history) h.state) hs i after 0 lt) (less (ap holds_thawed (ap (λ (x : Session). x.reading) (mapped_at session_view hs i before new_session lt is)) ∙ began) n most);
  }
    where
      by : (a b c d : ℕ) → a ≡ b → d ≡ c → u + c ≤ s + a → u + d ≤ s + b
      by a b c d first second third = omega (arith, first, second, third)

  -- what the core keeps
  pub run_held : IsRunning side hs → IsGoingOn (batches side.history) (length side.shown) before
  run_held keeps = subst (IsGoingOn (batches side.history) (length side.shown)) (sym is) (all_at (IsGoingOn (batches side.history) (length side.shown)) hs i before keeps.going lt)

  pub run_keeps : IsRunning side hs → IsGoingOn (batches side.history) (length side.shown) after → IsRunning side (set hs i after)
  run_keeps keeps holds = record {
    many = length-set hs i after ∙ keeps.many;
    outcomes = keeps.outcomes;
    going = all_set (IsGoingOn (batches side.history) (length side.shown)) hs i after keeps.going holds;
  }

  -- a write: the side is another one, and the session was told
  pub run_writes : (new : SideValue D C) (may : ℕ → Bool) (k bytes : ℕ) (w : WriteRequest) (kept : Kept) → ((sessions : ℕ → Session) → WriteKeeps may (state_of side sessions) k bytes w kept (state_of new sessions))
      → IsToldKept kept (length new.shown) before after → WriteStep may old_state k bytes i w (kept_reply k kept) (state_of new (sessions_of (set hs i after)))
  run_writes new may k bytes w kept step told =
      subst (λ (t : State). WriteStep may old_state k bytes i w (kept_reply k kept) t) (told_state new hs i before after kept lt (mapped_at session_view hs i before new_session lt is) told)
      (kept_writes_are_steps may old_state k bytes i w kept (state_of new (sessions_of hs)) (step (sessions_of hs)))

  pub told_held : (kept : Kept) (shown : ℕ) → IsToldKept kept shown before after → after.state ≡ before.state
  told_held (kept_stored e r) shown told = ap (λ (h : Held). h.state) told
  told_held (kept_late e) shown told = ap (λ (h : Held). h.state) told
  told_held (kept_refused f n) shown told = ap (λ (h : Held). h.state) told
  told_held (kept_doubt n) shown told = ap (λ (h : Held). h.state) told
  told_held kept_unsettled shown told = ap (λ (h : Held). h.state) told
  told_held kept_memory shown told = ap (λ (h : Held). h.state) told

  pub run_written : (new : SideValue D C) (may : ℕ → Bool) (k bytes : ℕ) (w : WriteRequest) (kept : Kept) → length side.shown ≤ length (batches side.history) → IsRunning side hs
      → ((sessions : ℕ → Session) → WriteKeeps may (state_of side sessions) k bytes w kept (state_of new sessions)) → IsToldKept kept (length new.shown) before after → new.outcomes ≡ [] → IsRunning new (set hs i after)
  run_written new may k bytes w kept within keeps step told none =
      let grows = write_grows may old_state (state_of new (sessions_of hs)) k bytes w kept (let long = length_batches side.history in omega (arith, long, within)) (step (sessions_of hs)) in
      let weaker : (h : Held) → IsGoingOn (batches side.history) (length side.shown) h → IsGoingOn (batches new.history) (length new.shown) h =
      λ h holds. subst (λ (bs : List Batch). IsGoingOn bs (length new.shown) h) (sym grows.batches) (going_more (batches side.history) grows.more (length side.shown) (length new.shown) h within grows.shown holds) in
      let held = weaker before (run_held keeps) in
      record {
        many = length-set hs i after ∙ keeps.many;
        outcomes = none;
        going = all_set (IsGoingOn (batches new.history) (length new.shown)) hs i after (all_weaker (IsGoingOn (batches side.history) (length side.shown)) (IsGoingOn (batches new.history) (length new.shown)) weaker hs keeps.going)
            (same_state (batches new.history) (length new.shown) before after (told_held kept (length new.shown) told) held);
      }

  pub writes_step : (new : SideValue D C) (may : ℕ → Bool) (faults : D → ℕ) (k bytes : ℕ) (w : WriteRequest) (reply : List ℕ) → WritesFor may faults side k bytes w new before after reply
      → WriteStep may old_state k bytes i w reply (state_of new (sessions_of (set hs i after)))
  writes_step new may faults k bytes w reply does =
      subst (λ (line : List ℕ). WriteStep may old_state k bytes i w line (state_of new (sessions_of (set hs i after)))) (sym does.reply) (run_writes new may k bytes w does.kept does.step does.told)

  pub writes_keeps : (new : SideValue D C) (may : ℕ → Bool) (faults : D → ℕ) (k bytes : ℕ) (w : WriteRequest) (reply : List ℕ) → length side.shown ≤ length (batches side.history) → IsRunning side hs
      → WritesFor may faults side k bytes w new before after reply → IsRunning new (set hs i after)
  writes_keeps new may faults k bytes w reply within keeps does = run_written new may k bytes w does.kept within keeps does.step does.told does.outcomes

-- a failure of the disk that the reply to a write tells was counted
pub writes_counted : {D C : Type 0} (may : ℕ → Bool) (faults : D → ℕ) (side new : SideValue D C) (k bytes : ℕ) (w : WriteRequest) (before after : Held) (reply : List ℕ) → WritesFor may faults side k bytes w new before after reply
    → IsCounted k reply (faults side.log.disk) (faults new.log.disk)
writes_counted may faults side new k bytes w before after reply does =
    subst (λ (line : List ℕ). IsCounted k line (faults side.log.disk) (faults new.log.disk)) (sym does.reply) (kept_counted k does.kept (faults side.log.disk) (faults new.log.disk) does.fault)

-- where there was no memory for what is to be kept, nothing was done
pub writes_none : {D C : Type 0} (may : ℕ → Bool) (faults : D → ℕ) (side new : SideValue D C) (k bytes : ℕ) (w : WriteRequest) (before : Held) (reply : List ℕ) → new ≡ side → side.outcomes ≡ []
    → reply ≡ memory_line k → WritesFor may faults side k bytes w new before before reply
writes_none may faults side new k bytes w before reply same none told =
    subst (λ (s : SideValue _ _). WritesFor may faults side k bytes w s before before reply) (sym same)
    (record { kept = kept_memory; step = λ sessions. lacks_memory; outcomes = none; told = refl; reply = told; fault = λ bad. absurd (cc) })

-- ---- what was kept is told

pub writes_told : {D C : Type 0} (may : ℕ → Bool) (faults : D → ℕ) (side new : SideValue D C) (k bytes : ℕ) (w : WriteRequest) (kept : Kept) (before after : Held) (reply : List ℕ)
    → ((sessions : ℕ → Session) → WriteKeeps may (state_of side sessions) k bytes w kept (state_of new sessions)) → new.outcomes ≡ [] → IsToldKept kept (length new.shown) before after
    → (is_fault kept ≡ true → Rose (faults side.log.disk) (faults new.log.disk)) → reply ≡ kept_reply k kept → WritesFor may faults side k bytes w new before after reply
writes_told may faults side new k bytes w kept before after reply step none told fault is = record { kept = kept; step = step; outcomes = none; told = told; reply = is; fault = fault }
