-- The end of a doubt, for a ledger and its copies.
use Rattle.std.proofs.Common.{◌≡◌, ℕ, ◌+◌, ◌≤◌, ◌⊎◌, inl, inr, ⊎_elim, List, [], ◌∷◌, ◌++◌, length, Option, None, Some, Result, Ok, Err, sym, subst, ap, ◌∙◌, arith, length-append}
use Rattle.std.specs.Prelude.{MatchResult, IsTrue}
use Rattle.gd_prim.specs.declared.Batch.{Batch}
use Rattle.gd_prim.specs.History.{is_history}
use Rattle.gd_bytes.specs.File.{StandsFor, MayStandFor}
use Rattle.gd_runs.specs.Legal.{Entry, History, batches, size, with_entry}
use Rattle.gd_runs.specs.Core.{State, Session, Settles}
use Rattle.gd_runs.specs.Side.{doubt_groups}
use Rattle.gd_runs.proofs.Rounds.{batches_more, length_batches}
use Rattle.gd_writer.specs.Parts.{LedgerValue, CopiesValue, StandsForLedger, EndsAs}
use Rattle.gd_writer.specs.Carried.{IsAligned, desk_state}
use Rattle.gd_writer.proofs.Steps.{state, states, settles_none, settles_some}

-- the batches of a history with an entry more
pub batches_grown : (all : List Batch) (h g : History) (e : Entry) (b : Batch) → all ≡ batches h → b ≡ e.batch → g ≡ with_entry h e → all ++ b ∷ [] ≡ batches g
batches_grown all h g e b aligned same is =
    ap (λ (bs : List Batch). bs ++ b ∷ []) aligned ∙ ap (λ (x : Batch). batches h ++ x ∷ []) same ∙ sym (batches_more h (e ∷ [])) ∙ sym (ap batches is)

-- how many they are
pub grown_size : (all shown : List Batch) (h : History) (b : Batch) → all ≡ batches h → shown ≡ all ++ b ∷ [] → length shown ≡ size h + 1
grown_size all shown h b aligned is =
    let one = length-append all (b ∷ []) in
    let long = length_batches h in
    let same = ap length aligned in
    let now = ap length is in
    omega (arith, one, long, same, now)

-- one of two things holds, whichever the result is
pub either_of : {T E : Type 0} (P Q : Type 0) (r : Result T E) → MatchResult r (λ _. P) (λ _. Q) → P ⊎ Q
either_of P Q (Ok x) holds = inl holds
either_of P Q (Err x) holds = inr holds

module _ {D : Type 0} (old new : LedgerValue D) (copies shows : CopiesValue) where
  -- the write does not count, or there was none
  pub settles_dropped : EndsAs old new None → shows ≡ copies → (sessions : ℕ → Session) → Settles (desk_state old copies sessions) (desk_state new shows sessions)
  settles_dropped is same sessions =
      subst (Settles (desk_state old copies sessions))
      (states old.history new.history (length copies.shown) (length shows.shown) None new.doubt sessions
      (sym (ap (λ (l : LedgerValue D). l.history) is)) (sym (ap (λ (c : CopiesValue). length c.shown) same)) (sym (ap (λ (l : LedgerValue D). l.doubt) is)))
      (settles_none old.history (length copies.shown) old.doubt sessions)

  pub aligned_dropped : EndsAs old new None → shows ≡ copies → IsAligned old copies → IsAligned new shows
  aligned_dropped is same aligned = ap (λ (c : CopiesValue). c.all) same ∙ aligned ∙ sym (ap (λ (l : LedgerValue D). batches l.history) is)

  module _ (batch : Batch) (ends : EndsAs old new (Some batch)) (aligned : IsAligned old copies) where
    -- the write counts: its batch may follow
    pub grown_all : copies.all ++ batch ∷ [] ≡ batches new.history
    grown_all = let (e, some, same, is) = ends in batches_grown copies.all old.history new.history e batch aligned same (ap (λ (l : LedgerValue D). l.history) is)

    pub counted_follows : IsTrue (is_history (batches new.history)) → IsTrue (is_history (copies.all ++ batch ∷ []))
    counted_follows history = subst (λ (bs : List Batch). IsTrue (is_history bs)) (sym grown_all) history

    pub aligned_counted : shows.all ≡ copies.all ++ batch ∷ [] → IsAligned new shows
    aligned_counted all = all ∙ grown_all

    -- and is shown with all others, or not yet
    pub settles_counted : {T E : Type 0} (r : Result T E) → MatchResult r (λ _. shows.shown ≡ copies.all ++ batch ∷ []) (λ _. shows.shown ≡ copies.shown)
        → (sessions : ℕ → Session) → Settles (desk_state old copies sessions) (desk_state new shows sessions)
    settles_counted r shown sessions =
        let (e, some, same, is) = ends in
        subst (λ (d : Option Entry). Settles (desk_state old copies sessions) (state new.history (length shows.shown) d sessions)) (sym (ap (λ (l : LedgerValue D). l.doubt) is))
        (settles_some old.history new.history (length copies.shown) (length shows.shown) old.doubt e sessions some (ap (λ (l : LedgerValue D). l.history) is)
        (⊎_elim (λ all. inr (grown_size copies.all shows.shown old.history batch aligned all)) (λ stays. inl (ap length stays)) (either_of (shows.shown ≡ copies.all ++ batch ∷ []) (shows.shown ≡ copies.shown) r shown)))

-- nothing is in doubt any more
pub ends_doubt : {D : Type 0} (old new : LedgerValue D) (gave : Option Batch) → EndsAs old new gave → new.doubt ≡ None
ends_doubt old new None is = ap (λ l. l.doubt) is
ends_doubt old new (Some batch) (e, some, same, is) = ap (λ l. l.doubt) is

-- there is room for one less
pub ends_room : {D : Type 0} (old new : LedgerValue D) (gave : Option Batch) → EndsAs old new gave → 2 ≤ old.spare → 1 ≤ new.spare
ends_room old new None is room = let left = ap (λ l. l.spare) is in omega (arith, left, room)
ends_room old new (Some batch) (e, some, same, is) room = let left = ap (λ l. l.spare) is in omega (arith, left, room)

-- what stands for what is there once a doubt has ended stood for what was there
pub settles_stand : {D : Type 0} (old new : LedgerValue D) (m n : ℕ) (sessions : ℕ → Session) → Settles (state old.history m old.doubt sessions) (state new.history n new.doubt sessions)
    → (c : List ℕ) → StandsForLedger new c → StandsForLedger old c
settles_stand old new m n sessions ends c now = by old.doubt ends
  where
    Stands : State → Type 0
    Stands s = MayStandFor (batches s.history) (doubt_groups s.doubt) c

    by : (d : Option Entry) → Settles (state old.history m d sessions) (state new.history n new.doubt sessions) → MayStandFor (batches old.history) (doubt_groups d) c
    by None is = subst Stands is now
    by (Some e) (inl is) = inl (subst Stands is now)
    by (Some e) (inr (inl is)) = inr (subst (StandsFor c) (batches_more old.history (e ∷ [])) (subst Stands is now))
    by (Some e) (inr (inr is)) = inr (subst (StandsFor c) (batches_more old.history (e ∷ [])) (subst Stands is now))
