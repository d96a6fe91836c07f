-- What is kept of write lines, with one more.
use Rattle.std.proofs.Common.{◌≡◌, ℕ, ◌≤◌, ◌<◌, ⊎_elim, Bool, List, [], ◌∷◌, ◌++◌, map, None, Some, slice_get, sym, subst, ap, ◌∙◌, arith}
use Rattle.std.specs.List.{AllByRecursion}
use Rattle.std.proofs.lemmas.List.{map-append}
use Rattle.gd_defs.specs.Write.{WriteRequest}
use Rattle.gd_tree.specs.Json.{Json}
use Rattle.gd_runs.specs.Legal.{size}
use Rattle.gd_runs.specs.Core.{State}
use Rattle.gd_runs.specs.Side.{Kept, kept_stored, Told, told_of, WriteKeeps, stores, stores_late, refuses, doubts, leaves_doubt, lacks_memory, lacks_memory_settled, KeepsHistory}
use Rattle.gd_runs.proofs.Rounds.{get_cases}
use Rattle.gd_core_laws.proofs.Lines.{one_longer}
use Rattle.gd_core_laws.proofs.SideHistory.{Settled, settle_keeps, only}
use Rattle.gd_writer.specs.declared.outcome.WriteOf.{WriteOf}
use Rattle.gd_runs.specs.Core.{Session}
use Rattle.gd_runs.specs.Side.{IsLeft, IsFresh}
use Rattle.gd_core_laws.proofs.Laws.{writes_keep_history}
use Rattle.gd_writer.specs.Outcomes.{told_view, kept_view, IsTold}
use Rattle.gd_writer.specs.Parts.{LedgerValue, CopiesValue}
use Rattle.gd_writer.specs.Side.{IsSide}
use Rattle.gd_writer.specs.Carried.{IsAligned, desk_state}

-- no session
abbrev pub no_sessions : ℕ → Session
no_sessions i = record { seen = 0; reading = None }

-- all and one more
pub all_more : {X : Type 0} (P : X → Type 0) (xs : List X) (x : X) → AllByRecursion P xs → P x → AllByRecursion P (xs ++ x ∷ [])
all_more P [] x all one = (one, tt)
all_more P (y ∷ xs) x (first, rest) one = (first, all_more P xs x rest one)

-- what is shown once a write was carried out: no less than before, no more than there is, and the write where it is kept as stored
pub record Shows (s u : State) (kept : Kept) : Type 0 where
  pub more : s.shown ≤ u.shown
  pub most : u.shown ≤ size u.history
  pub stored : (e : ℕ) (r : Json) → kept ≡ kept_stored e r → e < u.shown

-- what is shown once a doubt has ended
record Grows (s t : State) : Type 0 where
  more : s.shown ≤ t.shown
  most : t.shown ≤ size t.history

grows : (may : ℕ → Bool) (s t : State) (outcomes : List Told) → s.shown ≤ size s.history → Settled may s t outcomes → Grows s t
grows may s t outcomes most settled =
    let longer : size s.history ≤ size t.history = ⊎_elim (λ same. let is = ap size same in omega (arith, is)) (λ (e, some, more). let is = ap size more in let one = one_longer s.history e in omega (arith, is, one)) settled.entries in
    ⊎_elim
    (λ same. record { more = omega (arith, same); most = omega (arith, same, most, longer) })
    (λ all. record { more = omega (arith, all, most, longer); most = omega (arith, all) })
    settled.shown

pub write_shows : (may : ℕ → Bool) (s : State) (k bytes : ℕ) (w : WriteRequest) (kept : Kept) (u : State) (outcomes : List Told) → KeepsHistory may s.history s.doubt outcomes → s.shown ≤ size s.history
    → WriteKeeps may s k bytes w kept u → Shows s u kept
write_shows may s k bytes w _ _ outcomes side most (stores t e can) =
    let g = grows may s t outcomes most (settle_keeps may s t outcomes side can.settled) in
    let more = g.more in
    let below = g.most in
    let one = one_longer t.history e in
    record { more = omega (arith, more, below); most = omega (arith, one); stored = λ n r is. let number : size t.history ≡ n = cc in omega (arith, number) }
write_shows may s k bytes w _ _ outcomes side most (stores_late t e can) =
    let g = grows may s t outcomes most (settle_keeps may s t outcomes side can.settled) in
    let below = g.most in
    let one = one_longer t.history e in
    record { more = g.more; most = omega (arith, below, one); stored = λ n r is. cc }
write_shows may s k bytes w _ _ outcomes side most (refuses t moment f ends does) =
    let g = grows may s t outcomes most (settle_keeps may s t outcomes side ends) in record { more = g.more; most = g.most; stored = λ n r is. cc }
write_shows may s k bytes w _ _ outcomes side most (doubts t e can) =
    let g = grows may s t outcomes most (settle_keeps may s t outcomes side can.settled) in record { more = g.more; most = g.most; stored = λ n r is. cc }
write_shows may s k bytes w _ _ outcomes side most (leaves_doubt e is) = record { more = omega arith; most = most; stored = λ n r same. cc }
write_shows may s k bytes w _ _ outcomes side most lacks_memory = record { more = omega arith; most = most; stored = λ n r is. cc }
write_shows may s k bytes w _ _ outcomes side most (lacks_memory_settled t ends) =
    let g = grows may s t outcomes most (settle_keeps may s t outcomes side ends) in record { more = g.more; most = g.most; stored = λ n r is. cc }

module _ {D C : Type 0} (may : C → ℕ → Bool) (ledger : LedgerValue D) (copies : CopiesValue) (clock : C) (outcomes : List WriteOf) (inv : IsSide may ledger copies clock outcomes) where
  -- one write more
  pub side_more : (line bytes : ℕ) (w : WriteRequest) (after : LedgerValue D) (shows : CopiesValue) (ticks : C) (o : WriteOf) → o.line ≡ line
      → IsLeft (map told_view outcomes) line → IsFresh ledger.history ledger.doubt line
      → IsAligned after shows → WriteKeeps (may clock) (desk_state ledger copies no_sessions) line bytes w (kept_view o.outcome) (desk_state after shows no_sessions) → may ticks ≡ may clock → IsTold line o.outcome
      → IsSide may after shows ticks (outcomes ++ o ∷ [])
  side_more line bytes w after shows ticks o line_is left fresh aligned step same told =
      let one : map told_view (outcomes ++ o ∷ []) ≡ map told_view outcomes ++ told_of line (kept_view o.outcome) ∷ [] =
      map-append told_view outcomes (o ∷ []) ∙ ap (λ (n : ℕ). map told_view outcomes ++ told_of n (kept_view o.outcome) ∷ []) line_is in
      let keeps = writes_keep_history (may clock) (desk_state ledger copies no_sessions) (map told_view outcomes) line bytes w (kept_view o.outcome) (desk_state after shows no_sessions) inv.history left fresh step in
      let shown = write_shows (may clock) (desk_state ledger copies no_sessions) line bytes w (kept_view o.outcome) (desk_state after shows no_sessions) (map told_view outcomes) inv.history inv.most step in
      record {
        all = aligned;
        history = subst (λ (ts : List Told). KeepsHistory (may ticks) after.history after.doubt ts) (sym one) (subst (λ (m : ℕ → Bool). KeepsHistory m after.history after.doubt (map told_view outcomes ++ told_of line (kept_view o.outcome) ∷ [])) (sym same) keeps);
        most = shown.most;
        shows = λ i e r t at is. ⊎_elim
            (λ old. let below = inv.shows i e r t old is in let more = shown.more in omega (arith, below, more))
            (λ (j, place, new). shown.stored e r (sym (ap (λ (x : Told). x.kept) (only (told_of line (kept_view o.outcome)) j t new).1) ∙ is))
            (get_cases (map told_view outcomes) (told_of line (kept_view o.outcome) ∷ []) i t (subst (λ (ts : List Told). slice_get ts i ≡ Some t) one at));
        told = all_more (λ (x : WriteOf). IsTold x.line x.outcome) outcomes o inv.told (subst (λ (n : ℕ). IsTold n o.outcome) (sym line_is) told);
      }
