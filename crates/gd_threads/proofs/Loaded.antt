-- The batches that were loaded stay, whatever the caller writes.
use Rattle.std.proofs.Common.{◌≡◌, refl, ℕ, ◌+◌, ◌⊎◌, ⊎_elim, Bool, List, [], ◌∷◌, ◌++◌, Option, Some, None, ap, ◌∙◌}
use Rattle.gd_defs.specs.Write.{WriteRequest}
use Rattle.gd_runs.specs.Legal.{Entry, size, with_entry}
use Rattle.gd_runs.specs.Core.{State, Settles}
use Rattle.gd_runs.specs.Side.{Kept, Told, told_of, WriteLine, WriteKeeps, stores, stores_late, refuses, doubts, leaves_doubt, lacks_memory, lacks_memory_settled}
use Rattle.gd_core_laws.specs.Writes.{CallerWrites}

settles_loaded : (s t : State) → Settles s t → t.history.loaded ≡ s.history.loaded
settles_loaded s t settles = by s.doubt refl
  where
    some : (e : Entry) → (t ≡ record s { doubt = None }) ⊎ ((t ≡ record s { history = with_entry s.history e; shown = size s.history + 1; doubt = None }) ⊎ (t ≡ record s { history = with_entry s.history e; doubt = None })) → t.history.loaded ≡ s.history.loaded
    some e cases = ⊎_elim
        (λ is. ap (λ (x : State). x.history.loaded) is)
        (λ rest. ⊎_elim (λ is. ap (λ (x : State). x.history.loaded) is) (λ is. ap (λ (x : State). x.history.loaded) is) rest)
        cases

    by : (d : Option Entry) → s.doubt ≡ d → t.history.loaded ≡ s.history.loaded
    by None is = ap (λ (x : State). x.history.loaded) (rw is at settles)
    by (Some e) is = some e (rw is at settles)

write_loaded : (may : ℕ → Bool) (s : State) (k bytes : ℕ) (w : WriteRequest) (kept : Kept) (t : State) → WriteKeeps may s k bytes w kept t → t.history.loaded ≡ s.history.loaded
write_loaded may s k bytes w _ _ (stores t e can) = settles_loaded s t can.settled
write_loaded may s k bytes w _ _ (stores_late t e can) = settles_loaded s t can.settled
write_loaded may s k bytes w _ _ (refuses t moment f settled does) = settles_loaded s t settled
write_loaded may s k bytes w _ _ (doubts t e can) = settles_loaded s t can.settled
write_loaded may s k bytes w _ _ (leaves_doubt e is) = refl
write_loaded may s k bytes w _ _ lacks_memory = refl
write_loaded may s k bytes w _ _ (lacks_memory_settled t settled) = settles_loaded s t settled

pub callers_loaded : (may : ℕ → Bool) (ls : List WriteLine) (s t : State) (o q : List Told) → CallerWrites may s o ls t q → t.history.loaded ≡ s.history.loaded
callers_loaded may [] s t o q (here, same) = ap (λ (x : State). x.history.loaded) here
callers_loaded may (a ∷ ls) s t o q run = ⊎_elim
    (λ over. callers_loaded may ls s t o q over)
    (λ (left, (kept, m, step, rest)). callers_loaded may ls m t (o ++ told_of a.line kept ∷ []) q rest ∙ write_loaded may s a.line a.bytes a.request kept m step)
    run
