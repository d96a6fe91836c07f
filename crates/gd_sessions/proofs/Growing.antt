-- A write keeps the batches that there were in front, and shows no fewer.
use Rattle.std.proofs.Common.{◌≡◌, ℕ, ◌+◌, ◌≤◌, List, [], ◌∷◌, ◌++◌, Bool, Option, Some, None, ◌⊎◌, ⊎_elim, refl, sym, ap, subst, ◌∙◌, arith, append-nil, append_assoc}
use Rattle.gd_prim.specs.declared.Batch.{Batch}
use Rattle.gd_defs.specs.Write.{WriteRequest}
use Rattle.gd_runs.specs.Legal.{Entry, batches, size, with_entry}
use Rattle.gd_runs.specs.Core.{State, Settles}
use Rattle.gd_runs.specs.Side.{Kept, WriteKeeps, stores, stores_late, refuses, doubts, leaves_doubt, lacks_memory, lacks_memory_settled}
use Rattle.gd_runs.proofs.Rounds.{batches_more}
use Rattle.gd_core_laws.proofs.Lines.{one_longer}

-- the batches of a state stand in front of those of another, which shows no fewer
pub record Grows (s t : State) : Type 0 where
  pub more : List Batch
  pub batches : batches t.history ≡ batches s.history ++ more
  pub shown : s.shown ≤ t.shown

grows_same : (s : State) → Grows s s
grows_same s = record { more = []; batches = sym (append-nil (batches s.history)); shown = omega arith }

grows_on : (s t u : State) → Grows s t → Grows t u → Grows s u
grows_on s t u a b = record {
  more = a.more ++ b.more;
  batches = b.batches ∙ (ap (λ (bs : List Batch). bs ++ b.more) a.batches ∙ append_assoc (batches s.history) a.more b.more);
  shown = let x = a.shown in let y = b.shown in omega (arith, x, y);
}

-- with one entry more, of which as much is shown as before, or all
grows_entry : (s : State) (e : Entry) (shown : ℕ) (doubt : Option Entry) → s.shown ≤ shown → Grows s (record { history = with_entry s.history e; shown = shown; doubt = doubt; sessions = s.sessions })
grows_entry s e shown doubt most = record { more = e.batch ∷ []; batches = batches_more s.history (e ∷ []); shown = most }

grows_settled : (s t : State) → s.shown ≤ size s.history → Settles s t → Grows s t
grows_settled s t most settles = by s.doubt refl
  where
    some : (e : Entry) → (t ≡ record s { doubt = None }) ⊎ ((t ≡ record s { history = with_entry s.history e; shown = size s.history + 1; doubt = None }) ⊎ (t ≡ record s { history = with_entry s.history e; doubt = None })) → Grows s t
    some e cases = ⊎_elim
        (λ is. subst (λ (u : State). Grows s u) (sym is) (record { more = []; batches = sym (append-nil (batches s.history)); shown = omega arith }))
        (λ rest. ⊎_elim
        (λ is. subst (λ (u : State). Grows s u) (sym is) (grows_entry s e (size s.history + 1) None (omega (arith, most))))
        (λ is. subst (λ (u : State). Grows s u) (sym is) (grows_entry s e s.shown None (omega arith)))
        rest)
        cases

    by : (d : Option Entry) → s.doubt ≡ d → Grows s t
    by None is = subst (λ (u : State). Grows s u) (sym (rw is at settles)) (record { more = []; batches = sym (append-nil (batches s.history)); shown = omega arith })
    by (Some e) is = some e (rw is at settles)

-- what is shown stays within the history
settled_within : (s t : State) → s.shown ≤ size s.history → Settles s t → t.shown ≤ size t.history
settled_within s t most settles = by s.doubt refl
  where
    some : (e : Entry) → (t ≡ record s { doubt = None }) ⊎ ((t ≡ record s { history = with_entry s.history e; shown = size s.history + 1; doubt = None }) ⊎ (t ≡ record s { history = with_entry s.history e; doubt = None })) → t.shown ≤ size t.history
    some e cases = let longer = one_longer s.history e in ⊎_elim
        (λ is. subst (λ (u : State). u.shown ≤ size u.history) (sym is) most)
        (λ rest. ⊎_elim
        (λ is. subst (λ (u : State). u.shown ≤ size u.history) (sym is) (omega (arith, longer)))
        (λ is. subst (λ (u : State). u.shown ≤ size u.history) (sym is) (omega (arith, most, longer)))
        rest)
        cases

    by : (d : Option Entry) → s.doubt ≡ d → t.shown ≤ size t.history
    by None is = subst (λ (u : State). u.shown ≤ size u.history) (sym (rw is at settles)) most
    by (Some e) is = some e (rw is at settles)

pub write_grows : (may : ℕ → Bool) (s t : State) (k bytes : ℕ) (w : WriteRequest) (kept : Kept) → s.shown ≤ size s.history → WriteKeeps may s k bytes w kept t → Grows s t
write_grows may s _ k bytes w _ most (stores t e can) =
    grows_on s t _ (grows_settled s t most can.settled) (grows_entry t e (size t.history + 1) t.doubt (let within = settled_within s t most can.settled in omega (arith, within)))
write_grows may s _ k bytes w _ most (stores_late t e can) = grows_on s t _ (grows_settled s t most can.settled) (grows_entry t e t.shown t.doubt (omega arith))
write_grows may s _ k bytes w _ most (refuses t moment f settled does) = grows_settled s t most settled
write_grows may s _ k bytes w _ most (doubts t e can) =
    let settled = grows_settled s t most can.settled in record { more = settled.more; batches = settled.batches; shown = settled.shown }
write_grows may s _ k bytes w _ most (leaves_doubt e is) = grows_same s
write_grows may s _ k bytes w _ most lacks_memory = grows_same s
write_grows may s _ k bytes w _ most (lacks_memory_settled t settled) = grows_settled s t most settled
