-- The caller's writes, one after another, and those of which some were left out.
use Rattle.std.proofs.Common.{◌≡◌, refl, ℕ, zero, suc, ◌+◌, ◌⊎◌, inl, inr, ⊎_elim, Bool, List, [], ◌∷◌, ◌++◌, length, Option, Some, None, slice_get, sym, subst, ap, ◌∙◌, append-nil, append_assoc}
use Rattle.gd_defs.specs.Write.{WriteRequest}
use Rattle.gd_runs.specs.Legal.{Entry, History, with_entry}
use Rattle.gd_runs.specs.Explained.{entry_at}
use Rattle.gd_runs.specs.Core.{State, Settles}
use Rattle.gd_runs.specs.Side.{Kept, Told, told_of, WriteLine, IsLeft, IsFresh, WriteKeeps, stores, stores_late, refuses, doubts, leaves_doubt, lacks_memory, lacks_memory_settled}
use Rattle.gd_runs.proofs.Rounds.{no_some, some_same, get_cases, get_left, get_right, entry_cases}
use Rattle.gd_core_laws.specs.Writes.{CallerWrites}
use Rattle.gd_core_laws.proofs.SideHistory.{only}
use Rattle.gd_round_lines.specs.Some.{IsSomeOf}
use Rattle.gd_caller.specs.Served.{LeftAreFresh}

-- ---- writes

module _ (may : ℕ → Bool) where
  -- writes and then others
  pub callers_join : (xs ys : List WriteLine) (s m t : State) (o p q : List Told) → CallerWrites may s o xs m p → CallerWrites may m p ys t q → CallerWrites may s o (xs ++ ys) t q
  callers_join [] ys s m t o p q (here, same) second = subst (λ (x : State). CallerWrites may x o ys t q) here (subst (λ (u : List Told). CallerWrites may m u ys t q) same second)
  callers_join (x ∷ xs) ys s m t o p q first second = ⊎_elim
      (λ over. inl (callers_join xs ys s m t o p q over second))
      (λ (left, (kept, u, step, rest)). inr (left, (kept, u, step, callers_join xs ys u m t (o ++ told_of x.line kept ∷ []) p q rest second)))
      first

  -- those that were left out are passed over
  pub callers_some : (all xs : List WriteLine) (s t : State) (o q : List Told) → IsSomeOf xs all → CallerWrites may s o xs t q → CallerWrites may s o all t q
  callers_some [] xs s t o q is run = subst (λ (ls : List WriteLine). CallerWrites may s o ls t q) is run
  callers_some (a ∷ all) xs s t o q some run = ⊎_elim
      (λ others. inl (callers_some all xs s t o q others run))
      (λ (zs, is, others). ⊎_elim
      (λ over. inl (callers_some all zs s t o q others over))
      (λ (left, (kept, u, step, rest)). inr (left, (kept, u, step, callers_some all zs u t (o ++ told_of a.line kept ∷ []) q others rest)))
      (subst (λ (ls : List WriteLine). CallerWrites may s o ls t q) is run))
      some

  -- what was kept stays in front
  pub callers_extend : (ls : List WriteLine) (s t : State) (o q : List Told) → CallerWrites may s o ls t q → (rest : List Told) × (q ≡ o ++ rest)
  callers_extend [] s t o q (here, same) = ([], same ∙ sym (append-nil o))
  callers_extend (a ∷ ls) s t o q run = ⊎_elim
      (λ over. callers_extend ls s t o q over)
      (λ (left, (kept, u, step, rest)). let (more, is) = callers_extend ls u t (o ++ told_of a.line kept ∷ []) q rest in (told_of a.line kept ∷ more, is ∙ append_assoc o (told_of a.line kept ∷ []) more))
      run

  -- what is kept then was kept before, or is of one of the lines
  pub callers_among : (ls : List WriteLine) (s t : State) (o q : List Told) (i : ℕ) (u : Told) → CallerWrites may s o ls t q → slice_get q i ≡ Some u → (slice_get o i ≡ Some u) ⊎ ((x : ℕ) × (a : WriteLine) × (slice_get ls x ≡ Some a) × (a.line ≡ u.line))
  callers_among [] s t o q i u (here, same) at = inl (subst (λ (ts : List Told). slice_get ts i ≡ Some u) same at)
  callers_among (a ∷ ls) s t o q i u run at = ⊎_elim
      (λ over. later (callers_among ls s t o q i u over at))
      (λ (left, (kept, m, step, rest)). ⊎_elim
      (λ old. ⊎_elim
      (λ before. inl before)
      (λ (j, place, new). inr (0, a, refl, sym (ap (λ (v : Told). v.line) (only (told_of a.line kept) j u new).1)))
      (get_cases o (told_of a.line kept ∷ []) i u old))
      (λ (x, b, there, line). inr (suc x, b, there, line))
      (callers_among ls m t (o ++ told_of a.line kept ∷ []) q i u rest at))
      run
    where
      later : (slice_get o i ≡ Some u) ⊎ ((x : ℕ) × (b : WriteLine) × (slice_get ls x ≡ Some b) × (b.line ≡ u.line)) → (slice_get o i ≡ Some u) ⊎ ((x : ℕ) × (b : WriteLine) × (slice_get (a ∷ ls) x ≡ Some b) × (b.line ≡ u.line))
      later = ⊎_elim (λ old. inl old) (λ (x, b, there, line). inr (suc x, b, there, line))

-- ---- lines that are fresh

more_fresh : (h : History) (e : Entry) (k : ℕ) → ((d : ℕ) (x : Entry) → entry_at h d ≡ Some x → x.line ≡ k → ⊥) → (e.line ≡ k → ⊥) → (d : ℕ) (x : Entry) → entry_at (with_entry h e) d ≡ Some x → x.line ≡ k → ⊥
more_fresh h e k old other d x at is = ⊎_elim
    (λ before. old d x before is)
    (λ (i, place, new). other (sym (ap (λ (z : Entry). z.line) (only e i x new).1) ∙ is))
    (entry_cases h (e ∷ []) d x at)

-- once a doubt has ended
settles_fresh : (s t : State) (k : ℕ) → Settles s t → IsFresh s.history s.doubt k → IsFresh t.history t.doubt k
settles_fresh s t k step fresh = by s.doubt refl
  where
    dropped : IsFresh s.history None k
    dropped = record { entries = fresh.entries; doubted = λ x is. no_some is }

    entered : (e : Entry) → s.doubt ≡ Some e → IsFresh (with_entry s.history e) None k
    entered e is = record { entries = more_fresh s.history e k fresh.entries (fresh.doubted e is); doubted = λ x none. no_some none }

    by : (d : Option Entry) → s.doubt ≡ d → IsFresh t.history t.doubt k
    by None is = let same = rw is at step in subst (λ (x : State). IsFresh x.history x.doubt k) (sym same) dropped
    by (Some e) is =
        let cases = rw is at step in
        ⊎_elim
        (λ no. subst (λ (x : State). IsFresh x.history x.doubt k) (sym no) dropped)
        (λ yes. ⊎_elim
        (λ now. subst (λ (x : State). IsFresh x.history x.doubt k) (sym now) (entered e is))
        (λ late. subst (λ (x : State). IsFresh x.history x.doubt k) (sym late) (entered e is))
        yes)
        cases

-- a write of another line leaves a line fresh
pub write_fresh : (may : ℕ → Bool) (s : State) (k bytes : ℕ) (w : WriteRequest) (kept : Kept) (t : State) (n : ℕ) → WriteKeeps may s k bytes w kept t → (k ≡ n → ⊥) → IsFresh s.history s.doubt n → IsFresh t.history t.doubt n
write_fresh may s k bytes w _ _ n (stores t e can) other fresh = let f = settles_fresh s t n can.settled fresh in record { entries = more_fresh t.history e n f.entries (λ is. other (sym can.line ∙ is)); doubted = f.doubted }
write_fresh may s k bytes w _ _ n (stores_late t e can) other fresh = let f = settles_fresh s t n can.settled fresh in record { entries = more_fresh t.history e n f.entries (λ is. other (sym can.line ∙ is)); doubted = f.doubted }
write_fresh may s k bytes w _ _ n (refuses t moment f ends does) other fresh = settles_fresh s t n ends fresh
write_fresh may s k bytes w _ _ n (doubts t e can) other fresh = let f = settles_fresh s t n can.settled fresh in record { entries = f.entries; doubted = λ x is same. other (sym can.line ∙ ap (λ (z : Entry). z.line) (some_same is) ∙ same) }
write_fresh may s k bytes w _ _ n (leaves_doubt e is) other fresh = fresh
write_fresh may s k bytes w _ _ n lacks_memory other fresh = fresh
write_fresh may s k bytes w _ _ n (lacks_memory_settled t ends) other fresh = settles_fresh s t n ends fresh

-- a line of which nothing is kept then is fresh if it was
pub callers_fresh : (may : ℕ → Bool) (ls : List WriteLine) (s t : State) (o q : List Told) (n : ℕ) → CallerWrites may s o ls t q → (IsLeft o n → IsFresh s.history s.doubt n) → IsLeft q n → IsFresh t.history t.doubt n
callers_fresh may [] s t o q n (here, same) fresh left = subst (λ (x : State). IsFresh x.history x.doubt n) (sym here) (fresh (λ i u at. left i u (subst (λ (ts : List Told). slice_get ts i ≡ Some u) (sym same) at)))
callers_fresh may (a ∷ ls) s t o q n run fresh left = ⊎_elim
    (λ over. callers_fresh may ls s t o q n over fresh left)
    (λ (free, (kept, m, step, rest)). callers_fresh may ls m t (o ++ told_of a.line kept ∷ []) q n rest
    (λ left_now. write_fresh may s a.line a.bytes a.request kept m n step
    (λ same. left_now (length o + 0) (told_of a.line kept) (get_right o (told_of a.line kept ∷ []) 0 (told_of a.line kept) refl) same)
    (fresh (λ i u at. left_now i u (get_left o (told_of a.line kept ∷ []) i u at))))
    left)
    run

-- so the write lines that are left stay fresh
pub left_stay_fresh : (may : ℕ → Bool) (all ls : List WriteLine) (s t : State) (o q : List Told) → CallerWrites may s o ls t q → LeftAreFresh all s.history s.doubt o → LeftAreFresh all t.history t.doubt q
left_stay_fresh may all ls s t o q run fresh x a at left = callers_fresh may ls s t o q a.line run (fresh x a at) left
