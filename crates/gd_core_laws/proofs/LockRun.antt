-- What the lock of a round keeps holds when it begins, and after all of its writes.
use Rattle.std.proofs.Common.{◌≡◌, refl, ℕ, ◌≤◌, ◌⊎◌, inl, inr, ⊎_elim, Bool, List, [], ◌∷◌, ◌++◌, length, Option, Some, None, sym, arith}
use Rattle.gd_prim.specs.declared.Batch.{Batch}
use Rattle.gd_runs.specs.Legal.{Entry, History}
use Rattle.gd_runs.specs.Explained.{Numbered, Run}
use Rattle.gd_runs.specs.Core.{State}
use Rattle.gd_runs.specs.Side.{Told, Begun, MayFollow, KeepsRound, KeepsHistory, told_of}
use Rattle.gd_runs.proofs.Rounds.{no_some}
use Rattle.gd_core_laws.specs.Served.{IsDoubted}
use Rattle.gd_core_laws.specs.Round.{write_lines, StandsAt, begun_at}
use Rattle.gd_core_laws.specs.Writes.{AreNew}
use Rattle.gd_core_laws.specs.Lock.{LockRun, joined, writes, LockKeeps}
use Rattle.gd_core_laws.proofs.OneLine.{nothing_more}
use Rattle.gd_core_laws.proofs.SideHistory.{more_legal}
use Rattle.gd_core_laws.proofs.Lock.{lock_keeps}
use Rattle.gd_core_laws.proofs.Threads.{are_new}

-- before the first write, with no outcome
pub history_begins : (loaded : List Batch) (may : ℕ → Bool) (before : List Numbered) (printed : List ℕ) (h : History) (shown : ℕ) (doubt : Option Entry) (runs : List Run) → StandsAt loaded may before printed h shown doubt runs → KeepsHistory may h doubt []
history_begins loaded may before printed h shown doubt runs st = record {
  legal = st.explained.legal;
  next = by doubt st.doubted;
  moments = st.explained.moments;
  agree = λ i t at. no_some at;
  order = record { lines = λ i j a b at_a at_b less same. no_some at_a; rise = λ i j m n a b at_a at_b less num_a num_b. no_some at_a; above = λ i j e n a b at_a at_b less ent_a num_b. no_some at_a };
  within = λ i n t at is. no_some at;
}
  where
    by : (d : Option Entry) → IsDoubted may h runs d → MayFollow may h d
    by None is = tt
    by (Some e) d = (more_legal may h e st.explained.legal d.after (λ n x at same. let of = st.explained.entries n x at in (d.old.last n x of.0 at of.1).2 same), d.moment)

-- what the lock keeps before the first write, whatever of the disk's count it is asked
pub lock_starts : (l : Begun) (faults most : ℕ) → (l.faults ≤ faults) ⊎ (faults ≡ most) → AreNew l → KeepsRound l l.history l.shown l.doubt faults most [] []
lock_starts l faults most counted fresh = record {
  grown = sym (nothing_more l.history);
  fresh = fresh.entries;
  fresh_doubt = fresh.doubted;
  entries = λ i x at. no_some at;
  in_doubt = λ x is. inl is;
  outcomes_of = λ j t at. no_some at;
  least = λ j n t at is. no_some at;
  waits = λ x was is. refl;
  shows = omega arith;
  shows_stored = λ j e r t at is. no_some at;
  firsts = λ s. (0, refl);
  failed = ⊎_elim (λ less. inl (omega (arith, less))) (λ full. inr full) counted;
}

-- where it is that of the moment when the round begins
pub lock_begins : (h : History) (shown : ℕ) (doubt : Option Entry) (faults most k : ℕ) (given : List Numbered) → AreNew (begun_at h shown doubt faults k given) → KeepsRound (begun_at h shown doubt faults k given) h shown doubt faults most [] []
lock_begins h shown doubt faults most k given fresh = lock_starts (begun_at h shown doubt faults k given) faults most (inl (omega arith)) fresh

-- after all writes
pub run_keeps : (may : ℕ → Bool) (l : Begun) (first : ℕ) (given : List Numbered) (lines : l.lines ≡ write_lines first given) (most : ℕ) (s : State) (faults : ℕ) (outcomes : List Told) (t : State) (end : ℕ) (outs : List Told)
    → LockKeeps may l most s faults outcomes → LockRun may l most s faults outcomes t end outs → LockKeeps may l most t end outs
run_keeps may l first given lines most s faults outcomes _ _ _ keeps (joined _ _ _) = keeps
run_keeps may l first given lines most s faults outcomes t end outs keeps (writes _ _ _ x a kept m more _ _ _ in_lines left next step count rest) =
    run_keeps may l first given lines most m more (outcomes ++ told_of a.line kept ∷ []) t end outs
    (lock_keeps may l first given lines s faults most outcomes keeps.entries keeps.history keeps.lock keeps.most x a in_lines left next kept m more step count)
    rest

-- the side that is taken out of the lock of a round
pub joined_keeps : (loaded : List Batch) (may : ℕ → Bool) (before : List Numbered) (printed : List ℕ) (s : State) (runs : List Run) (faults most : ℕ) (given : List Numbered) (t : State) (end : ℕ) (outs : List Told)
    → StandsAt loaded may before printed s.history s.shown s.doubt runs → LockRun may (begun_at s.history s.shown s.doubt faults (length runs) given) most s faults [] t end outs
    → LockKeeps may (begun_at s.history s.shown s.doubt faults (length runs) given) most t end outs
joined_keeps loaded may before printed s runs faults most given t end outs st run =
    run_keeps may (begun_at s.history s.shown s.doubt faults (length runs) given) (length runs) given refl most s faults [] t end outs
    (record {
      entries = [];
      history = history_begins loaded may before printed s.history s.shown s.doubt runs st;
      lock = lock_begins s.history s.shown s.doubt faults most (length runs) given (are_new loaded may before printed s.history s.shown s.doubt runs faults given st);
      most = st.most;
    })
    run
