-- A round in which a stop comes: it is served as far as its writes came, and its other lines are told that there was no memory.
use Rattle.std.proofs.Common.{◌≡◌, refl, ℕ, zero, suc, ◌+◌, ◌≤◌, ◌⊎◌, inl, inr, ⊎_elim, Bool, List, [], ◌∷◌, length, Some, slice_get, subst, ap, ◌∙◌, arith}
use Rattle.gd_prim.specs.declared.Batch.{Batch}
use Rattle.gd_runs.specs.Legal.{Entry, size}
use Rattle.gd_runs.specs.Explained.{Numbered, Run, memory_line}
use Rattle.gd_runs.specs.Core.{State}
use Rattle.gd_runs.specs.Side.{Told, WriteLine, KeepsHistory, KeepsRound}
use Rattle.gd_runs.proofs.Rounds.{no_some, some_same}
use Rattle.gd_core_laws.specs.Bounds.{kept_of}
use Rattle.gd_core_laws.specs.Round.{StandsAt, begun_at, write_lines}
use Rattle.gd_core_laws.specs.Writes.{CallerWrites}
use Rattle.gd_core_laws.proofs.LockRun.{history_begins, lock_begins}
use Rattle.gd_core_laws.proofs.Threads.{are_new}
use Rattle.gd_core_laws.proofs.Prefix.{callers_pass}
use Rattle.gd_round_lines.specs.Some.{IsSomeOf}
use Rattle.gd_caller.specs.Told.{reply_or}
use Rattle.gd_caller.specs.Served.{printed, AreOf, StandsForState, StandsServed}
use Rattle.gd_round_lines.proofs.Some.{some_all}
use Rattle.gd_caller.proofs.Callers.{callers_some, callers_among}
use Rattle.gd_caller.proofs.JoinedLines.{CameAs, first_line, joined_round_served}

-- ---- what the lines are told

-- the reply to line k: what is told of its write, or that there was no memory
abbrev told_reply : List Told → ℕ → List ℕ
told_reply outcomes k = reply_or k (memory_line k) (kept_of outcomes k)

-- the replies to lines, the first of them line k
abbrev told_replies : List Told → ℕ → List Numbered → List (List ℕ)
told_replies outcomes k [] = []
told_replies outcomes k (l ∷ ls) = told_reply outcomes k ∷ told_replies outcomes (k + 1) ls

told_many : (outcomes : List Told) (k : ℕ) (ls : List Numbered) → length (told_replies outcomes k ls) ≡ length ls
told_many outcomes k [] = refl
told_many outcomes k (l ∷ ls) = ap suc (told_many outcomes (k + 1) ls)

told_at : (outcomes : List Told) (k : ℕ) (ls : List Numbered) (j : ℕ) (x : List ℕ) → slice_get (told_replies outcomes k ls) j ≡ Some x → told_reply outcomes (k + j) ≡ x
told_at outcomes k [] j x at = no_some at
told_at outcomes k (l ∷ ls) zero x at = ap (told_reply outcomes) (omega arith) ∙ some_same at
told_at outcomes k (l ∷ ls) (suc j) x at = ap (told_reply outcomes) (omega arith) ∙ told_at outcomes (k + 1) ls j x at

-- ---- the round

module _ (loaded : List Batch) (may : ℕ → Bool) (before : List Numbered) (output : List ℕ) (s : State) (runs : List Run) (round : ℕ) (given : List Numbered) (begun faults : ℕ)
    (st : StandsAt loaded may before output s.history s.shown s.doubt runs) (here : AreOf round given) (above : s.shown ≤ begun) (below : begun ≤ size s.history) (shows : (begun ≡ size s.history) ⊎ (begun ≡ s.shown))
    (joined : State) (joined_faults most : ℕ) (at_join : List Told) (new : List Entry) (history : KeepsHistory may joined.history joined.doubt at_join)
    (lock : KeepsRound (begun_at s.history begun s.doubt faults (length runs) given) joined.history joined.shown joined.doubt joined_faults most at_join new) (within : joined.shown ≤ size joined.history) where
  -- LAW: where what a stop leaves stands for a state to which the lock and its caller's writes come, it stands for one to which the round is served
  pub stopped : (writes : List WriteLine) → IsSomeOf writes (write_lines (length runs) given) → (t : State) (outcomes : List Told) → CallerWrites may joined at_join writes t outcomes → (file : List ℕ) → StandsForState t file
      → StandsServed may s runs round given file
  stopped writes some t outcomes run file stands =
      let k = length runs in
      let ls = write_lines k given in
      let all = callers_some may ls writes joined t at_join outcomes some run in
      let of = λ (i : ℕ) (u : Told) (at : slice_get outcomes i ≡ Some u). ⊎_elim
      (λ was. let (x, a, at_a, line, is) = lock.outcomes_of i u was in (x, a, at_a, line))
      (λ by_caller. by_caller)
      (callers_among may ls joined t at_join outcomes i u all at) in
      let (more, served) = joined_round_served loaded may before output s runs round given begun faults st here above below shows joined joined_faults most at_join new history lock within
      ls (some_all ls) t outcomes all of (λ i session n. Unit {0})
      (told_replies outcomes k given) (told_many outcomes k given)
      (λ order low j l reply at at_reply.
      let f = first_line t.history t.shown k given ls (some_all ls) outcomes of j l (memory_line (k + j)) at (inr refl) in (
        f.outcome,
        record {
          told = λ session d is told. (d, tt, omega arith);
          low = λ m read. absurd (f.no_read m read);
          came = inl (subst (λ (y : List ℕ). CameAs t.history t.shown ls outcomes (k + j) l.bytes y f.outcome) (told_at outcomes k given j reply at_reply) f.came);
        },
      )) in
      record {
        reached = t;
        output = printed (told_replies outcomes k given);
        more = more;
        served = served;
        stands = stands;
      }

-- LAW: what a stop leaves that stands for the state before a round stands for one to which the round is served
pub stands_before : (loaded : List Batch) (may : ℕ → Bool) (before : List Numbered) (output : List ℕ) (s : State) (runs : List Run) (round : ℕ) (given : List Numbered) → StandsAt loaded may before output s.history s.shown s.doubt runs → AreOf round given
    → (file : List ℕ) → StandsForState s file → StandsServed may s runs round given file
stands_before loaded may before output s runs round given st here file stands =
    let k = length runs in
    let ls = write_lines k given in
    stopped loaded may before output s runs round given s.shown 0 st here (omega arith) st.most (inr refl)
    s 0 0 [] [] (history_begins loaded may before output s.history s.shown s.doubt runs st)
    (lock_begins s.history s.shown s.doubt 0 0 k given (are_new loaded may before output s.history s.shown s.doubt runs 0 given st)) st.most
    ls (some_all ls) s [] (callers_pass may ls s []) file stands
