-- A round for which there was no room: none of its lines is looked at.
use Rattle.std.proofs.Common.{◌≡◌, refl, ℕ, zero, suc, ◌+◌, Bool, false, List, [], ◌∷◌, length, Option, Some, None, sym, subst, ap, ◌∙◌, arith}
use Rattle.gd_input.specs.declared.line.RoundLine.{RoundLine}
use Rattle.gd_input.specs.Rounds.{AreKept, in_round}
use Rattle.gd_runs.specs.Explained.{Run, memory_line}
use Rattle.gd_core_laws.specs.Threads.{RoundServed}
use Rattle.gd_crew.specs.PassedOn.{SideValue, state_of, StandsForSide, KeepingValue, reader_of, is_answered, CountsLines}
use Rattle.gd_caller.specs.Served.{printed}
use Rattle.gd_round_lines.specs.Replies.{no_memory}
use Rattle.gd_caller.proofs.JoinedRounds.{round_passed}
use Rattle.gd_caller.proofs.Lines.{passed_many, passed_count}
use Rattle.gd_round_lines.proofs.Read.{count_is}
use Rattle.gd_threads.specs.Served.{RoundsValue}
use Rattle.gd_threads.specs.Rounds.{Serves, StandsForRound, AnswersRound}
use Rattle.gd_threads.specs.Working.{KeepsNow}
use Rattle.gd_threads.proofs.Fronts.{at_line, fronts_none}
use Rattle.gd_threads.proofs.Served.{texts_in, all_of, no_sessions}
use Rattle.gd_threads.proofs.Stopped.{stands_before}

-- a reply that there was no memory is no answer
not_answered : (k : ℕ) (bytes : List ℕ) → is_answered bytes (memory_line k) ≡ false
not_answered k bytes = by (reader_of bytes) refl
  where
    by : (o : Option ℕ) → reader_of bytes ≡ o → is_answered bytes (memory_line k) ≡ false
    by None is = rw is refl
    by (Some s) is = rw is refl

-- so none is counted
none_counted : (k n : ℕ) (texts : List (List ℕ)) (keeping : KeepingValue) → n ≡ length texts → CountsLines k texts (no_memory k n) keeping keeping
none_counted k zero [] keeping same = refl
none_counted k zero (t ∷ ts) keeping same = absurd (omega (arith, same))
none_counted k (suc n) [] keeping same = absurd (omega (arith, same))
none_counted k (suc n) (t ∷ ts) keeping same = (keeping, rw (not_answered k t) refl, none_counted (k + 1) n ts keeping (omega (arith, same)))

-- as many bytes were kept as there are lines
same_long : (ls : List RoundLine) (texts : List (List ℕ)) → AreKept ls texts → length ls ≡ length texts
same_long [] [] kept = refl
same_long [] (t ∷ ts) kept = absurd kept
same_long (l ∷ ls) [] kept = absurd kept
same_long (l ∷ ls) (t ∷ ts) (here, later) = ap suc (same_long ls ts later)

module _ {D C : Type 0} (content : D → Option (List ℕ)) (moment : D → ℕ) (images : D → List ℕ → Type 0) (images_since : D → ℕ → List ℕ → Type 0) (faults : D → ℕ) (may : C → ℕ → Bool) where
  passed_served : (first n : ℕ) (lines : List RoundLine) (old : SideValue D C) → n ≡ length lines → Serves may lines (at_line old first) (at_line old (first + n)) (no_memory first n)
  passed_served first n lines old long loaded before output earlier round texts len kept stands =
      let given = in_round round texts in
      let s = state_of old no_sessions in
      let same = count_is lines given (subst (AreKept lines) (sym (texts_in round texts)) kept) in
      subst (λ (k : ℕ). (more : List Run) × RoundServed (may old.clock) s earlier round given (printed (no_memory k n)) s more) len
      (round_passed loaded (may old.clock) before output s earlier round given n stands (all_of round texts) (omega (arith, same, long)))

  -- what stands for the side stands for a state to which a round is served
  stands_passed : (first : ℕ) (lines : List RoundLine) (old : SideValue D C) (file : List ℕ) → StandsForSide old file → StandsForRound may lines (at_line old first) file
  stands_passed first lines old file stands loaded before output earlier round texts len kept st =
      stands_before loaded (may old.clock) before output (state_of old no_sessions) earlier round (in_round round texts) st (all_of round texts) file stands

  passed_over : (first n : ℕ) (lines : List RoundLine) (old : SideValue D C) (keeping : KeepingValue) → KeepsNow content moment images images_since may old → n ≡ length lines
      → AnswersRound content moment images images_since faults may lines (record { side = old; lines = first; keeping = keeping }) (record { side = old; lines = first + n; keeping = keeping }) (no_memory first n)
  passed_over first n lines old keeping keeps long =
      let count = passed_many first n in
      let none_told = passed_count first n in
      record {
        served = passed_served first n lines old long;
        many = omega (arith, count, long);
        next = ap (λ (m : ℕ). first + m) long;
        loaded = refl;
        told = refl;
        moments = λ tells. record {
          later = omega arith;
          now = λ c now. stands_passed first lines old c (keeps.keeps.holds c (tells, now));
          each = λ c since. stands_passed first lines old c (keeps.keeps.holds c (tells, keeps.only c since));
        };
        fronts = fronts_none content moment images images_since faults may first (first + n) old (no_memory first n) keeps;
        clock = refl;
        later = omega arith;
        rose = omega (arith, none_told);
        counted = λ texts kept. none_counted first n texts keeping (long ∙ same_long lines texts kept);
      }

  -- LAW: each line of such a round has the reply that says that there was no memory
  pub passed : (lines : List RoundLine) (old new : RoundsValue D C) (replies : List (List ℕ)) → KeepsNow content moment images images_since may old.side → new ≡ record { side = old.side; lines = old.lines + length lines; keeping = old.keeping } → replies ≡ no_memory old.lines (length lines) → AnswersRound content moment images images_since faults may lines old new replies
  passed lines old new replies keeps is told =
      subst (λ (r : RoundsValue D C). AnswersRound content moment images images_since faults may lines old r replies) (sym is)
      (subst (λ (rs : List (List ℕ)). AnswersRound content moment images images_since faults may lines old (record { side = old.side; lines = old.lines + length lines; keeping = old.keeping }) rs) (sym told)
      (passed_over old.lines (length lines) lines old.side old.keeping keeps refl))
