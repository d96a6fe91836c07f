-- Lines that are not run for want of memory: what stood before them stands behind them.
use Rattle.std.proofs.Common.{◌≡◌, ℕ, ◌+◌, Bool, List, [], ◌∷◌, ◌++◌, length, map, sym, subst, ap, ◌∙◌, append-nil, append_assoc, length-append}
use Rattle.std.proofs.lemmas.List.{length-map}
use Rattle.gd_prim.specs.declared.Batch.{Batch}
use Rattle.gd_runs.specs.Explained.{Numbered, Run, memory_line}
use Rattle.gd_runs.specs.Explained as outcome
use Rattle.gd_runs.specs.Core.{State}
use Rattle.gd_runs.proofs.LineMore.{run_of}
use Rattle.gd_core_laws.specs.Round.{StandsAt}
use Rattle.gd_core_laws.proofs.Whole.{RoundsRise, upto_next}
use Rattle.gd_core_laws.proofs.Threads.{round_stands}
use Rattle.gd_core_laws.proofs.Prefix.{unrun}
use Rattle.gd_round_laws.specs.Rounds.{passed}

-- there are as many runs as lines
pub many_runs : (runs : List Run) (given : List Numbered) → map (λ (r : Run). r.line) runs ≡ given → length runs ≡ length given
many_runs runs given lines = sym (length-map runs (λ (r : Run). r.line)) ∙ ap length lines

-- LAW: lines that are not run, one after another
pub rest_stands : (loaded : List Batch) (may : ℕ → Bool) (rest before : List Numbered) (printed : List ℕ) (s : State) (runs : List Run) → StandsAt loaded may before printed s.history s.shown s.doubt runs → RoundsRise (before ++ rest)
    → (all : List Run) × StandsAt loaded may (before ++ rest) (printed ++ passed (length runs) (length rest)) s.history s.shown s.doubt all
rest_stands loaded may [] before printed s runs st rise = (
  runs,
  subst (λ (ls : List Numbered). StandsAt loaded may ls (printed ++ []) s.history s.shown s.doubt runs) (sym (append-nil before))
      (subst (λ (o : List ℕ). StandsAt loaded may before o s.history s.shown s.doubt runs) (sym (append-nil printed)) st),
)
rest_stands loaded may (l ∷ rest) before printed s runs st rise =
    let this = run_of l outcome.no_memory (memory_line (length runs)) in
    let one = memory_line (length runs) ++ 10 ∷ [] in
    let upto = upto_next before rest l runs st.explained.lines rise in
    let first = round_stands loaded may before printed s runs l.round (l ∷ []) one s (this ∷ []) st upto (unrun loaded may before printed s runs st l) in
    let lines : (before ++ l ∷ []) ++ rest ≡ before ++ l ∷ rest = append_assoc before (l ∷ []) rest in
    let (all, end) = rest_stands loaded may rest (before ++ l ∷ []) (printed ++ one) s (runs ++ this ∷ []) first.stands (subst RoundsRise (sym lines) rise) in
    let place : length (runs ++ this ∷ []) ≡ length runs + 1 = length-append runs (this ∷ []) in
    let behind : (printed ++ one) ++ passed (length (runs ++ this ∷ [])) (length rest) ≡ printed ++ passed (length runs) (length (l ∷ rest)) =
    append_assoc printed one (passed (length (runs ++ this ∷ [])) (length rest))
    ∙ ap (λ (o : List ℕ). printed ++ o) (append_assoc (memory_line (length runs)) (10 ∷ []) (passed (length (runs ++ this ∷ [])) (length rest))
    ∙ ap (λ (n : ℕ). memory_line (length runs) ++ 10 ∷ passed n (length rest)) place) in (
      all,
      subst (λ (ls : List Numbered). StandsAt loaded may ls (printed ++ passed (length runs) (length (l ∷ rest))) s.history s.shown s.doubt all) lines
          (subst (λ (o : List ℕ). StandsAt loaded may ((before ++ l ∷ []) ++ rest) o s.history s.shown s.doubt all) behind end),
    )
