-- Whole rounds, one after another: what stands behind them, and what is said of it at the end.
use Rattle.std.proofs.Common.{◌≡◌, refl, ℕ, suc, ◌+◌, ◌<◌, ◌≤◌, ⊎_elim, Bool, true, false, if◌then◌else◌, List, [], ◌∷◌, ◌++◌, length, map, filter, nat_lt, Some, slice_get, sym, subst, ap, ◌∙◌, arith, append-nil, lt-ltb}
use Rattle.std.specs.Prelude.{◌==◌}
use Rattle.std.proofs.lemmas.Bool.Decides.{nat_tests}
use Rattle.std.proofs.lemmas.List.Elements.{filter-append}
use Rattle.gd_prim.specs.declared.Batch.{Batch}
use Rattle.gd_runs.specs.Explained.{Numbered, Run, pieces, numbered, max_round}
use Rattle.gd_runs.specs.Core.{State}
use Rattle.gd_runs.proofs.Rounds.{no_some, get_cases}
use Rattle.gd_runs.proofs.LineMore.{UptoRound}
use Rattle.gd_core_laws.specs.Round.{StandsAt}
use Rattle.gd_core_laws.proofs.WriteLines.{got_line}
use Rattle.gd_core_laws.proofs.Whole.{RoundsRise, lines_rise}
use Rattle.gd_core_laws.proofs.Threads.{stands_at_first, round_stands}
use Rattle.gd_core_laws.proofs.After.{files_hold}
use Rattle.gd_round_laws.specs.Rounds.{IsAccounted, passed}
use Rattle.gd_round_laws.specs.Laws.{RoundsBegin, RoundsGoOn, RoundsAreAccounted, RestIsPassed, FirstRoundsAreWithin}
use Rattle.gd_round_laws.proofs.Passed.{many_runs, rest_stands}

-- ---- a round more

-- the runs of lines of earlier rounds are of no later round
upto_round : (given : List Numbered) (round : ℕ) → ((i : ℕ) (l : Numbered) → slice_get given i ≡ Some l → l.round < round) → (runs : List Run) → map (λ (r : Run). r.line) runs ≡ given → UptoRound runs round
upto_round given round earlier runs lines k r at =
    let there : slice_get given k ≡ Some r.line = subst (λ (ls : List Numbered). slice_get ls k ≡ Some r.line) lines (got_line runs k r at) in
    let before = earlier k r.line there in
    omega (arith, before)

earlier_more : (before given : List Numbered) (round : ℕ) → ((i : ℕ) (l : Numbered) → slice_get before i ≡ Some l → l.round < round) → ((j : ℕ) (l : Numbered) → slice_get given j ≡ Some l → l.round ≡ round)
    → (i : ℕ) (l : Numbered) → slice_get (before ++ given) i ≡ Some l → l.round < round + 1
earlier_more before given round earlier this i l at = ⊎_elim
    (λ old. let is = earlier i l old in omega (arith, is))
    (λ (j, place, new). let is = this j l new in omega (arith, is))
    (get_cases before given i l at)

pub rounds_begin : RoundsBegin
rounds_begin loaded may follow = record { runs = []; stands = stands_at_first loaded may follow; earlier = λ i l at. no_some at }

pub rounds_go_on : RoundsGoOn
rounds_go_on loaded may s round before printed given output t so_far serves =
    let many = many_runs so_far.runs before so_far.stands.explained.lines in
    let (more, served) = serves loaded before printed so_far.runs many so_far.stands in
    let upto = upto_round before round so_far.earlier so_far.runs so_far.stands.explained.lines in
    let after = round_stands loaded may before printed s so_far.runs round given output t more so_far.stands upto served in
    record { runs = so_far.runs ++ more; stands = after.stands; earlier = earlier_more before given round so_far.earlier served.here }

-- ---- at the end

-- where this stands between rounds, the output is accounted for
stands_accounted : (loaded : List Batch) (may : ℕ → Bool) (s : State) (given : List Numbered) (output : List ℕ) (runs : List Run) → StandsAt loaded may given output s.history s.shown s.doubt runs → IsAccounted loaded may s given output
stands_accounted loaded may s given output runs stands =
    let (may_be, each) = files_hold loaded may given output s.history runs s.doubt stands.explained stands.doubted in
    record { runs = runs; explained = stands.explained; holds = record { left = s.doubt; may_be = may_be; each = each } }

pub rounds_are_accounted : RoundsAreAccounted
rounds_are_accounted loaded may s round given output so_far = stands_accounted loaded may s given output so_far.runs so_far.stands

pub rest_is_passed : RestIsPassed
rest_is_passed loaded may s round given output input rest so_far are =
    let (all, end) = rest_stands loaded may rest given output s so_far.runs so_far.stands (subst RoundsRise are (lines_rise input)) in
    let place = many_runs so_far.runs given so_far.stands.explained.lines in
    subst (λ (ls : List Numbered). IsAccounted loaded may s ls (output ++ passed (length given) (length rest))) (sym are)
    (subst (λ (k : ℕ). IsAccounted loaded may s (given ++ rest) (output ++ passed k (length rest))) place (stands_accounted loaded may s (given ++ rest) (output ++ passed (length so_far.runs) (length rest)) all end))

-- ---- the first rounds of an input

kept_all : (ls : List Numbered) (rounds : ℕ) → ((k : ℕ) (l : Numbered) → slice_get ls k ≡ Some l → l.round < rounds) → filter (λ (l : Numbered). nat_lt l.round rounds) ls ≡ ls
kept_all [] rounds earlier = refl
kept_all (l ∷ ls) rounds earlier = rw (lt-ltb l.round rounds (earlier 0 l refl)) (ap (λ (xs : List Numbered). l ∷ xs) (kept_all ls rounds (λ k m is. earlier (suc k) m is)))

not_within : (n rounds : ℕ) → rounds ≤ n → nat_lt n rounds ≡ false
not_within n rounds late = grind (arith, nat_tests)

kept_none : (ps : List (List ℕ)) (rounds round k : ℕ) → rounds ≤ round → filter (λ (l : Numbered). nat_lt l.round rounds) (numbered round k ps) ≡ []
kept_none [] rounds round k late = refl
kept_none ([] ∷ ps) rounds round k late = kept_none ps rounds (round + 1) 0 (omega (arith, late))
kept_none ((c ∷ cs) ∷ ps) rounds round k late = rw (not_within round rounds late) (either (k + 1 == max_round) (kept_none ps rounds (round + 1) 0 (omega (arith, late))) (kept_none ps rounds round (k + 1) late))
  where
    either : (b : Bool) → filter (λ (l : Numbered). nat_lt l.round rounds) (numbered (round + 1) 0 ps) ≡ [] → filter (λ (l : Numbered). nat_lt l.round rounds) (numbered round (k + 1) ps) ≡ []
        → filter (λ (l : Numbered). nat_lt l.round rounds) (if b then numbered (round + 1) 0 ps else numbered round (k + 1) ps) ≡ []
    either true next this = next
    either false next this = this

pub first_rounds_are_within : FirstRoundsAreWithin
first_rounds_are_within loaded may s round given output input left so_far lines =
    ap (filter (λ (l : Numbered). nat_lt l.round round)) lines
    ∙ (filter-append (λ (l : Numbered). nat_lt l.round round) given (numbered round 0 (pieces [] left))
    ∙ (ap (λ (xs : List Numbered). xs ++ filter (λ (l : Numbered). nat_lt l.round round) (numbered round 0 (pieces [] left))) (kept_all given round so_far.earlier)
    ∙ (ap (λ (xs : List Numbered). given ++ xs) (kept_none (pieces [] left) round round 0 (omega arith)) ∙ append-nil given)))
