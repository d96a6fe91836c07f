-- Rounds on threads, one after another: one history explains them.
use Rattle.std.proofs.Common.{◌≡◌, refl, ℕ, ◌+◌, ◌≤◌, ⊎_elim, Bool, true, List, [], ◌∷◌, ◌++◌, length, flat_map, Option, Some, None, slice_get, sym, subst, ap, ◌∙◌, arith, append-nil, append_assoc}
use Rattle.gd_prim.specs.declared.Batch.{Batch}
use Rattle.gd_prim.specs.Builtin.{builtin}
use Rattle.gd_prim.specs.WellFormed.{all_follow}
use Rattle.gd_runs.specs.Legal.{Entry, History, size, with_entries}
use Rattle.gd_runs.specs.Explained.{Numbered, Run, lines_of, Explains, IsRoundAfter}
use Rattle.gd_runs.specs.Core.{State, opened}
use Rattle.gd_runs.specs.Side.{Begun, KeepsHistory}
use Rattle.gd_runs.proofs.Rounds.{no_some, get_cases, get_within, no_round}
use Rattle.gd_runs.proofs.LineMore.{UptoRound}
use Rattle.gd_core_laws.specs.Served.{IsDoubted, IsDoubtOf}
use Rattle.gd_core_laws.specs.Round.{write_lines, StandsAt, begun_at, RoundFacts}
use Rattle.gd_core_laws.specs.Writes.{AreNew, KeepsSide, AreAhead}
use Rattle.gd_core_laws.specs.Threads.{RoundServed, RoundsServed}
use Rattle.gd_core_laws.proofs.WriteLines.{line_there}
use Rattle.gd_core_laws.proofs.RoundAfter.{round_after, stands_after}
use Rattle.gd_core_laws.proofs.Sorted.{write_lines_rise, keeps_writes, front_of}
use Rattle.gd_core_laws.proofs.SideWrites.{walk_keeps}

-- the lines of a round are those of no entry and of no group in doubt
pub are_new : (loaded : List Batch) (may : ℕ → Bool) (before : List Numbered) (printed : List ℕ) (h : History) (shown : ℕ) (doubt : Option Entry) (runs : List Run) (faults : ℕ) (given : List Numbered)
    → StandsAt loaded may before printed h shown doubt runs → AreNew (begun_at h shown doubt faults (length runs) given)
are_new loaded may before printed h shown doubt runs faults given st = record {
  entries = λ i e a x at_a at_x same.
      let number = (line_there (length runs) given i a at_a).number in
      let of = st.explained.entries e x at_x in
      let within = get_within runs x.line of.0 of.1 in
      omega (arith, number, within, same);
  doubted = λ i a x at_a was same.
      let number = (line_there (length runs) given i a at_a).number in
      let d : IsDoubtOf may h runs x = subst (IsDoubted may h runs) was st.doubted in
      let within = get_within runs x.line d.run d.old.there in
      omega (arith, number, within, same);
}

-- entries that were not shown may be
pub stands_shown : (loaded : List Batch) (may : ℕ → Bool) (before : List Numbered) (printed : List ℕ) (h : History) (shown : ℕ) (doubt : Option Entry) (runs : List Run) (n : ℕ)
    → StandsAt loaded may before printed h shown doubt runs → shown ≤ n → n ≤ size h → StandsAt loaded may before printed h n doubt runs
stands_shown loaded may before printed h shown doubt runs n st above below = record {
  explained = st.explained;
  least = let least = st.least in omega (arith, least, above);
  most = below;
  told = λ k r d at is. let it = st.told k r d at is in omega (arith, it, above);
  doubted = st.doubted;
}

-- what a round comes to: it is one of the definition, and what stood before it stands after it
pub record RoundStands (loaded : List Batch) (may : ℕ → Bool) (before : List Numbered) (printed : List ℕ) (s : State) (runs : List Run) (round : ℕ) (given : List Numbered) (output : List ℕ) (t : State) (more : List Run) : Type 0 where
  pub new : List Entry
  pub grown : t.history ≡ with_entries s.history new
  pub round_is : IsRoundAfter may s.history runs round given output new more
  pub stands : StandsAt loaded may (before ++ given) (printed ++ output) t.history t.shown t.doubt (runs ++ more)

module _ (loaded : List Batch) (may : ℕ → Bool) (before : List Numbered) (printed : List ℕ) (s : State) (runs : List Run) (round : ℕ) (given : List Numbered) (output : List ℕ) (t : State) (more : List Run)
    (st : StandsAt loaded may before printed s.history s.shown s.doubt runs) (upto : UptoRound runs round) (r : RoundServed may s runs round given output t more) where
  st_shown : StandsAt loaded may before printed s.history r.shown s.doubt runs
  st_shown = stands_shown loaded may before printed s.history s.shown s.doubt runs r.shown st r.above r.below

  abbrev l : Begun
  l = begun_at s.history r.shown s.doubt r.faults (length runs) given

  fresh : AreNew l
  fresh = are_new loaded may before printed s.history r.shown s.doubt runs r.faults given st_shown

  side_at_join : KeepsSide may l 0 r.joined r.at_join r.new
  side_at_join = record {
    history = r.history;
    writes = keeps_writes l (length runs) given r.joined.history r.joined.shown r.joined.doubt r.joined_faults r.joined_most r.at_join r.new refl r.lock;
    most = r.most;
    front = λ i x y u a b at_i at_x line at_y session above left. front_of l (write_lines_rise (length runs) given) r.at_join r.lock.firsts i x y u a b at_i at_x line at_y session left;
  }

  ahead : AreAhead l 0 (write_lines (length runs) given)
  ahead = record { among = λ i a at. (i, at); rise = write_lines_rise (length runs) given; ahead = λ i a at. omega arith }

  abbrev Both : History → List Entry → Type 0
  Both g new = IsRoundAfter may s.history runs round given output new more × StandsAt loaded may (before ++ given) (printed ++ output) g t.shown t.doubt (runs ++ more)

  both : (new : List Entry) (g : History) → g ≡ with_entries s.history new → KeepsHistory may g t.doubt r.outcomes → RoundFacts s.history r.shown s.doubt r.faults runs given output g t.shown t.doubt r.outcomes new more → Both g new
  both new g is = subst (λ (x : History). KeepsHistory may x t.doubt r.outcomes → RoundFacts s.history r.shown s.doubt r.faults runs given output x t.shown t.doubt r.outcomes new more → Both x new) (sym is)
      (λ keeps facts. (
        round_after loaded may before printed s.history r.shown s.doubt runs st_shown round upto given r.here r.faults output t.shown t.doubt r.outcomes new more keeps facts,
        stands_after loaded may before printed s.history r.shown s.doubt runs st_shown round upto given r.here r.faults output t.shown t.doubt r.outcomes new more keeps facts,
      ))

  pub round_stands : RoundStands loaded may before printed s runs round given output t more
  round_stands =
      let (q, new, side) = walk_keeps may l fresh (write_lines (length runs) given) r.joined r.at_join r.new 0 t r.outcomes side_at_join ahead r.caller in
      let parts = both new t.history side.writes.grown side.history (record { writes = side.writes; most = side.most; lines = r.lines; replies = r.replies; came = r.came }) in
      record { new = new; grown = side.writes.grown; round_is = parts.0; stands = parts.1 }

-- ---- all rounds

upto_more : (runs more : List Run) (given : List Numbered) (round : ℕ) → UptoRound runs round → ((j : ℕ) (r : Run) → slice_get more j ≡ Some r → r.line.round ≡ round) → UptoRound (runs ++ more) (round + 1)
upto_more runs more given round upto this k r at = ⊎_elim
    (λ old. let le = upto k r old in omega (arith, le))
    (λ (j, place, there). let is = this j r there in omega (arith, is))
    (get_cases runs more k r at)

pub rounds_stand : (loaded : List Batch) (may : ℕ → Bool) (rounds : List (List Numbered)) (before : List Numbered) (printed : List ℕ) (s : State) (runs : List Run) (n : ℕ) (output : List ℕ) (t : State)
    → StandsAt loaded may before printed s.history s.shown s.doubt runs → UptoRound runs n → RoundsServed may s runs n rounds output t
    → (all : List Run) × StandsAt loaded may (before ++ flat_map (λ (ls : List Numbered). ls) rounds) (printed ++ output) t.history t.shown t.doubt all
rounds_stand loaded may [] before printed s runs n output t st upto (none, is) = (
  runs,
  subst (λ (x : State). StandsAt loaded may (before ++ []) (printed ++ output) x.history x.shown x.doubt runs) (sym is)
      (subst (λ (ls : List Numbered). StandsAt loaded may ls (printed ++ output) s.history s.shown s.doubt runs) (sym (append-nil before))
      (subst (λ (o : List ℕ). StandsAt loaded may before o s.history s.shown s.doubt runs) (sym (ap (λ (o : List ℕ). printed ++ o) none ∙ append-nil printed)) st)),
)
rounds_stand loaded may (given ∷ rounds) before printed s runs n output t st upto (m, more, one, rest, first, out_is, others) =
    let r = round_stands loaded may before printed s runs n given one m more st upto first in
    let (all, end) = rounds_stand loaded may rounds (before ++ given) (printed ++ one) m (runs ++ more) (n + 1) rest t r.stands (upto_more runs more given n upto r.round_is.this) others in
    let outs : (printed ++ one) ++ rest ≡ printed ++ output = append_assoc printed one rest ∙ ap (λ (o : List ℕ). printed ++ o) (sym out_is) in (
      all,
      subst (λ (o : List ℕ). StandsAt loaded may (before ++ (given ++ flat_map (λ (ls : List Numbered). ls) rounds)) o t.history t.shown t.doubt all) outs
          (subst (λ (ls : List Numbered). StandsAt loaded may ls ((printed ++ one) ++ rest) t.history t.shown t.doubt all) (append_assoc before given (flat_map (λ (ls : List Numbered). ls) rounds)) end),
    )

-- before the first round
pub stands_at_first : (loaded : List Batch) (may : ℕ → Bool) → all_follow builtin 0 loaded ≡ true → StandsAt loaded may [] [] (record { loaded = loaded; entries = [] }) (length loaded) None []
stands_at_first loaded may follow = record {
  explained = no_round loaded may follow;
  least = omega arith;
  most = omega arith;
  told = λ k r d at told. no_some at;
  doubted = tt;
}

-- rounds on threads whose lines are those of an input: the history of the side explains what was printed
pub rounds_explained : (loaded : List Batch) (may : ℕ → Bool) (rounds : List (List Numbered)) (input output : List ℕ) (t : State) → all_follow builtin 0 loaded ≡ true → flat_map (λ (ls : List Numbered). ls) rounds ≡ lines_of input
    → RoundsServed may (opened loaded) [] 0 rounds output t → Explains loaded may input output t.history
rounds_explained loaded may rounds input output t follow are steps =
    let (runs, st) = rounds_stand loaded may rounds [] [] (opened loaded) [] 0 output t (stands_at_first loaded may follow) (λ k r at. no_some at) steps in
    let all : StandsAt loaded may (lines_of input) output t.history t.shown t.doubt runs = subst (λ (ls : List Numbered). StandsAt loaded may ls output t.history t.shown t.doubt runs) are st in
    (runs, all.explained)
