-- What is kept of a line, and that write lines that were left out bound no number of a read.
use Rattle.std.proofs.Common.{◌≡◌, refl, ℕ, zero, suc, ◌==◌, Bool, true, false, List, [], ◌∷◌, Some, None, slice_get, if◌then◌else◌, sym, ap, ◌∙◌, arith}
use Rattle.gd_runs.specs.Legal.{History}
use Rattle.gd_runs.specs.Explained.{Numbered, Run}
use Rattle.gd_runs.specs.Side.{Kept, Told, WriteLine, IsLeft}
use Rattle.gd_runs.proofs.Rounds.{no_some, some_same}
use Rattle.gd_core_laws.specs.Bounds.{kept_of}
use Rattle.gd_core_laws.specs.Round.{write_lines, IsBelowLater, LineCame, faulty, wrote, lacks_memory, worked, read_again}
use Rattle.gd_core_laws.proofs.Reading.{same_number}
use Rattle.gd_core_laws.proofs.Lock.{same_numbers}
use Rattle.gd_core_laws.proofs.RoundAfter.{equal}
use Rattle.gd_core_laws.proofs.Sorted.{write_lines_rise}
use Rattle.gd_round_lines.specs.Some.{IsSomeOf}
use Rattle.gd_round_lines.proofs.Some.{some_there}

-- ---- what is kept of a line

pub kept_from : (outs : List Told) (k : ℕ) (kept : Kept) → kept_of outs k ≡ Some kept → (i : ℕ) × (t : Told) × (slice_get outs i ≡ Some t) × (t.line ≡ k) × (t.kept ≡ kept)
kept_from [] k kept is = no_some is
kept_from (u ∷ us) k kept is = by (u.line == k) refl is (kept_from us k kept)
  where
    by : (b : Bool) → (u.line == k) ≡ b → (if b then Some u.kept else kept_of us k) ≡ Some kept → (kept_of us k ≡ Some kept → (i : ℕ) × (t : Told) × (slice_get us i ≡ Some t) × (t.line ≡ k) × (t.kept ≡ kept))
        → (i : ℕ) × (t : Told) × (slice_get (u ∷ us) i ≡ Some t) × (t.line ≡ k) × (t.kept ≡ kept)
    by true same e rest = (0, u, refl, same_numbers u.line k same, some_same e)
    by false other e rest = let (i, t, at, line, kept_is) = rest e in (suc i, t, at, line, kept_is)

some_not : {X Y : Type 0} {x : X} → Some x ≡ None → Y
some_not is = no_some (sym is)

pub left_from : (outs : List Told) (k : ℕ) → kept_of outs k ≡ None → IsLeft outs k
left_from [] k is i t at line = no_some at
left_from (u ∷ us) k is i t at line = by (u.line == k) refl is i at (λ e j there. left_from us k e j t there line)
  where
    by : (b : Bool) → (u.line == k) ≡ b → (if b then Some u.kept else kept_of us k) ≡ None → (j : ℕ) → slice_get (u ∷ us) j ≡ Some t → (kept_of us k ≡ None → (j : ℕ) → slice_get us j ≡ Some t → ⊥) → ⊥
    by true same e j there rest = some_not e
    by false other e zero there rest =
        let here : (u.line == k) ≡ true = ap (λ (n : ℕ). n == k) (ap (λ (v : Told). v.line) (some_same there) ∙ line) ∙ same_number k in
        apart (sym here ∙ other)
      where
        apart : true ≡ false → ⊥
        apart q = cc
    by false other e (suc j) there rest = rest e j there

-- ---- lines that were left out bound no number

module _ (first : ℕ) (given : List Numbered) (writes : List WriteLine) (some : IsSomeOf writes (write_lines first given)) (outs : List Told)
    (of : (i : ℕ) (t : Told) → slice_get outs i ≡ Some t → (x : ℕ) × (a : WriteLine) × (slice_get writes x ≡ Some a) × (a.line ≡ t.line)) where
  abbrev all : List WriteLine
  all = write_lines first given

  same_line : (x y : ℕ) (a b : WriteLine) → slice_get all x ≡ Some a → slice_get all y ≡ Some b → a.line ≡ b.line → a ≡ b
  same_line x y a b at_x at_y line =
      let rise = write_lines_rise first given in
      let is = equal x y (λ less. let up = rise x y a b less at_x at_y in omega (arith, up, line)) (λ more. let up = rise y x b a more at_y at_x in omega (arith, up, line)) in
      some_same (sym at_x ∙ ap (λ (n : ℕ). slice_get all n) is ∙ at_y)

  below_all : (k s m : ℕ) → IsBelowLater writes outs k s m → IsBelowLater all outs k s m
  below_all k s m below i x n t a at_i at_x line session later number =
      let (y, b, at_y, line_b) = of i t at_i in
      let (z, at_z) = some_there writes all y b some at_y in
      let same = same_line z x b a at_z at_x (line_b ∙ sym line) in
      below i y n t b at_i at_y line_b (ap (λ (c : WriteLine). c.session) same ∙ session) later number

  below_some : (k s m : ℕ) → IsBelowLater all outs k s m → IsBelowLater writes outs k s m
  below_some k s m below i x n t a at_i at_x line session later number =
      let (z, at_z) = some_there writes all x a some at_x in
      below i z n t a at_i at_z line session later number

  pub came_all : (least : ℕ) (runs : List Run) (h : History) (shown k : ℕ) (r : Run) → LineCame least runs h shown writes outs k r → LineCame least runs h shown all outs k r
  came_all least runs h shown k r (faulty f asks out reply) = faulty f asks out reply
  came_all least runs h shown k r (wrote s w i t asks at line out reply) = wrote s w i t asks at line out reply
  came_all least runs h shown k r (lacks_memory left out reply) = lacks_memory left out reply
  came_all least runs h shown k r (worked s q m entered asks within below front out reply takes later) = worked s q m entered asks within below front out reply takes (below_all k s m later)
  came_all least runs h shown k r (read_again s q m asks out reply within later greatest) = read_again s q m asks out reply within (below_all k s m later) (λ d below fits. greatest d below (below_some k s d fits))
