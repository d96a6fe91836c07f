-- A reading that builds trees has no more trees than rows.
use Rattle.std.proofs.Common.{◌≡◌, ◌∙◌, refl, sym, ap, arith, ℕ, zero, suc, ◌+◌, ◌-◌, ◌<◌, ◌≤◌, List, [], ◌∷◌, Bool, true, false, cond, ◌&&◌, Option, Some, None, length, length-append, map}
use Rattle.std.specs.Prelude.{nat_le}
use Rattle.std.specs.List.{enumerate_from, cons_option}
use Rattle.std.proofs.lemmas.Bool.Decides.{nat_tests}
use Rattle.gd_prim.specs.declared.Primitive.{Primitive}
use Rattle.gd_tree.specs.Trees.{Tree}
use Rattle.gd_defs.specs.Rows.{Row}
use Rattle.gd_defs.specs.Template.{Template, passes_template}
use Rattle.gd_bytes.specs.Frozen.{Frame, Scan}
use Rattle.gd_runs.specs.Owed.{Candidate, candidate, candidates_from, tried, owed_by}
use Rattle.gd_runs.specs.Thawed.{built_trees}
use Rattle.gd_match_laws.specs.Moves.{order_from}
use Rattle.gd_match_laws.specs.Rows.{rows_order}
use Rattle.gd_match_laws.proofs.Scans.{run-keeps}
use Rattle.gd_runs.specs.Fitting.{tried_count}
use Rattle.gd_thaw_laws.specs.Freezing.{BuildsFew}

length-map : {A B : Type 0} (f : A → B) (xs : List A) → length (map f xs) ≡ length xs
length-map f [] = refl
length-map f (x ∷ xs) = ap suc (length-map f xs)

module _ (prims : List Primitive) (t : Template) where
  -- how many pass, of places that are numbered from one on, behind a number
  left : ℕ → ℕ → List ℕ → ℕ
  left p n xs = length (order_from prims t (enumerate_from n xs) p)

  at_most : ℕ → ℕ → List ℕ → Type 0
  at_most p n xs = left p n xs ≤ left (p + 1) n xs + 1

  -- of all that come behind
  all_behind : (p n : ℕ) (xs : List ℕ) → p < n → left p n xs ≡ left (p + 1) n xs
  unfolding left
  all_behind p n [] less = refl
  all_behind p n (x ∷ xs) less =
      ap (λ (b : Bool). length (cond (b && passes_template prims t x) ((n, x) ∷ order_from prims t (enumerate_from (n + 1) xs) p) (order_from prims t (enumerate_from (n + 1) xs) p))) (first n less)
      ∙ by (passes_template prims t x) (all_behind p (n + 1) xs (omega (arith, less)))
      ∙ sym (ap (λ (b : Bool). length (cond (b && passes_template prims t x) ((n, x) ∷ order_from prims t (enumerate_from (n + 1) xs) (p + 1)) (order_from prims t (enumerate_from (n + 1) xs) (p + 1)))) (second n less))
    where
      first : (n : ℕ) → p < n → nat_le p n ≡ true
      first n few = grind (arith, nat_tests)

      second : (n : ℕ) → p < n → nat_le (p + 1) n ≡ true
      second n few = grind (arith, nat_tests)

      by : (b : Bool) → length (order_from prims t (enumerate_from (n + 1) xs) p) ≡ length (order_from prims t (enumerate_from (n + 1) xs) (p + 1))
          → length (cond b ((n, x) ∷ order_from prims t (enumerate_from (n + 1) xs) p) (order_from prims t (enumerate_from (n + 1) xs) p))
          ≡ length (cond b ((n, x) ∷ order_from prims t (enumerate_from (n + 1) xs) (p + 1)) (order_from prims t (enumerate_from (n + 1) xs) (p + 1)))
      by true rest = ap suc rest
      by false rest = rest

  -- one number takes one at most
  one_less : (p n : ℕ) (xs : List ℕ) → left p n xs ≤ left (p + 1) n xs + 1
  unfolding left
  one_less p n [] = omega arith
  one_less p n (x ∷ xs) = by (nat_le p n) (nat_le (p + 1) n) (passes_template prims t x) refl refl (one_less p (n + 1) xs)
    where
      between : (p n : ℕ) → nat_le p n ≡ true → nat_le (p + 1) n ≡ false → p < n + 1
      between p n one two = grind (arith, nat_tests)

      never : (p n : ℕ) → nat_le p n ≡ false → nat_le (p + 1) n ≡ true → ⊥
      never p n one two = grind (arith, nat_tests)

      by : (a b c : Bool) → nat_le p n ≡ a → nat_le (p + 1) n ≡ b → length (order_from prims t (enumerate_from (n + 1) xs) p) ≤ length (order_from prims t (enumerate_from (n + 1) xs) (p + 1)) + 1
          → length (cond (a && c) ((n, x) ∷ order_from prims t (enumerate_from (n + 1) xs) p) (order_from prims t (enumerate_from (n + 1) xs) p))
          ≤ length (cond (b && c) ((n, x) ∷ order_from prims t (enumerate_from (n + 1) xs) (p + 1)) (order_from prims t (enumerate_from (n + 1) xs) (p + 1))) + 1
      by true true true ea eb rest = omega (arith, rest)
      by true true false ea eb rest = rest
      by true false true ea eb rest = let same = all_behind p (n + 1) xs (between p n ea eb) in omega (arith, same)
      by true false false ea eb rest = rest
      by false true c ea eb rest = absurd (never p n ea eb)
      by false false c ea eb rest = rest

  -- so many numbers take so many at most
  some_less : (d p n : ℕ) (xs : List ℕ) → left p n xs ≤ left (p + d) n xs + d
  some_less zero p n xs = let same : left (p + 0) n xs ≡ left p n xs = ap (λ q. left q n xs) (plus p) in omega (arith, same)
    where
      plus : (p : ℕ) → p + 0 ≡ p
      plus p = omega arith
  some_less (suc d) p n xs =
      let one = one_less p n xs in
      let rest = some_less d (p + 1) n xs in
      let same : left (p + 1 + d) n xs ≡ left (p + suc d) n xs = ap (λ q. left q n xs) (plus p d) in
      omega (arith, one, rest, same)
    where
      plus : (p d : ℕ) → p + 1 + d ≡ p + suc d
      plus p d = omega arith

  tried_as_many : (w : ℕ) (fs : List Frame) → length (tried prims t w fs) ≡ tried_count fs
  tried_as_many w [] = refl
  tried_as_many w (f ∷ fs) = refl

  built_fewer : (cs : List Candidate) → length (built_trees cs) ≤ length cs
  built_fewer [] = omega arith
  built_fewer (c ∷ cs) = by c.answer (built_fewer cs)
    where
      by : (o : Option Tree) → length (built_trees cs) ≤ length cs → length (cons_option o (built_trees cs)) ≤ suc (length cs)
      by None rest = omega (arith, rest)
      by (Some u) rest = omega (arith, rest)

  owed_count : (xs : List ℕ) (s : Scan) → length (owed_by prims t (enumerate_from 0 xs) s) ≡ tried_count s.frames + left s.iter.place 0 xs
  unfolding left
  owed_count xs s =
      length-append (tried prims t s.weight s.frames) (candidates_from prims t (enumerate_from 0 xs) s.iter.place)
      ∙ ap (λ n. n + length (candidates_from prims t (enumerate_from 0 xs) s.iter.place)) (tried_as_many s.weight s.frames)
      ∙ ap (λ n. tried_count s.frames + n) (length-map (λ c. candidate prims t c.1) (order_from prims t (enumerate_from 0 xs) s.iter.place))

pub builds_few : BuildsFew
builds_few prims t page n s m cs run up few =
    let xs : List ℕ = map (λ (r : Row). r.object) page in
    let all : length (owed_by prims t (rows_order page) s) ≡ length cs + length (owed_by prims t (rows_order page) m) =
    ap length (run-keeps prims (rows_order page) t s cs m run) ∙ length-append cs (owed_by prims t (rows_order page) m) in
    let before = owed_count prims t xs s in
    let behind = owed_count prims t xs m in
    let less = some_less prims t (m.iter.place - s.iter.place) s.iter.place 0 xs in
    let at : left prims t (s.iter.place + (m.iter.place - s.iter.place)) 0 xs ≡ left prims t m.iter.place 0 xs = ap (λ q. left prims t q 0 xs) (back s.iter.place m.iter.place up) in
    let built = built_fewer prims t cs in
    omega (arith, all, before, behind, less, at, built, up, few)
  where
    back : (p q : ℕ) → p ≤ q → p + (q - p) ≡ q
    back p q up = omega (arith, up)
