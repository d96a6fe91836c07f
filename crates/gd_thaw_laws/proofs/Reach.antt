-- A scan between two candidates goes on to a later place.
use Rattle.std.proofs.Common.{◌≡◌, ◌∙◌, refl, sym, ap, subst, arith, length, length-append, ◌==◌, ℕ, ◌+◌, ◌≤◌, List, [], ◌∷◌, ◌++◌, Bool, true, false, cond, ◌&&◌, map, filter}
use Rattle.std.specs.Prelude.{nat_le, nat_lt, option_map}
use Rattle.std.specs.Ordering.{nat_cmp}
use Rattle.std.specs.declared.cmp.Ordering.TheVariants.{Less, Equal, Greater}
use Rattle.std.proofs.lemmas.Bool.Decides.{nat_tests}
use Rattle.gd_prim.specs.declared.Primitive.{Primitive}
use Rattle.gd_tree.specs.Trees.{tree}
use Rattle.gd_defs.specs.Template.{Template, template, passes_template}
use Rattle.gd_bytes.specs.Frozen.{IterAt, Frame, Scan}
use Rattle.gd_runs.specs.Owed.{ScanOrder, Candidate, candidate, candidates_from}
use Rattle.gd_order_laws.specs.Window.{Each, Rising}
use Rattle.gd_match_laws.specs.Moves.{order_from, fresh, scan_passes_over, picks, frames_move, gives, Runs, stays, moves}
use Rattle.gd_match_laws.proofs.First.{next_left, Rising-mapped}
use Rattle.gd_match_laws.proofs.Reached.{iter_at, StackGoes, stack_still, stack_then, comes-to-end}
use Rattle.gd_match_laws.proofs.Scans.{run-keeps}
use Rattle.gd_thaw_laws.specs.Thawing.{between, order_within, candidates_within, ScansReach}

module _ (prims : List Primitive) (order : ScanOrder) where
  -- frames move, and then the scan goes on
  frames-run : (t : Template) (i : IterAt) (n : ℕ) (gs hs : List Frame) (e : Scan) → StackGoes prims t gs hs → ((m : ℕ) → (cs : List Candidate) × Runs prims order t (record { iter = i; weight = m; frames = hs }) cs e)
      → (cs : List Candidate) × Runs prims order t (record { iter = i; weight = n; frames = gs }) cs e
  frames-run t i n _ _ e (stack_still gs) more = more n
  frames-run t i n _ _ e (stack_then gs hs es d step rest) more =
      let to = frames-run t i (n + d) hs es e rest more in
      (to.0, moves (record { iter = i; weight = n; frames = gs }) (record { iter = i; weight = n + d; frames = hs }) e [] to.0 (frames_move t (record { iter = i; weight = n; frames = gs }) d hs step) to.1)

  -- one candidate is tried to its end
  one : (t : Template) (c : ℕ × ℕ) (a : ℕ) → order_from prims t order a ≡ c ∷ order_from prims t order (c.0 + 1) → (e : Scan) → (cs : List Candidate) × Runs prims order t (between (c.0 + 1)) cs e → (cs : List Candidate) × Runs prims order t (between a) cs e
  one (template ks asked) c a is e rest =
      let run = comes-to-end prims (template ks asked) c.1 in
      let to = frames-run (template ks asked) (iter_at (c.0 + 1)) 0 (fresh c.1 (iter_at 0) ∷ []) (run.0 ∷ []) e run.2 (λ m. (
        record { weight = m; answer = option_map (tree run.0.place) run.1 } ∷ rest.0,
        moves (record { iter = iter_at (c.0 + 1); weight = m; frames = run.0 ∷ [] }) (between (c.0 + 1)) e (record { weight = m; answer = option_map (tree run.0.place) run.1 } ∷ []) rest.0
            (gives ks asked (record { iter = iter_at (c.0 + 1); weight = m; frames = run.0 ∷ [] }) run.0 0 run.1 refl run.3) rest.1,
      )) in
      (to.0, moves (between a) (record { iter = iter_at (c.0 + 1); weight = 0; frames = fresh c.1 (iter_at 0) ∷ [] }) e [] to.0 (picks (template ks asked) (between a) c (iter_at (c.0 + 1)) (iter_at 0) refl is) to.1)

  -- the scan passes over the rest, up to a place
  over : (t : Template) (a b : ℕ) → order_from prims t order a ≡ order_from prims t order b → (cs : List Candidate) × Runs prims order t (between a) cs (between b)
  over t a b is = ([], moves (between a) (between b) (between b) [] [] (scan_passes_over t (between a) (iter_at b) is) (stays (between b)))

-- ---- parts of an order

module _ (prims : List Primitive) (t : Template) where
  -- of what is left from one place on, that from a later one on
  pub later_left : (a b : ℕ) (xs : ScanOrder) → a ≤ b → filter (λ c. nat_le b c.0) (order_from prims t xs a) ≡ order_from prims t xs b
  later_left a b [] up = refl
  later_left a b (c ∷ xs) up = by (nat_le a c.0) (nat_le b c.0) (passes_template prims t c.1) refl refl (later_left a b xs up)
    where
      by : (x y p : Bool) → nat_le a c.0 ≡ x → nat_le b c.0 ≡ y → filter (λ d. nat_le b d.0) (order_from prims t xs a) ≡ order_from prims t xs b
          → filter (λ d. nat_le b d.0) (cond (x && p) (c ∷ order_from prims t xs a) (order_from prims t xs a)) ≡ cond (y && p) (c ∷ order_from prims t xs b) (order_from prims t xs b)
      by true true true ex ey rest = ap (λ (z : Bool). cond z (c ∷ filter (λ d. nat_le b d.0) (order_from prims t xs a)) (filter (λ d. nat_le b d.0) (order_from prims t xs a))) ey ∙ ap (λ (l : ScanOrder). c ∷ l) rest
      by true true false ex ey rest = rest
      by true false true ex ey rest = ap (λ (z : Bool). cond z (c ∷ filter (λ d. nat_le b d.0) (order_from prims t xs a)) (filter (λ d. nat_le b d.0) (order_from prims t xs a))) ey ∙ rest
      by true false false ex ey rest = rest
      by false true p ex ey rest = absurd (never ex ey)
        where
          never : nat_le a c.0 ≡ false → nat_le b c.0 ≡ true → ⊥
          never e f = grind (arith, nat_tests, e, f, up)
      by false false p ex ey rest = rest

  -- from an earlier place on all of it is left
  pub all_left : (a b : ℕ) (xs : ScanOrder) → b ≤ a → filter (λ c. nat_le b c.0) (order_from prims t xs a) ≡ order_from prims t xs a
  all_left a b [] up = refl
  all_left a b (c ∷ xs) up = by (nat_le a c.0) (passes_template prims t c.1) refl (all_left a b xs up)
    where
      there : nat_le a c.0 ≡ true → nat_le b c.0 ≡ true
      there e = grind (arith, nat_tests, e, up)

      by : (x p : Bool) → nat_le a c.0 ≡ x → filter (λ d. nat_le b d.0) (order_from prims t xs a) ≡ order_from prims t xs a
          → filter (λ d. nat_le b d.0) (cond (x && p) (c ∷ order_from prims t xs a) (order_from prims t xs a)) ≡ cond (x && p) (c ∷ order_from prims t xs a) (order_from prims t xs a)
      by true true ex rest = ap (λ (z : Bool). cond z (c ∷ filter (λ d. nat_le b d.0) (order_from prims t xs a)) (filter (λ d. nat_le b d.0) (order_from prims t xs a))) (there ex) ∙ ap (λ (l : ScanOrder). c ∷ l) rest
      by true false ex rest = rest
      by false p ex rest = rest

  -- what is left is that up to a later place, and that from there on, where the order rises
  split_left : (a b : ℕ) (xs : ScanOrder) → Rising nat_cmp (map (λ c. c.0) xs) → a ≤ b → order_from prims t xs a ≡ filter (λ c. passes_template prims t c.1) (order_within xs a b) ++ order_from prims t xs b
  split_left a b [] rises up = refl
  split_left a b (c ∷ xs) rises up = by (nat_le a c.0) (nat_lt c.0 b) (nat_le b c.0) (passes_template prims t c.1) refl refl refl (split_left a b xs rises.1 up) ∙ ap (λ (l : ScanOrder). l ++ order_from prims t (c ∷ xs) b) (sym (inside (nat_le a c.0 && nat_lt c.0 b)))
    where
      within : ScanOrder
      within = order_within xs a b

      passing : ScanOrder → ScanOrder
      passing l = filter (λ d. passes_template prims t d.1) l

      chosen : Bool → Bool → ScanOrder
      chosen v p = cond v (cond p (c ∷ passing within) (passing within)) (passing within)

      inside : (v : Bool) → passing (cond v (c ∷ within) within) ≡ chosen v (passes_template prims t c.1)
      inside true = refl
      inside false = refl

      early : nat_lt c.0 b ≡ true → nat_le b c.0 ≡ false
      early e = grind (arith, nat_tests, e)

      late : nat_lt c.0 b ≡ false → nat_le b c.0 ≡ true
      late e = grind (arith, nat_tests, e)

      before : nat_le a c.0 ≡ false → nat_le b c.0 ≡ false
      before e = grind (arith, nat_tests, e, up)

      less_is : (m n : ℕ) → nat_cmp m n ≡ Less → nat_lt m n ≡ true
      less_is m n e = less_by (nat_lt m n) refl (nat_lt n m) e
        where
          less_by : (x : Bool) → nat_lt m n ≡ x → (y : Bool) → nat_cmp m n ≡ Less → nat_lt m n ≡ true
          less_by true ex y e = ex
          less_by false ex y e = absurd (other (m == n) (sym (ap (λ (z : Bool). cond z Less (cond (m == n) Equal Greater)) ex) ∙ e))
            where
              other : (z : Bool) → cond z Equal Greater ≡ Less → ⊥
              other true f = cc
              other false f = cc

      not_early : (n : ℕ) → nat_cmp c.0 n ≡ Less → nat_lt c.0 b ≡ false → nat_lt n b ≡ false
      not_early n less e = let l = less_is c.0 n less in grind (arith, nat_tests, l, e)

      -- behind a late place none is early
      none_within : (ys : ScanOrder) → Each (λ j. nat_cmp c.0 j ≡ Less) (map (λ d. d.0) ys) → nat_lt c.0 b ≡ false → order_within ys a b ≡ []
      none_within [] all e = refl
      none_within (d ∷ ys) (less, all) e = ap (λ (r : Bool). cond (nat_le a d.0 && r) (d ∷ order_within ys a b) (order_within ys a b)) (not_early d.0 less e) ∙ no (nat_le a d.0) ∙ none_within ys all e
        where
          no : (x : Bool) → cond (x && false) (d ∷ order_within ys a b) (order_within ys a b) ≡ order_within ys a b
          no true = refl
          no false = refl

      by : (x y z p : Bool) → nat_le a c.0 ≡ x → nat_lt c.0 b ≡ y → nat_le b c.0 ≡ z → order_from prims t xs a ≡ passing within ++ order_from prims t xs b
          → cond (x && p) (c ∷ order_from prims t xs a) (order_from prims t xs a) ≡ chosen (x && y) p ++ cond (z && p) (c ∷ order_from prims t xs b) (order_from prims t xs b)
      by true true true p ex ey ez rest = absurd (let f = early ey in cc (f, ez))
      by true true false true ex ey ez rest = ap (λ (l : ScanOrder). c ∷ l) rest
      by true true false false ex ey ez rest = rest
      by true false false p ex ey ez rest = absurd (let f = late ey in cc (f, ez))
      by true false true true ex ey ez rest =
          let none : within ≡ [] = none_within xs rises.0 ey in
          ap (λ (l : ScanOrder). c ∷ l) (rest ∙ ap (λ (l : ScanOrder). passing l ++ order_from prims t xs b) none) ∙ ap (λ (l : ScanOrder). passing l ++ (c ∷ order_from prims t xs b)) (sym none)
      by true false true false ex ey ez rest = rest
      by false y true p ex ey ez rest = absurd (let f = before ex in cc (f, ez))
      by false y false p ex ey ez rest = rest

-- ---- runs

module _ {A : Type 0} where
  -- lists with one end have one front
  pub same_front : (xs ys zs : List A) → xs ++ zs ≡ ys ++ zs → xs ≡ ys
  same_front [] [] zs e = refl
  same_front [] (y ∷ ys) zs e = let l = ap length e in let k = length-append (y ∷ ys) zs in absurd (omega (arith, l, k))
  same_front (x ∷ xs) [] zs e = let l = ap length e in let k = length-append (x ∷ xs) zs in absurd (omega (arith, l, k))
  same_front (x ∷ xs) (y ∷ ys) zs e =
      let heads : x ≡ y = cc in
      let tails : xs ++ zs ≡ ys ++ zs = cc in
      cc (heads, same_front xs ys zs tails)

map-append : (f : ℕ × ℕ → Candidate) (xs ys : ScanOrder) → map f (xs ++ ys) ≡ map f xs ++ map f ys
map-append f [] ys = refl
map-append f (x ∷ xs) ys = ap (λ (l : List Candidate). f x ∷ l) (map-append f xs ys)

module _ (prims : List Primitive) (order : ScanOrder) (t : Template) (rises : Rising nat_cmp (map (λ c. c.0) order)) where
  reach : (b : ℕ) (cs : ScanOrder) (a : ℕ) → a ≤ b → order_from prims t order a ≡ cs → (given : List Candidate) × Runs prims order t (between a) given (between b)
  reach b [] a up is = over prims order t a b (is ∙ ap (filter (λ c. nat_le b c.0)) (sym is) ∙ later_left prims t a b order up)
  reach b (c ∷ cs) a up is = by (nat_le b c.0) refl (λ less. reach b cs (c.0 + 1) less left)
    where
      left : order_from prims t order (c.0 + 1) ≡ cs
      left = next_left (λ d. d.0) (λ d. passes_template prims t d.1) a c cs order (Rising-mapped order rises) is

      by : (z : Bool) → nat_le b c.0 ≡ z → ((c.0 + 1 ≤ b) → (given : List Candidate) × Runs prims order t (between (c.0 + 1)) given (between b)) → (given : List Candidate) × Runs prims order t (between a) given (between b)
      by true e more =
          let near : b ≤ c.0 + 1 = grind (arith, nat_tests, e) in
          let whole : filter (λ d. nat_le b d.0) cs ≡ cs = ap (filter (λ d. nat_le b d.0)) (sym left) ∙ all_left prims t (c.0 + 1) b order near ∙ left in
          over prims order t a b (is ∙ sym (sym (later_left prims t a b order up) ∙ ap (filter (λ d. nat_le b d.0)) is ∙ ap (λ (z : Bool). cond z (c ∷ filter (λ d. nat_le b d.0) cs) (filter (λ d. nat_le b d.0) cs)) e ∙ ap (λ (l : ScanOrder). c ∷ l) whole))
      by false e more = one prims order t c a (is ∙ ap (λ (l : ScanOrder). c ∷ l) (sym left)) (between b) (more (grind (arith, nat_tests, e)))

pub scans_reach : ScansReach
scans_reach prims order t a b rises up =
    let run = reach prims order t rises b (order_from prims t order a) a up refl in
    let kept = run-keeps prims order t (between a) run.0 (between b) run.1 in
    let whole : candidates_from prims t order a ≡ candidates_within prims t order a b ++ candidates_from prims t order b
    = ap (map (λ c. candidate prims t c.1)) (split_left prims t a b order rises up) ∙ map-append (λ c. candidate prims t c.1) (filter (λ c. passes_template prims t c.1) (order_within order a b)) (order_from prims t order b) in
    subst (λ (cs : List Candidate). Runs prims order t (between a) cs (between b)) (same_front run.0 (candidates_within prims t order a b) (candidates_from prims t order b) (sym kept ∙ whole)) run.1
