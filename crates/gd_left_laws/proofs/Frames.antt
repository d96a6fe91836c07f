-- Moves of frames and of scans lower what is left.
use Rattle.std.proofs.Common.{◌≡◌, ◌≢◌, ◌∙◌, ℕ, ◌+◌, ◌<◌, ◌≤◌, List, [], ◌∷◌, true, ◌&&◌, ◌⊎◌, inl, ⊎_elim, Option, Some, None, refl, sym, ap, subst, arith}
use Rattle.std.specs.Prelude.{nat_le}
use Rattle.std.specs.Option.{option_to_list}
use Rattle.std.specs.Ordering.{nat_cmp}
use Rattle.std.specs.declared.cmp.Ordering.TheVariants.{Equal}
use Rattle.std.proofs.lemmas.Bool.{leb-true, le-leb, cases_order}
use Rattle.std.proofs.lemmas.Cmp.{nat_cmp_total, tied_itself}
use Rattle.gd_prim.specs.declared.Primitive.{Primitive}
use Rattle.gd_prim.specs.declared.End.TheVariants.{Typ}
use Rattle.gd_prim.specs.End.{end_of, places_with}
use Rattle.gd_prim.specs.Live.{refers, places_where, end_at}
use Rattle.gd_tree.specs.Trees.{TreeLists, and_list}
use Rattle.gd_defs.specs.Template.{Hop, links_by, end_here, Template, template, Clauses, no_clauses, clause, led_to, passes_template, passes_clauses, meets_constraints}
use Rattle.gd_bytes.specs.Frozen.{IterAt, Frame}
use Rattle.gd_order_laws.specs.Window.{In, Apart}
use Rattle.gd_order_laws.proofs.Places.{places_rise}
use Rattle.gd_order_laws.proofs.Rows.{Apart-rising}
use Rattle.gd_order_laws.proofs.Sorted.{Each-member, In-filter, In-filtered, Apart-filter}
use Rattle.gd_work_laws.proofs.PassedOn.{both_true, true_both, there_place, passes_there}
use Rattle.gd_work_laws.specs.PassedOn.{passing_from, fresh, FrameMoves, begins, passes_over, descends, takes, below_moves, below_ends, next_begins, later_moves, StackMoves, frame_moves}
use Rattle.gd_work_laws.specs.Turns.{typ_asked, constraints_of, hop_turns, test_turns, build_turns, judge_turns}
use Rattle.gd_work_laws.proofs.Sources.{typ_holds}
use Rattle.gd_left_laws.specs.Left.{clause_from, hop_left, stack_left, clauses_left, FrameGoesOn, StackGoesOn, frame_count, stack_count}
use Rattle.gd_left_laws.proofs.Moves.{clause_later, clause_between, clause_all, hop_parts}

-- ---- the first place that passes

led_once : (prims : List Primitive) (hop : Hop) (place : ℕ) → Apart nat_cmp (led_to prims hop place)
led_once prims (links_by e) place = Apart-rising nat_cmp (places_where (λ p. refers (end_of e p) place) prims) (places_rise (λ p. refers (end_of e p) place) prims)
led_once prims (end_here e) place = one (end_at (end_of e) prims place)
  where
    one : (o : Option ℕ) → Apart nat_cmp (option_to_list o)
    one None = tt
    one (Some x) = (tt, tt)

passes_meets : (prims : List Primitive) (t : Template) (x : ℕ) → passes_template prims t x ≡ true → meets_constraints prims (constraints_of t) x ≡ true
passes_meets prims (template cs inner) x is = (both_true (meets_constraints prims cs x) (passes_clauses prims inner x) is).0

-- the first of what is left from one place on, without which it is what is left from another on
record First (prims : List Primitive) (hop : Hop) (t : Template) (place from to x : ℕ) : Type 0 where
  pub low : from ≤ x
  pub high : x < to
  pub led : In x (led_to prims hop place)
  pub passes : passes_template prims t x ≡ true

first_found : (prims : List Primitive) (hop : Hop) (t : Template) (place from to x : ℕ) → passing_from prims hop t place from ≡ x ∷ passing_from prims hop t place to → First prims hop t place from to x
first_found prims hop t place from to x is = record { low = leb-true from x tests.0; high = high; led = kept.0; passes = tests.1 }
  where
    kept : In x (led_to prims hop place) × ((nat_le from x && passes_template prims t x) ≡ true)
    kept = In-filter (λ y. nat_le from y && passes_template prims t y) (led_to prims hop place) x (subst (In x) (sym is) (inl refl))

    tests : (nat_le from x ≡ true) × (passes_template prims t x ≡ true)
    tests = both_true (nat_le from x) (passes_template prims t x) kept.1

    once : Apart nat_cmp (x ∷ passing_from prims hop t place to)
    once = subst (Apart nat_cmp) is (Apart-filter nat_cmp nat_cmp_total (λ y. nat_le from y && passes_template prims t y) (led_to prims hop place) (led_once prims hop place))

    not_again : to ≤ x → ⊥
    not_again more = Each-member (λ y. nat_cmp x y ≢ Equal) (passing_from prims hop t place to) once.0 x
        (In-filtered (λ y. nat_le to y && passes_template prims t y) (led_to prims hop place) x kept.0 (true_both (nat_le to x) (passes_template prims t x) (le-leb to x more) tests.1)) (tied_itself nat_cmp_total x)

    high : x < to
    high = ⊎_elim (λ (same : x ≡ to). absurd (not_again (omega (arith, same)))) (λ (rest : (x < to) ⊎ (to < x)). ⊎_elim (λ (less : x < to). less) (λ (more : to < x). absurd (not_again (omega (arith, more)))) rest) (cases_order x to)

typed : (prims : List Primitive) (t : Template) (x typ : ℕ) → passes_template prims t x ≡ true → typ_asked (constraints_of t) ≡ Some typ → In x (places_with Typ typ prims)
typed prims t x typ passes asked =
    let at = passes_there (λ p. refers p.typ typ) prims x (typ_holds prims (constraints_of t) typ x asked (passes_meets prims t x passes)) in
    there_place (λ p. refers p.typ typ) prims x at.0 at.1 at.2

-- taking the first place that passes takes its turns off
first_taken : (prims : List Primitive) (hop : Hop) (t : Template) (place from to x : ℕ) → passing_from prims hop t place from ≡ x ∷ passing_from prims hop t place to
    → clause_from prims hop t place to + (1 + build_turns prims t x) ≤ clause_from prims hop t place from
first_taken prims hop t place from to x is =
    let first = first_found prims hop t place from to x is in
    by _ _ _ _ (clause_between prims hop t place from to x (λ typ asked. typed prims t x typ first.passes asked) first.low first.high first.led) (built first.passes)
  where
    built : passes_template prims t x ≡ true → build_turns prims t x ≤ judge_turns prims t x
    built passes = rw passes (more (test_turns prims t x) (build_turns prims t x))
      where
        more : (a b : ℕ) → b ≤ a + b
        more a b = omega arith

    by : (a b n m : ℕ) → a + (1 + n) ≤ b → m ≤ n → a + (1 + m) ≤ b
    by a b n m one two = omega (arith, one, two)

-- a place that begins to be tried has the turns of its tree
pub fresh_left : (prims : List Primitive) (t : Template) (x : ℕ) (j : IterAt) → stack_left prims t (fresh x j ∷ []) ≡ build_turns prims t x
fresh_left prims (template cs no_clauses) x j = refl
fresh_left prims (template cs (clause mode hop t rest)) x j = refl

pub no_frames : (prims : List Primitive) (t : Template) → stack_left prims t [] ≡ 0
no_frames prims (template cs _) = refl

-- ---- frames

mutual
  pub frame_lowers : (prims : List Primitive) (clauses : Clauses) (f : Frame) (ls : TreeLists) (gs : List Frame) (d : ℕ) (i : IterAt) (ks : TreeLists) (hs : List Frame) (m : FrameMoves prims clauses f ls gs d i ks hs) → FrameGoesOn m
      → clauses_left prims clauses f.place i.place ks hs + frame_count m ≤ clauses_left prims clauses f.place f.iter.place ls gs
  frame_lowers prims _ _ _ _ _ _ _ _ (begins mode hop t rest f i at) on =
      by (hop_left hop) (hop_turns hop) _ _ _ _ _ (hop_parts hop) (ap (clause_from prims hop t f.place) at ∙ clause_all prims hop t f.place) (no_frames prims t)
    where
      by : (l h a c n s r : ℕ) → 1 + l ≤ h → a ≡ c + n → s ≡ 0 → l + a + s + r + 1 ≤ h + c + n + r
      by l h a c n s r one two three = omega (arith, one, two, three)
  frame_lowers prims _ _ _ _ _ _ _ _ (passes_over mode hop t rest f ts gs i same) on = by _ _ _ _ _ (clause_later prims hop t f.place f.iter.place i.place on)
    where
      by : (l a b s r : ℕ) → a ≤ b → l + a + s + r + 0 ≤ l + b + s + r
      by l a b s r less = omega (arith, less)
  frame_lowers prims _ _ _ _ _ _ _ _ (descends mode hop t rest f ts x i j found) on =
      by (hop_left hop) _ _ _ _ _ _ (first_taken prims hop t f.place f.iter.place i.place x found) (fresh_left prims t x j) (no_frames prims t)
    where
      by : (l a b n s e r : ℕ) → a + (1 + n) ≤ b → s ≡ n → e ≡ 0 → l + a + s + r + 1 ≤ l + b + e + r
      by l a b n s e r one two three = omega (arith, one, two, three)
  frame_lowers prims _ _ _ _ _ _ _ _ (takes mode hop t rest f ts x i given found) on =
      by (hop_left hop) _ _ _ _ _ (first_taken prims hop t f.place f.iter.place i.place x found)
    where
      by : (l a b n s r : ℕ) → a + (1 + n) ≤ b → l + a + s + r + 1 ≤ l + b + s + r
      by l a b n s r one = omega (arith, one)
  frame_lowers prims _ _ _ _ _ _ _ _ (below_moves mode hop t rest f ts gs d hs below) on = by (hop_left hop) _ _ _ _ _ (stack_lowers prims t gs d hs below on)
    where
      by : (l a s u c r : ℕ) → s + c ≤ u → l + a + s + r + c ≤ l + a + u + r
      by l a s u c r less = omega (arith, less)
  frame_lowers prims _ _ _ _ _ _ _ _ (below_ends mode hop cs inner rest f g ts o ends) on = omega arith
  frame_lowers prims _ _ _ _ _ _ _ _ (next_begins mode hop t m h u rest f ts i ended met at) on =
      by (hop_left hop) (hop_left h) (hop_turns h) _ _ _ _ _ _ _ (hop_parts h) (ap (clause_from prims h u f.place) at ∙ clause_all prims h u f.place) (no_frames prims u)
    where
      by : (k l h a c n s r b e : ℕ) → 1 + l ≤ h → a ≡ c + n → s ≡ 0 → l + a + s + r + 1 ≤ k + b + e + (h + c + n + r)
      by k l h a c n s r b e one two three = omega (arith, one, two, three)
  frame_lowers prims _ _ _ _ _ _ _ _ (later_moves mode hop t rest f ts us vs ls ks gs d i hs later) on = frame_lowers prims rest f (and_list us ls) gs d i (and_list vs ks) hs later on

  pub stack_lowers : (prims : List Primitive) (t : Template) (fs : List Frame) (d : ℕ) (gs : List Frame) (m : StackMoves prims t fs d gs) → StackGoesOn m → stack_left prims t gs + stack_count m ≤ stack_left prims t fs
  stack_lowers prims _ _ _ _ (frame_moves cs inner f gs d i ls hs move) on = by _ _ _ (frame_lowers prims inner f f.lists gs d i ls hs move on)
    where
      by : (a b c : ℕ) → a + c ≤ b → 1 + a + c ≤ 1 + b
      by a b c less = omega (arith, less)
