-- Moves of scans lower what is left, from what the work of a query pays for.
use Rattle.std.proofs.Common.{◌≡◌, ◌∙◌, ℕ, ◌+◌, ◌*◌, ◌<◌, ◌≤◌, List, [], ◌∷◌, length, map, filter, Bool, true, false, cond, ◌&&◌, ◌⊎◌, inl, inr, ⊎_elim, Option, Some, None, Ok, refl, sym, ap, subst, arith}
use Rattle.std.specs.Prelude.{sum_by, nat_le, find, option_map, if◌then◌else◌}
use Rattle.std.specs.List.{cons_option}
use Rattle.std.specs.Option.{option_map_or}
use Rattle.std.specs.Ordering.{nat_cmp}
use Rattle.std.specs.declared.cmp.Ordering.TheVariants.{Less}
use Rattle.std.proofs.lemmas.Bool.{leb-true, le-leb, cases_order}
use Rattle.std.proofs.lemmas.Cmp.{nat_cmp_total, tied_itself}
use Rattle.gd_prim.specs.declared.Primitive.{Primitive}
use Rattle.gd_prim.specs.Live.{objects, places_where, end_at}
use Rattle.gd_defs.specs.Query.{Query}
use Rattle.gd_defs.specs.Property.{near_of}
use Rattle.gd_defs.specs.Asked.{Asking, Members, Asked, asked_query}
use Rattle.gd_defs.specs.Rows.{met, meets, answer_meets}
use Rattle.gd_defs.specs.Plan.{template_of}
use Rattle.gd_defs.specs.Template.{Template, template, passes_template}
use Rattle.gd_bytes.specs.Frozen.{Scan}
use Rattle.gd_runs.specs.Owed.{ScanOrder, Candidate, is_among}
use Rattle.gd_runs.specs.RootSets.{RootSet, everything, named_places, links_of, root_sets}
use Rattle.gd_runs.specs.Scanned.{first_times, link_order, set_order, scan_order}
use Rattle.gd_runs.specs.Work.{query_work}
use Rattle.gd_order_laws.specs.Window.{In, Rising}
use Rattle.gd_order_laws.proofs.Rows.{In-mapped}
use Rattle.gd_order_laws.proofs.Sorted.{Each-member, In-filter, In-filtered}
use Rattle.gd_work_laws.specs.PassedOn.{start, order_from, ScanMoves, scan_passes_over, picks as picks_one, frames_move, gives, Runs, stays, moves}
use Rattle.gd_work_laws.proofs.PassedOn.{orders_have_all, answer_known, both_true, true_both, among_in, picks}
use Rattle.gd_work_laws.specs.Turns.{test_turns, build_turns}
use Rattle.gd_work_laws.specs.Scan.{candidate_turns, first_turns, set_turns, chosen}
use Rattle.gd_work_laws.proofs.Laws.{scans_are_paid, chosen_are_smallest}
use Rattle.gd_work_laws.proofs.Rows.{picked_chosen, found_passes, end_there}
use Rattle.gd_left_laws.specs.Left.{stack_left, members_from, scan_left, ScanGoesOn, RunGoesOn, scan_count, run_count, set_members, member_turns, Pays}
use Rattle.gd_left_laws.proofs.Moves.{sum_later, sum_between, all_from}
use Rattle.gd_left_laws.proofs.Frames.{fresh_left, no_frames, stack_lowers}

-- ---- the first candidate

not_less : (n : ℕ) → nat_cmp n n ≡ Less → ⊥
not_less n is = let tie = tied_itself nat_cmp_total n in absurd (cc)

not_twice : (order : ScanOrder) → Rising nat_cmp (map (λ c. c.0) order) → (p : ℕ × ℕ → Bool) (c : ℕ × ℕ) (rest : ScanOrder) → filter p order ≡ c ∷ rest → In c rest → ⊥
not_twice [] rises p c rest is here = absurd (cc)
not_twice (o ∷ os) rises p c rest is here = by (p o) is (λ same. not_twice os rises.1 p c rest same here)
  where
    by : (b : Bool) → cond b (o ∷ filter p os) (filter p os) ≡ c ∷ rest → (filter p os ≡ c ∷ rest → ⊥) → ⊥
    by true same later =
        let first : o ≡ c = cc in
        let behind : filter p os ≡ rest = cc in
        let there : In c os = (In-filter p os c (subst (In c) (sym behind) here)).0 in
        not_less c.0 (ap (λ (e : ℕ × ℕ). nat_cmp e.0 c.0) (sym first) ∙ Each-member (λ y. nat_cmp o.0 y ≡ Less) (map (λ (e : ℕ × ℕ). e.0) os) rises.0 c.0 (In-mapped (λ (e : ℕ × ℕ). e.0) os c there))
    by false same later = later same

module _ (prims : List Primitive) (t : Template) (order : ScanOrder) (h : ℕ → ℕ) (members : List ℕ) (pays : Pays prims t order h members) where
  picked_lowers : (from to : ℕ) (c : ℕ × ℕ) → order_from prims t order from ≡ c ∷ order_from prims t order to → members_from h members to + (1 + build_turns prims t c.1) ≤ members_from h members from
  picked_lowers from to c is = by _ _ _ _ (sum_between h from to c.0 members (leb-true from c.0 tests.0) high (pays.there c kept.0)) (pays.turns c kept.0 tests.1)
    where
      kept : In c order × ((nat_le from c.0 && passes_template prims t c.1) ≡ true)
      kept = In-filter (λ (e : ℕ × ℕ). nat_le from e.0 && passes_template prims t e.1) order c (subst (In c) (sym is) (inl refl))

      tests : (nat_le from c.0 ≡ true) × (passes_template prims t c.1 ≡ true)
      tests = both_true (nat_le from c.0) (passes_template prims t c.1) kept.1

      not_again : to ≤ c.0 → ⊥
      not_again more = not_twice order pays.rises (λ (e : ℕ × ℕ). nat_le from e.0 && passes_template prims t e.1) c (order_from prims t order to) is
          (In-filtered (λ (e : ℕ × ℕ). nat_le to e.0 && passes_template prims t e.1) order c kept.0 (true_both (nat_le to c.0) (passes_template prims t c.1) (le-leb to c.0 more) tests.1))

      high : c.0 < to
      high = ⊎_elim (λ (same : c.0 ≡ to). absurd (not_again (omega (arith, same)))) (λ (rest : (c.0 < to) ⊎ (to < c.0)). ⊎_elim (λ (less : c.0 < to). less) (λ (more : to < c.0). absurd (not_again (omega (arith, more)))) rest) (cases_order c.0 to)

      by : (a b n m : ℕ) → a + n ≤ b → m ≤ n → a + m ≤ b
      by a b n m one two = omega (arith, one, two)

-- ---- moves, and runs

scan_lowers : (prims : List Primitive) (t : Template) (order : ScanOrder) (h : ℕ → ℕ) (members : List ℕ) → Pays prims t order h members → (s : Scan) (cs : List Candidate) (e : Scan) (m : ScanMoves prims order t s cs e) → ScanGoesOn m
    → scan_left prims t h members e + scan_count m ≤ scan_left prims t h members s
scan_lowers prims _ order h members pays _ _ _ (scan_passes_over t s i same) on = by _ _ (stack_left prims t s.frames) (sum_later h s.iter.place i.place members on)
  where
    by : (a b f : ℕ) → a ≤ b → a + f + 0 ≤ b + f
    by a b f less = omega (arith, less)
scan_lowers prims _ order h members pays _ _ _ (picks_one t s c i j none found) on = by _ _ _ _ _ (picked_lowers prims t order h members pays s.iter.place i.place c found) (fresh_left prims t c.1 j) (ap (stack_left prims t) none ∙ no_frames prims t)
  where
    by : (a b n f g : ℕ) → a + (1 + n) ≤ b → f ≡ n → g ≡ 0 → a + f + 1 ≤ b + g
    by a b n f g one two three = omega (arith, one, two, three)
scan_lowers prims _ order h members pays _ _ _ (frames_move t s d fs below) on = by (members_from h members s.iter.place) _ _ _ (stack_lowers prims t s.frames d fs below on)
  where
    by : (m a b c : ℕ) → a + c ≤ b → m + a + c ≤ m + b
    by m a b c less = omega (arith, less)
scan_lowers prims _ order h members pays _ _ _ (gives cs inner s f n o frames ends) on = by (members_from h members s.iter.place) _ (left frames)
  where
    left : s.frames ≡ f ∷ [] → 1 ≤ stack_left prims (template cs inner) s.frames
    left is = rw is (omega arith)

    by : (m b : ℕ) → 1 ≤ b → m + 0 + 1 ≤ m + b
    by m b less = omega (arith, less)

pub run_lowers : (prims : List Primitive) (t : Template) (order : ScanOrder) (h : ℕ → ℕ) (members : List ℕ) → Pays prims t order h members → (s : Scan) (cs : List Candidate) (e : Scan) (r : Runs prims order t s cs e) → RunGoesOn r
    → scan_left prims t h members e + run_count r ≤ scan_left prims t h members s
run_lowers prims t order h members pays _ _ _ (stays s) on = by (scan_left prims t h members s)
  where
    by : (n : ℕ) → n + 0 ≤ n
    by n = omega arith
run_lowers prims t order h members pays _ _ _ (moves s m e cs ds one rest) on = by _ _ _ _ _ (scan_lowers prims t order h members pays s cs m one on.0) (run_lowers prims t order h members pays m ds e rest on.1)
  where
    by : (a b c n k : ℕ) → b + n ≤ a → c + k ≤ b → c + (n + k) ≤ a
    by a b c n k one two = omega (arith, one, two)

-- ---- the order of a query

pub tree_paid : (prims : List Primitive) (q : Asked) (x : ℕ) → passes_template prims (template_of q) x ≡ true → 1 + build_turns prims (template_of q) x ≤ 1 + candidate_turns prims q x
tree_paid prims q x passes = rw passes (more (test_turns prims (template_of q) x) (build_turns prims (template_of q) x))
  where
    more : (a b : ℕ) → 1 + b ≤ 1 + (1 + a + (1 + b))
    more a b = omega arith

in_pairs : (xs : List ℕ) (c : ℕ × ℕ) → In c (map (λ x. (x, x)) xs) → In c.0 xs × (c.0 ≡ c.1)
in_pairs [] c here = absurd here
in_pairs (x ∷ xs) c (inl same) = (inl (ap (λ (e : ℕ × ℕ). e.0) same), ap (λ (e : ℕ × ℕ). e.0) (sym same) ∙ ap (λ (e : ℕ × ℕ). e.1) same)
in_pairs (x ∷ xs) c (inr there) = let rest = in_pairs xs c there in (inr rest.0, rest.1)

first_in : (done : List ℕ) (cs : ScanOrder) (c : ℕ × ℕ) → In c (first_times done cs) → In c cs
first_in done [] c here = absurd here
first_in done (d ∷ ds) c here = by (is_among done d.1) here (first_in done ds c) (first_in (d.1 ∷ done) ds c)
  where
    by : (b : Bool) → In c (if b then first_times done ds else d ∷ first_times (d.1 ∷ done) ds) → (In c (first_times done ds) → In c ds) → (In c (first_times (d.1 ∷ done) ds) → In c ds) → In c (d ∷ ds)
    by true there old new = inr (old there)
    by false (inl same) old new = inl same
    by false (inr there) old new = inr (new there)

links_in : (prims : List Primitive) (a : Asking) (c : Members) (links : List ℕ) (e : ℕ × ℕ) → In e (link_order prims a c links) → In e.0 links × (end_at (near_of a.property) prims e.0 ≡ Some e.1)
links_in prims a c [] e here = absurd here
links_in prims a c (k ∷ links) e here = by (find (λ o. is_among (met prims a c o) k) (objects prims)) refl here (links_in prims a c links e)
  where
    near : (o : ℕ) → find (λ o. is_among (met prims a c o) k) (objects prims) ≡ Some o → end_at (near_of a.property) prims k ≡ Some o
    near o found =
        let known = answer_known prims a.property o k (In-filter (answer_meets prims a (meets prims c)) (Rattle.gd_defs.specs.Property.answers prims a.property o) k
        (among_in (met prims a c o) k (found_passes (λ o. is_among (met prims a c o) k) (objects prims) o found))).0 in
        end_there (near_of a.property) prims k known.0 known.1 ∙ known.4

    by : (r : Option ℕ) → find (λ o. is_among (met prims a c o) k) (objects prims) ≡ r → In e (cons_option (option_map (λ o. (k, o)) r) (link_order prims a c links))
        → (In e (link_order prims a c links) → In e.0 links × (end_at (near_of a.property) prims e.0 ≡ Some e.1)) → In e.0 (k ∷ links) × (end_at (near_of a.property) prims e.0 ≡ Some e.1)
    by None none there rest = let found = rest there in (inr found.0, found.1)
    by (Some o) found (inl same) rest = (inl (ap (λ (d : ℕ × ℕ). d.0) same), subst (λ (d : ℕ × ℕ). end_at (near_of a.property) prims d.0 ≡ Some d.1) same (near o found))
    by (Some o) found (inr there) rest = let one = rest there in (inr one.0, one.1)

-- each of the order of a set is of a member, and paid by its turns
set_pays : (prims : List Primitive) (q : Asked) (s : RootSet) (c : ℕ × ℕ) → In c (set_order prims s) → In c.0 (set_members prims s) × (passes_template prims (template_of q) c.1 ≡ true → 1 + build_turns prims (template_of q) c.1 ≤ member_turns prims q s c.0)
set_pays prims q everything c here =
    let found = in_pairs (places_where (λ p. true) prims) c here in
    (found.0, λ passes. subst (λ x. 1 + build_turns prims (template_of q) c.1 ≤ 1 + candidate_turns prims q x) (sym found.1) (tree_paid prims q c.1 passes))
set_pays prims q (named_places ps) c here =
    let found = in_pairs (filter (is_among ps) (places_where (λ p. true) prims)) c here in
    (among_in ps c.0 (In-filter (is_among ps) (places_where (λ p. true) prims) c.0 found.0).1, λ passes. subst (λ x. 1 + build_turns prims (template_of q) c.1 ≤ 1 + candidate_turns prims q x) (sym found.1) (tree_paid prims q c.1 passes))
set_pays prims q (links_of a d links) c here =
    let found = links_in prims a d links c (first_in [] (link_order prims a d links) c here) in (
      found.0,
      λ passes. subst (λ (o : Option ℕ). 1 + build_turns prims (template_of q) c.1 ≤ 1 + option_map_or (λ o. first_turns prims a d o + candidate_turns prims q o) o 0) (sym found.1)
          (more (first_turns prims a d c.1) _ _ (tree_paid prims q c.1 passes)),
    )
  where
    more : (f b n : ℕ) → 1 + b ≤ 1 + n → 1 + b ≤ 1 + (f + n)
    more f b n less = omega (arith, less)

scan_order_is : (prims : List Primitive) (q : Asked) → scan_order prims q ≡ set_order prims (chosen prims (root_sets prims q.members))
scan_order_is prims q = picks prims q ∙ ap (set_order prims) (picked_chosen prims q)

pub order_pays : (prims : List Primitive) (q : Asked) → Pays prims (template_of q) (scan_order prims q) (member_turns prims q (chosen prims (root_sets prims q.members))) (set_members prims (chosen prims (root_sets prims q.members)))
order_pays prims q = record {
  rises = (orders_have_all prims q).rising;
  there = λ c here. (set_pays prims q (chosen prims (root_sets prims q.members)) c (subst (In c) (scan_order_is prims q) here)).0;
  turns = λ c here. (set_pays prims q (chosen prims (root_sets prims q.members)) c (subst (In c) (scan_order_is prims q) here)).1;
}

members_all : (prims : List Primitive) (q : Asked) (s : RootSet) → members_from (member_turns prims q s) (set_members prims s) 0 ≡ set_turns prims q s
members_all prims q everything = ap (sum_by (λ x. 1 + candidate_turns prims q x)) (all_from (places_where (λ p. true) prims))
members_all prims q (named_places ps) = ap (sum_by (λ x. 1 + candidate_turns prims q x)) (all_from ps)
members_all prims q (links_of a c links) = ap (sum_by (λ k. 1 + option_map_or (λ o. first_turns prims a c o + candidate_turns prims q o) (end_at (near_of a.property) prims k) 0)) (all_from links)

pub start_paid : (prims : List Primitive) (written : Query) (q : Asked) → 0 < length prims → asked_query prims written ≡ Ok q
    → scan_left prims (template_of q) (member_turns prims q (chosen prims (root_sets prims q.members))) (set_members prims (chosen prims (root_sets prims q.members))) start ≤ 10 * query_work prims q
start_paid prims written q some asked = by _ _ _ _ (members_all prims q (chosen prims (root_sets prims q.members))) (no_frames prims (template_of q))
    (scans_are_paid prims written q asked (chosen prims (root_sets prims q.members)) (chosen_are_smallest prims written q some asked))
  where
    by : (a b c d : ℕ) → a ≡ b → c ≡ 0 → b ≤ 10 * d → a + c ≤ 10 * d
    by a b c d one two three = omega (arith, one, two, three)
