-- A whole reading: the bound on its work pays for each of its stages.
use Rattle.std.proofs.Common.{◌≡◌, ℕ, ◌+◌, ◌*◌, ◌/◌, ◌<◌, ◌≤◌, List, [], ◌∷◌, length, map, Bool, true, false, ◌&&◌, ◌||◌, Option, Some, None, Ok, arith}
use Rattle.std.specs.Prelude.{sum_by, if◌then◌else◌}
use Rattle.std.specs.Option.{option_map_or}
use Rattle.std.proofs.lemmas.List.Sums.{sum_by-cons, sum_by-le-sum_by}
use Rattle.gd_prim.specs.declared.Primitive.{Primitive}
use Rattle.gd_prim.specs.Live.{places_where, end_at}
use Rattle.gd_tree.specs.Trees.{tree_count}
use Rattle.gd_defs.specs.Query.{Query}
use Rattle.gd_defs.specs.Property.{near_of}
use Rattle.gd_defs.specs.Asked.{Asking, Members, Asked, asked_query}
use Rattle.gd_defs.specs.Rows.{Row}
use Rattle.gd_defs.specs.Reply.{Mark, page, is_too_wide}
use Rattle.gd_defs.specs.Plan.{clauses_of, template_of, object_tests}
use Rattle.gd_defs.specs.Template.{is_object, meets_constraints, passes_template, passes_clauses, tree_of}
use Rattle.gd_match_laws.proofs.PassedOn.{Each-member}
use Rattle.gd_match_laws.specs.PassedOn.{RootSet, links_of, root_sets, work, set_work, query_work, printed_count, first_left}
use Rattle.gd_match_laws.specs.Walks.{rows_listed}
use Rattle.gd_template_laws.specs.Laws.{AreHeld}
use Rattle.gd_template_laws.specs.Fits.{AreAsked}
use Rattle.gd_work_laws.specs.Laws.{PassedArePaid, PlacesBelowArePaid, TreesAreBelow, IdsArePaid, PlacesHold}
use Rattle.gd_work_laws.specs.Turns.{test_turns, clauses_test_turns, build_turns, clauses_build_turns}
use Rattle.gd_work_laws.specs.Scan.{candidate_turns, first_turns, walk_turns, IsSmallest}
use Rattle.gd_work_laws.specs.Reading.{place_steps, visit_turns, visiting_most, gathering_most, printing_most, reading_most}
use Rattle.gd_work_laws.proofs.Scan.{sets_each}
use Rattle.gd_work_laws.proofs.Smallest.{smallest_work}

-- ---- the steps of a place

pub places_hold : PlacesHold
places_hold prims q o = (
  judged (passes_template prims (template_of q) o) (test_turns prims (template_of q) o) (build_turns prims (template_of q) o),
  within (2 + candidate_turns prims q o),
  close (2 + candidate_turns prims q o),
)
  where
    judged : (p : Bool) (t b : ℕ) → 3 + 16 * (t + (if p then b else 0)) + 48 * (2 + (1 + t + (if p then 1 + b else 0))) + 45 ≤ 64 * (2 + (1 + t + (if p then 1 + b else 0)))
    judged true t b = omega arith
    judged false t b = omega arith

    within : (n : ℕ) → 64 * n ≤ 48 * ((4 * n + 2) / 3)
    within n = omega arith

    close : (n : ℕ) → 48 * ((4 * n + 2) / 3) < 64 * n + 48
    close n = omega arith

module _ (passed : PassedArePaid) (below_paid : PlacesBelowArePaid) (trees_below : TreesAreBelow) (ids_paid : IdsArePaid) (prims : List Primitive) (written : Query) (q : Asked) (asked : asked_query prims written ≡ Ok q) where
  abbrev tests : ℕ → ℕ
  tests x = clauses_test_turns prims (clauses_of q.sort q.members) x

  abbrev built : ℕ → ℕ
  built x = if passes_clauses prims (clauses_of q.sort q.members) x then clauses_build_turns prims (clauses_of q.sort q.members) x else 0

  -- a candidate's turns: its test, and where it passes what is built
  turns_most : (x : ℕ) → candidate_turns prims q x ≤ 3 + tests x + built x
  turns_most x = by (meets_constraints prims (is_object ∷ object_tests q.members) x) (passes_clauses prims (clauses_of q.sort q.members) x) (clauses_test_turns prims (clauses_of q.sort q.members) x) (clauses_build_turns prims (clauses_of q.sort q.members) x)
    where
      by : (m p : Bool) (t b : ℕ) → 1 + (if m then t else 0) + (if m && p then 1 + (1 + b) else 0) ≤ 3 + t + (if p then b else 0)
      by true true t b = omega arith
      by true false t b = omega arith
      by false p t b = omega arith

  eight : (x : ℕ) → 16 * tests x + 8 * built x ≤ 63 * work prims q.sort q.members x
  eight x = by (passes_clauses prims (clauses_of q.sort q.members) x) (clauses_test_turns prims (clauses_of q.sort q.members) x) (clauses_build_turns prims (clauses_of q.sort q.members) x) (work prims q.sort q.members x) (passed prims written q asked x)
    where
      by : (p : Bool) (t b w : ℕ) → 16 * t + (if p then 8 * b else 0) ≤ 63 * w → 16 * t + 8 * (if p then b else 0) ≤ 63 * w
      by true t b w less = less
      by false t b w less = less

  -- ---- visits

  visit_paid : (x n : ℕ) → n ≤ tests x → 48 * (1 + (n + visit_turns prims q x)) ≤ 512 * (1 + work prims q.sort q.members x)
  visit_paid x n more = by _ _ _ _ more (turns_most x) (eight x)
    where
      by : (t c b w : ℕ) → n ≤ t → c ≤ 3 + t + b → 16 * t + 8 * b ≤ 63 * w → 48 * (1 + (n + (4 * (2 + c) + 2) / 3)) ≤ 512 * (1 + w)
      by t c b w one two three = omega (arith, one, two, three)

  sum_mapped : {A : Type 0} (h : A → Option ℕ) (f : ℕ → ℕ) (g : A → ℕ) (xs : List A) → ((x : A) → 48 * g x ≤ 512 * (1 + option_map_or f (h x) 0)) → 48 * sum_by g xs ≤ 512 * sum_by (λ place. 1 + option_map_or f place 0) (map h xs)
  sum_mapped h f g [] less = omega arith
  sum_mapped h f g (x ∷ xs) less = by _ _ _ _ _ (sum_by-cons g x xs) (sum_by-cons (λ (place : Option ℕ). 1 + option_map_or f place 0) (h x) (map h xs)) (less x) (sum_mapped h f g xs less)
    where
      by : (a r s t u : ℕ) → t ≡ a + r → u ≡ 1 + option_map_or f (h x) 0 + s → 48 * a ≤ 512 * (1 + option_map_or f (h x) 0) → 48 * r ≤ 512 * s → 48 * t ≤ 512 * u
      by a r s t u one two here rest = omega (arith, one, two, here, rest)

  abbrev IsVisited : RootSet → Type 0
  IsVisited s = 48 * walk_turns (visit_turns prims q) prims q s ≤ 512 * set_work prims q s

  places_visited : (places : List ℕ) → 48 * sum_by (λ x. 1 + visit_turns prims q x) places ≤ 512 * sum_by (λ place. 1 + option_map_or (work prims q.sort q.members) place 0) (map (λ place. Some place) places)
  places_visited places = sum_mapped (λ place. Some place) (work prims q.sort q.members) (λ x. 1 + visit_turns prims q x) places (λ x. one _ _ (visit_paid x 0 (omega arith)))
    where
      one : (p w : ℕ) → 48 * (1 + (0 + p)) ≤ w → 48 * (1 + p) ≤ w
      one p w less = omega (arith, less)

  links_visited : (a : Asking) (c : Members) (links : List ℕ) → ((o : ℕ) → first_turns prims a c o ≤ tests o) → IsVisited (links_of a c links)
  links_visited a c links first = sum_mapped (λ k. end_at (near_of a.property) prims k) (work prims q.sort q.members)
      (λ k. 1 + option_map_or (λ o. first_turns prims a c o + visit_turns prims q o) (end_at (near_of a.property) prims k) 0) links (λ k. one (end_at (near_of a.property) prims k))
    where
      one : (o : Option ℕ) → 48 * (1 + option_map_or (λ o. first_turns prims a c o + visit_turns prims q o) o 0) ≤ 512 * (1 + option_map_or (work prims q.sort q.members) o 0)
      one None = omega arith
      one (Some o) = visit_paid o (first_turns prims a c o) (first o)

  -- LAW: the work of a query pays for visiting the candidates of each of its smallest sets
  pub visits_paid : AreAsked q.members → (s : RootSet) → IsSmallest prims q s → 48 * walk_turns (visit_turns prims q) prims q s ≤ 512 * query_work prims q
  visits_paid are s small = within _ _ _ (Each-member IsVisited (root_sets prims q.members) (sets_each prims q IsVisited (places_visited (places_where (λ p. true) prims)) places_visited links_visited are) s small.there) (smallest_work prims q s small)
    where
      within : (a b c : ℕ) → a ≤ 512 * b → b ≤ c → a ≤ 512 * c
      within a b c one two = omega (arith, one, two)

  -- ---- pages

  row_paid : (x : ℕ) → place_steps prims q x + tree_count (tree_of prims (template_of q) x) ≤ 512 * (1 + work prims q.sort q.members x)
  row_paid x = by _ _ _ _ _ _ (turns_most x) (eight x) (trees_below prims q x) (below_paid prims written q asked x)
    where
      by : (t c b w n l : ℕ) → c ≤ 3 + t + b → 16 * t + 8 * b ≤ 63 * w → n ≤ 1 + l → l ≤ 4 * w → 64 * (2 + c) + n ≤ 512 * (1 + w)
      by t c b w n l one two three four = omega (arith, one, two, three, four)

  rows_sum : (f g h : Row → ℕ) (rs : List Row) → ((r : Row) → f r + g r ≤ 512 * h r) → sum_by f rs + sum_by g rs ≤ 512 * sum_by h rs
  rows_sum f g h [] less = omega arith
  rows_sum f g h (r ∷ rs) less = by _ _ _ _ _ _ _ _ _ (sum_by-cons f r rs) (sum_by-cons g r rs) (sum_by-cons h r rs) (less r) (rows_sum f g h rs less)
    where
      by : (a b c s t u v w x : ℕ) → v ≡ a + s → w ≡ b + t → x ≡ c + u → a + b ≤ 512 * c → s + t ≤ 512 * u → v + w ≤ 512 * x
      by a b c s t u v w x one two three here rest = omega (arith, one, two, three, here, rest)

  -- LAW: it pays for the rows of a page
  pub page_paid : (rs : List Row) → sum_by (λ (r : Row). 1 + work prims q.sort q.members r.object) rs ≤ query_work prims q
      → sum_by (λ (r : Row). place_steps prims q r.object) rs + sum_by (λ (r : Row). tree_count (tree_of prims (template_of q) r.object)) rs ≤ 512 * query_work prims q
  page_paid rs rows = within _ _ _ (rows_sum (λ (r : Row). place_steps prims q r.object) (λ (r : Row). tree_count (tree_of prims (template_of q) r.object)) (λ (r : Row). 1 + work prims q.sort q.members r.object) rs (λ r. row_paid r.object)) rows
    where
      within : (a b c : ℕ) → a ≤ 512 * b → b ≤ c → a ≤ 512 * c
      within a b c one two = omega (arith, one, two)

  -- ---- the whole

  answers_least : (f : Row → ℕ) (rs : List Row) → sum_by f rs ≤ sum_by (λ r. 1 + f r) rs
  answers_least f rs = sum_by-le-sum_by f (λ r. 1 + f r) rs (λ r. omega arith)

  total : (turns gs ts is w a : ℕ) → 48 * turns ≤ 512 * w → gs + ts ≤ 512 * w → is ≤ a → 48 * (turns + 1) + 1024 + (gs + 256 + (ts + 785 * is + 256)) ≤ 1024 * (1 + w) + 1024 * (1 + a)
  total turns gs ts is w a one two three = omega (arith, one, two, three)

  none_printed : (turns gs ts w : ℕ) → 48 * turns ≤ 512 * w → gs + ts ≤ 512 * w → 48 * (turns + 1) + 1024 + (gs + 256 + 0) ≤ 1024 * (1 + w) + 1024 * (1 + 0)
  none_printed turns gs ts w one two = omega (arith, one, two)

  through : (a b c : ℕ) → a ≤ b → b ≤ c → a ≤ c
  through a b c one two = omega (arith, one, two)

  -- LAW: the bound on its work pays for a whole reading
  pub reading_paid : AreHeld prims → AreAsked q.members → (after : Option Mark) → sum_by (λ (r : Row). 1 + work prims q.sort q.members r.object) (page prims q after) ≤ query_work prims q
      → (s : RootSet) → IsSmallest prims q s → reading_most prims q after s ≤ first_left prims q after
  reading_paid held are after rows s small = by (q.count || is_too_wide prims q after)
    where
      ids : length (rows_listed prims q.members (map (λ (r : Row). tree_of prims (template_of q) r.object) (page prims q after))) ≤ sum_by (λ (r : Row). 1 + printed_count prims q.members 0 r.object) (page prims q after)
      ids = through _ _ _ (ids_paid prims written q held asked (page prims q after)) (answers_least (λ (r : Row). printed_count prims q.members 0 r.object) (page prims q after))

      by : (b : Bool) → visiting_most prims q s + (gathering_most prims q (page prims q after) + (if b then 0 else printing_most prims q (page prims q after)))
          ≤ 1024 * (1 + query_work prims q) + 1024 * (1 + (if b then 0 else sum_by (λ (r : Row). 1 + printed_count prims q.members 0 r.object) (page prims q after)))
      by true = none_printed _ _ _ _ (visits_paid are s small) (page_paid (page prims q after) rows)
      by false = total _ _ _ _ _ _ (visits_paid are s small) (page_paid (page prims q after) rows) ids
