-- The page that a window keeps where its scan has ended.
use Rattle.std.proofs.Common.{◌≡◌, ℕ, suc, ◌+◌, ◌≤◌, List, [], ◌∷◌, Bool, true, false, ◌&&◌, ◌||◌, not, Option, Ok, map, filter, take, refl, ap, sym, subst, ◌∙◌}
use Rattle.std.specs.Prelude.{sum_by}
use Rattle.std.specs.List.{list_any}
use Rattle.std.proofs.lemmas.Bool.{le-ltb}
use Rattle.std.proofs.lemmas.List.Sums.{sum_by-cons}
use Rattle.gd_prim.specs.declared.Primitive.{Primitive}
use Rattle.gd_defs.specs.Query.{Query}
use Rattle.gd_defs.specs.Asked.{Asked, asked_query}
use Rattle.gd_defs.specs.Plan.{template_of}
use Rattle.gd_defs.specs.Reply.{Mark, page, rows_after, has_heavy_candidate, is_heavy_page, is_too_wide, max_page_weight}
use Rattle.gd_defs.specs.Rows.{row_of, row_weight}
use Rattle.gd_defs.specs.Rows as defs
use Rattle.gd_defs.specs.Template.{is_answer, passes_template, tree_of, weight}
use Rattle.gd_bytes.specs.Frozen.{Scan}
use Rattle.gd_runs.specs.Owed.{ScanOrder, Candidate, candidate, weighs_too_much}
use Rattle.gd_runs.specs.Thawed.{answering, built_trees, built_weight}
use Rattle.gd_order_laws.specs.Window.{Each}
use Rattle.gd_template_laws.specs.Laws.{AreHeld}
use Rattle.gd_template_laws.proofs.Laws.{templates_mean}
use Rattle.gd_work_laws.specs.PassedOn.{start, scanned, Runs, AtEnd, rows_order}
use Rattle.gd_work_laws.proofs.PassedOn.{planned, keeps_all, Each-take, offered_is, heavy_is, known_after, answers_first, owed_first, any_map, runs_give}
use Rattle.gd_window.specs.Kept.{Kept}
use Rattle.gd_list_laws.proofs.Fronts.{take_longer}
use Rattle.gd_window.specs.Laws.{RowsBehindAreAsDefined}
use Rattle.gd_suspended_laws.specs.Standing.{rows_of, page_rows, page_objects, IsOrderOf, HasScanned, trees_among, weight_among}
use Rattle.gd_suspended_laws.proofs.Building.{numbered}
use Rattle.gd_suspended_laws.proofs.Gathered.{trees_built, weight_built}
use Rattle.gd_suspended_laws.proofs.Windows.{best_of, keeps_best}
use Rattle.gd_left_laws.specs.Laws.{KeepsPage, IsLightPage}

pub scan_page : RowsBehindAreAsDefined → (prims : List Primitive) (written : Query) (q : Asked) → AreHeld prims → asked_query prims written ≡ Ok q → (order : ScanOrder) (after : Option Mark) (s : Scan) (w : Kept)
    → IsOrderOf prims q order → HasScanned prims q after order s w → AtEnd prims order (template_of q) s → KeepsPage prims q after w
scan_page law prims written q held asked order after s w is has end = record { rows = rows; light = light }
  where
    given : has.given ≡ map (candidate prims (template_of q)) (scanned prims q order)
    given = runs_give prims order (template_of q) start has.given s end has.runs ∙ owed_first prims (template_of q) order

    answers : answering has.given ≡ filter (is_answer prims (template_of q)) (scanned prims q order)
    answers = ap answering given ∙ answers_first prims (template_of q) (scanned prims q order)

    kept : rows_of w ≡ take (suc q.limit) (rows_after prims q after)
    kept = keeps_best prims q after law w (answering has.given) has.is has.seen
        ∙ (ap (best_of prims q after) answers ∙ ap (take (suc q.limit)) (offered_is prims q (planned prims written q held asked) order is.once is.all after))

    rows : page_rows w ≡ page prims q after
    rows = ap (λ (v : Kept). take v.limit (rows_of w)) has.is ∙ (ap (take q.limit) kept ∙ take_longer q.limit (rows_after prims q after))

    light : has_heavy_candidate prims q ≡ false
    light = sym (heavy_is prims q (planned prims written q held asked) order is.once is.all)
        ∙ (sym (any_map weighs_too_much (candidate prims (template_of q)) (scanned prims q order)) ∙ (ap (list_any weighs_too_much) (sym given) ∙ has.light))

-- ---- the trees of the page

map_map : (f : ℕ → Rattle.gd_tree.specs.Trees.Tree) (rs : List defs.Row) → map f (map (λ (r : defs.Row). r.object) rs) ≡ map (λ (r : defs.Row). f r.object) rs
map_map f [] = refl
map_map f (r ∷ rs) = ap (λ l. f r.object ∷ l) (map_map f rs)

sum_objects : (f g : ℕ → ℕ) (rs : List defs.Row) → ((o : ℕ) → f o ≡ g o) → sum_by f (map (λ (r : defs.Row). r.object) rs) ≡ sum_by (λ (r : defs.Row). g r.object) rs
sum_objects f g [] same = refl
sum_objects f g (r ∷ rs) same =
    sum_by-cons f r.object (map (λ (r : defs.Row). r.object) rs) ∙ (ap (λ n. n + sum_by f (map (λ (r : defs.Row). r.object) rs)) (same r.object)
    ∙ (ap (λ n. g r.object + n) (sum_objects f g rs same) ∙ sym (sum_by-cons (λ (r : defs.Row). g r.object) r rs)))

all_answer : (prims : List Primitive) (q : Asked) (rs : List defs.Row) → Each (λ (r : defs.Row). is_answer prims (template_of q) r.object ≡ true) rs → Each (λ o. is_answer prims (template_of q) o ≡ true) (map (λ (r : defs.Row). r.object) rs)
all_answer prims q [] all = tt
all_answer prims q (r ∷ rs) all = (all.0, all_answer prims q rs all.1)

pub light_page : (prims : List Primitive) (written : Query) (q : Asked) → AreHeld prims → asked_query prims written ≡ Ok q → (order : ScanOrder) → IsOrderOf prims q order → (after : Option Mark) (w : Kept)
    → KeepsPage prims q after w → weight_among prims q (page_objects w) ≤ max_page_weight → IsLightPage prims q after w
light_page prims written q held asked order is after w keeps little = record { narrow = narrow; trees = trees }
  where
    answer : Each (λ o. is_answer prims (template_of q) o ≡ true) (map (λ (r : defs.Row). r.object) (page prims q after))
    answer = all_answer prims q (page prims q after) (Each-take (λ (r : defs.Row). is_answer prims (template_of q) r.object ≡ true) q.limit (rows_after prims q after) (known_after prims q (planned prims written q held asked) order is.once is.all after))

    objects : filter (is_answer prims (template_of q)) (page_objects w) ≡ map (λ (r : defs.Row). r.object) (page prims q after)
    objects = ap (λ rs. filter (is_answer prims (template_of q)) (map (λ (r : defs.Row). r.object) rs)) keeps.rows ∙ keeps_all (is_answer prims (template_of q)) (map (λ (r : defs.Row). r.object) (page prims q after)) answer

    trees : trees_among prims q (page_objects w) ≡ map (λ (r : defs.Row). tree_of prims (template_of q) r.object) (page prims q after)
    trees = ap (map (tree_of prims (template_of q))) objects ∙ map_map (tree_of prims (template_of q)) (page prims q after)

    weighs : weight_among prims q (page_objects w) ≡ sum_by (λ (r : defs.Row). row_weight prims q r.object) (page prims q after)
    weighs = ap (sum_by (weight prims (template_of q))) objects ∙ sum_objects (weight prims (template_of q)) (row_weight prims q) (page prims q after) (templates_mean prims written q held asked).weighs

    page_light : is_heavy_page prims q after ≡ false
    page_light = ap (λ b. not q.count && b) (le-ltb max_page_weight _ (subst (λ n. n ≤ max_page_weight) weighs little)) ∙ none (not q.count)
      where
        none : (b : Bool) → (b && false) ≡ false
        none true = refl
        none false = refl

    narrow : is_too_wide prims q after ≡ false
    narrow = ap (λ b. b || is_heavy_page prims q after) keeps.light ∙ page_light

-- ---- building

pub page_built : (prims : List Primitive) (q : Asked) (w : Kept) (e : Scan) (cs : List Candidate) → Runs prims (rows_order (page_rows w)) (template_of q) start cs e → AtEnd prims (rows_order (page_rows w)) (template_of q) e
    → (built_trees cs ≡ trees_among prims q (page_objects w)) × (built_weight cs ≡ weight_among prims q (page_objects w))
page_built prims q w e cs runs end = (ap built_trees given ∙ trees_built prims q (page_objects w), ap built_weight given ∙ weight_built prims q (page_objects w))
  where
    given : cs ≡ map (candidate prims (template_of q)) (filter (passes_template prims (template_of q)) (page_objects w))
    given = runs_give prims (rows_order (page_rows w)) (template_of q) start cs e end runs
        ∙ (owed_first prims (template_of q) (rows_order (page_rows w)) ∙ ap (λ os. map (candidate prims (template_of q)) (filter (passes_template prims (template_of q)) os)) (numbered 0 (page_objects w)))
