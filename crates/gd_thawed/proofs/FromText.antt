-- Readings that begin where a text says.
use Rattle.std.proofs.Common.{◌≡◌, ◌∙◌, refl, sym, ap, subst, arith, ℕ, zero, suc, ◌+◌, ◌<◌, ◌≤◌, List, [], ◌∷◌, ◌++◌, Bool, ◌&&◌, not, Some, None, map, length, take, true, false, Ok}
use Rattle.std.specs.Prelude.{nat_le, ◌==◌, is_some, Vec, if◌then◌else◌}
use Rattle.std.proofs.lemmas.Bool.{and_parts, leb-true}
use Rattle.std.proofs.lemmas.Bool.Decides.{nat_tests}
use Rattle.std.specs.Global.{Global}
use Rattle.std.specs.List.{list_all, enumerate_from}
use Rattle.gd_prim.specs.declared.Primitive.{Primitive}
use Rattle.gd_defs.specs.Asked.{Asked, asked_query}
use Rattle.gd_defs.specs.Query.{Query}
use Rattle.gd_defs.specs.Template.{Template}
use Rattle.gd_frozen.specs.Meaning.{row_of, walk_of, scan_of, body_of, reading_of}
use Rattle.gd_frozen.specs.Pieces.{trees_in}
use Rattle.gd_frozen.specs.declared.frozen.FrozenScan.{FrozenScan}
use Rattle.gd_frozen.specs.declared.tree.Piece.{Piece}
use Rattle.gd_frozen.specs.declared.frozen.Walk.{Walk as WalkAt}
use Rattle.gd_frozen.specs.declared.frozen.FrozenReading.{FrozenReading}
use Rattle.gd_frozen.specs.declared.frozen.RowAt.{RowAt}
use Rattle.gd_roots.specs.PassedOn.{Root, MatcherThaws, stands, IsOver, StandsIn, plain, Matcher}
use Rattle.gd_roots.specs.PassedOn.root
use Rattle.gd_roots.specs.Rooted.{ScansDefined, HasEach}
use Rattle.gd_runs.specs.Fitting.{row_fits, trees_fit, walk_fits, tried_count, body_fits}
use Rattle.gd_runs.specs.Shape.Ids.{page_ids as ids_on}
use Rattle.gd_runs.specs.Owed.{tree_fits, stack_fits}
use Rattle.gd_scan_laws.proofs.Objects.{true_both}
use Rattle.gd_suspended_laws.proofs.Going.{page_ids, length-map}
use Rattle.gd_shape.proofs.InTrees.{list_seen}
use Rattle.gd_trees.specs.declared.tree.Trees.{Trees as Built, out-Trees}
use Rattle.gd_trees.specs.declared.tree.Tree.{Tree}
use Rattle.gd_window.specs.declared.row.Row.{Row}
use Rattle.gd_thawed.specs.Subject.{marks_in}
use Rattle.gd_thawed.specs.Query.{owed_by_text}
use Rattle.gd_thawed.specs.Thaw.{TreesThaw, StandsAt, StageThaws, IsSubjectOf, Thaws}
use Rattle.gd_thawed.specs.declared.stage.Stage.{Stage}
use Rattle.gd_thawed.specs.declared.stage.Stage.TheVariants as stage
use Rattle.gd_grammar.specs.Mark.{Mark}
use Rattle.gd_prim.specs.declared.Batch.{Batch}
use Rattle.gd_prim.specs.History.{prims_of}
use Rattle.gd_tree.specs.Trees as defs
use Rattle.gd_tree.specs.Trees.{no_trees, append, trees_of, list_of, trees_count}
use Rattle.gd_defs.specs.Lines.{count_json}
use Rattle.gd_defs.specs.Plan.{template_of}
use Rattle.gd_bytes.specs.Frozen.{Scan, Walk, Body, scanning, building, printing, max_number, scan_in_bounds, body_in_bounds, walk_in_bounds, Fits}
use Rattle.gd_runs.specs.Owed.{scan_fits, tried, candidate}
use Rattle.gd_match_laws.specs.Moves.{order_from, Runs, stays}
use Rattle.gd_scan_laws.specs.Ordered.{start}
use Rattle.gd_runs.specs.Scanned.{scan_order}
use Rattle.gd_runs.specs.Shape.{page_shape}
use Rattle.gd_roots.proofs.PassedOn.{plain_owed, plain_tried}
use Rattle.gd_match_laws.specs.Rows.{rows_order}
use Rattle.gd_plan.specs.Asked.{asked_view}
use Rattle.gd_plan.specs.declared.asked.Asked.{Asked as Found}
use Rattle.gd_shape.specs.declared.shape.PageBody.TheVariants as page
use Rattle.gd_trees.specs.View.{view as tree_view, trees_view}
use Rattle.gd_window.specs.Kept.{Kept, HasSeen}
use Rattle.gd_suspended_laws.specs.Standing.{marks_of, page_rows, window_of}
use Rattle.gd_thaw_laws.specs.Gone.{HasGone, read_rows}
use Rattle.gd_thaw_laws.proofs.Gone.{goes_at_once}
use Rattle.gd_thaw_laws.proofs.Owing.{counts_alike}
use Rattle.gd_thaw_laws.proofs.Thawed.{scans_alike, builds_same, kept_again, kept_owe}
use Rattle.gd_thawed.specs.Subject.{after_of}
use Rattle.gd_shape.specs.Shaping as shaping
use Rattle.gd_shape.specs.Shaping.{page_of as page_told, asked_of, body_told, body_list, walks_in, IsOf}
use Rattle.gd_thawed.specs.declared.printing.Printing.{Printing}
use Rattle.gd_thawed.specs.Stages.{IsAsked, TellsRows, StageOwes, Scans, KeepsRows, Builds, CountsRows, Prints, page_prints, kept_owes, body_owes, order_for}
use Rattle.gd_thaw_laws.specs.Spelled.{one_member, NumbersFit}
use Rattle.gd_thawed.specs.Thaw.{HasKept, BuildFits, PrintFits}
use Rattle.gd_thawed.specs.declared.subject.Subject.{Subject}
use Rattle.gd_thawed.specs.declared.building.Building.{Building}
use Rattle.gd_thawed.proofs.Bodies.{kept_few, count_prints as count_prints_fit, printed_fits}
use Rattle.gd_thawed.proofs.Fits.{plain_fits, plain_builds, plain_light}
use Rattle.gd_thawed.proofs.Scanned.{rows_told}

-- LAW: the root of a set scans as the definitions do
pub root_defined : (batches : List Batch) (t : Template) (r : Root) → HasEach batches t r → ScansDefined batches t r
root_defined batches t r each = each.defined

-- the weight of a matcher that stands where a text says
light_at : (m : Matcher) (t : Scan) → stands m ≡ plain t → t.weight ≤ max_number → m.weight ≤ max_number
light_at m t at few = let same = ap (λ (e : Scan). e.weight) at in let less = plain_light t in omega (arith, same, less, few)

-- LAW: a scan goes on from a text
pub scan_thaws : (batches : List Batch) (s : Subject) (plan : Found) (m : Matcher) (w : Kept) (kept : List Mark) (t : Scan) → IsAsked batches s (asked_view plan) → HasKept (prims_of batches) (asked_view plan) s kept w
    → scan_fits (prims_of batches) one_member (template_of (asked_view plan)) t ≡ true → stands m ≡ plain t → IsOver batches (template_of (asked_view plan)) m
    → ((from : ℕ) → order_from (prims_of batches) (template_of (asked_view plan)) (order_for batches plan m) from ≡ order_from (prims_of batches) (template_of (asked_view plan)) (scan_order (prims_of batches) (asked_view plan)) from)
    → StandsIn (length (prims_of batches)) batches (template_of (asked_view plan)) m → t.weight ≤ max_number
    → Scans batches (kept_owes batches s (asked_view plan) (scan_order (prims_of batches) (asked_view plan)) kept (scanning t)) s plan m w
scan_thaws batches s plan m w kept t asked has fits at over same inside light = record {
  asked = asked;
  over = over;
  told = record { inside = inside; weight = light_at m t at light; alike = same };
  come = record {
    kept = kept;
    from = plain t;
    rows = has.fit;
    fits = plain_fits (prims_of batches) one_member (template_of (asked_view plan)) t fits;
    gone = subst (λ e. HasGone (prims_of batches) (asked_view plan) (after_of s.after) (order_for batches plan m) kept (plain t) e w) (sym at)
        (goes_at_once (prims_of batches) (asked_view plan) (after_of s.after) (order_for batches plan m) kept (plain t) w has.is has.seen);
    owes = scans_alike (prims_of batches) (asked_view plan) s.dateline s.with_cursor (after_of s.after) kept (order_for batches plan m) (scan_order (prims_of batches) (asked_view plan)) (plain t) t
        (plain_owed (prims_of batches) (template_of (asked_view plan)) (order_for batches plan m) t
        ∙ ap (λ l. tried (prims_of batches) (template_of (asked_view plan)) t.weight t.frames ++ map (λ c. candidate (prims_of batches) (template_of (asked_view plan)) c.1) l) (same t.iter.place));
  };
}

-- LAW: the rows of a text are kept, and told
pub rows_kept : (batches : List Batch) (s : Subject) (plan : Found) (w : Kept) (kept : List Mark) → HasKept (prims_of batches) (asked_view plan) s kept w → KeepsRows (prims_of batches) (asked_view plan) s w
rows_kept batches s plan w kept has = record { is = has.is; again = kept_again rows_told (prims_of batches) (asked_view plan) (after_of s.after) kept w has.is has.seen }

pub tells_kept : (batches : List Batch) (s : Subject) (q : Asked) (w : Kept) (kept : List Mark) → IsAsked batches s q → HasKept (prims_of batches) q s kept w → TellsRows batches s q kept w
tells_kept batches s q w kept asked has = record {
  fit = has.fit;
  few = has.few;
  page = kept_few rows_told (prims_of batches) q (after_of s.after) kept w has.is has.seen;
  alike = λ body. sym (kept_owe rows_told (prims_of batches) q (after_of s.after) kept w has.is has.seen (scan_order (prims_of batches) q) s.dateline s.with_cursor body asked.some);
}

-- LAW: trees are built on from a text
pub build_thaws : (batches : List Batch) (s : Subject) (b : Building) (w : Kept) (weight : ℕ) (ts : defs.Trees) (t : Scan) → IsAsked batches s (asked_view b.plan) → HasKept (prims_of batches) (asked_view b.plan) s (marks_in b.rows.items) w
    → (asked_view b.plan).count ≡ false → weight ≤ max_number → b.weight ≡ weight → trees_of (map tree_view b.trees.items) ≡ ts → StandsAt batches b.plan t (length (marks_in b.rows.items)) w b.matcher → BuildFits batches (asked_view b.plan) (marks_in b.rows.items) weight ts t
    → Builds batches (kept_owes batches s (asked_view b.plan) (scan_order (prims_of batches) (asked_view b.plan)) (marks_in b.rows.items) (building weight ts t)) s b w
build_thaws batches s b w weight ts t asked has listed few weight_is trees_are stood fits = record {
  asked = asked;
  keeps = rows_kept batches s b.plan w (marks_in b.rows.items) has;
  listed = listed;
  rows = tells_kept batches s (asked_view b.plan) w (marks_in b.rows.items) asked has;
  over = stood.over;
  order = stood.order;
  inside = stood.inside;
  light = light_at b.matcher t stood.stands_at stood.light;
  built = record {
    first = ts;
    from = plain t;
    given = [];
    later = no_trees;
    fits = plain_builds (prims_of batches) one_member (asked_view b.plan) (length (marks_in b.rows.items)) weight ts t fits;
    runs = subst (Runs (prims_of batches) (rows_order (page_rows w)) (template_of (asked_view b.plan)) (plain t) []) (sym stood.stands_at) (stays (plain t));
    trees = ap (λ us. append us no_trees) trees_are;
    all = λ little. refl;
    onward = subst (λ (e : Scan). t.iter.place ≤ e.iter.place) (sym stood.stands_at) (omega arith);
  };
  few = subst (λ n. n ≤ max_number) (sym weight_is) few;
  owes =
      ap (λ n. body_owes batches s (asked_view b.plan) w (building n (trees_of (map tree_view b.trees.items)) (stands b.matcher))) weight_is
      ∙ ap (λ us. body_owes batches s (asked_view b.plan) w (building weight us (stands b.matcher))) trees_are
      ∙ ap (λ e. body_owes batches s (asked_view b.plan) w (building weight ts e)) stood.stands_at
      ∙ builds_same (prims_of batches) (asked_view b.plan) s.dateline s.with_cursor (after_of s.after) (marks_of w) (scan_order (prims_of batches) (asked_view b.plan)) weight ts (plain t) t
      (plain_tried (prims_of batches) (template_of (asked_view b.plan)) t) refl
      ∙ kept_owe rows_told (prims_of batches) (asked_view b.plan) (after_of s.after) (marks_in b.rows.items) w has.is has.seen (scan_order (prims_of batches) (asked_view b.plan)) s.dateline s.with_cursor (building weight ts t) asked.some;
}

-- a count prints from a text, whatever its body is that owes the same
counts_kept : (batches : List Batch) (s : Subject) (plan : Found) (w : Kept) (kept : List Mark) (body : Body) → IsAsked batches s (asked_view plan) → HasKept (prims_of batches) (asked_view plan) s kept w → (asked_view plan).count ≡ true
    → body_owes batches s (asked_view plan) w (printing 0 no_trees []) ≡ body_owes batches s (asked_view plan) w body
    → CountsRows batches (kept_owes batches s (asked_view plan) (scan_order (prims_of batches) (asked_view plan)) kept body) s plan kept w
counts_kept batches s plan w kept body asked has counts same = record {
  asked = asked;
  keeps = rows_kept batches s plan w kept has;
  tells = tells_kept batches s (asked_view plan) w kept asked has;
  fits = count_prints_fit (prims_of batches) (asked_view plan) (length kept);
  prints = ap (λ c. if c then Ok (count_json (length (page_rows w))) else page_shape (prims_of batches) (asked_view plan) [] []) (sym counts);
  owes = same ∙ kept_owe rows_told (prims_of batches) (asked_view plan) (after_of s.after) kept w has.is has.seen (scan_order (prims_of batches) (asked_view plan)) s.dateline s.with_cursor body asked.some;
}

-- LAW: of a count the rows are printed
pub count_thaws : (batches : List Batch) (s : Subject) (plan : Found) (w : Kept) (kept : List Mark) (weight : ℕ) (ts : defs.Trees) (t : Scan) → IsAsked batches s (asked_view plan) → HasKept (prims_of batches) (asked_view plan) s kept w
    → (asked_view plan).count ≡ true → CountsRows batches (kept_owes batches s (asked_view plan) (scan_order (prims_of batches) (asked_view plan)) kept (building weight ts t)) s plan kept w
count_thaws batches s plan w kept weight ts t asked has counts =
    counts_kept batches s plan w kept (building weight ts t) asked has counts
    (sym (counts_alike (prims_of batches) (asked_view plan) (scan_order (prims_of batches) (asked_view plan)) s.dateline s.with_cursor (after_of s.after) (marks_of w) counts weight 0 ts no_trees [] t))

-- ---- what fits

-- LAW: the stage of a scan
pub scan_stands : (batches : List Batch) (s : Subject) (plan : Found) (m : Matcher) (w : Kept) (kept : List Mark) (scan : FrozenScan) (r : Root) (t : Template) → t ≡ template_of (asked_view plan)
    → (written : Query) × (asked_query (prims_of batches) written ≡ Ok (asked_view plan)) → IsAsked batches s (asked_view plan) → HasKept (prims_of batches) (asked_view plan) s kept w
    → (scan_fits (prims_of batches) one_member t (scan_of scan) ≡ true) × MatcherThaws batches t r (scan_of scan) m
    → (length (prims_of batches) ≤ 2_097_151 → ScansDefined batches t r) → StandsIn (length (prims_of batches)) batches t m → (scan_of scan).weight ≤ max_number
    → StageThaws batches s (asked_view plan) kept (scanning (scan_of scan)) w (Some (stage.Scanning (record { plan = plan; matcher = m; before = scan; found = None })))
scan_stands batches s plan m w kept scan r t same meaning asked has thaws scans inside light =
    let q = asked_view plan in
    let fits = subst (λ u. scan_fits (prims_of batches) one_member u (scan_of scan) ≡ true) same thaws.0 in (
      fits,
      record {
        scans = scan_thaws batches s plan m w kept (scan_of scan) asked has fits thaws.1.stands_at (subst (λ u. IsOver batches u m) same thaws.1.over)
            (λ from. ap (λ o. order_from (prims_of batches) (template_of q) o from) (thaws.1.order batches (template_of q) asked.end) ∙ scans asked.end meaning.0 q asked.held meaning.1 (sym same) from)
            (subst (λ u. StandsIn (length (prims_of batches)) batches u m) same inside) light;
        tells = record {
          fits = fits;
          light = light;
          owes = kept_owe rows_told (prims_of batches) q (after_of s.after) kept w has.is has.seen (scan_order (prims_of batches) q) s.dateline s.with_cursor (scanning (scan_of scan)) asked.some;
        };
      },
    )

-- LAW: trees of a text
trees_few : (counts : Bool) (n rows most : ℕ) → most ≡ (if counts then 0 else rows) → n ≤ most → (if counts then n == 0 else nat_le n rows) ≡ true
trees_few true zero rows most is few = refl
trees_few true (suc n) rows most is few = absurd (omega (arith, is, few))
trees_few false n rows most is few = let within : n ≤ rows = omega (arith, is, few) in grind (arith, nat_tests)

trees_many : (counts : Bool) (n rows most : ℕ) → most ≡ (if counts then 0 else rows) → most < n → (if counts then n == 0 else nat_le n rows) ≡ false
trees_many true n rows most is many = let some : 0 < n = omega (arith, is, many) in grind (arith, nat_tests)
trees_many false n rows most is many = let past : rows < n = omega (arith, is, many) in grind (arith, nat_tests)

and_false : (b : Bool) → (b && false) ≡ false
and_false true = refl
and_false false = refl

pub count_trees : (trees : Built) → length (list_of (trees_view trees)) ≡ length (out-Trees trees).items.items
count_trees trees = ap length (list_seen trees) ∙ length-map tree_view (out-Trees trees).items.items

pub trees_stand : (prims : List Primitive) (q : Asked) (rows most : ℕ) (ts : defs.Trees) (trees : Built) (t : Template) → t ≡ template_of q → most ≡ (if q.count then 0 else rows)
    → (trees_view trees ≡ ts) × (list_all (tree_fits prims t) (list_of ts) ≡ true) → length (list_of (trees_view trees)) ≤ most → TreesThaw prims q rows ts (Some trees)
trees_stand prims q rows most ts trees t same few thaws within =
    let fits = subst (λ u. list_all (tree_fits prims u) (list_of ts) ≡ true) same thaws.1 in
    (true_both _ _ fits (trees_few q.count (length (list_of ts)) rows most few (subst (λ us. length (list_of us) ≤ most) thaws.0 within)), thaws.0)

pub trees_past : (prims : List Primitive) (q : Asked) (rows most : ℕ) (ts : defs.Trees) (trees : Built) → most ≡ (if q.count then 0 else rows) → trees_view trees ≡ ts → most < length (list_of (trees_view trees)) → TreesThaw prims q rows ts None
trees_past prims q rows most ts trees few same many =
    ap (λ b. list_all (tree_fits prims (template_of q)) (list_of ts) && b) (trees_many q.count (length (list_of ts)) rows most few (subst (λ us. most < length (list_of us)) same many)) ∙ and_false _

-- the weight of a scan within its bounds
scan_low : (s : Scan) → scan_in_bounds s ≡ true → s.weight ≤ max_number
scan_low s is = leb-true s.weight max_number (and_parts _ _ (and_parts _ _ is).0).1

-- LAW: the numbers of a text lie within its bounds
pub text_numbers : (f : FrozenReading) → Fits (reading_of f) → NumbersFit (body_of f.body)
text_numbers f fits = by (body_of f.body) (and_parts _ _ fits).1
  where
    by : (b : Body) → body_in_bounds b ≡ true → NumbersFit b
    by (scanning s) is = scan_low s is
    by (building w ts s) is = let one = and_parts _ _ is in (leb-true w max_number (and_parts _ _ one.0).0, scan_low s one.1)
    by (printing n ts ws) is = let one = and_parts _ _ is in (leb-true n max_number (and_parts _ _ one.0).0, one.1)

-- ---- the body of a reading that builds

pub count_marks : (rows : List RowAt) → length (marks_in rows) ≡ length rows
count_marks rows = length-map row_of rows

second_false : (a b c d : Bool) → b ≡ false → (((a && b) && c) && d) ≡ false
second_false true b c d is = ap (λ x. (x && c) && d) is
second_false false b c d is = refl

module _ (batches : List Batch) (s : Subject) (plan : Found) (w : Kept) (rows : List RowAt) (weight : ℕ) (ts : defs.Trees) (text : Scan) where
  abbrev bound : ℕ
  bound = length (marks_in rows)

  -- all of it does
  pub body_stands : (trees : Built) (t : Template) → t ≡ template_of (asked_view plan) → text.iter.place ≤ length rows → is_some text.iter.accepted ≡ false → TreesThaw (prims_of batches) (asked_view plan) (length rows) ts (Some trees)
      → nat_le (length (list_of (trees_view trees)) + tried_count text.frames) text.iter.place ≡ true → stack_fits (prims_of batches) one_member t text.frames ≡ true
      → body_fits (prims_of batches) one_member (asked_view plan) bound (building weight ts text) ≡ true
  body_stands trees t same within none thaws few fits =
      true_both _ _
      (true_both _ _ (true_both _ _ (true_both _ _ (ap (λ n. trees_fit (prims_of batches) (asked_view plan) n ts) (count_marks rows) ∙ thaws.0) (is_within (let count = count_marks rows in omega (arith, count, within)))) (ap not none))
      (subst (λ u. stack_fits (prims_of batches) one_member u text.frames ≡ true) same fits))
      (subst (λ vs. nat_le (length (list_of vs) + tried_count text.frames) text.iter.place ≡ true) thaws.1 few)
    where
      is_within : text.iter.place ≤ bound → nat_le text.iter.place bound ≡ true
      is_within few = grind (arith, nat_tests)

-- LAW: a matcher of the rows of a window stands where a text says
pub rows_stand : (batches : List Batch) (s : Subject) (plan : Found) (w : Kept) (text : Scan) (m : Matcher) (ids : Vec ℕ Global) (end : ℕ) (t : Template) → t ≡ template_of (asked_view plan) → IsAsked batches s (asked_view plan)
    → ids.items ≡ map (λ (r : Row). r.id) (take w.limit w.rows) → MatcherThaws batches t (root.Rows ids) text m → StandsIn end batches t m → text.weight ≤ max_number → StandsAt batches plan text end w m
rows_stand batches s plan w text m ids end t same asked are thaws inside light = record {
  stands_at = thaws.stands_at;
  over = subst (λ u. IsOver batches u m) same thaws.over;
  inside = subst (λ u. StandsIn end batches u m) same inside;
  light = light;
  order = thaws.order batches (template_of (asked_view plan)) asked.end ∙ ap (enumerate_from 0) (are ∙ sym (page_ids w));
}

made : (us : defs.Trees) → trees_of (list_of us) ≡ us
made no_trees = refl
made (defs.and_tree u us) = ap (defs.and_tree u) (made us)

again : (us : defs.Trees) (l : List defs.Tree) → list_of us ≡ l → trees_of l ≡ us
again us l is = ap trees_of (sym is) ∙ made us

-- LAW: the trees of a list
pub trees_again : (trees : Built) → trees_of (map tree_view (out-Trees trees).items.items) ≡ trees_view trees
trees_again trees = again (trees_view trees) (map tree_view (out-Trees trees).items.items) (list_seen trees)

-- LAW: what a reading does that builds from where a text says
pub building_thaws : (batches : List Batch) (s : Subject) (plan : Found) (m : Matcher) (trees : Built) (rows : Vec RowAt Global) (weight : ℕ) (w : Kept) (text : Scan) (ts : defs.Trees) → weight ≤ max_number → IsAsked batches s (asked_view plan)
    → HasKept (prims_of batches) (asked_view plan) s (marks_in rows.items) w → trees_view trees ≡ ts → StandsAt batches plan text (length (marks_in rows.items)) w m → BuildFits batches (asked_view plan) (marks_in rows.items) weight ts text → (asked_view plan).count ≡ false
    → (b : Building) → b.plan ≡ plan → b.matcher ≡ m → b.rows ≡ rows → trees_of (map tree_view b.trees.items) ≡ trees_view trees → b.weight ≡ weight
    → Builds batches (kept_owes batches s (asked_view plan) (scan_order (prims_of batches) (asked_view plan)) (marks_in rows.items) (building weight ts text)) s b w
building_thaws batches s plan m trees rows weight w text ts few asked has same stood fits listed b plan_is matcher_is rows_are trees_are weight_is =
    subst (λ (p : Found). Goal (record b { plan = p })) (sym plan_is)
    (subst (λ (n : Matcher). Goal (record b { plan = plan; matcher = n })) (sym matcher_is)
    (subst (λ (rs : Vec RowAt Global). Goal (record b { plan = plan; matcher = m; rows = rs })) (sym rows_are)
    (build_thaws batches s (record b { plan = plan; matcher = m; rows = rows }) w weight ts text asked has listed few weight_is (trees_are ∙ same) stood fits)))
  where
    Goal : Building → Type 0
    Goal x = Builds batches (kept_owes batches s (asked_view plan) (scan_order (prims_of batches) (asked_view plan)) (marks_in rows.items) (building weight ts text)) s x w

-- LAW: rows of a text, as marks
pub all_rows : (prims : List Primitive) (q : Asked) (rows : List RowAt) → list_all (λ (r : RowAt). row_fits prims q (row_of r)) rows ≡ list_all (row_fits prims q) (marks_in rows)
all_rows prims q [] = refl
all_rows prims q (r ∷ rows) = ap (λ b. row_fits prims q (row_of r) && b) (all_rows prims q rows)

-- LAW: a text whose rows do not fit
pub rows_fail : (batches : List Batch) (q : Asked) (with_cursor : Bool) (f : FrozenReading) → (list_all (λ (r : RowAt). row_fits (prims_of batches) q (row_of r)) f.rows.items && nat_le (length f.rows.items) (q.limit + 1)) ≡ false
    → Thaws batches q with_cursor (reading_of f) None
rows_fail batches q with_cursor f fails =
    ap (λ b. b && body_fits (prims_of batches) one_member q (length (marks_in f.rows.items)) (body_of f.body))
    (ap (λ b. b && nat_le (length (marks_in f.rows.items)) (q.limit + 1)) (sym (all_rows (prims_of batches) q f.rows.items))
    ∙ ap (λ n. list_all (λ (r : RowAt). row_fits (prims_of batches) q (row_of r)) f.rows.items && nat_le n (q.limit + 1)) (count_marks f.rows.items) ∙ fails)

rows_right : (batches : List Batch) (q : Asked) (f : FrozenReading) → (list_all (λ (r : RowAt). row_fits (prims_of batches) q (row_of r)) f.rows.items && nat_le (length f.rows.items) (q.limit + 1)) ≡ true
    → (list_all (row_fits (prims_of batches) q) (marks_in f.rows.items) && nat_le (length (marks_in f.rows.items)) (q.limit + 1)) ≡ true
rows_right batches q f fits =
    ap (λ b. b && nat_le (length (marks_in f.rows.items)) (q.limit + 1)) (sym (all_rows (prims_of batches) q f.rows.items))
    ∙ ap (λ n. list_all (λ (r : RowAt). row_fits (prims_of batches) q (row_of r)) f.rows.items && nat_le n (q.limit + 1)) (count_marks f.rows.items) ∙ fits

-- LAW: the window of a text keeps its rows, which fit
pub keeps_text : (prims : List Primitive) (plan a b : Found) (s : Subject) (rows given texts : List RowAt) (w v : Kept) → a ≡ plan → b ≡ plan → given ≡ rows → texts ≡ rows → w ≡ window_of prims (asked_view a) (after_of s.after) []
    → v ≡ record w { rows = v.rows } → HasSeen v (read_rows prims (asked_view b) (marks_in given))
    → (list_all (λ (r : RowAt). row_fits prims (asked_view plan) (row_of r)) texts && nat_le (length texts) ((asked_view plan).limit + 1)) ≡ true → HasKept prims (asked_view plan) s (marks_in rows) v
keeps_text prims plan a b s rows given texts w v one two same text was still seen fits = record {
  is = still ∙ ap (λ (u : Kept). record u { rows = v.rows }) (was ∙ ap (λ (f : Found). window_of prims (asked_view f) (after_of s.after) []) one);
  seen = subst (λ (f : Found). HasSeen v (read_rows prims (asked_view f) (marks_in rows))) two (subst (λ l. HasSeen v (read_rows prims (asked_view b) (marks_in l))) same seen);
  fit = sym (all_rows prims (asked_view plan) rows) ∙ both.0;
  few = let many = count_marks rows in let low = leb-true (length rows) ((asked_view plan).limit + 1) both.1 in omega (arith, many, low);
}
  where
    both : (list_all (λ (r : RowAt). row_fits prims (asked_view plan) (row_of r)) rows ≡ true) × (nat_le (length rows) ((asked_view plan).limit + 1) ≡ true)
    both = and_parts _ _ (subst (λ l. (list_all (λ (r : RowAt). row_fits prims (asked_view plan) (row_of r)) l && nat_le (length l) ((asked_view plan).limit + 1)) ≡ true) text fits)

-- LAW: one whose body does not
pub body_fails : (batches : List Batch) (q : Asked) (with_cursor : Bool) (f : FrozenReading) → (s : Subject) (w : Kept) → (list_all (λ (r : RowAt). row_fits (prims_of batches) q (row_of r)) f.rows.items && nat_le (length f.rows.items) (q.limit + 1)) ≡ true
    → StageThaws batches s q (marks_in f.rows.items) (body_of f.body) w None → Thaws batches q with_cursor (reading_of f) None
body_fails batches q with_cursor f s w fits fails =
    ap (λ b. b && body_fits (prims_of batches) one_member q (length (marks_in f.rows.items)) (body_of f.body)) (rows_right batches q f fits) ∙ fails

-- LAW: one that fits
pub text_thaws : (batches : List Batch) (q : Asked) (with_cursor : Bool) (f : FrozenReading) (s : Subject) → IsSubjectOf q with_cursor (reading_of f) s → kept_owes batches s q (scan_order (prims_of batches) q) (marks_in f.rows.items) (body_of f.body) ≡ owed_by_text batches q with_cursor (reading_of f)
    → (w : Kept) (st : Stage) → (list_all (λ (r : RowAt). row_fits (prims_of batches) q (row_of r)) f.rows.items && nat_le (length f.rows.items) (q.limit + 1)) ≡ true
    → StageThaws batches s q (marks_in f.rows.items) (body_of f.body) w (Some st) → Thaws batches q with_cursor (reading_of f) (Some (record { subject = s; window = w; stage = st }))
text_thaws batches q with_cursor f s is same w st fits thaws = (
  ap (λ b. b && body_fits (prims_of batches) one_member q (length (marks_in f.rows.items)) (body_of f.body)) (rows_right batches q f fits) ∙ thaws.0,
  (is, subst (λ a. StageOwes batches a s st w) same thaws.1),
)

-- LAW: rows that were looked at
pub rows_told_of : (prims ps : List Primitive) (plan a : Found) (rows l : List RowAt) → ps ≡ prims → a ≡ plan → l ≡ rows → (b : Bool)
    → b ≡ (list_all (λ (r : RowAt). row_fits ps (asked_view a) (row_of r)) l && nat_le (length l) ((asked_view a).limit + 1))
    → (list_all (λ (r : RowAt). row_fits prims (asked_view plan) (row_of r)) rows && nat_le (length rows) ((asked_view plan).limit + 1)) ≡ b
rows_told_of prims ps plan a rows l one two three b is =
    ap (λ xs. list_all (λ (r : RowAt). row_fits prims (asked_view plan) (row_of r)) xs && nat_le (length xs) ((asked_view plan).limit + 1)) (sym three)
    ∙ ap (λ (x : Found). list_all (λ (r : RowAt). row_fits prims (asked_view x) (row_of r)) l && nat_le (length l) ((asked_view x).limit + 1)) (sym two)
    ∙ ap (λ xs. list_all (λ (r : RowAt). row_fits xs (asked_view a) (row_of r)) l && nat_le (length l) ((asked_view a).limit + 1)) (sym one)
    ∙ sym is

-- ---- printing

-- LAW: trees of a text are printed on
pub print_thaws : (batches : List Batch) (s : Subject) (plan : Found) (w : Kept) (n : ℕ) (ws : List Walk) (trees : Built) (p : Printing) → IsAsked batches s (asked_view plan)
    → HasKept (prims_of batches) (asked_view plan) s (marks_in p.rows.items) w → (asked_view plan).count ≡ false → trees_view trees ≡ trees_in p.trees → PrintFits batches (asked_view plan) (marks_in p.rows.items) n (trees_in p.trees) ws → p.single ≡ plan.single → (asked_of p.shape ≡ asked_view plan) × (shaping.trees_in p.shape ≡ body_list (page.Trees trees))
    → page_told (prims_of batches) p.shape ≡ body_told (prims_of batches) (asked_view plan) (page.Trees trees) ws → IsOf (prims_of batches) p.shape → walks_in p.shape ≡ ws → p.places ≤ trees_count (trees_view trees) → p.places ≤ max_number
    → Prints batches (kept_owes batches s (asked_view plan) (scan_order (prims_of batches) (asked_view plan)) (marks_in p.rows.items) (printing n (trees_in p.trees) ws)) s p w
print_thaws batches s plan w n ws trees p asked has listed trees_are fit single parts told known walks_are held low = record {
  q = asked_view plan;
  asked = asked;
  keeps = rows_kept batches s plan w (marks_in p.rows.items) has;
  rows = tells_kept batches s (asked_view plan) w (marks_in p.rows.items) asked has;
  single = single;
  asks = parts.0;
  has = parts.1 ∙ ap list_of trees_are;
  prints = told
      ∙ ap (λ us. page_shape (prims_of batches) (asked_view plan) (list_of us) ws) trees_are
      ∙ ap (λ c. if c then Ok (count_json (length (page_rows w))) else page_shape (prims_of batches) (asked_view plan) (list_of (trees_in p.trees)) ws) (sym listed)
      ∙ ap (page_prints (prims_of batches) (asked_view plan) w (trees_in p.trees)) (sym walks_are);
  known = known;
  fits = ap (λ vs. body_fits (prims_of batches) one_member (asked_view plan) (length (marks_in p.rows.items)) (printing 0 (trees_in p.trees) vs)) walks_are
      ∙ printed_fits (prims_of batches) (asked_view plan) (length (marks_in p.rows.items)) n 0 (trees_in p.trees) ws fit.fits (omega arith);
  held = subst (λ us. p.places ≤ trees_count us) trees_are held;
  low = low;
  walks = ap (list_all walk_in_bounds) walks_are ∙ fit.bounds;
  owes = ap (λ vs. body_owes batches s (asked_view plan) w (printing n (trees_in p.trees) vs)) walks_are
      ∙ kept_owe rows_told (prims_of batches) (asked_view plan) (after_of s.after) (marks_in p.rows.items) w has.is has.seen (scan_order (prims_of batches) (asked_view plan)) s.dateline s.with_cursor (printing n (trees_in p.trees) ws) asked.some;
}

-- LAW: so it is where its parts are these
pub prints_at : (batches : List Batch) (s : Subject) (plan : Found) (w : Kept) (n : ℕ) (ws : List Walk) (trees : Built) (rows : Vec RowAt Global) (told : List Piece) (p : Printing) → IsAsked batches s (asked_view plan)
    → HasKept (prims_of batches) (asked_view plan) s (marks_in rows.items) w → (asked_view plan).count ≡ false → trees_view trees ≡ trees_in told → PrintFits batches (asked_view plan) (marks_in rows.items) n (trees_in told) ws → p.rows ≡ rows → p.trees ≡ told
    → p.single ≡ plan.single → (asked_of p.shape ≡ asked_view plan) × (shaping.trees_in p.shape ≡ body_list (page.Trees trees)) → page_told (prims_of batches) p.shape ≡ body_told (prims_of batches) (asked_view plan) (page.Trees trees) ws → IsOf (prims_of batches) p.shape → walks_in p.shape ≡ ws → p.places ≤ trees_count (trees_view trees) → p.places ≤ max_number
    → Prints batches (kept_owes batches s (asked_view plan) (scan_order (prims_of batches) (asked_view plan)) (marks_in rows.items) (printing n (trees_in told) ws)) s p w
prints_at batches s plan w n ws trees rows told p asked has listed trees_are fit rows_are told_are single parts page known walks held low =
    subst (λ (rs : Vec RowAt Global). Goal rs told p) rows_are
    (subst (λ (us : List Piece). Goal p.rows us p) told_are
    (print_thaws batches s plan w n ws trees p asked (subst (λ (rs : Vec RowAt Global). HasKept (prims_of batches) (asked_view plan) s (marks_in rs.items) w) (sym rows_are) has) listed (trees_are ∙ ap trees_in (sym told_are))
    (subst (λ (rs : Vec RowAt Global). PrintFits batches (asked_view plan) (marks_in rs.items) n (trees_in p.trees) ws) (sym rows_are) (subst (λ (us : List Piece). PrintFits batches (asked_view plan) (marks_in rows.items) n (trees_in us) ws) (sym told_are) fit))
    single parts page known walks held low))
  where
    Goal : Vec RowAt Global → List Piece → Printing → Type 0
    Goal rs us x = Prints batches (kept_owes batches s (asked_view plan) (scan_order (prims_of batches) (asked_view plan)) (marks_in rs.items) (printing n (trees_in us) ws)) s x w

-- LAW: of a count the rows are printed, whatever trees a text has
pub count_prints : (batches : List Batch) (s : Subject) (plan : Found) (w : Kept) (kept : List Mark) (n : ℕ) (ts : defs.Trees) (ws : List Walk) → IsAsked batches s (asked_view plan) → HasKept (prims_of batches) (asked_view plan) s kept w
    → (asked_view plan).count ≡ true → CountsRows batches (kept_owes batches s (asked_view plan) (scan_order (prims_of batches) (asked_view plan)) kept (printing n ts ws)) s plan kept w
count_prints batches s plan w kept n ts ws asked has counts =
    counts_kept batches s plan w kept (printing n ts ws) asked has counts
    (sym (counts_alike (prims_of batches) (asked_view plan) (scan_order (prims_of batches) (asked_view plan)) s.dateline s.with_cursor (after_of s.after) (marks_of w) counts 0 0 no_trees no_trees [] start)
    ∙ counts_alike (prims_of batches) (asked_view plan) (scan_order (prims_of batches) (asked_view plan)) s.dateline s.with_cursor (after_of s.after) (marks_of w) counts 0 n no_trees ts ws start)

-- walks of a text, as the definitions have them
all_walks : (prims : List Primitive) (ws : List WalkAt) → list_all (λ (w : WalkAt). walk_fits prims (walk_of w)) ws ≡ list_all (walk_fits prims) (map walk_of ws)
all_walks prims [] = refl
all_walks prims (w ∷ ws) = ap (λ b. walk_fits prims (walk_of w) && b) (all_walks prims ws)

-- LAW: walks that were looked at
pub walks_told_of : (prims ps : List Primitive) (ws l : List WalkAt) → ps ≡ prims → l ≡ ws → (b : Bool) → b ≡ list_all (λ (w : WalkAt). walk_fits ps (walk_of w)) l → list_all (λ (w : WalkAt). walk_fits prims (walk_of w)) ws ≡ b
walks_told_of prims ps ws l one two b is =
    ap (λ xs. list_all (λ (w : WalkAt). walk_fits prims (walk_of w)) xs) (sym two) ∙ ap (λ xs. list_all (λ (w : WalkAt). walk_fits xs (walk_of w)) l) (sym one) ∙ sym is

-- LAW: ids that were counted
pub ids_told_of : (prims : List Primitive) (plan a : Found) (trees : Built) (ts : defs.Trees) (l : List Tree) (n : ℕ) → a ≡ plan → trees_view trees ≡ ts → l ≡ (out-Trees trees).items.items → n ≡ ids_on prims (asked_view a) (map tree_view l)
    → n ≡ ids_on prims (asked_view plan) (list_of ts)
ids_told_of prims plan a trees ts l n one two three is =
    is
    ∙ ap (λ (x : Found). ids_on prims (asked_view x) (map tree_view l)) one
    ∙ ap (λ xs. ids_on prims (asked_view plan) (map tree_view xs)) three
    ∙ ap (ids_on prims (asked_view plan)) (sym (list_seen trees))
    ∙ ap (λ us. ids_on prims (asked_view plan) (list_of us)) two

module _ (batches : List Batch) (s : Subject) (plan : Found) (w : Kept) (rows : List RowAt) (n : ℕ) (ts : defs.Trees) (ws : List WalkAt) where
  abbrev count : ℕ
  count = length (marks_in rows)

  abbrev fit_trees : Bool
  fit_trees = trees_fit (prims_of batches) (asked_view plan) count ts

  abbrev fit_walks : Bool
  fit_walks = list_all (walk_fits (prims_of batches)) (map walk_of ws)

  abbrev fit_places : Bool
  fit_places = nat_le n (trees_count ts)

  abbrev fit_ids : Bool
  fit_ids = nat_le (length (map walk_of ws)) (ids_on (prims_of batches) (asked_view plan) (list_of ts))

  -- its walks do not fit
  pub print_walks : list_all (λ (v : WalkAt). walk_fits (prims_of batches) (walk_of v)) ws ≡ false → StageThaws batches s (asked_view plan) (marks_in rows) (printing n ts (map walk_of ws)) w None
  print_walks fails = second_false fit_trees fit_walks fit_places fit_ids (sym (all_walks (prims_of batches) ws) ∙ fails)

  -- there are more walks than ids
  pub print_ids : ids_on (prims_of batches) (asked_view plan) (list_of ts) < length ws → StageThaws batches s (asked_view plan) (marks_in rows) (printing n ts (map walk_of ws)) w None
  print_ids past = ap (λ b. ((fit_trees && fit_walks) && fit_places) && b) (too_many (length-map walk_of ws)) ∙ and_false _
    where
      too_many : length (map walk_of ws) ≡ length ws → fit_ids ≡ false
      too_many same = let over : ids_on (prims_of batches) (asked_view plan) (list_of ts) < length (map walk_of ws) = omega (arith, same, past) in grind (arith, nat_tests)

  -- all of it does
  pub print_fits : (trees : Built) → list_all (λ (v : WalkAt). walk_fits (prims_of batches) (walk_of v)) ws ≡ true → TreesThaw (prims_of batches) (asked_view plan) (length rows) ts (Some trees) → nat_le n (trees_count ts) ≡ true
      → length ws ≤ ids_on (prims_of batches) (asked_view plan) (list_of ts) → body_fits (prims_of batches) one_member (asked_view plan) count (printing n ts (map walk_of ws)) ≡ true
  print_fits trees walks thaws places few =
      true_both _ _ (true_both _ _ (true_both _ _ (ap (λ k. trees_fit (prims_of batches) (asked_view plan) k ts) (count_marks rows) ∙ thaws.0) (sym (all_walks (prims_of batches) ws) ∙ walks)) places) (enough (length-map walk_of ws))
    where
      enough : length (map walk_of ws) ≡ length ws → fit_ids ≡ true
      enough same = let within : length (map walk_of ws) ≤ ids_on (prims_of batches) (asked_view plan) (list_of ts) = omega (arith, same, few) in grind (arith, nat_tests)
