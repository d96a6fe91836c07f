-- Readings that are put away as texts.
use Rattle.std.proofs.Common.{◌≡◌, ◌∙◌, refl, sym, ap, subst, arith, ℕ, ◌+◌, ◌≤◌, min, List, [], ◌∷◌, ◌++◌, Bool, true, not, Option, Some, None, Result, Ok, Err, length, map, take, codes}
use Rattle.std.specs.Prelude.{if◌then◌else◌, ◌&&◌, nat_lt}
use Rattle.std.specs.List.{list_all}
use Rattle.std.proofs.lemmas.Bool.{and_parts, and_from, le-leb, leb-true}
use Rattle.gd_prim.specs.declared.Batch.{Batch}
use Rattle.gd_prim.specs.declared.Primitive.{Primitive}
use Rattle.gd_prim.specs.History.{prims_of}
use Rattle.gd_defs.specs.Asked.{Asked}
use Rattle.gd_defs.specs.Plan.{template_of}
use Rattle.gd_tree.specs.Json.{Json}
use Rattle.gd_tree.specs.Trees.{Trees, list_of}
use Rattle.gd_defs.specs.Lines.{refused_at, too_wide, count_json}
use Rattle.gd_defs.specs.Rows as rows
use Rattle.gd_defs.specs.Reply.{Answer, Path, Mark, mark_row, row_mark, page_answer, page_cursor, max_page_weight}
use Rattle.gd_defs.specs.Template.{Template}
use Rattle.gd_bytes.specs.Frozen.{Frame, Scan, Body, Walk, Frozen, scanning, building, printing, max_number}
use Rattle.gd_frozen.specs.Meaning.{scan_of}
use Rattle.gd_frozen.specs.Pieces.{trees_in}
use Rattle.gd_frozen.specs.declared.frozen.FrozenScan.{FrozenScan}
use Rattle.gd_runs.specs.Fitting.{row_fits, body_fits, fits}
use Rattle.gd_runs.specs.Owed.{ScanOrder, candidate, tried}
use Rattle.gd_runs.specs.Shape.{page_shape}
use Rattle.gd_runs.specs.Shape.Ids.{page_ids}
use Rattle.gd_runs.specs.Thawed.{window, body_answer}
use Rattle.gd_runs.specs.Scanned.{scan_order}
use Rattle.gd_match_laws.specs.Best.{page_of}
use Rattle.gd_match_laws.specs.Moves.{Runs}
use Rattle.gd_match_laws.specs.Rows.{rows_order}
use Rattle.gd_plan.specs.Asked.{asked_view}
use Rattle.gd_plan.specs.declared.asked.Asked.{Asked as Found}
use Rattle.gd_shape.specs.Shaping as shaping
use Rattle.gd_shape.specs.Shaping.{asked_of, walks_in, walks_told}
use Rattle.gd_shape.proofs.Found.{told_print, told_fit, told_bounds, told_few}
use Rattle.gd_window.specs.Kept.{Kept}
use Rattle.gd_window.specs.Laws.{defined}
use Rattle.gd_window.specs.declared.row.Row.{Row}
use Rattle.gd_roots.specs.PassedOn.{stands, CanBeTold, Matcher}
use Rattle.gd_roots.proofs.PassedOn.{stands_in_place}
use Rattle.gd_suspended_laws.specs.Standing.{marks_of, page_rows}
use Rattle.gd_thaw_laws.specs.Spelled.{one_member, NumbersFit}
use Rattle.gd_thaw_laws.specs.Told.{StandWithin, StandsInPlace, told}
use Rattle.gd_thaw_laws.proofs.Owing.{page_again}
use Rattle.gd_thaw_laws.proofs.Spelled.{fitting_are_spelled}
use Rattle.gd_thaw_laws.proofs.Telling.{told_weighs, gone_told_owes, gone_told_fits, builds_told_owes}
use Rattle.gd_thaw_laws.proofs.Thawed.{scans_alike}
use Rattle.gd_thawed.specs.Freezing.{Freezes, frozen_as, scan_told, build_told, print_told, standing}
use Rattle.gd_thawed.specs.Stages.{IsAsked, TellsScan, Scans, ScansOn, Builds, Prints, StageOwes, trees_built, kept_owes, body_owes, order_for}
use Rattle.gd_thawed.specs.Subject.{after_of, marks_in}
use Rattle.gd_thawed.specs.declared.building.Building.{Building}
use Rattle.gd_thawed.specs.declared.keying.Keying.{Keying}
use Rattle.gd_thawed.specs.declared.printing.Printing.{Printing}
use Rattle.gd_thawed.specs.declared.query.ThawedQuery.{ThawedQuery}
use Rattle.gd_thawed.specs.declared.scanning.Scanning.{Scanning}
use Rattle.gd_thawed.specs.declared.stage.Stage.{Stage}
use Rattle.gd_thawed.specs.declared.stage.Stage.TheVariants as stage
use Rattle.gd_thawed.specs.declared.subject.Subject.{Subject}
use Rattle.gd_thawed.proofs.Bodies.{printed_fits}
use Rattle.gd_thawed.proofs.Built.{built_fits}
use Rattle.gd_thawed.proofs.Scanned.{rows_told, come_fit}

-- LAW: the rows of a window are its marks
pub rows_marked : (rows : List Row) → map (λ r. row_mark (defined r)) rows ≡ map row_mark (map defined rows)
rows_marked [] = refl
rows_marked (r ∷ rows) = ap (λ (l : List Mark). row_mark (defined r) ∷ l) (rows_marked rows)

-- ---- matchers that can be told

within_more : (end more : ℕ) (fs : List Frame) → end ≤ more → StandWithin end fs → StandWithin more fs
within_more end more [] less within = tt
within_more end more (f ∷ fs) less within = (let low = within.0 in omega (arith, less, low), within.1, within_more end more fs less within.2)

-- LAW: what a matcher is asked for that is told, of a reading that scans
pub scans_told : (batches : List Batch) (owed : Answer) (s : Subject) (plan : Found) (m : Matcher) (w : Kept) → Scans batches owed s plan m w → CanBeTold (stands m)
scans_told batches owed s plan m w scans =
    let few = scans.asked.end in
    let at = scans.told.inside.root in
    record { place = omega (arith, few, at); weight = scans.told.weight; frames = within_more (length (prims_of batches)) 4_294_967_295 (stands m).frames (omega (arith, few)) scans.told.inside.frames }

-- LAW: also while a row waits for its keys
pub scan_can : (batches : List Batch) (owed : Answer) (s : Subject) (r : Scanning) (w : Kept) → ScansOn batches owed s r w → CanBeTold (stands r.matcher)
scan_can batches owed s r w on = by r.found on
  where
    by : (o : Option Keying) → ScansOn batches owed s (record r { found = o }) w → CanBeTold (stands r.matcher)
    by None from = scans_told batches owed s r.plan r.matcher w from.scans
    by (Some k) from =
        let few = from.looks.asked.end in
        let at = from.looks.told.inside.root in
        record { place = omega (arith, few, at); weight = from.looks.told.weight; frames = within_more (length (prims_of batches)) 4_294_967_295 (stands r.matcher).frames (omega (arith, few)) from.looks.told.inside.frames }

-- LAW: and of one that builds
pub build_can : (batches : List Batch) (owed : Answer) (s : Subject) (b : Building) (w : Kept) → Builds batches owed s b w → CanBeTold (stands b.matcher)
build_can batches owed s b w builds =
    let end = builds.asked.end in
    let at = builds.inside.root in
    let few = builds.rows.few in
    let most = builds.asked.most in
    record { place = omega (arith, at, few, most); weight = builds.light; frames = within_more (length (prims_of batches)) 4_294_967_295 (stands b.matcher).frames (omega (arith, end)) builds.inside.frames }

-- ---- scans

module _ (batches : List Batch) (owed : Answer) (s : Subject) (plan : Found) (m : Matcher) (w : Kept) (scans : Scans batches owed s plan m w) where
  abbrev q : Asked
  q = asked_view plan

  abbrev at : Scan
  at = told (template_of q) (stands m)

  -- LAW: a reading that scans may be told with the scan at which its matcher stands, as that is told
  pub scans_tell : TellsScan batches owed s q w at
  scans_tell = record {
    fits = gone_told_fits (prims_of batches) q (after_of s.after) (order_for batches plan m) scans.come.kept scans.come.from (stands m) w scans.come.fits scans.come.gone
        (stands_in_place (length (prims_of batches)) batches (template_of q) m scans.told.inside) scans.told.inside.root;
    light = let less = told_weighs (template_of q) (stands m) in let most = scans.told.weight in omega (arith, less, most);
    owes =
        scans_alike (prims_of batches) q s.dateline s.with_cursor (after_of s.after) (marks_of w) (scan_order (prims_of batches) q) (order_for batches plan m) at at
        (ap (λ l. tried (prims_of batches) (template_of q) at.weight at.frames ++ map (λ c. candidate (prims_of batches) (template_of q) c.1) l) (sym (scans.told.alike at.iter.place)))
        ∙ sym (gone_told_owes rows_told (prims_of batches) q (after_of s.after) (order_for batches plan m) scans.come.kept scans.come.from (stands m) w scans.asked.some scans.come.fits scans.come.gone
        (stands_in_place (length (prims_of batches)) batches (template_of q) m scans.told.inside) s.dateline s.with_cursor)
        ∙ scans.come.owes;
  }

-- LAW: behind a row that was offered a reading scans on
pub scans_behind : (batches : List Batch) (owed : Answer) (s : Subject) (plan : Found) (m : Matcher) (before : FrozenScan) (w : Kept) → Scans batches owed s plan m w → (t : Template) → t ≡ template_of (asked_view plan)
    → scan_of before ≡ told t (stands m) → ScansOn batches owed s (record { plan = plan; matcher = m; before = before; found = None }) w
scans_behind batches owed s plan m before w scans t same is = record {
  scans = scans;
  tells = subst (TellsScan batches owed s (asked_view plan) w) (sym (is ∙ ap (λ u. told u (stands m)) same)) (scans_tell batches owed s plan m w scans);
}

-- ---- what readings are put away as

-- rows and a body that fit, can be spelt and owe the same
freezes_with : (batches : List Batch) (owed : Answer) (s : Subject) (q : Asked) (rows : List Mark) (body : Body) → IsAsked batches s q → list_all (row_fits (prims_of batches) q) rows ≡ true → length rows ≤ q.limit + 1
    → body_fits (prims_of batches) one_member q (length rows) body ≡ true → NumbersFit body → kept_owes batches s q (scan_order (prims_of batches) q) rows body ≡ owed → Freezes batches owed s (frozen_as s rows body)
freezes_with batches owed s q rows body asked each few fit numbers owes = record {
  spelled = fitting_are_spelled (prims_of batches) q (frozen_as s rows body) asked.end asked.few asked.most asked.dateline asked.mark numbers whole;
  dateline = refl;
  after = refl;
  fitting = ap (λ (a : Asked). fits (prims_of batches) one_member a (frozen_as s rows body)) asked.asked ∙ whole;
  owes = ap (λ (a : Asked). kept_owes batches s a (scan_order (prims_of batches) a) rows body) asked.asked ∙ owes;
}
  where
    whole : fits (prims_of batches) one_member q (frozen_as s rows body) ≡ true
    whole = and_from _ _ (and_from _ _ each (le-leb (length rows) (q.limit + 1) few)) fit

-- LAW: a reading that scans
pub scan_freezes : (batches : List Batch) (owed : Answer) (s : Subject) (r : Scanning) (w : Kept) → ScansOn batches owed s r w → Freezes batches owed s (frozen_as s (marks_of w) (scanning (scan_told r)))
scan_freezes batches owed s r w on = by r.found on
  where
    by : (o : Option Keying) → ScansOn batches owed s (record r { found = o }) w → Freezes batches owed s (frozen_as s (marks_of w) (scanning (scan_told (record r { found = o }))))
    by None from =
        let fit = come_fit batches owed s (asked_view r.plan) (order_for batches r.plan r.matcher) (stands r.matcher) w from.scans.come in
        let tells = scans_tell batches owed s r.plan r.matcher w from.scans in
        freezes_with batches owed s (asked_view r.plan) (marks_of w) (scanning (told (template_of (asked_view r.plan)) (stands r.matcher))) from.scans.asked fit.each fit.few tells.fits tells.light tells.owes
    by (Some k) from =
        let fit = come_fit batches owed s (asked_view r.plan) (order_for batches r.plan r.matcher) from.looks.at w from.looks.come in
        freezes_with batches owed s (asked_view r.plan) (marks_of w) (scanning (scan_of r.before)) from.looks.asked fit.each fit.few from.tells.fits from.tells.light from.tells.owes

-- LAW: one that builds
pub build_freezes : (batches : List Batch) (owed : Answer) (s : Subject) (b : Building) (w : Kept) → Builds batches owed s b w → Freezes batches owed s (frozen_as s (marks_in b.rows.items) (build_told b))
build_freezes batches owed s b w builds =
    freezes_with batches owed s q (marks_in b.rows.items) (build_told b) builds.asked builds.rows.fit builds.rows.few (built_fits batches owed s b w builds)
    (builds.few, let less = told_weighs t (stands b.matcher) in let few = builds.light in omega (arith, less, few))
    (builds.rows.alike (build_told b)
    ∙ builds_told_owes prims q (scan_order prims q) s.dateline s.with_cursor (after_of s.after) (marks_of w) b.weight (trees_built b) builds.built.from (stands b.matcher) builds.built.given builds.listed (and_parts _ _ (and_parts _ _ builds.built.fits).0).1
    (subst (λ page. Runs prims (rows_order page) t builds.built.from builds.built.given (stands b.matcher)) again builds.built.runs)
    (subst (λ page. StandsInPlace prims (rows_order page) t (stands b.matcher)) again
    (subst (λ o. StandsInPlace prims o t (stands b.matcher)) builds.order (stands_in_place (length (marks_in b.rows.items)) batches t b.matcher builds.inside)))
    ∙ builds.owes)
  where
    prims : List Primitive
    prims = prims_of batches

    q : Asked
    q = asked_view b.plan

    t : Template
    t = template_of q

    again : page_rows w ≡ page_of prims q (after_of s.after) (marks_of w)
    again = page_again prims q (scan_order prims q) s.dateline s.with_cursor (after_of s.after) w builds.keeps.is builds.keeps.again

-- a page that prints the same is owed alike
printed_alike : (prims : List Primitive) (q : Asked) (order : ScanOrder) (dateline : ℕ) (with_cursor : Bool) (after : Option Mark) (kept : List Mark) (n m : ℕ) (ts : Trees) (ws vs : List Walk)
    → page_shape prims q (list_of ts) ws ≡ page_shape prims q (list_of ts) vs
    → body_answer prims q order dateline with_cursor after kept (printing n ts ws) ≡ body_answer prims q order dateline with_cursor after kept (printing m ts vs)
printed_alike prims q order dateline with_cursor after kept n m ts ws vs same = ap whole same
  where
    offered : List rows.Row
    offered = window prims q after (map (mark_row prims q.sort) kept)

    whole : Result Json Path → Answer
    whole page =
        if not q.count && nat_lt max_page_weight 0 then Err (too_wide (max_page_weight + 1))
        else if q.single && nat_lt 1 (length offered) then Err (refused_at (codes "NotUnique") [])
        else page_answer (if with_cursor then Some (page_cursor dateline (take q.limit offered) (nat_lt q.limit (length offered))) else None)
        (if q.count then Ok (count_json (length (take q.limit offered))) else page)

-- LAW: one that prints
pub print_freezes : (batches : List Batch) (owed : Answer) (s : Subject) (p : Printing) (w : Kept) → Prints batches owed s p w → Freezes batches owed s (frozen_as s (marks_in p.rows.items) (print_told p))
print_freezes batches owed s p w prints =
    freezes_with batches owed s prints.q (marks_in p.rows.items) (print_told p) prints.asked prints.rows.fit prints.rows.few
    (printed_fits (prims_of batches) prints.q (length (marks_in p.rows.items)) 0 (min p.shape.printed p.places) (trees_in p.trees) (walks_told p.shape) more_fit (let held = prints.held in omega (arith, held)))
    (let low = prints.low in omega (arith, low), told_bounds prims p.shape prints.known prints.asked.end prints.walks)
    (prints.rows.alike (print_told p) ∙ more_owe ∙ prints.owes)
  where
    prims : List Primitive
    prims = prims_of batches

    ids : page_ids prims (asked_of p.shape) (shaping.trees_in p.shape) ≡ page_ids prims prints.q (list_of (trees_in p.trees))
    ids = ap (λ (q : Asked). page_ids prims q (shaping.trees_in p.shape)) prints.asks ∙ ap (page_ids prims prints.q) prints.has

    -- it fits with more walks
    more_fit : body_fits prims one_member prints.q (length (marks_in p.rows.items)) (printing 0 (trees_in p.trees) (walks_told p.shape)) ≡ true
    more_fit =
        let parts = and_parts _ _ prints.fits in
        let front = and_parts _ _ parts.0 in
        let few : length (walks_told p.shape) ≤ page_ids prims prints.q (list_of (trees_in p.trees)) =
        subst (λ n. length (walks_told p.shape) ≤ n) ids
        (told_few prims p.shape prints.known (subst (λ n. length (walks_in p.shape) ≤ n) (sym ids) (leb-true (length (walks_in p.shape)) (page_ids prims prints.q (list_of (trees_in p.trees))) parts.1))) in
        and_from _ _ (and_from _ _ (and_from _ _ (and_parts _ _ front.0).0 (told_fit prims p.shape prints.known (and_parts _ _ front.0).1)) front.1)
        (le-leb (length (walks_told p.shape)) (page_ids prims prints.q (list_of (trees_in p.trees))) few)

    -- the page prints the same
    same : page_shape prims prints.q (list_of (trees_in p.trees)) (walks_told p.shape) ≡ page_shape prims prints.q (list_of (trees_in p.trees)) (walks_in p.shape)
    same = sym (here (walks_told p.shape)) ∙ told_print prims p.shape prints.known ∙ here (walks_in p.shape)
      where
        here : (ws : List Walk) → page_shape prims (asked_of p.shape) (shaping.trees_in p.shape) ws ≡ page_shape prims prints.q (list_of (trees_in p.trees)) ws
        here ws = ap (λ (q : Asked). page_shape prims q (shaping.trees_in p.shape) ws) prints.asks ∙ ap (λ ts. page_shape prims prints.q ts ws) prints.has

    more_owe : body_owes batches s prints.q w (print_told p) ≡ body_owes batches s prints.q w (printing 0 (trees_in p.trees) (walks_in p.shape))
    more_owe = printed_alike prims prints.q (scan_order prims prints.q) s.dateline s.with_cursor (after_of s.after) (marks_of w) (min p.shape.printed p.places) 0 (trees_in p.trees) (walks_told p.shape) (walks_in p.shape) same

-- ---- where readings stand

-- what a reading of a stage owes
pub scan_stands : (batches : List Batch) (owed : Answer) (r : ThawedQuery) (x : Scanning) → r.stage ≡ stage.Scanning x → StageOwes batches owed r.subject r.stage r.window → ScansOn batches owed r.subject x r.window
scan_stands batches owed r x is going = subst (λ t. StageOwes batches owed r.subject t r.window) is going

pub build_stands : (batches : List Batch) (owed : Answer) (r : ThawedQuery) (b : Building) → r.stage ≡ stage.Building b → StageOwes batches owed r.subject r.stage r.window → Builds batches owed r.subject b r.window
build_stands batches owed r b is going = subst (λ t. StageOwes batches owed r.subject t r.window) is going

pub print_stands : (batches : List Batch) (owed : Answer) (r : ThawedQuery) (p : Printing) → r.stage ≡ stage.Printing p → StageOwes batches owed r.subject r.stage r.window → Prints batches owed r.subject p r.window
print_stands batches owed r p is going = subst (λ t. StageOwes batches owed r.subject t r.window) is going

-- LAW: where it stands, by its stage
pub stands_at : (r : ThawedQuery) (st : Stage) → r.stage ≡ st → standing (record r { stage = st }) ≡ standing r
stands_at r st is = ap (λ (x : Stage). standing (record r { stage = x })) (sym is)
