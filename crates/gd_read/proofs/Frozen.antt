-- Readings that are put away.
use Rattle.std.proofs.Common.{◌≡◌, ◌∙◌, refl, sym, ap, subst, arith, ℕ, ◌+◌, ◌<◌, ◌≤◌, List, [], ◌∷◌, ◌++◌, Bool, true, false, length, length-append, append_assoc, map, min, take, Option, Some, None, Ok}
use Rattle.std.specs.Prelude.{nat_le, is_none, slice_get, IfSome}
use Rattle.std.specs.Ordering.{nat_cmp}
use Rattle.std.proofs.lemmas.Bool.Decides.{nat_tests}
use Rattle.std.proofs.lemmas.List.{append-nil, take_all}
use Rattle.std.proofs.lemmas.Option.{slice_get_within}
use Rattle.gd_prim.specs.declared.Batch.{Batch}
use Rattle.gd_prim.specs.declared.Primitive.{Primitive}
use Rattle.gd_prim.specs.History.{prims_of, prims_at}
use Rattle.gd_tree.specs.Trees.{no_trees, trees_of}
use Rattle.gd_defs.specs.Asked.{Asked, asked_query}
use Rattle.gd_defs.specs.Plan.{template_of}
use Rattle.gd_defs.specs.Reply.{Mark, row_mark, answer_line}
use Rattle.gd_defs.specs.Template.{Template}
use Rattle.gd_bytes.specs.Frozen.{Frame, Scan, max_number, Frozen, IsFrozenText, after_in_bounds, scanning, building, Fits}
use Rattle.gd_form_laws.specs.Faults.{query_fault}
use Rattle.gd_runs.specs.Core as core
use Rattle.gd_runs.specs.Fitting.{fits}
use Rattle.gd_runs.specs.Owed.{ScanOrder, Candidate}
use Rattle.gd_order_laws.specs.Window.{Rising}
use Rattle.gd_roots.specs.PassedOn.{walk_left, walk_order, one_member, between, Asks, IsScanOrder, KeepsRows, RowsFit, StandsFor, CanBeTold, stands, told, StackGrows, StackPlaced}
use Rattle.gd_runs.specs.Request.{asks_page}
use Rattle.gd_runs.specs.Scanned.{scan_order}
use Rattle.gd_runs.specs.Thawed.{body_answer, thawed_line}
use Rattle.gd_shape.specs.PassedOn.{start, Runs, marks_of, page_objects, trees_among, weight_among, HasVisited, IsKept, view as tree_view}
use Rattle.gd_json.specs.View.{view as json_view}
use Rattle.gd_mql.specs.Requests.{cursor_view, read_view}
use Rattle.gd_plan.specs.Asked.{asked_view}
use Rattle.gd_frozen.specs.Meaning.{reading_of}
use Rattle.gd_frozen.specs.declared.frozen.FrozenReading.{FrozenReading}
use Rattle.gd_window.specs.Kept.{Kept}
use Rattle.gd_window.specs.Laws.{defined}
use Rattle.gd_window.specs.declared.row.Row.{Row}
use Rattle.gd_shape.proofs.PassedOn.{runs_join}
use Rattle.gd_roots.proofs.PassedOn.{can_be_told, fitting_are_spelled, starts_stand, visits_stand, tried_stand, pages_stand, rows_stand, tried_rows_stand, runs_grow, told_weighs, scans_to_told, frames_same, told_placed}
use Rattle.gd_read.specs.Come.{HasAll, HasCome, HasWalked, places_of}
use Rattle.gd_read.specs.Freezing.{began, number_ahead, scan_with, scan_ahead, BodyStands, IsFrozen, ReadingFreezes, FreezesTo}
use Rattle.gd_read.specs.Marked.{mark_of}
use Rattle.gd_read.specs.Reading.{reading_view}
use Rattle.gd_read.specs.Stages.{IsAsked, IsScanned, HasGathered, RowTries, Gathers, Prints, Visits, places_ahead}
use Rattle.gd_read.specs.Trying.{alone, Tries}
use Rattle.gd_read.specs.Subject.{core_reading, written, answer_of}
use Rattle.gd_read.specs.declared.gathering.Gathering.{Gathering}
use Rattle.gd_read.specs.declared.reading.Reading.{Reading}
use Rattle.gd_read.specs.declared.reading.Reading.TheVariants as reading
use Rattle.gd_read.specs.declared.subject.Subject.{Subject}
use Rattle.gd_read.specs.declared.trying.Trying.{Trying}
use Rattle.gd_read.specs.declared.visiting.Visiting.{Visiting}
use Rattle.gd_read.proofs.Walked.{on, on_all, on_next, on_this, same_front, same_but_last, map-places}
use Rattle.gd_read.proofs.Begun.{asked_limited}

-- ---- rows

-- LAW: the rows of a window are its marks
pub rows_marked : (rows : List Row) → map (λ r. row_mark (defined r)) rows ≡ map row_mark (map defined rows)
rows_marked [] = refl
rows_marked (r ∷ rows) = ap (λ (l : List Mark). row_mark (defined r) ∷ l) (rows_marked rows)

-- ---- a place that is tried

-- what its matcher is told as came from its start by a run that gave nothing that answers or weighs too much; it stands where a text can say it
pub record TellsTried (batches : List Batch) (t : Template) (r : Trying) (given : List Candidate) : Type 0 where
  pub runs : Runs (prims_of batches) (alone r.place) t start given (told t (stands r.matcher))
  pub placed : StackPlaced (prims_of batches) one_member t (told t (stands r.matcher)).frames
  pub weighs : (told t (stands r.matcher)).weight ≤ max_number

tries_told : (batches : List Batch) (t : Template) (r : Trying) (f : Frame) (fs : List Frame) → (tries : Tries batches t r) → (told t (stands r.matcher)).frames ≡ f ∷ fs → TellsTried batches t r tries.given
tries_told batches t r f fs tries some = record {
  runs = subst (λ (cs : List Candidate). Runs (prims_of batches) (alone r.place) t start cs (told t (stands r.matcher))) (append-nil tries.given)
      (runs_join (prims_of batches) (alone r.place) t start (stands r.matcher) (told t (stands r.matcher)) tries.given [] tries.runs
      (scans_to_told (prims_of batches) (alone r.place) t (stands r.matcher) f fs grows (sym (frames_same t (stands r.matcher)) ∙ some)));
  placed = (told_placed (prims_of batches) t (stands r.matcher) grows tries.inside.frames).1;
  weighs = less (told t (stands r.matcher)).weight r.matcher.weight (told_weighs t (stands r.matcher)) tries.weighs;
}
  where
    grows : StackGrows (prims_of batches) t (stands r.matcher).frames
    grows = runs_grow (prims_of batches) (alone r.place) t start (stands r.matcher) tries.given tries.runs tt

    less : (a b : ℕ) → a ≤ b → b ≤ 65_536 → a ≤ 4_294_967_295
    less a b one two = omega (arith, one, two)

-- LAW: its matcher can be told
pub tries_tells : (batches : List Batch) (t : Template) (tried : Option Trying) → length (prims_of batches) ≤ 2_097_151 → IfSome tried (Tries batches t) → IfSome tried (λ r. CanBeTold (stands r.matcher))
tries_tells batches t None few tries = tt
tries_tells batches t (Some r) few tries = can_be_told 1 batches t r.matcher tries.inside tries.weighs few (omega arith)

-- LAW: so can that of a row, which lies before the end of the page
pub row_tells : (batches : List Batch) (q : Asked) (os : List ℕ) (next : ℕ) (tried : Option Trying) → length (prims_of batches) ≤ 2_097_151 → IfSome tried (λ r. RowTries batches q os next r)
    → IfSome tried (λ r. CanBeTold (stands r.matcher)) × IfSome tried (λ _. next < length os)
row_tells batches q os next None few tries = (tt, tt)
row_tells batches q os next (Some r) few tries = (can_be_told 1 batches (template_of q) r.matcher tries.tries.inside tries.tries.weighs few (omega arith), slice_get_within os next r.place tries.row.at)

-- LAW: and the number of a place that is tried is one of a text
pub number_few : (tried : Option Trying) (n end : ℕ) → n ≤ end → end ≤ 2_097_151 → IfSome tried (λ _. n < 4_294_967_295)
number_few None n end low few = tt
number_few (Some r) n end low few = omega (arith, low, few)

-- ---- stages

module _ (batches : List Batch) (s : Subject) where
  asks : (q : Asked) → IsAsked batches s q → Asks (began batches s) q
  asks q asked = record { held = asked.held; asked = asked.asked; some = asked.some }

  -- LAW: a reading stands where it began
  pub start_stands : (q : Asked) → IsAsked batches s q → BodyStands batches s [] (scanning start)
  start_stands q asked = record { query = q; asked = asked; stands = starts_stand (began batches s) q (asks q asked) }

  -- LAW: where its scan has ended, it stands where none of the trees is built
  pub page_stands : (q : Asked) (w : Kept) → IsAsked batches s q → IsKept (prims_of batches) q (mark_of s.after) w → RowsFit (prims_of batches) q w
      → Rattle.gd_read.specs.Stages.body_owes batches s q w (building 0 no_trees start) ≡ answer_of batches s → BodyStands batches s (marks_of w) (building 0 no_trees start)
  page_stands q w asked kept fit owes = record { query = q; asked = asked; stands = pages_stand (began batches s) q w (record { kept = kept; fit = fit; owes = owes }) }

  order_is : (q : Asked) (order : ScanOrder) → IsAsked batches s q → HasAll (prims_of batches) (template_of q) order → IsScanOrder (prims_of batches) q order
  order_is q order asked finds = record { rises = finds.rises; once = finds.once; all = finds.all; alike = finds.defined (written s) q asked.held asked.asked refl }

  -- where a walk goes on from a number
  visit_at : (q : Asked) (order left : ScanOrder) (tried : Option Trying) (last : Option ℕ) (w : Kept) (p : ℕ) → IsAsked batches s q → HasAll (prims_of batches) (template_of q) order
      → HasCome (prims_of batches) q (mark_of s.after) (places_of order) (places_ahead tried left) w → IfSome tried (Tries batches (template_of q)) → HasWalked order left last → p ≡ number_ahead tried last → p ≤ length (prims_of batches)
      → IfSome last (λ n. n < length (prims_of batches)) → StandsFor (began batches s) q (marks_of w) (scanning (scan_ahead (template_of q) tried p))
  visit_at q order left None None w p asked finds come none walked is within before =
      visits_stand (began batches s) q order left come.visited p w (asks q asked) (order_is q order asked finds) come.parts (sym walked ∙ sym (on_all order) ∙ ap (λ n. on n order) (sym is)) come.has within
  visit_at q order left None (Some n) w p asked finds come none walked is within before =
      visits_stand (began batches s) q order left come.visited p w (asks q asked) (order_is q order asked finds) come.parts
      (sym (on_next walked.0 (n, walked.1) left (subst (λ (l : ScanOrder). Rising nat_cmp (map (λ d. d.0) l)) walked.2 finds.rises)) ∙ ap (on (n + 1)) (sym walked.2) ∙ ap (λ m. on m order) (sym is)) come.has within
  visit_at q order left (Some r) None w p asked finds come tries walked is within before =
      absurd (let e = ap length (ap places_of (sym walked) ∙ come.parts) in let k = length-append come.visited (r.place ∷ places_of left) in omega (arith, e, k))
  visit_at q order left (Some r) (Some n) w p asked finds come tries walked is within before = by (told t (stands r.matcher)).frames refl
    where
      t : Template
      t = template_of q

      parts : places_of order ≡ places_of walked.0 ++ places_of ((n, walked.1) ∷ left)
      parts = ap places_of walked.2 ∙ map-places walked.0 ((n, walked.1) ∷ left)

      visited : come.visited ≡ places_of walked.0
      visited = same_but_last come.visited (places_of walked.0) r.place walked.1
          (same_front (come.visited ++ r.place ∷ []) (places_of walked.0 ++ walked.1 ∷ []) (places_of left)
          (append_assoc come.visited (r.place ∷ []) (places_of left) ∙ sym come.parts ∙ parts ∙ sym (append_assoc (places_of walked.0) (walked.1 ∷ []) (places_of left))))

      rises : Rising nat_cmp (map (λ d. d.0) (walked.0 ++ (n, walked.1) ∷ left))
      rises = subst (λ (l : ScanOrder). Rising nat_cmp (map (λ d. d.0) l)) walked.2 finds.rises

      by : (l : List Frame) → (told t (stands r.matcher)).frames ≡ l → StandsFor (began batches s) q (marks_of w) (scanning (scan_with p (told t (stands r.matcher)).weight (told t (stands r.matcher)).frames))
      by [] none =
          subst (λ (l : List Frame). StandsFor (began batches s) q (marks_of w) (scanning (scan_with p (told t (stands r.matcher)).weight l))) (sym none)
          (visits_stand (began batches s) q order ((n, walked.1) ∷ left) (places_of walked.0) p w (asks q asked) (order_is q order asked finds) parts
          (sym (on_this walked.0 (n, walked.1) left rises) ∙ ap (on n) (sym walked.2) ∙ ap (λ m. on m order) (sym is))
          (subst (λ os. HasVisited (prims_of batches) q (mark_of s.after) os w) visited come.has) within)
      by (f ∷ fs) some =
          let tells = tries_told batches t r f fs tries some in
          subst (λ (l : List Frame). StandsFor (began batches s) q (marks_of w) (scanning (scan_with p (told t (stands r.matcher)).weight l))) (sym some)
          (subst (λ (l : List Frame). StandsFor (began batches s) q (marks_of w) (scanning (record { iter = record { place = p + 1; accepted = None }; weight = (told t (stands r.matcher)).weight; frames = l }))) some
          (tried_stand (began batches s) q order left come.visited r.place (p + 1) w (told t (stands r.matcher)) tries.given f fs (asks q asked) (order_is q order asked finds) come.parts
          (sym (on_next walked.0 (n, walked.1) left rises) ∙ ap (on (n + 1)) (sym walked.2) ∙ ap (λ m. on (m + 1) order) (sym is)) come.has (more p n (length (prims_of batches)) is before)
          tells.runs tries.light tries.none some tells.placed tells.weighs))
        where
          more : (p n end : ℕ) → p ≡ n → n < end → p + 1 ≤ end
          more p n end same less = omega (arith, same, less)

  -- LAW: where places are visited, it stands at the next number, with the frames of the place that is tried
  pub visit_stands : (v : Visiting) (w : Kept) (p : ℕ) → Visits batches s v w → p ≡ number_ahead v.tried v.last → p ≤ length (prims_of batches) → IfSome v.last (λ n. n < length (prims_of batches))
      → BodyStands batches s (marks_of w) (scanning (scan_ahead (template_of (asked_view v.plan)) v.tried p))
  visit_stands v w p visits is within before = record {
    query = asked_view v.plan;
    asked = visits.asked;
    stands = visit_at (asked_view v.plan) (walk_order batches (template_of (asked_view v.plan)) v.walk) (walk_left batches (template_of (asked_view v.plan)) v.walk) v.tried v.last w p
        visits.asked visits.finds visits.come visits.tried visits.walked is within before;
  }

  take_min : (n : ℕ) (os : List ℕ) → take (min n (length os)) os ≡ take n os
  take_min n os = by (nat_le n (length os)) refl
    where
      few : nat_le n (length os) ≡ true → min n (length os) ≡ n
      few e = let less : n ≤ length os = grind (arith, nat_tests, e) in omega (arith, less)

      many : nat_le n (length os) ≡ false → (min n (length os) ≡ length os) × (length os ≤ n)
      many e = let more : length os ≤ n = grind (arith, nat_tests, e) in (omega (arith, more), more)

      by : (b : Bool) → nat_le n (length os) ≡ b → take (min n (length os)) os ≡ take n os
      by true e = ap (λ m. take m os) (few e)
      by false e = let at = many e in ap (λ m. take m os) at.0 ∙ take_all (length os) os (omega arith) ∙ sym (take_all n os at.1)

  -- LAW: where trees are gathered, it stands at the next row, with the frames of the one that is tried
  pub gathered_stands : (g : Gathering) (w : Kept) → Gathers batches s g w
      → BodyStands batches s (marks_of w) (building g.gathered.weight (trees_of (map tree_view g.gathered.trees.items)) (scan_ahead (template_of (asked_view g.plan)) g.tried (min g.next (length (page_objects w)))))
  gathered_stands g w gathers = record {
    query = q;
    asked = gathers.scanned.asked;
    stands =
        subst (λ ts. StandsFor (began batches s) q (marks_of w) (building g.gathered.weight (trees_of ts) (scan_ahead t g.tried n))) (sym trees)
        (subst (λ v. StandsFor (began batches s) q (marks_of w) (building v (trees_of (trees_among prims q (take n (page_objects w)))) (scan_ahead t g.tried n))) (sym weighs)
        (by g.tried gathers.rows.tries));
  }
    where
      q : Asked
      q = asked_view g.plan

      t : Template
      t = template_of q

      prims : List Primitive
      prims = prims_of batches

      n : ℕ
      n = min g.next (length (page_objects w))

      trees : map tree_view g.gathered.trees.items ≡ trees_among prims q (take n (page_objects w))
      trees = gathers.rows.has.trees ∙ ap (trees_among prims q) (sym (take_min g.next (page_objects w)))

      weighs : g.gathered.weight ≡ weight_among prims q (take n (page_objects w))
      weighs = gathers.rows.has.weighs ∙ ap (weight_among prims q) (sym (take_min g.next (page_objects w)))

      light : weight_among prims q (take n (page_objects w)) ≤ 4_294_967_295
      light = few g.gathered.weight (weight_among prims q (take n (page_objects w))) weighs gathers.rows.has.little
        where
          few : (a b : ℕ) → a ≡ b → a ≤ 262_144 → b ≤ 4_294_967_295
          few a b same less = omega (arith, same, less)

      inside : (a b : ℕ) → min a b ≤ b
      inside a b = omega arith

      keeps : KeepsRows (began batches s) q w
      keeps = record { kept = gathers.scanned.kept; fit = gathers.scanned.fit; owes = gathers.scanned.owes }

      Stands : Scan → Type 0
      Stands scan = StandsFor (began batches s) q (marks_of w) (building (weight_among prims q (take n (page_objects w))) (trees_of (trees_among prims q (take n (page_objects w)))) scan)

      between_rows : Stands (between n)
      between_rows = rows_stand (began batches s) q w n keeps gathers.listed (inside g.next (length (page_objects w))) light

      by : (tried : Option Trying) → IfSome tried (λ r. RowTries batches q (page_objects w) g.next r) → Stands (scan_ahead t tried n)
      by None none = between_rows
      by (Some r) tries = with_frames (told t (stands r.matcher)).frames refl
        where
          row : slice_get (page_objects w) n ≡ Some r.place
          row = ap (slice_get (page_objects w)) (least g.next (length (page_objects w)) (slice_get_within (page_objects w) g.next r.place tries.row.at)) ∙ tries.row.at
            where
              least : (a b : ℕ) → a < b → min a b ≡ a
              least a b less = omega (arith, less)

          with_frames : (l : List Frame) → (told t (stands r.matcher)).frames ≡ l → Stands (scan_with n (told t (stands r.matcher)).weight (told t (stands r.matcher)).frames)
          with_frames [] none = subst (λ (l : List Frame). Stands (scan_with n (told t (stands r.matcher)).weight l)) (sym none) between_rows
          with_frames (f ∷ fs) some =
              let tells = tries_told batches t r f fs tries.tries some in
              subst (λ (l : List Frame). Stands (scan_with n (told t (stands r.matcher)).weight l)) (sym some)
              (subst (λ (l : List Frame). Stands (record { iter = record { place = n + 1; accepted = None }; weight = (told t (stands r.matcher)).weight; frames = l })) some
              (tried_rows_stand (began batches s) q w n r.place (told t (stands r.matcher)) tries.tries.given f fs keeps gathers.listed row light tells.runs tries.tries.light tries.tries.none some tells.placed tells.weighs))

  -- ---- texts

  -- LAW: it is frozen as what stands for it
  pub is_frozen : (f : Frozen) → f.dateline ≡ length batches → length batches ≤ 4_194_303 → f.after ≡ mark_of s.after → is_none (query_fault (json_view s.request.query)) ≡ true → BodyStands batches s f.rows f.body → IsFrozen batches s f
  is_frozen f at few after right stands = record {
    spelled = fitting_are_spelled (prims_of batches) stands.query f stands.asked.end stands.asked.few
        (asked_limited (prims_of batches) (json_view s.request.query) stands.query right stands.asked.asked)
        (less f.dateline (length batches) at few) (subst (λ m. after_in_bounds m ≡ true) (sym after) stands.asked.mark) stands.stands.numbers stands.stands.fitting;
    dateline = at ∙ stands.asked.below;
    after = after;
    stands = stands;
  }
    where
      less : (a b : ℕ) → a ≡ b → b ≤ 4_194_303 → a ≤ 4_194_303
      less a b same few = omega (arith, same, few)

-- ---- readings

-- LAW: over more batches it is frozen so, as the core has it
pub frozen_as : (batches : List Batch) (s : Subject) (f : Frozen) → IsFrozen (take s.dateline batches) s f → core.FreezesAs one_member batches (read_view s.request) (core_reading s) f
frozen_as batches s f is = record {
  spelled = is.spelled;
  dateline = is.dateline;
  after = is.after;
  fitting = rw asked (subst (λ n. fits (prims_at batches n) one_member q f ≡ true) (sym is.dateline) is.stands.stands.fitting);
  same = λ k.
      ap (thawed_line (prims_at batches f.dateline) with_cursor k f) asked
      ∙ ap (λ n. answer_line n k (body_answer (prims_at batches n) q (scan_order (prims_at batches n) q) n with_cursor f.after f.rows f.body)) is.dateline
      ∙ ap (λ m. answer_line s.dateline k (body_answer (prims_at batches s.dateline) q (scan_order (prims_at batches s.dateline) q) s.dateline with_cursor m f.rows f.body)) is.after
      ∙ ap (answer_line s.dateline k) is.stands.stands.owes;
}
  where
    q : Asked
    q = is.stands.query

    with_cursor : Bool
    with_cursor = asks_page (cursor_view s.request.cursor)

    asked : asked_query (prims_at batches f.dateline) (written s) ≡ Ok q
    asked = ap (λ n. asked_query (prims_at batches n) (written s)) is.dateline ∙ is.stands.asked.asked

-- LAW: a frozen reading has a text
pub freezing_spelled : (batches : List Batch) (r : Reading) (f : FrozenReading) → ReadingFreezes batches r (Some f) → Fits (reading_of f)
freezing_spelled batches (reading.One r) f is = is.spelled
freezing_spelled batches (reading.Several r) f is = absurd is

-- LAW: which is one of the reading
pub freezes_some : (batches : List Batch) (r : Reading) (f : FrozenReading) (text : List ℕ) → ReadingFreezes (take (reading_view r).dateline batches) r (Some f) → IsFrozenText (reading_of f) text → FreezesTo batches (reading_view r) (Some text)
freezes_some batches (reading.One r) f text is spelled = record { frozen = reading_of f; freezes = frozen_as batches r.subject (reading_of f) is; spells = spelled.1 }
freezes_some batches (reading.Several r) f text is spelled = absurd is

-- LAW: one of several queries has none
pub freezes_none : (batches : List Batch) (r : Reading) → ReadingFreezes (take (reading_view r).dateline batches) r None → FreezesTo batches (reading_view r) None
freezes_none batches (reading.One r) is = absurd is
freezes_none batches (reading.Several r) is = tt
