-- Readings that go on with kept rows from a position.
use Rattle.std.proofs.Common.{◌≡◌, ◌∙◌, refl, sym, ap, subst, arith, add-one, ℕ, suc, ◌+◌, ◌<◌, ◌≤◌, List, [], ◌∷◌, ◌++◌, Bool, ◌&&◌, not, Option, None, Some, Ok, length, take, map, append_assoc, Err}
use Rattle.std.specs.Prelude.{option_map, nat_lt, if◌then◌else◌, codes}
use Rattle.std.specs.List.{list_any}
use Rattle.std.proofs.lemmas.List.{append-nil, take_all}
use Rattle.gd_prim.specs.declared.Primitive.{Primitive}
use Rattle.gd_tree.specs.Trees.{Tree, list_of}
use Rattle.gd_defs.specs.Asked.{Asked}
use Rattle.gd_defs.specs.Lines.{too_wide, refused_at, count_json}
use Rattle.gd_defs.specs.Plan.{template_of}
use Rattle.gd_defs.specs.Reply.{Mark, mark_row, row_mark, page_cursor, max_candidate_weight, max_page_weight, Answer, page_answer}
use Rattle.gd_defs.specs.Rows.{row_of, row_cmp, sorted_onto}
use Rattle.gd_defs.specs.Rows as defs
use Rattle.gd_bytes.specs.Frozen.{Scan, Walk, scanning, building, printing}
use Rattle.gd_runs.specs.Owed.{Candidate, weighs_too_much}
use Rattle.gd_runs.specs.Shape.{page_shape}
use Rattle.gd_runs.specs.Thawed.{window, answering, built_trees, built_weight, row_candidates, row_tried, body_answer}
use Rattle.gd_order_laws.specs.Window.{Each}
use Rattle.gd_match_laws.specs.Moves.{stays}
use Rattle.gd_match_laws.proofs.Bodies.{filter_map-append, map-append}
use Rattle.gd_window.specs.Kept.{Kept, HasSeen, rows_behind}
use Rattle.gd_window.specs.Laws.{with_values, directions, defined, behind_mark, IsTold}
use Rattle.gd_suspended_laws.specs.Standing.{valued, window_of, rows_of}
use Rattle.gd_suspended_laws.proofs.Given.{runs_join, light_join}
use Rattle.gd_suspended_laws.proofs.Going.{map-take}
use Rattle.gd_list_laws.proofs.Fronts.{take_longer, more_than}
use Rattle.gd_thaw_laws.specs.Thawing.{order_within, candidates_within, offered_since, best_since}
use Rattle.gd_thaw_laws.specs.Gone.{read_rows, RowsTold, GoesAtOnce, ScannedHasGone, GoesOn, VisitsGo, GoneKeeps, GoneOwes, GoneReads, BestOwe}
use Rattle.gd_thaw_laws.proofs.Going.{given_inside, best_again, thawed_scans_owe, kept_stand}
use Rattle.gd_thaw_laws.proofs.Kept.{first_of_any}
use Rattle.gd_thaw_laws.proofs.Reach.{scans_reach}
use Rattle.gd_thaw_laws.proofs.Visits.{light_all, answers_are}

map-map : {A B C : Type 0} (g : B → C) (f : A → B) (xs : List A) → map g (map f xs) ≡ map (λ x. g (f x)) xs
map-map g f [] = refl
map-map g f (x ∷ xs) = ap (λ l. g (f x) ∷ l) (map-map g f xs)

-- ---- where it stands

pub goes_at_once : GoesAtOnce
goes_at_once prims q after order kept s w is seen = record {
  given = [];
  runs = stays s;
  light = refl;
  is = is;
  seen = subst (HasSeen w) (sym (append-nil (read_rows prims q kept))) seen;
}

pub scanned_has_gone : ScannedHasGone
scanned_has_gone prims q after order s w has = record {
  given = has.given;
  runs = has.runs;
  light = has.light;
  is = has.is;
  seen = has.seen;
}

pub goes_on : GoesOn
goes_on prims q after order kept from s m w v cs has run light same seen = record {
  given = has.given ++ cs;
  runs = runs_join prims order (template_of q) from s m has.given cs has.runs run;
  light = light_join has.given cs has.light light;
  is = same ∙ ap (λ (k : Kept). record k { rows = v.rows }) has.is;
  seen = subst (HasSeen v)
      (append_assoc (read_rows prims q kept) (map (valued prims q) (answering has.given)) (map (valued prims q) (answering cs))
      ∙ ap (λ l. read_rows prims q kept ++ l) (sym (ap (map (valued prims q)) (filter_map-append _ has.given cs) ∙ map-append (valued prims q) (answering has.given) (answering cs))))
      (seen (read_rows prims q kept ++ map (valued prims q) (answering has.given)) has.seen);
}

pub visits_go : VisitsGo
visits_go prims q after order kept a b w rises less has = record {
  given = candidates_within prims (template_of q) order a b;
  runs = scans_reach prims order (template_of q) a b rises less;
  light = light_all prims (template_of q) (order_within order a b) has.light;
  is = has.is;
  seen = subst (λ (os : List ℕ). HasSeen w (read_rows prims q kept ++ map (valued prims q) os)) (sym (answers_are prims (template_of q) (order_within order a b))) has.seen;
}

-- ---- what it keeps

module _ (law : RowsTold) (prims : List Primitive) (q : Asked) (after : Option Mark) where
  window_is : (rows : List defs.Row) → sorted_onto (row_cmp prims q.sort) [] (behind_mark prims q.sort after rows) ≡ window prims q after rows
  window_is rows = by after
    where
      by : (a : Option Mark) → sorted_onto (row_cmp prims q.sort) [] (behind_mark prims q.sort a rows) ≡ window prims q a rows
      by None = refl
      by (Some m) = refl

  -- rows that were offered
  told : (kept : List Mark) (cs : List Candidate) → map (with_values prims q.sort) (offered_since prims q kept cs) ≡ read_rows prims q kept ++ map (valued prims q) (answering cs)
  told kept cs =
      map-append (with_values prims q.sort) (map (mark_row prims q.sort) kept) (map (row_of prims q.sort 0) (answering cs))
      ∙ (ap (λ l. l ++ map (with_values prims q.sort) (map (row_of prims q.sort 0) (answering cs))) (map-map (with_values prims q.sort) (mark_row prims q.sort) kept)
      ∙ ap (λ l. read_rows prims q kept ++ l) (map-map (with_values prims q.sort) (row_of prims q.sort 0) (answering cs)))

  all_told : (kept : List Mark) (os : List ℕ) → Each (IsTold prims q.sort) (map (mark_row prims q.sort) kept ++ map (row_of prims q.sort 0) os)
  all_told [] [] = tt
  all_told [] (o ∷ os) = (law.objects prims q.sort o, all_told [] os)
  all_told (m ∷ kept) os = (law.marks prims q.sort m, all_told kept os)

  keeps_rows : (kept : List Mark) (cs : List Candidate) (w : Kept) → w ≡ window_of prims q after w.rows → HasSeen w (read_rows prims q kept ++ map (valued prims q) (answering cs))
      → rows_of w ≡ take (suc q.limit) (window prims q after (offered_since prims q kept cs))
  keeps_rows kept cs w is seen =
      ap (map defined) (seen
      ∙ ap (λ (v : Kept). take (v.limit + 1) (rows_behind v.order v.after (read_rows prims q kept ++ map (valued prims q) (answering cs)))) is
      ∙ ap (λ l. take (q.limit + 1) (rows_behind (directions q.sort) (option_map (λ m. with_values prims q.sort (mark_row prims q.sort m)) after) l)) (sym (told kept cs)))
      ∙ map-take defined (q.limit + 1) (rows_behind (directions q.sort) (option_map (λ m. with_values prims q.sort (mark_row prims q.sort m)) after) (map (with_values prims q.sort) (offered_since prims q kept cs)))
      ∙ ap (take (q.limit + 1)) (law.behind prims q after (offered_since prims q kept cs) (all_told kept (answering cs)) ∙ window_is (offered_since prims q kept cs))
      ∙ rw add-one refl

pub gone_keeps : GoneKeeps
gone_keeps law prims q after order kept from s w has = ap (map row_mark) (keeps_rows law prims q after kept has.given w has.is has.seen)

pub gone_owes : GoneOwes
gone_owes law prims members q after order kept from s w some fits has dateline with_cursor =
    thawed_scans_owe prims members q order dateline with_cursor after kept from s has.given some fits has.runs has.light
    ∙ ap (λ l. body_answer prims q order dateline with_cursor after l (scanning s)) (sym (gone_keeps law prims q after order kept from s w has))

-- ---- rows again

-- the first rows of a window stay as they stand where they are offered again
first_again : (prims : List Primitive) (q : Asked) (after : Option Mark) (n : ℕ) (rows : List defs.Row) → window prims q after (take n (window prims q after rows)) ≡ take n (window prims q after rows)
first_again prims q after n rows =
    sym (take_all n (window prims q after (take n (window prims q after rows))) few)
    ∙ ap (λ l. take n (window prims q after l)) (sym (append-nil (take n (window prims q after rows))))
    ∙ first_of_any prims q after n rows []
    ∙ ap (λ l. take n (window prims q after l)) (append-nil rows)
  where
    few : length (window prims q after (take n (window prims q after rows))) ≤ n
    few =
        let one = Rattle.gd_suspended_laws.proofs.Windows.window_few prims q after (take n (window prims q after rows)) in
        let two = Rattle.gd_suspended_laws.proofs.Windows.taken_few n (window prims q after rows) in omega (arith, one, two)

pub gone_reads : GoneReads
gone_reads law prims members q after order kept from s w fits has =
    ap (λ l. window prims q after (map (mark_row prims q.sort) l)) (gone_keeps law prims q after order kept from s w has)
    ∙ ap (window prims q after) (best_again prims q after kept has.given (given_inside prims members (template_of q) order from s has.given fits has.runs))
    ∙ first_again prims q after (suc q.limit) (offered_since prims q kept has.given)
    ∙ sym (keeps_rows law prims q after kept has.given w has.is has.seen)

-- ---- the best of the rows stand for them, whatever a reading does

module _ (prims : List Primitive) (q : Asked) (dateline : ℕ) (with_cursor : Bool) where
  -- an answer by the page, and by whether there are two rows and whether more follow
  abbrev page_by : ℕ → List Tree → List Walk → List defs.Row → Bool → Bool → Answer
  page_by weight trees walks page two more =
      if not q.count && nat_lt max_page_weight weight then Err (too_wide (max_page_weight + 1))
      else if q.single && two then Err (refused_at (codes "NotUnique") [])
      else page_answer (if with_cursor then Some (page_cursor dateline page more) else None)
      (if q.count then Ok (count_json (length page)) else page_shape prims q trees walks)

  abbrev build_by : ℕ → List Tree → Scan → List defs.Row → Bool → Bool → Answer
  build_by w ts s page two more =
      if list_any weighs_too_much (row_tried prims q s ++ row_candidates prims q s.iter.place page) then Err (too_wide (max_candidate_weight + 1))
      else page_by (w + built_weight (row_tried prims q s ++ row_candidates prims q s.iter.place page)) (ts ++ built_trees (row_tried prims q s ++ row_candidates prims q s.iter.place page)) [] page two more

  -- what hangs on the page and on whether there are two rows and more hangs on the first rows alone
  by_first : 0 < q.limit → (paged : List defs.Row → Bool → Bool → Answer) (rows : List defs.Row) → paged (take q.limit rows) (nat_lt 1 (length rows)) (nat_lt q.limit (length rows))
      ≡ paged (take q.limit (take (suc q.limit) rows)) (nat_lt 1 (length (take (suc q.limit) rows))) (nat_lt q.limit (length (take (suc q.limit) rows)))
  by_first some paged rows =
      ap (λ page. paged page (nat_lt 1 (length rows)) (nat_lt q.limit (length rows))) (sym (take_longer q.limit rows))
      ∙ (ap (λ two. paged (take q.limit (take (suc q.limit) rows)) two (nat_lt q.limit (length rows))) (sym (more_than 1 (suc q.limit) rows (omega (arith, some))))
      ∙ ap (paged (take q.limit (take (suc q.limit) rows)) (nat_lt 1 (length (take (suc q.limit) rows)))) (sym (more_than q.limit (suc q.limit) rows (omega arith))))

  module _ (after : Option Mark) (kept : List Mark) where
    abbrev rows : List defs.Row
    rows = window prims q after (map (mark_row prims q.sort) kept)

    first_kept : window prims q after (map (mark_row prims q.sort) (best_since prims q after kept [])) ≡ take (suc q.limit) rows
    first_kept =
        ap (window prims q after) (best_again prims q after kept [] (λ o none. absurd none))
        ∙ first_again prims q after (suc q.limit) (offered_since prims q kept [])
        ∙ ap (λ l. take (suc q.limit) (window prims q after l)) (append-nil (map (mark_row prims q.sort) kept))

    best_answer : 0 < q.limit → (paged : List defs.Row → Bool → Bool → Answer) → paged (take q.limit rows) (nat_lt 1 (length rows)) (nat_lt q.limit (length rows))
        ≡ (let best = window prims q after (map (mark_row prims q.sort) (best_since prims q after kept [])) in paged (take q.limit best) (nat_lt 1 (length best)) (nat_lt q.limit (length best)))
    best_answer some paged = by_first some paged rows ∙ ap (λ l. paged (take q.limit l) (nat_lt 1 (length l)) (nat_lt q.limit (length l))) (sym first_kept)

pub best_owe : BestOwe
best_owe prims q order dateline with_cursor after kept (scanning s) some = kept_stand prims q order dateline with_cursor after kept s some
best_owe prims q order dateline with_cursor after kept (building w ts s) some = best_answer prims q dateline with_cursor after kept some (build_by prims q dateline with_cursor w (list_of ts) s)
best_owe prims q order dateline with_cursor after kept (printing n ts walks) some = best_answer prims q dateline with_cursor after kept some (page_by prims q dateline with_cursor 0 (list_of ts) walks)
