-- A reading owes at its start the answer to its query.
use Rattle.std.proofs.Common.{◌≡◌, ◌↔◌, inl, inr, ℕ, zero, suc, ◌+◌, List, [], ◌∷◌, Bool, true, false, cond, Option, None, Some, Result, Ok, Err, length, take, drop, map, filter, refl, sym, ap, subst, ◌∙◌}
use Rattle.std.specs.Prelude.{nat_lt, ◌&&◌, ◌||◌, not, if◌then◌else◌, is_some, sum_by, codes}
use Rattle.std.specs.List.{list_any}
use Rattle.std.specs.Ordering.{nat_cmp, is_lt}
use Rattle.std.proofs.lemmas.Cmp.{nat_cmp_total}
use Rattle.std.proofs.lemmas.List.Sums.{sum_by-cons}
use Rattle.gd_prim.specs.declared.Primitive.{Primitive}
use Rattle.gd_prim.specs.Live.{objects, is_object}
use Rattle.gd_tree.specs.Json.{Json, object, Items, item, Members as JsonMembers}
use Rattle.gd_grammar.specs.Chain.{◌>>=◌}
use Rattle.gd_defs.specs.Asked.{Asked}
use Rattle.gd_defs.specs.Rows.{Row, row_of, row_cmp, rows, meets, meets_given, candidates, row_weight}
use Rattle.gd_defs.specs.Lines.{refused_at, too_wide, count_json}
use Rattle.gd_defs.specs.Reply.{Mark, Path, mark_row, rows_after, page, has_more, page_cursor, object_json, each_row, as_list, is_ambiguous, has_heavy_candidate, max_candidate_weight, max_page_weight, Answer, page_answer, asked_answer}
use Rattle.gd_defs.specs.Template.{Template, passes_template, is_answer, tree_of, weight}
use Rattle.gd_defs.specs.Plan.{template_of}
use Rattle.gd_page_laws.specs.PassedOn.{ScanOrder, Candidate, candidate, weighs_too_much, window, built_trees, built_weight, Printed, rows_shape, list_shape, page_shape}
use Rattle.gd_order_laws.specs.Window.{In, Each, Apart}
use Rattle.gd_order_laws.proofs.Keys.{row_total}
use Rattle.gd_order_laws.proofs.Sorted.{Apart-filter, Each-filter, Each-member, Each-from_members, In-filter, In-filtered, sorted-filter}
use Rattle.gd_order_laws.proofs.Rows.{meeting, of_objects, In-map, In-mapped, apart_rows, apart_objects, row_known}
use Rattle.gd_scan_laws.specs.Ordered.{start, scan_answer, scanned}
use Rattle.gd_scan_laws.specs.Planned.{Planned}
use Rattle.gd_page_laws.proofs.PassedOn.{answer-passes}
use Rattle.gd_scan_laws.proofs.Objects.{both_true, true_both, object_is, is_object_in}
use Rattle.gd_scan_laws.proofs.Start.{same_any, answer_rows, window_alike, answer_by, start_answer}

-- ---- lists

module _ {A : Type 0} where
  pub keeps_all : (p : A → Bool) (xs : List A) → Each (λ x. p x ≡ true) xs → filter p xs ≡ xs
  keeps_all p [] all = refl
  keeps_all p (x ∷ xs) all = ap (λ b. cond b (x ∷ filter p xs) (filter p xs)) all.0 ∙ ap (λ l. x ∷ l) (keeps_all p xs all.1)

  pub Each-take : (P : A → Type 0) (n : ℕ) (xs : List A) → Each P xs → Each P (take n xs)
  Each-take P zero xs all = tt
  Each-take P (suc n) [] all = tt
  Each-take P (suc n) (x ∷ xs) all = (all.0, Each-take P n xs all.1)

  pub none_any : (p : A → Bool) (xs : List A) → Each (λ x. p x ≡ false) xs → list_any p xs ≡ false
  none_any p [] all = refl
  none_any p (x ∷ xs) all = ap (λ b. b || list_any p xs) all.0 ∙ none_any p xs all.1

  any_none : (p : A → Bool) (xs : List A) → list_any p xs ≡ false → Each (λ x. p x ≡ false) xs
  any_none p [] is = tt
  any_none p (x ∷ xs) is = by (p x) refl is (any_none p xs)
    where
      by : (b : Bool) → p x ≡ b → (b || list_any p xs) ≡ false → (list_any p xs ≡ false → Each (λ y. p y ≡ false) xs) → Each (λ y. p y ≡ false) (x ∷ xs)
      by true here none rest = cc
      by false here none rest = (here, rest none)

  any_agrees : (p r : A → Bool) (xs : List A) → ((x : A) → In x xs → p x ≡ r x) → list_any p xs ≡ list_any r xs
  any_agrees p r [] all = refl
  any_agrees p r (x ∷ xs) all = ap (λ b. b || list_any p xs) (all x (inl refl)) ∙ ap (λ b. r x || b) (any_agrees p r xs (λ y there. all y (inr there)))

-- ---- the rows of the window are those of the query

module _ (prims : List Primitive) (q : Asked) where
  -- a mark lets through the same rows before and after they are put in order
  pub window_after : (after : Option Mark) → window prims q after (of_objects prims q (meeting prims q)) ≡ rows_after prims q after
  window_after None = refl
  window_after (Some m) = sorted-filter (row_cmp prims q.sort) (row_total prims q.sort) (λ r. is_lt (row_cmp prims q.sort (mark_row prims q.sort m) r)) (of_objects prims q (meeting prims q))
      (apart_rows prims q (meeting prims q) (apart_objects prims (meets prims q.members 0)))

module _ (prims : List Primitive) (q : Asked) (planned : Planned prims q) (order : ScanOrder) (once : Apart nat_cmp (scanned prims q order))
    (all : (o : ℕ) → In o (scanned prims q order) ↔ In o (candidates prims q)) where
  abbrev pub plan : Template
  plan = template_of q

  -- an object that meets the root answers, and the other way round
  answers_from : (o : ℕ) → In o (objects prims) → meets prims q.members 0 o ≡ true → is_answer prims plan o ≡ true
  answers_from o stands meet = planned.answers o ∙ true_both (is_object prims o) (meets prims q.members 0 o) (object_is prims o stands) meet

  meets_from : (o : ℕ) → is_answer prims plan o ≡ true → In o (objects prims) × (meets prims q.members 0 o ≡ true)
  meets_from o is = let both = both_true (is_object prims o) (meets prims q.members 0 o) (sym (planned.answers o) ∙ is) in (is_object_in prims o both.0, both.1)

  in_scanned : (o : ℕ) → is_answer prims plan o ≡ true → In o (scanned prims q order)
  in_scanned o is =
      let both = both_true (is_object prims o) (meets_given prims q.members 0 o) (sym (planned.passes o) ∙ answer-passes prims plan o is) in
      (all o).1 (In-filtered (meets_given prims q.members 0) (objects prims) o (is_object_in prims o both.0) both.1)

  in_candidates : (o : ℕ) → is_answer prims plan o ≡ true → In o (candidates prims q)
  in_candidates o is = (all o).0 (in_scanned o is)

  rows_from : (r : Row) → In r (answer_rows prims q (scanned prims q order)) → In r (of_objects prims q (meeting prims q))
  rows_from r here =
      let from = In-map (row_of prims q.sort 0) (filter (is_answer prims plan) (scanned prims q order)) r here in
      let passed = In-filter (is_answer prims plan) (scanned prims q order) from.0 from.1 in
      let known = meets_from from.0 passed.1 in
      subst (λ s. In s (of_objects prims q (meeting prims q))) from.2 (In-mapped (row_of prims q.sort 0) (meeting prims q) from.0 (In-filtered (meets prims q.members 0) (objects prims) from.0 known.0 known.1))

  rows_to : (r : Row) → In r (of_objects prims q (meeting prims q)) → In r (answer_rows prims q (scanned prims q order))
  rows_to r here =
      let from = In-map (row_of prims q.sort 0) (meeting prims q) r here in
      let passed = In-filter (meets prims q.members 0) (objects prims) from.0 from.1 in
      let answers = answers_from from.0 passed.0 passed.1 in
      subst (λ s. In s (answer_rows prims q (scanned prims q order))) from.2
      (In-mapped (row_of prims q.sort 0) (filter (is_answer prims plan) (scanned prims q order)) from.0 (In-filtered (is_answer prims plan) (scanned prims q order) from.0 (in_scanned from.0 answers) answers))

  pub offered_is : (after : Option Mark) → window prims q after (answer_rows prims q (scanned prims q order)) ≡ rows_after prims q after
  offered_is after =
      window_alike prims q after (answer_rows prims q (scanned prims q order)) (of_objects prims q (meeting prims q))
      (apart_rows prims q (filter (is_answer prims plan) (scanned prims q order)) (Apart-filter nat_cmp nat_cmp_total (is_answer prims plan) (scanned prims q order) once))
      (apart_rows prims q (meeting prims q) (apart_objects prims (meets prims q.members 0)))
      rows_from rows_to
      ∙ window_after prims q after

  pub heavy_is : list_any (λ p. weighs_too_much (candidate prims plan p)) (scanned prims q order) ≡ has_heavy_candidate prims q
  heavy_is =
      same_any (λ p. weighs_too_much (candidate prims plan p)) (scanned prims q order) (candidates prims q) (λ p. (all p).0) (λ p. (all p).1)
      ∙ any_agrees (λ p. weighs_too_much (candidate prims plan p)) (λ o. nat_lt max_candidate_weight (row_weight prims q o)) (candidates prims q) (λ o there. ap (nat_lt max_candidate_weight) (planned.weighs o there))

  -- a row is that of an object that answers
  abbrev pub Known : Row → Type 0
  Known r = is_answer prims plan r.object ≡ true

  known_rows : Each Known (rows prims q)
  known_rows = Each-from_members Known (rows prims q) (λ r there. let known = row_known prims q r there in subst Known known.3 (answers_from known.0 known.1 known.2))

  pub known_after : (after : Option Mark) → Each Known (rows_after prims q after)
  known_after None = known_rows
  known_after (Some m) = Each-filter Known (λ r. is_lt (row_cmp prims q.sort (mark_row prims q.sort m) r)) (rows prims q) known_rows

  -- ---- what is built of the rows of a page

  abbrev of_page : List Row → List Candidate
  of_page rs = map (candidate prims plan) (map (λ r. r.object) rs)

  all_pass : (rs : List Row) → Each Known rs → filter (passes_template prims plan) (map (λ r. r.object) rs) ≡ map (λ r. r.object) rs
  all_pass rs known = keeps_all (passes_template prims plan) (map (λ r. r.object) rs) (each rs known)
    where
      each : (ss : List Row) → Each Known ss → Each (λ o. passes_template prims plan o ≡ true) (map (λ r. r.object) ss)
      each [] known = tt
      each (r ∷ ss) known = (answer-passes prims plan r.object known.0, each ss known.1)

  weight_is : (rs : List Row) → Each Known rs → built_weight (of_page rs) ≡ sum_by (λ r. row_weight prims q r.object) rs
  weight_is [] known = refl
  weight_is (r ∷ rs) known =
      sum_by-cons (λ c. if is_some c.answer then c.weight else 0) (candidate prims plan r.object) (of_page rs)
      ∙ (ap (λ b. (if is_some (if b then Some (tree_of prims plan r.object) else None) then weight prims plan r.object else 0) + built_weight (of_page rs)) known.0
      ∙ (ap (λ w. w + built_weight (of_page rs)) (planned.weighs r.object (in_candidates r.object known.0))
      ∙ (ap (λ n. row_weight prims q r.object + n) (weight_is rs known.1)
      ∙ sym (sum_by-cons (λ s. row_weight prims q s.object) r rs))))

  trees_are : (rs : List Row) → Each Known rs → built_trees (of_page rs) ≡ map (λ r. tree_of prims plan r.object) rs
  trees_are [] known = refl
  trees_are (r ∷ rs) known = ap (λ b. built_trees (record { weight = 0; answer = if b then Some (tree_of prims plan r.object) else None } ∷ of_page rs)) known.0 ∙ ap (λ l. tree_of prims plan r.object ∷ l) (trees_are rs known.1)

  none_heavy : (rs : List Row) → Each Known rs → list_any (λ p. weighs_too_much (candidate prims plan p)) (scanned prims q order) ≡ false → list_any weighs_too_much (of_page rs) ≡ false
  none_heavy [] known none = refl
  none_heavy (r ∷ rs) known none =
      ap (λ b. b || list_any weighs_too_much (of_page rs)) (Each-member (λ p. weighs_too_much (candidate prims plan p) ≡ false) (scanned prims q order) (any_none (λ p. weighs_too_much (candidate prims plan p)) (scanned prims q order) none) r.object (in_scanned r.object known.0))
      ∙ none_heavy rs known.1 none

  -- ---- what the page prints

  abbrev row_json : Row → Result Json Path
  row_json r = object_json prims q.members 0 r.object >>= λ m. Ok (object m)

  abbrev unwalked : {A : Type 0} → Result A Path → Printed A
  unwalked r = r >>= λ a. Ok (a, [])

  rows_print : (rs : List Row) → Each Known rs → rows_shape prims q.members (map (λ r. tree_of prims plan r.object) rs) [] ≡ unwalked (each_row row_json rs)
  rows_print [] known = refl
  rows_print (r ∷ rs) known =
      ap (λ m. m >>= λ a. rows_shape prims q.members (map (λ s. tree_of prims plan s.object) rs) a.1 >>= λ js. Ok (item (object a.0) js.0, js.1)) (planned.prints r.object met.0 met.1)
      ∙ by (object_json prims q.members 0 r.object) (rows_print rs known.1)
    where
      met : In r.object (objects prims) × (meets prims q.members 0 r.object ≡ true)
      met = meets_from r.object known.0

      by : (m : Result JsonMembers Path) → rows_shape prims q.members (map (λ s. tree_of prims plan s.object) rs) [] ≡ unwalked (each_row row_json rs)
          → ((unwalked m) >>= λ a. rows_shape prims q.members (map (λ s. tree_of prims plan s.object) rs) a.1 >>= λ js. Ok (item (object a.0) js.0, js.1))
          ≡ unwalked ((m >>= λ a. Ok (object a)) >>= λ j. each_row row_json rs >>= λ js. Ok (item j js))
      by (Err e) rest = refl
      by (Ok m) rest = ap (λ (p : Printed Items). p >>= λ js. Ok (item (object m) js.0, js.1)) rest ∙ last (each_row row_json rs)
        where
          last : (js : Result Items Path) → ((unwalked js) >>= λ l. Ok (item (object m) l.0, l.1)) ≡ unwalked (js >>= λ l. Ok (item (object m) l))
          last (Err e) = refl
          last (Ok l) = refl

  page_prints : (rs : List Row) → Each Known rs → page_shape prims q (map (λ r. tree_of prims plan r.object) rs) [] ≡ as_list q.listed (each_row row_json rs)
  page_prints rs known = ap (λ p. list_shape q.listed p >>= λ j. Ok j.0) (rows_print rs known) ∙ by q.listed (each_row row_json rs)
    where
      by : (b : Bool) (js : Result Items Path) → (list_shape b (unwalked js) >>= λ j. Ok j.0) ≡ as_list b js
      by true (Err e) = refl
      by true (Ok l) = refl
      by false (Err e) = refl
      by false (Ok l) = refl

  -- ---- the answer

  module _ (dateline : ℕ) (with_cursor : Bool) (after : Option Mark) where
    abbrev here : List Row
    here = rows_after prims q after

    known_page : Each Known (page prims q after)
    known_page = Each-take Known q.limit here (known_after after)

    abbrev cursor : Option Json
    cursor = if with_cursor then Some (page_cursor dateline (page prims q after) (has_more prims q after)) else None

    -- a result, or the refusal of two answers
    refused : (b : Bool) (r : Result Json Path) → (if b then Err (refused_at (codes "NotUnique") []) else page_answer cursor r) ≡ page_answer cursor (if b then Err [] else r)
    refused true r = refl
    refused false r = refl

    abbrev built : Bool → List Candidate
    built c = if c then [] else map (candidate prims plan) (filter (passes_template prims plan) (map (λ r. r.object) (drop 0 (page prims q after))))

    -- what is owed behind the weights of candidates, for a count or not
    abbrev owed : Bool → Answer
    owed c = if list_any weighs_too_much (built c) then Err (too_wide (max_candidate_weight + 1))
        else if not c && nat_lt max_page_weight (built_weight (built c)) then Err (too_wide (max_page_weight + 1))
        else if q.single && nat_lt 1 (length here) then Err (refused_at (codes "NotUnique") [])
        else page_answer cursor (if c then Ok (count_json (length (page prims q after))) else page_shape prims q (built_trees (built c)) [])

    abbrev replied : Bool → Answer
    replied c = if not c && nat_lt max_page_weight (sum_by (λ r. row_weight prims q r.object) (page prims q after)) then Err (too_wide (max_page_weight + 1))
        else page_answer cursor (if is_ambiguous q.single (length here) then Err []
        else if c then Ok (count_json (length (page prims q after)))
        else as_list q.listed (each_row row_json (page prims q after)))

    single_answer : (r : Result Json Path) → (if q.single && nat_lt 1 (length here) then Err (refused_at (codes "NotUnique") []) else page_answer cursor r)
        ≡ page_answer cursor (if is_ambiguous q.single (length here) then Err [] else r)
    single_answer r = refused (q.single && nat_lt 1 (length here)) r

    abbrev owed_of : List Candidate → Answer
    owed_of cs = if list_any weighs_too_much cs then Err (too_wide (max_candidate_weight + 1))
        else if nat_lt max_page_weight (built_weight cs) then Err (too_wide (max_page_weight + 1))
        else if q.single && nat_lt 1 (length here) then Err (refused_at (codes "NotUnique") [])
        else page_answer cursor (page_shape prims q (built_trees cs) [])

    abbrev owed_by_page : Bool → ℕ → Result Json Path → Answer
    owed_by_page heavy w r = if heavy then Err (too_wide (max_candidate_weight + 1))
        else if nat_lt max_page_weight w then Err (too_wide (max_page_weight + 1))
        else if q.single && nat_lt 1 (length here) then Err (refused_at (codes "NotUnique") [])
        else page_answer cursor r

    answer_is : (c : Bool) → list_any (λ p. weighs_too_much (candidate prims plan p)) (scanned prims q order) ≡ false → owed c ≡ replied c
    answer_is true none = single_answer (Ok (count_json (length (page prims q after))))
    answer_is false none =
        ap (λ os. owed_of (map (candidate prims plan) os)) (all_pass (page prims q after) known_page)
        ∙ (ap (λ b. owed_by_page b (built_weight (of_page (page prims q after))) (page_shape prims q (built_trees (of_page (page prims q after))) [])) (none_heavy (page prims q after) known_page none)
        ∙ (ap (λ w. owed_by_page false w (page_shape prims q (built_trees (of_page (page prims q after))) [])) (weight_is (page prims q after) known_page)
        ∙ (ap (λ ts. owed_by_page false (sum_by (λ r. row_weight prims q r.object) (page prims q after)) (page_shape prims q ts [])) (trees_are (page prims q after) known_page)
        ∙ (ap (owed_by_page false (sum_by (λ r. row_weight prims q r.object) (page prims q after))) (page_prints (page prims q after) known_page)
        ∙ ap (λ l. if nat_lt max_page_weight (sum_by (λ r. row_weight prims q r.object) (page prims q after)) then Err (too_wide (max_page_weight + 1)) else l) (single_answer (as_list q.listed (each_row row_json (page prims q after))))))))

    both_heavy : (b : Bool) → list_any (λ p. weighs_too_much (candidate prims plan p)) (scanned prims q order) ≡ b
        → answer_by prims q dateline with_cursor after b here ≡ (if b then Err (too_wide (max_candidate_weight + 1)) else replied q.count)
    both_heavy true is = refl
    both_heavy false is = answer_is q.count is

    -- a scan that has settled nothing owes the answer, in each order in which each candidate comes once
    pub start_replies : scan_answer prims q order dateline with_cursor after [] start ≡ asked_answer prims dateline with_cursor after q
    start_replies =
        start_answer prims q dateline with_cursor after order
        ∙ (ap (answer_by prims q dateline with_cursor after (list_any (λ p. weighs_too_much (candidate prims plan p)) (scanned prims q order))) (offered_is after)
        ∙ (both_heavy (list_any (λ p. weighs_too_much (candidate prims plan p)) (scanned prims q order)) refl
        ∙ ap (λ b. if b then Err (too_wide (max_candidate_weight + 1)) else replied q.count) heavy_is))
