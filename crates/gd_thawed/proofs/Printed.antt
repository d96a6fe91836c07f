-- Readings that print their page.
use Rattle.std.proofs.Common.{◌≡◌, ◌≤◌, ℕ, ◌-◌, List, [], ◌∷◌, Bool, true, false, length, map, take, Some, None, Result, Ok, Err, refl, ap, sym, subst, ◌∙◌, arith, Option, Vec, Global}
use Rattle.std.specs.Prelude.{nat_lt, slice_get, if◌then◌else◌, codes}
use Rattle.std.specs.List.{last_or, list_all}
use Rattle.gd_prim.specs.declared.Batch.{Batch}
use Rattle.gd_prim.specs.History.{prims_of}
use Rattle.gd_grammar.specs.Mark.{Mark, cursor_text}
use Rattle.gd_tree.specs.Json.{Json, text, compact}
use Rattle.gd_tree.specs.Trees.{Trees, list_of, trees_count}
use Rattle.gd_bytes.specs.Frozen.{Walk, printing, max_number, walk_in_bounds}
use Rattle.gd_defs.specs.Lines.{refused_at}
use Rattle.gd_defs.specs.Reply.{Answer, Path, is_ambiguous, page_cursor, row_mark, page_answer}
use Rattle.gd_frozen.specs.Meaning.{walk_of}
use Rattle.gd_frozen.specs.Pieces as pieces
use Rattle.gd_frozen.specs.declared.frozen.RowAt.{RowAt}
use Rattle.gd_frozen.specs.declared.frozen.Walk.{Walk as WalkAt}
use Rattle.gd_frozen.specs.declared.tree.Piece.{Piece}
use Rattle.gd_runs.specs.Fitting.{body_fits}
use Rattle.gd_runs.specs.Scanned.{scan_order}
use Rattle.gd_plan.specs.Asked.{asked_view}
use Rattle.gd_plan.specs.declared.asked.Asked.{Asked as Found}
use Rattle.gd_reply.specs.Answers.{told_of}
use Rattle.gd_shape.specs.Outcome.{text_of}
use Rattle.gd_shape.specs.declared.shape.PageBody.TheVariants as page
use Rattle.gd_shape.specs.Shaping.{page_of, body_print, body_told, body_list, body_places, IsOf, IsSamePage, count_or, asked_of, trees_in, walks_in}
use Rattle.gd_shape.specs.declared.shape.PageBody.{PageBody}
use Rattle.gd_shape.specs.declared.shape.Shape.{Shape}
use Rattle.gd_runs.specs.Shape.{page_shape}
use Rattle.gd_window.specs.declared.row.Row.{Row}
use Rattle.gd_window.specs.Kept.{Kept}
use Rattle.gd_window.specs.Laws.{defined}
use Rattle.gd_suspended_laws.specs.Standing.{rows_of, page_rows}
use Rattle.gd_suspended_laws.proofs.Going.{map-take, length-map, page_many}
use Rattle.gd_thaw_laws.specs.Spelled.{one_member}
use Rattle.gd_thaw_laws.proofs.Owing.{prints_many, prints_page}
use Rattle.gd_thawed.specs.Subject.{after_of, marks_in}
use Rattle.gd_thawed.specs.Stages.{IsBuilt, CountsRows, Prints, body_trees, page_prints, body_owes}
use Rattle.gd_thawed.specs.declared.subject.Subject.{Subject}
use Rattle.gd_thawed.specs.declared.printing.Printing.{Printing}

-- ---- the cursor of a page

some_same : {A : Type 0} (x y : A) → Some x ≡ Some y → x ≡ y
some_same x y is = cc

last_mapped : {A B : Type 0} (f : A → B) (x : A) (xs : List A) (r : A) → slice_get (x ∷ xs) (length xs) ≡ Some r → last_or (Some (f x)) (map f xs) ≡ Some (f r)
last_mapped f x [] r is = ap Some (ap f (some_same x r is))
last_mapped f x (y ∷ ys) r is = last_mapped f y ys r is

-- it marks the last row
pub cursor_last : (dateline : ℕ) (rs : List Row) (more : Bool) (r : Row) → more ≡ true → slice_get rs (length rs - 1) ≡ Some r → text (cursor_text dateline (row_mark (defined r))) ≡ page_cursor dateline (map defined rs) more
cursor_last dateline [] more r is last = absurd (cc)
cursor_last dateline (x ∷ xs) more r is last =
    let at : slice_get (x ∷ xs) (length xs) ≡ Some r = subst (λ n. slice_get (x ∷ xs) n ≡ Some r) (omega arith) last in
    rw (is, last_mapped defined x xs r at) refl

-- it is that of the rows that a window keeps
pub asked_is : (dateline : ℕ) (w : Kept) (asks : Bool) (rows : List Row) (limit : ℕ) (j : Json) → asks ≡ true → rows ≡ w.rows → limit ≡ w.limit → j ≡ page_cursor dateline (map defined (take limit rows)) (nat_lt limit (length rows))
    → Some j ≡ (if asks then Some (page_cursor dateline (page_rows w) (nat_lt w.limit (length (rows_of w)))) else None)
asked_is dateline w asks rows limit j asking rows_are limit_is is =
    ap Some (is
    ∙ ap (λ l. page_cursor dateline l (nat_lt limit (length rows))) (map-take defined limit rows)
    ∙ ap (λ n. page_cursor dateline (take limit (map defined rows)) (nat_lt limit n)) (sym (length-map defined rows))
    ∙ ap (λ (l : List Row). page_cursor dateline (take limit (map defined l)) (nat_lt limit (length (map defined l)))) rows_are
    ∙ ap (λ n. page_cursor dateline (take n (rows_of w)) (nat_lt n (length (rows_of w)))) limit_is)
    ∙ ap (λ b. if b then Some (page_cursor dateline (page_rows w) (nat_lt w.limit (length (rows_of w)))) else None) (sym asking)

-- ---- what a page comes to

-- LAW: the text of a page is told of its answer
pub page_found : (cursor : Option Json) (outcome : List ℕ) (page : Result Json Path) → Ok outcome ≡ text_of page → Ok (cursor, outcome) ≡ told_of (page_answer cursor page)
page_found cursor outcome (Ok j) is = let e : outcome ≡ compact j = cc in ap (λ t. Ok (cursor, t)) e
page_found cursor outcome (Err path) is = cc

-- LAW: and so is a path of two answers
pub page_refused : (cursor : Option Json) (path : Path) (page : Result Json Path) → Err path ≡ text_of page → Err (refused_at (codes "NotUnique") path) ≡ told_of (page_answer cursor page)
page_refused cursor path (Ok j) is = cc
page_refused cursor path (Err other) is = let e : path ≡ other = cc in ap (λ p. Err (refused_at (codes "NotUnique") p)) e

module _ (batches : List Batch) (owed : Answer) (s : Subject) where
  -- LAW: a page begins to be printed
  pub prints_first : (plan : Found) (body : PageBody) (w : Kept) (p : Printing) → IsBuilt batches owed s plan body (marks_in p.rows.items) w → p.single ≡ plan.single → (asked_of p.shape ≡ asked_view plan) × (trees_in p.shape ≡ body_list body)
      → page_of (prims_of batches) p.shape ≡ body_print (prims_of batches) (asked_view plan) body → IsOf (prims_of batches) p.shape → pieces.trees_in p.trees ≡ body_trees body → walks_in p.shape ≡ [] → p.places ≤ body_places body → p.places ≤ max_number
      → Prints batches owed s p w
  prints_first plan body w p built single parts prints known trees walks held low = record {
    q = asked_view plan;
    asked = built.asked;
    keeps = built.keeps;
    rows = built.tells;
    single = single;
    asks = parts.0;
    has = parts.1 ∙ listed body ∙ ap list_of (sym trees);
    prints = prints ∙ built.prints ∙ sym (same (λ ts ws. page_prints (prims_of batches) (asked_view plan) w ts ws));
    known = known;
    fits = same (λ ts ws. body_fits (prims_of batches) one_member (asked_view plan) (length (marks_in p.rows.items)) (printing 0 ts ws)) ∙ built.fits;
    held = subst (λ n. p.places ≤ n) (as_many body ∙ ap trees_count (sym trees)) held;
    low = low;
    walks = ap (list_all walk_in_bounds) walks;
    owes = same (λ ts ws. body_owes batches s (asked_view plan) w (printing 0 ts ws)) ∙ built.owes;
  }
    where
      same : {A : Type 0} (f : Trees → List Walk → A) → f (pieces.trees_in p.trees) (walks_in p.shape) ≡ f (body_trees body) []
      same f = ap (λ ts. f ts (walks_in p.shape)) trees ∙ ap (f (body_trees body)) walks

      listed : (b : PageBody) → body_list b ≡ list_of (body_trees b)
      listed (page.Trees ts) = refl
      listed (page.Count n) = refl

      as_many : (b : PageBody) → body_places b ≡ trees_count (body_trees b)
      as_many (page.Trees ts) = refl
      as_many (page.Count n) = refl

  -- LAW: so it does where its parts are these
  pub prints_began : (plan : Found) (body : PageBody) (rows : Vec RowAt Global) (trees : List Piece) (none : List WalkAt) (w : Kept) (p : Printing) → IsBuilt batches owed s plan body (marks_in rows.items) w → pieces.trees_in trees ≡ body_trees body → none ≡ [] → p.rows ≡ rows
      → p.trees ≡ trees → p.single ≡ plan.single → (asked_of p.shape ≡ asked_view plan) × (trees_in p.shape ≡ body_list body) → page_of (prims_of batches) p.shape ≡ body_told (prims_of batches) (asked_view plan) body (map walk_of none) → IsOf (prims_of batches) p.shape → walks_in p.shape ≡ map walk_of none → p.places ≤ body_places body → p.places ≤ max_number
      → Prints batches owed s p w
  prints_began plan body rows trees none w p built same empty rows_are trees_are single parts page known walks held low =
      prints_first plan body w p (subst (λ (rs : Vec RowAt Global). IsBuilt batches owed s plan body (marks_in rs.items) w) (sym rows_are) built) single parts
      (page ∙ ap (λ ws. body_told (prims_of batches) (asked_view plan) body (map walk_of ws)) empty) known (ap pieces.trees_in trees_are ∙ same) (walks ∙ ap (map walk_of) empty) held low

  -- LAW: the rows of a page are as many
  pub counts_rows : (plan : Found) (rows : List Mark) (w : Kept) (n : ℕ) → CountsRows batches owed s plan rows w → n ≡ length (take w.limit w.rows) → IsBuilt batches owed s plan (page.Count n) rows w
  counts_rows plan rows w n counts is = subst (λ k. IsBuilt batches owed s plan (page.Count k) rows w) (sym (is ∙ page_many w)) counts

  -- LAW: it goes on
  pub prints_on : (p : Printing) (new : Shape) (w : Kept) → Prints batches owed s p w → IsSamePage p.shape new → IsOf (prims_of batches) new → Prints batches owed s (record p { shape = new }) w
  prints_on p new w prints same known = record {
    q = prints.q;
    asked = prints.asked;
    keeps = prints.keeps;
    rows = prints.rows;
    single = prints.single;
    asks = same.asked ∙ prints.asks;
    has = same.trees ∙ prints.has;
    prints = ap (λ n. count_or n (page_shape (prims_of batches) (asked_of new) (trees_in new) (walks_in new))) same.count
        ∙ ap (λ q. count_or p.shape.count (page_shape (prims_of batches) q (trees_in new) (walks_in new))) same.asked
        ∙ ap (λ ts. count_or p.shape.count (page_shape (prims_of batches) (asked_of p.shape) ts (walks_in new))) same.trees
        ∙ ap (λ ws. count_or p.shape.count (page_shape (prims_of batches) (asked_of p.shape) (trees_in p.shape) ws)) same.walks
        ∙ prints.prints
        ∙ ap (page_prints (prims_of batches) prints.q w (pieces.trees_in p.trees)) (sym same.walks);
    known = known;
    fits = ap (λ ws. body_fits (prims_of batches) one_member prints.q (length (marks_in p.rows.items)) (printing 0 (pieces.trees_in p.trees) ws)) same.walks ∙ prints.fits;
    held = prints.held;
    low = prints.low;
    walks = ap (list_all walk_in_bounds) same.walks ∙ prints.walks;
    owes = ap (λ ws. body_owes batches s prints.q w (printing 0 (pieces.trees_in p.trees) ws)) same.walks ∙ prints.owes;
  }

  -- LAW: more than one row was found where one is asked
  pub prints_too_many : (p : Printing) (w : Kept) → Prints batches owed s p w → is_ambiguous p.single (length (rows_of w)) ≡ true → Err (refused_at (codes "NotUnique") []) ≡ owed
  prints_too_many p w prints many =
      sym (prints_many (prims_of batches) prints.q (scan_order (prims_of batches) prints.q) s.dateline s.with_cursor (after_of s.after) w prints.keeps.is prints.keeps.again 0 (pieces.trees_in p.trees) (walks_in p.shape)
      (ap (λ b. is_ambiguous b (length (rows_of w))) (sym prints.single) ∙ many))
      ∙ prints.owes

  -- LAW: what it prints is the answer that is owed
  pub prints_answer : (p : Printing) (w : Kept) → Prints batches owed s p w → is_ambiguous p.single (length (rows_of w)) ≡ false
      → page_answer (if s.with_cursor then Some (page_cursor s.dateline (page_rows w) (nat_lt w.limit (length (rows_of w)))) else None) (page_of (prims_of batches) p.shape) ≡ owed
  prints_answer p w prints one =
      ap (page_answer (if s.with_cursor then Some (page_cursor s.dateline (page_rows w) (nat_lt w.limit (length (rows_of w)))) else None)) prints.prints
      ∙ sym (prints_page (prims_of batches) prints.q (scan_order (prims_of batches) prints.q) s.dateline s.with_cursor (after_of s.after) w prints.keeps.is prints.keeps.again 0 (pieces.trees_in p.trees) (walks_in p.shape)
      (ap (λ b. is_ambiguous b (length (rows_of w))) (sym prints.single) ∙ one))
      ∙ prints.owes
