-- Readings that print their page.
use Rattle.std.proofs.Common.{◌≡◌, ℕ, ◌-◌, ◌≤◌, List, [], ◌∷◌, Bool, true, false, length, map, take, Option, Some, None, Result, Ok, Err, refl, ap, sym, subst, ◌∙◌, arith}
use Rattle.std.specs.Prelude.{nat_lt, slice_get, if◌then◌else◌, codes}
use Rattle.std.specs.List.{last_or}
use Rattle.gd_prim.specs.declared.Batch.{Batch}
use Rattle.gd_prim.specs.declared.Primitive.{Primitive}
use Rattle.gd_prim.specs.History.{prims_of}
use Rattle.gd_grammar.specs.Mark.{cursor_text}
use Rattle.gd_tree.specs.Json.{Json, text, compact}
use Rattle.gd_defs.specs.Lines.{refused_at}
use Rattle.gd_defs.specs.Reply.{Mark, Path, is_ambiguous, page, page_cursor, row_mark, page_answer}
use Rattle.gd_defs.specs.Rows as defs
use Rattle.gd_runs.specs.Request.{asks_page}
use Rattle.gd_runs.specs.Scanned.{scan_order}
use Rattle.gd_mql.specs.Requests.{cursor_view}
use Rattle.gd_plan.specs.Asked.{asked_view}
use Rattle.gd_plan.specs.declared.asked.Asked.{Asked as Found}
use Rattle.gd_read.specs.Marked.{mark_of}
use Rattle.gd_reply.specs.Answers.{told_of}
use Rattle.gd_shape.specs.Outcome.{text_of}
use Rattle.gd_shape.specs.Shaping.{page_of, body_print, body_due, shape_due, IsOf, IsBodyOf, IsSamePage, count_or, asked_of, trees_in, walks_in}
use Rattle.gd_shape.specs.declared.shape.PageBody.TheVariants as bodies
use Rattle.gd_shape.specs.declared.shape.PageBody.{PageBody}
use Rattle.gd_shape.specs.declared.shape.Shape.{Shape}
use Rattle.gd_runs.specs.Shape.{page_shape}
use Rattle.gd_window.specs.declared.row.Row.{Row}
use Rattle.gd_window.specs.Kept.{Kept}
use Rattle.gd_window.specs.Laws.{defined}
use Rattle.gd_shape.specs.PassedOn.{rows_of, page_rows}
use Rattle.gd_shape.proofs.PassedOn.{map-take, length-map, many_are_refused, prints_are_owed}
use Rattle.gd_read.specs.Subject.{answer_of}
use Rattle.gd_work_laws.specs.Reading.{printing_most}
use Rattle.gd_read.specs.Left.{prints_most}
use Rattle.gd_read.specs.Stages.{HasPage, IsBuilt, Prints, body_trees}
use Rattle.gd_read.specs.declared.subject.Subject.{Subject}

-- ---- the cursor of a page

some_same : {A : Type 0} (x y : A) → Some x ≡ Some y → x ≡ y
some_same x y is = cc

last_mapped : {A B : Type 0} (f : A → B) (x : A) (xs : List A) (r : A) → slice_get (x ∷ xs) (length xs) ≡ Some r → last_or (Some (f x)) (map f xs) ≡ Some (f r)
last_mapped f x [] r is = ap Some (ap f (some_same x r is))
last_mapped f x (y ∷ ys) r is = last_mapped f y ys r is

-- it marks the last row
pub cursor_last : (dateline : ℕ) (rs : List Row) (more : Bool) (r : Row) → more ≡ true → slice_get rs (length rs - 1) ≡ Some r → text (cursor_text dateline (row_mark (defined r))) ≡ page_cursor dateline (map defined rs) more
cursor_last dateline [] more r is last = absurd (cc)
cursor_last dateline (x ∷ xs) more r is last =
    let at : slice_get (x ∷ xs) (length xs) ≡ Some r = subst (λ n. slice_get (x ∷ xs) n ≡ Some r) (omega arith) last in
    rw (is, last_mapped defined x xs r at) refl

-- it is that of the rows that a window keeps
pub asked_is : (dateline : ℕ) (w : Kept) (asks : Bool) (rows : List Row) (limit : ℕ) (j : Json) → asks ≡ true → rows ≡ w.rows → limit ≡ w.limit → j ≡ page_cursor dateline (map defined (take limit rows)) (nat_lt limit (length rows))
    → Some j ≡ (if asks then Some (page_cursor dateline (page_rows w) (nat_lt w.limit (length (rows_of w)))) else None)
asked_is dateline w asks rows limit j asking rows_are limit_is is =
    ap Some (is
    ∙ ap (λ l. page_cursor dateline l (nat_lt limit (length rows))) (map-take defined limit rows)
    ∙ ap (λ n. page_cursor dateline (take limit (map defined rows)) (nat_lt limit n)) (sym (length-map defined rows))
    ∙ ap (λ (l : List Row). page_cursor dateline (take limit (map defined l)) (nat_lt limit (length (map defined l)))) rows_are
    ∙ ap (λ n. page_cursor dateline (take n (rows_of w)) (nat_lt n (length (rows_of w)))) limit_is)
    ∙ ap (λ b. if b then Some (page_cursor dateline (page_rows w) (nat_lt w.limit (length (rows_of w)))) else None) (sym asking)

-- ---- what a page comes to

-- LAW: the text of a page is told of its answer
pub page_found : (cursor : Option Json) (outcome : List ℕ) (page : Result Json Path) → Ok outcome ≡ text_of page → Ok (cursor, outcome) ≡ told_of (page_answer cursor page)
page_found cursor outcome (Ok j) is = let e : outcome ≡ compact j = cc in ap (λ t. Ok (cursor, t)) e
page_found cursor outcome (Err path) is = cc

-- LAW: and so is a path of two answers
pub page_refused : (cursor : Option Json) (path : Path) (page : Result Json Path) → Err path ≡ text_of page → Err (refused_at (codes "NotUnique") path) ≡ told_of (page_answer cursor page)
page_refused cursor path (Ok j) is = cc
page_refused cursor path (Err other) is = let e : path ≡ other = cc in ap (λ p. Err (refused_at (codes "NotUnique") p)) e

-- LAW: a body that has the page takes no more steps than printing the page
pub prints_paid : (prims : List Primitive) (plan taken : Found) (after : Option Mark) (body : PageBody) (shape : Shape) → HasPage prims (asked_view plan) after body → taken ≡ plan → shape_due prims shape ≤ body_due prims (asked_view taken) body
    → ((rows : List defs.Row) → IsBodyOf prims (asked_view taken) rows body → shape_due prims shape ≤ printing_most prims (asked_view taken) rows) → shape_due prims shape ≤ prints_most prims (asked_view plan) after
prints_paid prims plan taken after (bodies.Trees ts) shape has same due paid =
    subst (λ (b : Bool). shape_due prims shape ≤ (if b then 0 else printing_most prims (asked_view plan) (page prims (asked_view plan) after))) (sym has.0)
    (subst (λ (p : Found). (rows : List defs.Row) → IsBodyOf prims (asked_view p) rows (bodies.Trees ts) → shape_due prims shape ≤ printing_most prims (asked_view p) rows) same paid (page prims (asked_view plan) after) has.1)
prints_paid prims plan taken after (bodies.Count n) shape has same due paid = none (shape_due prims shape) (prints_most prims (asked_view plan) after) due
  where
    none : (a b : ℕ) → a ≤ 0 → a ≤ b
    none a b few = omega (arith, few)

module _ (batches : List Batch) (s : Subject) where
  -- LAW: more than one row was found where one is asked
  pub prints_many : (plan : Found) (body : PageBody) (w : Kept) → IsBuilt batches s plan body w → is_ambiguous (asked_view plan).single (length (rows_of w)) ≡ true
      → Err (refused_at (codes "NotUnique") []) ≡ answer_of batches s
  prints_many plan body w built many =
      sym (many_are_refused (prims_of batches) (asked_view plan) (scan_order (prims_of batches) (asked_view plan)) s.dateline (asks_page (cursor_view s.request.cursor)) (mark_of s.after) w built.kept (body_trees body) many)
      ∙ built.owes

  -- LAW: a page begins to be printed
  pub prints_first : (plan taken : Found) (body : PageBody) (w : Kept) (shape : Shape) → IsBuilt batches s plan body w → is_ambiguous (asked_view plan).single (length (rows_of w)) ≡ false
      → taken ≡ plan → page_of (prims_of batches) shape ≡ body_print (prims_of batches) (asked_view taken) body → IsOf (prims_of batches) shape → Prints batches s shape w
  prints_first plan taken body w shape built one same page known = record {
    q = asked_view plan;
    trees = body_trees body;
    asked = built.asked;
    kept = built.kept;
    fit = built.fit;
    begun = built.begun;
    one = one;
    prints = page ∙ ap (λ (a : Found). body_print (prims_of batches) (asked_view a) body) same ∙ built.prints;
    known = known;
    owes = built.owes;
  }

  -- LAW: it goes on
  pub prints_on : (shape new : Shape) (w : Kept) → Prints batches s shape w → IsSamePage shape new → IsOf (prims_of batches) new → Prints batches s new w
  prints_on shape new w prints same known = record {
    q = prints.q;
    trees = prints.trees;
    asked = prints.asked;
    kept = prints.kept;
    fit = prints.fit;
    begun = prints.begun;
    one = prints.one;
    prints = ap (λ n. count_or n (page_shape (prims_of batches) (asked_of new) (trees_in new) (walks_in new))) same.count
        ∙ ap (λ q. count_or shape.count (page_shape (prims_of batches) q (trees_in new) (walks_in new))) same.asked
        ∙ ap (λ ts. count_or shape.count (page_shape (prims_of batches) (asked_of shape) ts (walks_in new))) same.trees
        ∙ ap (λ ws. count_or shape.count (page_shape (prims_of batches) (asked_of shape) (trees_in shape) ws)) same.walks
        ∙ prints.prints;
    known = known;
    owes = prints.owes;
  }

  -- LAW: what it prints is the answer that is owed
  pub prints_answer : (shape : Shape) (w : Kept) → Prints batches s shape w
      → page_answer (if asks_page (cursor_view s.request.cursor) then Some (page_cursor s.dateline (page_rows w) (nat_lt w.limit (length (rows_of w)))) else None) (page_of (prims_of batches) shape) ≡ answer_of batches s
  prints_answer shape w prints =
      ap (page_answer (if asks_page (cursor_view s.request.cursor) then Some (page_cursor s.dateline (page_rows w) (nat_lt w.limit (length (rows_of w)))) else None)) prints.prints
      ∙ sym (prints_are_owed (prims_of batches) prints.q (scan_order (prims_of batches) prints.q) s.dateline (asks_page (cursor_view s.request.cursor)) (mark_of s.after) w prints.kept prints.trees prints.one)
      ∙ prints.owes
