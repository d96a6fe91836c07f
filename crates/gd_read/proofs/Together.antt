-- Queries that are read together.
use Rattle.std.proofs.Common.{◌≡◌, ℕ, ◌+◌, ◌<◌, ◌≤◌, List, [], ◌∷◌, ◌++◌, Vec, Global, map, length, take, Option, None, Result, Ok, Err, get_or, refl, ap, sym, subst, ◌∙◌, add-one, arith}
use Rattle.std.specs.Prelude.{All, sum_by, slice_set}
use Rattle.std.proofs.Math.Seq.{take-suc}
use Rattle.std.proofs.lemmas.List.Elements.{All-get_or}
use Rattle.std.specs.Vec.{with_items}
use Rattle.std.proofs.lemmas.List.{take_all, map-append, with_items_is}
use Rattle.std.proofs.lemmas.List.Sums.{sum_by-set}
use Rattle.gd_prim.specs.declared.Batch.{Batch}
use Rattle.gd_prim.specs.History.{prims_of}
use Rattle.gd_tree.specs.Json.{Json, compact, list}
use Rattle.gd_defs.specs.Asked.{Asked, Unknown, asked_query}
use Rattle.gd_defs.specs.Lines.{Refusal, items_of, ok_line}
use Rattle.gd_defs.specs.Reply.{answer, answer_item, meant_answer, within_reply}
use Rattle.gd_runs.specs.Core as core
use Rattle.gd_runs.specs.Request.{ReadRequest, queries, asks_page}
use Rattle.gd_mql.specs.Requests.{cursor_view, read_view}
use Rattle.gd_read.specs.Begun.{IsMeaningless}
use Rattle.gd_read.specs.Marked.{mark_of}
use Rattle.gd_read.specs.Subject.{answer_of, written}
use Rattle.gd_read.specs.Stages.{StageOwes}
use Rattle.gd_read.specs.Query.{QueryGoes}
use Rattle.gd_read.specs.Left.{part_left, several_left}
use Rattle.gd_read.specs.declared.several.SeveralReading.{SeveralReading}
use Rattle.gd_read.specs.Several.{part_request, answer_among, text_among, PartGoes}
use Rattle.gd_read.specs.declared.subject.Subject.{Subject}
use Rattle.gd_read.specs.declared.stage.Stage.{Stage}
use Rattle.gd_read.specs.declared.stage.Stage.TheVariants as stage
use Rattle.gd_read.specs.declared.query.QueryReading.{QueryReading}
use Rattle.gd_read.specs.declared.several.Part.{Part}
use Rattle.gd_read.specs.declared.several.Part.TheVariants as part
use Rattle.gd_mql.specs.declared.request.ReadRequest.{ReadRequest as Asking}
use Rattle.gd_frozen.specs.declared.cursor.Cursor.{Cursor}

-- ---- one of them

-- LAW: a reading that goes on is of the dateline of the batches that it goes on over
pub goes_at : (batches : List Batch) (r : QueryReading) → QueryGoes batches r → length batches ≡ r.subject.dateline
goes_at batches r goes = at r.stage goes
  where
    at : (st : Stage) → StageOwes batches r.subject st r.window → length batches ≡ r.subject.dateline
    at (stage.Visiting v) owes = owes.asked.below
    at (stage.Gathering g) owes = owes.scanned.asked.below
    at (stage.Printing shape) owes = owes.asked.below
    at stage.Spent owes = absurd owes

-- LAW: what a reading from no cursor owes is what its query comes to among others
pub among_is : (batches : List Batch) (s : Subject) → length batches ≡ s.dateline → s.after ≡ None → answer_of batches s ≡ answer_among batches (read_view s.request)
among_is batches s below none =
    ap (λ n. answer (prims_of batches) n (asks_page (cursor_view s.request.cursor)) (mark_of s.after) (written s)) (sym below)
    ∙ ap (λ (after : Option Cursor). answer (prims_of batches) (length batches) (asks_page (cursor_view s.request.cursor)) (mark_of after) (written s)) none

-- LAW: a query that has no meaning comes to the refusal that says so
pub meaningless : (batches : List Batch) (r : ReadRequest) (p : ℕ × Refusal) → IsMeaningless (length batches) (asked_query (prims_of batches) r.query) p → Err p.1 ≡ answer_among batches r
meaningless batches r p is = by (asked_query (prims_of batches) r.query) refl is
  where
    by : (a : Result Asked Unknown) → asked_query (prims_of batches) r.query ≡ a → IsMeaningless (length batches) a p → Err p.1 ≡ answer_among batches r
    by (Ok q) asked refused = absurd refused
    by (Err u) asked refused = ap (λ (x : ℕ × Refusal). Err x.1) refused ∙ sym (ap (meant_answer (prims_of batches) (length batches) (asks_page r.cursor) None) asked)

-- ---- all of them

-- LAW: what is left of all falls as that of one
pub less_set : {A : Type 0} (f : A → ℕ) (xs : List A) (k : ℕ) (y d : A) (s u m : ℕ) → k < length xs → u + f y ≤ s + f (get_or xs k d) → s + sum_by f xs ≤ m → u + sum_by f (slice_set xs k y) ≤ m
less_set f xs k y d s u m there one all = let same = sum_by-set f xs k y d there in omega (arith, one, all, same)

map_map : {A B C : Type 0} (f : B → C) (g : A → B) (xs : List A) → map f (map g xs) ≡ map (λ x. f (g x)) xs
map_map f g [] = refl
map_map f g (x ∷ xs) = ap (λ ys. f (g x) ∷ ys) (map_map f g xs)

-- LAW: the line that is owed, by what each comes to
pub owed_several : (batches : List Batch) (dateline line : ℕ) (ps : List Part) → length batches ≡ dateline
    → within_reply dateline line (ok_line dateline line (list (items_of (map (λ p. answer_item (answer_among batches (part_request p))) ps))))
    ≡ core.owed_line batches line (record { request = queries (map part_request ps); dateline = dateline; after = None; thawed = None })
owed_several batches dateline line ps below =
    ap (λ n. line_by (map (λ p. answer_item (answer (prims_of batches) n (asks_page (part_request p).cursor) None (part_request p).query)) ps)) below
    ∙ ap (λ (bs : List Batch). line_by (map (λ p. answer_item (answer (prims_of bs) dateline (asks_page (part_request p).cursor) None (part_request p).query)) ps)) (sym (take_all dateline batches (omega (arith, below))))
    ∙ ap line_by (sym (map_map (λ r. answer_item (answer (prims_of (take dateline batches)) dateline (asks_page r.cursor) None r.query)) part_request ps))
  where
    line_by : List Json → List ℕ
    line_by js = within_reply dateline line (ok_line dateline line (list (items_of js)))

-- LAW: their texts are the printed forms of these
pub texts_printed : (batches : List Batch) (ps : List Part) → map (λ p. text_among batches (part_request p)) ps ≡ map compact (map (λ p. answer_item (answer_among batches (part_request p))) ps)
texts_printed batches ps = sym (map_map compact (λ p. answer_item (answer_among batches (part_request p))) ps)

-- LAW: one text more
pub texts_more : (batches : List Batch) (ps : List Part) (k : ℕ) (p : Part) (request : Asking) (text : Vec ℕ Global) (ts : List (List ℕ)) (t : List ℕ) → k < length ps → p ≡ get_or ps k p → p ≡ part.Answered request text → t ≡ text.items
    → All (PartGoes batches) ps → ts ≡ map (λ q. text_among batches (part_request q)) (take k ps) → ts ++ t ∷ [] ≡ map (λ q. text_among batches (part_request q)) (take (k + 1) ps)
texts_more batches ps k p request text ts t there at is told go before = rw add-one
    (ap (λ l. l ++ t ∷ []) before
    ∙ ap (λ x. map text_of (take k ps) ++ x ∷ []) same
    ∙ sym (map-append text_of (take k ps) (get_or ps k p ∷ []))
    ∙ ap (map text_of) (sym (take-suc ps k p there)))
  where
    text_of : Part → List ℕ
    text_of q = text_among batches (part_request q)

    here : PartGoes batches (part.Answered request text)
    here = subst (PartGoes batches) (sym at ∙ is) (All-get_or (PartGoes batches) ps k p there go)

    same : t ≡ text_of (get_or ps k p)
    same = told ∙ here ∙ ap text_of (sym is ∙ at)

-- LAW: what is left falls, where the parts are written over
pub less_parts : (n : ℕ) (batches : List Batch) (r : SeveralReading) (ws ps : List Part) (s u : ℕ) → length ws ≡ r.parts.len → ps ≡ r.parts.items → u + sum_by (part_left n batches) ws ≤ s + sum_by (part_left n batches) ps
    → u + several_left n batches (record { dateline = r.dateline; parts = with_items r.parts ws }) ≤ s + several_left n batches r
less_parts n batches r ws ps s u long is less = by (ap (sum_by (part_left n batches)) (with_items_is r.parts ws long)) (ap (sum_by (part_left n batches)) is) less
  where
    by : {a b c d : ℕ} → b ≡ a → c ≡ d → u + a ≤ s + c → u + b ≤ s + d
    by first second third = omega (arith, first, second, third)
