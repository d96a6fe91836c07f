-- The bound on the work of a query pays for what is left of its reading when it begins.
use Rattle.std.proofs.Common.{◌≡◌, ℕ, ◌+◌, ◌*◌, ◌≤◌, List, [], ◌∷◌, ◌++◌, map, length, take, Option, None, Result, Ok, Err, ap, sym, subst, ◌∙◌, arith}
use Rattle.std.specs.Prelude.{All, IfOk, sum_by}
use Rattle.std.proofs.lemmas.List.{take_all, length-take-le, map-append}
use Rattle.std.proofs.lemmas.Result.{IfOk-weaker}
use Rattle.std.proofs.lemmas.List.Elements.{All-head, All-tail, All-push}
use Rattle.std.proofs.lemmas.List.Sums.{sum_by-cons}
use Rattle.gd_prim.specs.declared.Batch.{Batch}
use Rattle.gd_prim.specs.History.{prims_of}
use Rattle.gd_defs.specs.Query.{Query}
use Rattle.gd_defs.specs.Asked.{Asked, asked_query}
use Rattle.gd_defs.specs.Plan.{template_of}
use Rattle.gd_defs.specs.Template.{Template}
use Rattle.gd_runs.specs.Pace.{DueOf, first_number}
use Rattle.gd_runs.specs.Pace as pace
use Rattle.gd_runs.specs.Request.{ReadRequest}
use Rattle.gd_store.proofs.Held.{history_some}
use Rattle.gd_runs.specs.RootSets.{RootSet}
use Rattle.gd_roots.specs.PassedOn.{walk_ahead, ScansSet, Root, Walk}
use Rattle.gd_roots.specs.Rooted.{ScansSmallest}
use Rattle.gd_work_laws.specs.Scan.{walk_turns}
use Rattle.gd_mql.specs.Requests.{read_view}
use Rattle.gd_mql.specs.declared.request.ReadRequest.{ReadRequest as Asking}
use Rattle.gd_plan.specs.Asked.{asked_view}
use Rattle.gd_plan.specs.declared.asked.Asked.{Asked as Found}
use Rattle.gd_work_laws.specs.Reading.{visit_turns}
use Rattle.gd_work_laws.proofs.Laws.{readings_are_paid}
use Rattle.gd_frozen.specs.declared.cursor.Cursor.{Cursor}
use Rattle.gd_read.specs.Left.{part_left, query_left, several_left}
use Rattle.gd_read.specs.Marked.{mark_of}
use Rattle.gd_read.specs.Paid.{WalksSmallest, StageIsPaid, QueryIsPaid, PartIsPaid, first_among}
use Rattle.gd_read.specs.Query.{one_view, QueryGoes}
use Rattle.gd_read.specs.Several.{part_request, several_view}
use Rattle.gd_read.specs.Stages.{IsAsked}
use Rattle.gd_read.specs.Subject.{written}
use Rattle.gd_read.specs.declared.stage.Stage.TheVariants as stage
use Rattle.gd_read.specs.declared.query.QueryReading.{QueryReading}
use Rattle.gd_read.specs.declared.several.Part.{Part}
use Rattle.gd_read.specs.declared.several.Part.TheVariants as part
use Rattle.gd_read.specs.declared.several.SeveralReading.{SeveralReading}
use Rattle.gd_read.proofs.Together.{goes_at}

-- LAW: the walk of a root that scans a smallest set goes over one
pub walks_smallest : {E : Type 0} (batches : List Batch) (r : Root) (t : Template) (walk : Result Walk E)
    → ((asking : Query) (q : Asked) → length (prims_of batches) ≤ 2_097_151 → asked_query (prims_of batches) asking ≡ Ok q → template_of q ≡ t → ScansSmallest batches q r)
    → IfOk walk (λ u. (w : ℕ → ℕ) (bs : List Batch) (q : Asked) (s : RootSet) → length (prims_of bs) ≤ 2_097_151 → ScansSet bs q r s → walk_ahead w bs (template_of q) u ≤ walk_turns w (prims_of bs) q s + 1)
    → IfOk walk (λ u. (asking : Query) (q : Asked) → length (prims_of batches) ≤ 2_097_151 → asked_query (prims_of batches) asking ≡ Ok q → template_of q ≡ t → WalksSmallest batches q u)
walks_smallest batches r t walk scans ahead = IfOk-weaker walk _ _ (λ u set asking q few asked same. let s = scans asking q few asked same in record { set = s.set; smallest = s.smallest; few = λ w. set w batches q s.set few s.scans }) ahead

-- LAW: a visit of a smallest set, and the page behind it
pub visit_paid : (batches : List Batch) (plan : Found) (walk : Walk) (t : Template) → t ≡ template_of (asked_view plan)
    → ((asking : Query) (q : Asked) → length (prims_of batches) ≤ 2_097_151 → asked_query (prims_of batches) asking ≡ Ok q → template_of q ≡ t → WalksSmallest batches q walk)
    → StageIsPaid batches plan (stage.Visiting (record { plan = plan; walk = walk; last = None; tried = None }))
visit_paid batches plan walk t same smallest = λ n asking after asked held few.
    let least = smallest asking (asked_view plan) few asked (sym same) in
    by _ _ _ _ (least.few (visit_turns (prims_of batches) (asked_view plan))) (readings_are_paid (prims_of batches) asking (asked_view plan) held (history_some batches) asked after least.set least.smallest)
  where
    by : (a k p f : ℕ) → a ≤ k + 1 → 48 * (k + 1) + 1024 + p ≤ f → 0 + 48 * a + 2 + p ≤ f
    by a k p f few paid = omega (arith, few, paid)

-- LAW: the reading of a query begins with it
pub query_paid : (batches : List Batch) (r : QueryReading) (plan : Found) → IsAsked batches r.subject (asked_view plan) → StageIsPaid batches plan r.stage → QueryIsPaid batches r
query_paid batches r plan asked paid = λ n. subst (λ a. query_left n batches r ≤ pace.query_left (prims_of batches) (mark_of r.subject.after) a) (sym asked.asked) (paid n (written r.subject) (mark_of r.subject.after) asked.asked asked.held asked.end)

-- LAW: so does that of a query among others
pub part_paid : (batches : List Batch) (r : QueryReading) → r.subject.after ≡ None → QueryIsPaid batches r → PartIsPaid batches (part.Going r)
part_paid batches r none paid = λ n. subst (λ (o : Option Cursor). query_left n batches r ≤ pace.query_left (prims_of batches) (mark_of o) (asked_query (prims_of batches) (written r.subject))) none (paid n)

-- LAW: nothing is left of one that has its answer
pub none_paid : (m : ℕ) → 0 ≤ m
none_paid m = omega arith

sums_paid : (n : ℕ) (batches : List Batch) (ps : List Part) → All (PartIsPaid batches) ps → sum_by (part_left n batches) ps ≤ sum_by (first_among batches) (map part_request ps)
sums_paid n batches [] paid = omega arith
sums_paid n batches (p ∷ ps) paid = by _ _ _ _ _ _ (sum_by-cons (part_left n batches) p ps) (sum_by-cons (first_among batches) (part_request p) (map part_request ps)) (All-head (PartIsPaid batches) p ps paid n) (sums_paid n batches ps (All-tail (PartIsPaid batches) p ps paid))
  where
    by : (a b r s t u : ℕ) → t ≡ a + r → u ≡ b + s → a ≤ b → r ≤ s → t ≤ u
    by a b r s t u one two here rest = omega (arith, one, two, here, rest)

-- LAW: one more of which something is so
pub parts_more : (P : Part → Type 0) (ps qs : List Part) (p : Part) → qs ≡ ps ++ p ∷ [] → All P ps → P p → All P qs
parts_more P ps qs p is all one = subst (All P) (sym is) (All-push P ps p all one)

-- LAW: one more that asks what is asked
pub asked_more : (ps qs : List Part) (p : Part) (rs : List Asking) (r : Asking) → qs ≡ ps ++ p ∷ [] → map part_request ps ≡ map read_view rs → part_request p ≡ read_view r → map part_request qs ≡ map read_view (rs ++ r ∷ [])
asked_more ps qs p rs r is before one =
    ap (map part_request) is ∙ map-append part_request ps (p ∷ []) ∙ ap (λ l. l ++ part_request p ∷ []) before ∙ ap (λ x. map read_view rs ++ x ∷ []) one ∙ sym (map-append read_view rs (r ∷ []))

-- LAW: and that of several, together
pub several_paid : (batches : List Batch) (r : SeveralReading) → r.dateline ≡ length batches → All (PartIsPaid batches) r.parts.items → (n : ℕ) (due : DueOf) → several_left n (take r.dateline batches) r ≤ first_number due batches (several_view r)
several_paid batches r at paid = λ n due.
    subst (λ (bs : List Batch). several_left n bs r ≤ sum_by (λ (q : ReadRequest). pace.query_left (prims_of bs) None (asked_query (prims_of bs) q.query)) (map part_request r.parts.items)) (sym (take_all r.dateline batches (omega (arith, at))))
    (sums_paid n batches r.parts.items paid)

-- LAW: so it is of a query over the batches below its dateline
pub first_paid : {E : Type 0} (batches below : List Batch) (d : ℕ) (res : Result QueryReading E) → below ≡ take d batches → d ≤ length batches → IfOk res (λ r. QueryGoes below r) → IfOk res (λ r. QueryIsPaid below r)
    → IfOk res (λ r. (n : ℕ) (due : DueOf) → query_left n (take (one_view r).dateline batches) r ≤ first_number due batches (one_view r))
first_paid batches below d (Err e) is within goes paid = tt
first_paid batches below d (Ok r) is within goes paid = λ n due. subst (λ (bs : List Batch). query_left n bs r ≤ pace.query_left (prims_of bs) (mark_of r.subject.after) (asked_query (prims_of bs) (written r.subject))) same (paid n)
  where
    at : d ≡ r.subject.dateline
    at = sym (length-take-le d batches within) ∙ sym (ap length is) ∙ goes_at below r goes

    same : below ≡ take r.subject.dateline batches
    same = is ∙ ap (λ m. take m batches) at
