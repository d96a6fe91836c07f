-- The batches of a legal history are no more than a store takes.
use Rattle.std.proofs.Common.{◌≡◌, ℕ, ◌+◌, ◌≤◌, List, [], ◌∷◌, ◌++◌, length, map, flat_map, true, not, nat_lt, Option, Some, None, Ok, Err, refl, sym, ap, subst, arith, append_assoc, append-nil, length-append, ◌∙◌}
use Rattle.std.specs.Prelude.{IsTrue, is_some, drop, sum_by}
use Rattle.std.proofs.lemmas.Bool.{and_parts, ltb-false}
use Rattle.std.proofs.lemmas.List.{map-append}
use Rattle.gd_prim.specs.declared.Primitive.{Primitive}
use Rattle.gd_prim.specs.declared.Batch.{Batch}
use Rattle.gd_prim.specs.declared.What.{What}
use Rattle.gd_prim.specs.declared.What.TheVariants as what
use Rattle.gd_prim.specs.Builtin.{builtin}
use Rattle.gd_prim.specs.History.{prims_of, prims_at}
use Rattle.gd_prim.specs.Limits.{Count, limits, first_full, text_bytes, max_text, max_batch, max_prims, max_requests}
use Rattle.gd_prim.specs.WellFormed.{bad_place, may_follow, all_follow}
use Rattle.gd_grammar.specs.Chain.{◌>>=◌, map_err}
use Rattle.gd_grammar.proofs.Steps.{steps, ok_same, not_ok, not_some, either}
use Rattle.gd_list_laws.proofs.Histories.{prims_more}
use Rattle.gd_list_laws.proofs.Fronts.{take_whole}
use Rattle.gd_tree.specs.Json.{Json}
use Rattle.gd_defs.specs.Write.{WriteRequest, changes_of, unknown, full, scope_of, resolved_all, carried_all, result_of, fitting, exec}
use Rattle.gd_runs.specs.Legal.{Entry, History, batches, size, with_entry, history_bytes, kept_bytes, max_history, within_history, IsEntryAfter, AreEntriesAfter, IsLegal}
use Rattle.gd_runs.proofs.Rounds.{length_batches}
use Rattle.gd_paging_laws.specs.Paged.{AreWithin}

-- ---- a batch that passes no limit

-- the first limit is not passed, nor one of the others
not_full : (what : What) (reached limit : ℕ) (ls : List Count) → first_full ((what, reached, limit) ∷ ls) ≡ None → (reached ≤ limit) × (first_full ls ≡ None)
not_full what reached limit ls none =
    either (nat_lt limit reached) (Some (what, reached)) (first_full ls) None (λ passed some. not_some (what, reached) (sym some)) (λ fits rest. (ltb-false limit reached fits, rest)) none

-- a batch that passes no limit leaves room for its primitives and for itself
record Fits (before : List Primitive) (count : ℕ) (more : List Primitive) : Type 0 where
  pub prims : length before + length more ≤ max_prims
  pub requests : count + 1 ≤ max_requests

fits : (prims : List Primitive) (requests : ℕ) (more : List Primitive) → first_full (limits prims requests more) ≡ None → Fits prims requests more
fits prims requests more none =
    let last : List Count = (what.Requests, requests + 1, max_requests) ∷ [] in
    let texts : List Count = (what.Text, sum_by text_bytes prims + sum_by text_bytes more, max_text) ∷ last in
    let prim : List Count = (what.Primitives, length prims + length more, max_prims) ∷ texts in
    let one = not_full what.Batch (length more) max_batch prim none in
    let two = not_full what.Primitives (length prims + length more) max_prims texts one.1 in
    let three = not_full what.Text (sum_by text_bytes prims + sum_by text_bytes more) max_text last two.1 in
    let four = not_full what.Requests (requests + 1) max_requests [] three.1 in
    record { prims = two.0; requests = four.0 }

is_nothing : {A : Type 0} (o : Option A) → not (is_some o) ≡ true → o ≡ None
is_nothing None is = refl
is_nothing (Some x) is = absurd (cc)

-- ---- loaded batches

-- batches that follow a list, with it
followed : (prims : List Primitive) (requests : ℕ) (bs : List Batch) → length prims ≤ max_prims → requests ≤ max_requests → all_follow prims requests bs ≡ true
    → (length (prims ++ flat_map (λ (b : Batch). b.prims) bs) ≤ max_prims) × (requests + length bs ≤ max_requests)
followed prims requests [] few count follow = (subst (λ ps. length ps ≤ max_prims) (sym (append-nil prims)) few, omega (arith, count))
followed prims requests (b ∷ bs) few count follow =
    let both = and_parts (may_follow prims requests b) (all_follow (prims ++ b.prims) (requests + 1) bs) follow in
    let may = and_parts (not (is_some (bad_place prims b))) (not (is_some (first_full (limits prims requests b.prims)))) both.0 in
    let room = fits prims requests b.prims (is_nothing (first_full (limits prims requests b.prims)) may.1) in
    let rest = followed (prims ++ b.prims) (requests + 1) bs (let long = length-append prims b.prims in omega (arith, long, room.prims)) room.requests both.1 in
    (subst (λ ps. length ps ≤ max_prims) (append_assoc prims b.prims (flat_map (λ (b : Batch). b.prims) bs)) rest.0, omega (arith, rest.1))

loaded_within : (bs : List Batch) → IsTrue (all_follow builtin 0 bs) → AreWithin bs
unfolding prims_of
loaded_within bs follow = let both = followed builtin 0 bs (omega arith) (omega arith) follow in record { requests = omega (arith, both.1); prims = both.0 }

-- ---- entries

-- what a write makes passes no limit
fitted : (prims : List Primitive) (requests : ℕ) (b c : Batch) (j k : Json) → fitting prims requests b j ≡ Ok (c, k) → Fits prims requests c.prims
fitted prims requests b c j k is = by (first_full (limits prims requests b.prims)) refl
  where
    by : (o : Option (What × ℕ)) → first_full (limits prims requests b.prims) ≡ o → Fits prims requests c.prims
    by None none =
        let given = rw none at is in
        subst (λ (d : Batch). Fits prims requests d.prims) (ap (λ (d : Batch × Json). d.0) (ok_same (b, j) (c, k) given)) (fits prims requests b.prims none)
    by (Some passed) some = let given = rw some at is in not_ok _ (c, k) given

made_fits : (prims : List Primitive) (requests : ℕ) (w : WriteRequest) (moment : ℕ) (b : Batch) (j : Json) → exec prims requests w moment ≡ Ok (b, j) → Fits prims requests b.prims
made_fits prims requests w moment b j is =
    let scope = steps (map_err unknown (scope_of prims w.scope)) (λ scope.
    map_err unknown (resolved_all prims (changes_of w.asks)) >>= λ rs.
    carried_all (record { scope = scope; moment = moment }) prims rs >>= λ m.
    fitting prims requests (record { moment = moment; prims = drop (length prims) m.0 }) (result_of w.asks (m.1 m.0))) (b, j) is in
    let rs = steps (map_err unknown (resolved_all prims (changes_of w.asks))) (λ rs.
    carried_all (record { scope = scope.value; moment = moment }) prims rs >>= λ m.
    fitting prims requests (record { moment = moment; prims = drop (length prims) m.0 }) (result_of w.asks (m.1 m.0))) (b, j) scope.then_gave in
    let m = steps (carried_all (record { scope = scope.value; moment = moment }) prims rs.value) (λ m.
    fitting prims requests (record { moment = moment; prims = drop (length prims) m.0 }) (result_of w.asks (m.1 m.0))) (b, j) rs.then_gave in
    fitted prims requests (record { moment = moment; prims = drop (length prims) m.value.0 }) b (result_of w.asks (m.value.1 m.value.0)) j m.then_gave

-- an entry passes no limit
entry_fits : (h : History) (e : Entry) → IsEntryAfter h e → Fits (prims_at (batches h) (size h)) (size h) e.batch.prims
entry_fits h e is =
    let made = steps (exec (prims_at (batches h) (size h)) (size h) e.request e.moment) (λ done. within_history (history_bytes h + kept_bytes e.bytes done.1) done) (e.batch, e.result) is in
    let kept = history_bytes h + kept_bytes e.bytes made.value.1 in
    either (nat_lt max_history kept) (Err (full what.History kept)) (Ok made.value) (Ok (e.batch, e.result))
    (λ passed never. not_ok (full what.History kept) (e.batch, e.result) never)
    (λ room same. made_fits (prims_at (batches h) (size h)) (size h) e.request e.moment e.batch e.result (made.gave ∙ same)) made.then_gave

all_batches : (h : History) → prims_at (batches h) (size h) ≡ prims_of (batches h)
all_batches h = let long = length_batches h in ap prims_of (take_whole (size h) (batches h) (omega (arith, long)))

entry_within : (h : History) (e : Entry) → AreWithin (batches h) → IsEntryAfter h e → AreWithin (batches (with_entry h e))
entry_within h e within is =
    let more : batches (with_entry h e) ≡ batches h ++ e.batch ∷ [] =
    ap (λ (bs : List Batch). h.loaded ++ bs) (map-append (λ (e : Entry). e.batch) h.entries (e ∷ [])) ∙ sym (append_assoc h.loaded (map (λ (e : Entry). e.batch) h.entries) (e.batch ∷ [])) in
    let room = entry_fits h e is in
    let before = ap length (all_batches h) in
    let long = length_batches h in
    let count = length-append (batches h) (e.batch ∷ []) in
    let prims = ap length (prims_more (batches h) e.batch) ∙ length-append (prims_of (batches h)) e.batch.prims in
    subst AreWithin (sym more) (record { requests = omega (arith, count, long, room.requests); prims = omega (arith, prims, before, room.prims) })

entries_within : (loaded : List Batch) (before es : List Entry) → AreWithin (batches (record { loaded = loaded; entries = before })) → AreEntriesAfter (record { loaded = loaded; entries = before }) es
    → AreWithin (batches (record { loaded = loaded; entries = before ++ es }))
entries_within loaded before [] within are = subst (λ (es : List Entry). AreWithin (batches (record { loaded = loaded; entries = es }))) (sym (append-nil before)) within
entries_within loaded before (e ∷ es) within are =
    subst (λ (es : List Entry). AreWithin (batches (record { loaded = loaded; entries = es }))) (append_assoc before (e ∷ []) es)
    (entries_within loaded (before ++ e ∷ []) es (entry_within (record { loaded = loaded; entries = before }) e within are.0) are.1)

-- the batches of a legal history
pub legal_within : (h : History) → IsLegal h → AreWithin (batches h)
legal_within h legal = entries_within h.loaded [] h.entries (subst AreWithin (sym (append-nil h.loaded)) (loaded_within h.loaded legal.loaded)) legal.entries
