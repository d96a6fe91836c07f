-- Readings that begin.
use Rattle.std.proofs.Common.{◌≡◌, ◌≢◌, ℕ, ◌<◌, ◌≤◌, List, [], Bool, true, false, length, take, Option, Some, None, Result, Ok, Err, refl, ap, sym, subst, ◌∙◌, arith}
use Rattle.std.specs.Prelude.{◌∷◌, MatchResult, nat_lt, is_none, option_map, if◌then◌else◌}
use Rattle.std.proofs.lemmas.List.{take_all, length-take-le}
use Rattle.std.proofs.lemmas.Bool.{and_from, le-leb}
use Rattle.std.specs.List.{AllByRecursion, list_all}
use Rattle.gd_prim.specs.declared.Batch.{Batch}
use Rattle.gd_prim.specs.declared.Primitive.{Primitive}
use Rattle.gd_prim.specs.History.{prims_of, prims_at, AreHeld}
use Rattle.gd_tree.specs.Json.{Json}
use Rattle.gd_defs.specs.Query as query
use Rattle.gd_defs.specs.Query.{query_of}
use Rattle.gd_defs.specs.Asked.{Asked, Unknown, asked_query}
use Rattle.gd_defs.specs.Lines.{Refusal, bad_cursor, cursor_ahead}
use Rattle.gd_defs.specs.Reply.{Mark, reply, answer_line}
use Rattle.gd_bytes.specs.Cursor.{Cursor, Fits, PlaceFits, cursor_of, spelling}
use Rattle.gd_bytes.specs.Frozen.{after_in_bounds, key_in_bounds, row_in_bounds}
use Rattle.gd_bytes.proofs.CursorLaws.{cursor_says}
use Rattle.gd_grammar.proofs.Scans.{Says}
use Rattle.gd_form_laws.specs.Faults.{query_fault}
use Rattle.gd_form_laws.specs.Spelled.{spelled_query}
use Rattle.gd_form_laws.proofs.Clauses.{query-given}
use Rattle.gd_paging_laws.proofs.Bounds.{read_bounded, read_limited}
use Rattle.gd_runs.specs.Core as core
use Rattle.gd_runs.specs.Request.{ReadRequest, CursorAsk, no_cursor, first_page, page_after, asks_page}
use Rattle.gd_json.specs.View.{view as json_view}
use Rattle.gd_mql.specs.Requests.{cursor_view}
use Rattle.gd_frozen.specs.Meant.{meant}
use Rattle.gd_frozen.specs.declared.cursor.Cursor.{Cursor as Found}
use Rattle.gd_read.specs.Marked.{mark_of}
use Rattle.gd_read.specs.Begun.{asked_from, dateline_from, fault_at, Begins}
use Rattle.gd_read.specs.Query.{one_view}
use Rattle.gd_read.specs.declared.fault.ReadFault.{ReadFault}
use Rattle.gd_read.specs.declared.fault.ReadFault.TheVariants as fault
use Rattle.gd_read.specs.declared.query.QueryReading.{QueryReading}
use Rattle.gd_read.specs.Subject.{core_reading, answer_of, written}
use Rattle.gd_read.specs.Stages.{IsAsked}
use Rattle.gd_read.specs.declared.subject.Subject.{Subject}

-- a query that was read has few sort keys, and a limit
pub asked_bounded : (prims : List Primitive) (j : Json) (q : Asked) → is_none (query_fault j) ≡ true → asked_query prims (spelled_query j) ≡ Ok q → (length q.sort ≤ 4) × (0 < q.limit)
asked_bounded prims j q right is = read_bounded prims j (spelled_query j) q (query-given j (nothing (query_fault j) right)) is
  where
    nothing : (o : Option query.Fault) → is_none o ≡ true → o ≡ None
    nothing None none = refl
    nothing (Some f) none = absurd (cc)

-- and a limit within the bounds of texts
pub asked_limited : (prims : List Primitive) (j : Json) (q : Asked) → is_none (query_fault j) ≡ true → asked_query prims (spelled_query j) ≡ Ok q → q.limit ≤ 1000
asked_limited prims j q right is = read_limited prims j (spelled_query j) q (query-given j (none_is (query_fault j) right)) is
  where
    none_is : (o : Option query.Fault) → is_none o ≡ true → o ≡ None
    none_is None none = refl
    none_is (Some f) none = absurd (cc)

-- the reading that begins behind a cursor, if there is one
abbrev pub begun_behind : List Batch → ℕ → ReadRequest → Result (Option Cursor) (ℕ × Refusal) → Result core.Reading (ℕ × Refusal)
begun_behind batches latest r (Err f) = Err f
begun_behind batches latest r (Ok after) =
    core.with_meaning batches r (dateline_from latest after) (option_map (λ c. c.after) after) (asked_query (prims_at batches (dateline_from latest after)) r.query)

-- LAW: a reading begins where its request asks
pub begins_from : (batches : List Batch) (latest : ℕ) (r : ReadRequest) → core.query_reading batches latest r ≡ begun_behind batches latest r (asked_from latest r.cursor)
begins_from batches latest r = by r.cursor refl
  where
    page : (c : Result Cursor ℕ) (t : List ℕ) → r.cursor ≡ page_after t → cursor_of t ≡ c → core.query_reading batches latest r ≡ begun_behind batches latest r (asked_from latest (page_after t))
    page (Err offset) t is told = rw (is, told) refl
    page (Ok c) t is told = ahead (nat_lt latest c.dateline) refl
      where
        ahead : (b : Bool) → nat_lt latest c.dateline ≡ b → core.query_reading batches latest r ≡ begun_behind batches latest r (asked_from latest (page_after t))
        ahead true over = rw (is, told, over) refl
        ahead false over = rw (is, told, over) refl

    by : (a : CursorAsk) → r.cursor ≡ a → core.query_reading batches latest r ≡ begun_behind batches latest r (asked_from latest a)
    by no_cursor is = rw is refl
    by first_page is = rw is refl
    by (page_after t) is = page (cursor_of t) t is refl

-- LAW: over the batches below its dateline, a reading owes the line of its answer
pub owed_is : (batches : List Batch) (s : Subject) (k : ℕ) → length batches ≡ s.dateline → core.owed_line batches k (core_reading s) ≡ answer_line s.dateline k (answer_of batches s)
owed_is batches s k below =
    ap (λ bs. reply (prims_of bs) s.dateline k (asks_page (cursor_view s.request.cursor)) (mark_of s.after) (written s)) (take_all s.dateline batches (omega (arith, below)))

-- ---- where a reading begins

-- what the first slice of a reading knows of its query
pub is_asked : (batches : List Batch) (s : Subject) (q : Asked) (end : ℕ) → s.dateline ≡ length batches → asked_query (prims_of batches) (written s) ≡ Ok q → AreHeld (prims_of batches) → end ≡ length (prims_of batches) → end ≤ 2_097_151
    → is_none (query_fault (json_view s.request.query)) ≡ true → after_in_bounds (mark_of s.after) ≡ true → IsAsked batches s q
is_asked batches s q end dateline asked held end_is few right mark =
    let bounded = asked_bounded (prims_of batches) (json_view s.request.query) q right asked in
    record {
      below = sym dateline;
      asked = asked;
      held = held;
      end = subst (λ n. n ≤ 2_097_151) end_is few;
      few = bounded.0;
      some = bounded.1;
      mark = mark;
    }

with_same : (bs cs : List Batch) (r : ReadRequest) (n : ℕ) (after : Option Mark) (a : Result Asked Unknown) → core.with_meaning bs r n after a ≡ core.with_meaning cs r n after a
with_same bs cs r n after (Err u) = refl
with_same bs cs r n after (Ok q) = refl

marks_same : (after : Option Found) → mark_of after ≡ option_map (λ c. c.after) (option_map meant after)
marks_same None = refl
marks_same (Some c) = refl

-- what a read begins behind, of the cursor that its text spells
abbrev from_cursor : ℕ → Result Cursor ℕ → Result (Option Cursor) (ℕ × Refusal)
from_cursor latest (Err offset) = Err (latest, bad_cursor offset)
from_cursor latest (Ok c) = if nat_lt latest c.dateline then Err (latest, cursor_ahead c.dateline latest) else Ok (Some c)

from_is : (latest : ℕ) (t : List ℕ) → asked_from latest (page_after t) ≡ from_cursor latest (cursor_of t)
from_is latest t = by (cursor_of t) refl
  where
    by : (r : Result Cursor ℕ) → cursor_of t ≡ r → asked_from latest (page_after t) ≡ from_cursor latest r
    by (Err offset) told = rw told refl
    by (Ok c) told = rw told refl

keys_bounded : (ks : List (Option ℕ)) → AllByRecursion PlaceFits ks → list_all key_in_bounds ks ≡ true
keys_bounded [] fit = refl
keys_bounded (None ∷ ks) fit = keys_bounded ks fit.1
keys_bounded (Some p ∷ ks) fit = and_from _ _ (le-leb p 2_097_151 fit.0) (keys_bounded ks fit.1)

-- the row of a cursor that fits can be spelt in a frozen reading
row_bounded : (c : Cursor) → Fits c → row_in_bounds c.after ≡ true
row_bounded c fit = and_from _ _ (and_from _ _ (le-leb c.after.object 2_097_151 fit.object) (le-leb (length c.after.keys) 4 fit.few)) (keys_bounded c.after.keys fit.keys)

-- LAW: so can that of the cursor from which a read asks
pub cursor_bounded : (latest : ℕ) (a : CursorAsk) (after : Option Found) → asked_from latest a ≡ Ok (option_map meant after) → after_in_bounds (mark_of after) ≡ true
cursor_bounded latest a None is = refl
cursor_bounded latest no_cursor (Some c) is = absurd (cc)
cursor_bounded latest first_page (Some c) is = absurd (cc)
cursor_bounded latest (page_after t) (Some c) is = by (cursor_of t) (cursor_says t) (sym (from_is latest t) ∙ is)
  where
    given : Result (Option Cursor) (ℕ × Refusal) → Type 0
    given r = r ≡ Ok (Some (meant c))

    by : (r : Result Cursor ℕ) → Says spelling Fits t r → given (from_cursor latest r) → after_in_bounds (Some (meant c).after) ≡ true
    by (Err offset) says e = absurd (cc)
    by (Ok d) says e = ahead (nat_lt latest d.dateline) e
      where
        ahead : (b : Bool) → given (if b then Err (latest, cursor_ahead d.dateline latest) else Ok (Some d)) → after_in_bounds (Some (meant c).after) ≡ true
        ahead true e = absurd (cc)
        ahead false e = let same : d ≡ meant c = cc in subst (λ (k : Cursor). row_in_bounds k.after ≡ true) same (row_bounded d says.0)

-- LAW: a cursor that is refused
pub begins_err : (batches : List Batch) (latest : ℕ) (r : ReadRequest) (f : ℕ × Refusal) → asked_from latest r.cursor ≡ Err f → core.query_reading batches latest r ≡ Err f
begins_err batches latest r f is = begins_from batches latest r ∙ ap (begun_behind batches latest r) is

-- LAW: the reading at the dateline of a cursor
begins_at : (batches below : List Batch) (latest : ℕ) (r : ReadRequest) (after : Option Found) → latest ≡ length batches → asked_from latest r.cursor ≡ Ok (option_map meant after)
    → (d : ℕ) → d ≡ dateline_from latest (option_map meant after) → below ≡ take d batches → d ≤ latest
    → core.query_reading batches (length batches) r ≡ core.with_meaning [] r (length below) (mark_of after) (asked_query (prims_of below) r.query)
begins_at batches below latest r after all is d d_is below_is within =
    ap (λ n. core.query_reading batches n r) (sym all)
    ∙ begins_from batches latest r ∙ ap (begun_behind batches latest r) is
    ∙ ap (λ n. core.with_meaning batches r n (option_map (λ c. c.after) (option_map meant after)) (asked_query (prims_at batches n) r.query)) (sym d_is)
    ∙ with_same batches [] r d (option_map (λ c. c.after) (option_map meant after)) (asked_query (prims_at batches d) r.query)
    ∙ ap (λ m. core.with_meaning [] r d m (asked_query (prims_at batches d) r.query)) (sym (marks_same after))
    ∙ ap (λ n. core.with_meaning [] r n (mark_of after) (asked_query (prims_at batches d) r.query)) (sym (ap length below_is ∙ length-take-le d batches (omega (arith, all, within))))
    ∙ ap (λ bs. core.with_meaning [] r (length below) (mark_of after) (asked_query (prims_of bs) r.query)) (sym below_is)

pub begins_ok : (batches below : List Batch) (latest : ℕ) (r : ReadRequest) (after : Option Found) (res : Result QueryReading ReadFault) → latest ≡ length batches → asked_from latest r.cursor ≡ Ok (option_map meant after)
    → (d : ℕ) → d ≡ dateline_from latest (option_map meant after) → below ≡ take d batches → d ≤ latest
    → MatchResult res (λ reading. core.with_meaning [] r (length below) (mark_of after) (asked_query (prims_of below) r.query) ≡ Ok (one_view reading))
    (λ f. f ≢ fault.Memory → (n : ℕ) → core.with_meaning [] r (length below) (mark_of after) (asked_query (prims_of below) r.query) ≡ Err (fault_at n f))
    → Begins (length batches) one_view (core.query_reading batches (length batches) r) res
begins_ok batches below latest r after (Ok reading) all is d d_is below_is within begun = begins_at batches below latest r after all is d d_is below_is within ∙ begun
begins_ok batches below latest r after (Err f) all is d d_is below_is within begun = λ wanted. begins_at batches below latest r after all is d d_is below_is within ∙ begun wanted (length batches)
