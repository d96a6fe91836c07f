-- Two lines read a query of two rows in pages of one row: a history explains what they print, and the law says that the pages are all rows.
use Rattle.std.proofs.Common.{◌≡◌, refl, ℕ, zero, suc, ◌<◌, ◌≤◌, List, [], ◌∷◌, ◌++◌, codes, true, false, Result, Ok, Some, None, subst, sym, arith}
use Rattle.std.specs.Prelude.{slice_get, map}
use Rattle.gd_prim.specs.declared.Batch.{Batch}
use Rattle.gd_prim.specs.Builtin.{object, name_link}
use Rattle.gd_tree.specs.Json.{Json, boolean, text, list, Items, no_items, item, no_members, member}
use Rattle.gd_tree.specs.Json as json
use Rattle.gd_defs.specs.Query as query
use Rattle.gd_defs.specs.Query.{Query}
use Rattle.gd_runs.specs.Request.{Line, read, one_query, first_page, page_after}
use Rattle.gd_runs.specs.Input.{line_from, InputFault}
use Rattle.gd_runs.specs.Legal.{Entry, History, IsLegal}
use Rattle.gd_runs.specs.Explained.{Run, answered, lines_of, entry_at, told_dateline, Prints, HasNumber, IsBounded, IsExplainedBy}
use Rattle.gd_runs.proofs.Plain.{computing}
use Rattle.gd_paging_laws.specs.Explained.{Shown, IsShown, AreShown, AreAllShown}
use Rattle.gd_paging_laws.proofs.Shown.{shown_whole}

-- the batch of the file: two objects named Ann
abbrev loaded : List Batch
loaded = record { moment = 0; prims = object ∷ name_link (70, codes "Ann") ∷ object ∷ name_link (72, codes "Ann") ∷ [] } ∷ []

abbrev history : History
history = record { loaded = loaded; entries = [] }

abbrev first_bytes : List ℕ
first_bytes = codes "{\"sid\":0,\"read\":{\"cursor\":true,\"query\":[{\"guid\":null,\"limit\":1,\"name\":\"Ann\"}]}}"

abbrev second_bytes : List ℕ
second_bytes = codes "{\"sid\":0,\"read\":{\"cursor\":\"c1:1:70\",\"query\":[{\"guid\":null,\"limit\":1,\"name\":\"Ann\"}]}}"

abbrev first_reply : List ℕ
first_reply = codes "{\"code\":\"/api/status/ok\",\"cursor\":\"c1:1:70\",\"dateline\":1,\"line\":0,\"result\":[{\"guid\":\"#00000000000000010000000000000046\",\"name\":\"Ann\"}]}"

abbrev second_reply : List ℕ
second_reply = codes "{\"code\":\"/api/status/ok\",\"cursor\":false,\"dateline\":1,\"line\":1,\"result\":[{\"guid\":\"#00000000000000010000000000000048\",\"name\":\"Ann\"}]}"

abbrev first_run : Run
first_run = record { line = record { bytes = first_bytes; round = 0 }; outcome = answered 1; reply = first_reply }

abbrev second_run : Run
second_run = record { line = record { bytes = second_bytes; round = 0 }; outcome = answered 1; reply = second_reply }

abbrev runs : List Run
runs = first_run ∷ second_run ∷ []

-- the query of a line that reads one
abbrev query_in : Result Line InputFault → Query
query_in (Ok (read s (one_query r))) = r.query
query_in _ = record { listed = true; directives = query.no_directives; members = query.no_members }

abbrev asked : Query
asked = query_in (line_from first_bytes)

-- an item of the pages
abbrev ann : List ℕ → Items
ann guid = item (json.object (member (codes "guid") (text guid) (member (codes "name") (text (codes "Ann")) no_members))) no_items

abbrev first : Shown
first = record { line = 0; cursor = text (codes "c1:1:70"); items = ann (codes "#00000000000000010000000000000046") }

abbrev second : Shown
second = record { line = 1; cursor = boolean false; items = ann (codes "#00000000000000010000000000000048") }

-- ---- they are shown

first_shown : IsShown runs asked (boolean true) first
unfolding computing
first_shown = record { run = first_run; there = refl; session = 0; ask = first_page; asked = refl; reads = refl; dateline = 1; tells = refl }

second_shown : IsShown runs asked (text (codes "c1:1:70")) second
unfolding computing
second_shown = record { run = second_run; there = refl; session = 0; ask = page_after (codes "c1:1:70"); asked = refl; reads = refl; dateline = 1; tells = refl }

pub shown : AreShown runs asked (boolean true) (first ∷ second ∷ []) (boolean false)
shown = (first_shown, (second_shown, refl))

-- ---- the history explains what they print

one_le : 1 ≤ 1
one_le = omega arith

printed_first : Prints history 0 first_bytes (answered 1) first_reply
unfolding computing
printed_first = (0, one_query (record { cursor = first_page; query = asked }), refl, one_le, refl)

printed_second : Prints history 1 second_bytes (answered 1) second_reply
unfolding computing
printed_second = (0, one_query (record { cursor = page_after (codes "c1:1:70"); query = asked }), refl, one_le, refl)

some_eq : {A : Type 0} {x y : A} → Some x ≡ Some y → x ≡ y
some_eq e = cc

apart : {A B : Type 0} {x : A} → None ≡ Some x → B
apart e = absurd (cc)

-- a fact of each run, from the fact of the two
each_run : (P : ℕ → Run → Type 0) → P 0 first_run → P 1 second_run → (k : ℕ) (r : Run) → slice_get runs k ≡ Some r → P k r
each_run P a b zero r e = subst (P 0) (some_eq e) a
each_run P a b (suc zero) r e = subst (P 1) (some_eq e) b
each_run P a b (suc (suc k)) r e = apart e

no_entry : {B : Type 0} (e : ℕ) (x : Entry) → entry_at history e ≡ Some x → B
no_entry zero x h = apart h
no_entry (suc e) x h = apart h

legal : IsLegal history
unfolding computing
legal = record { loaded = refl; entries = tt; lines = λ i j x y a b before same. apart a }

-- of the lines before the second one, only the first, which printed dateline 1
told : (i : ℕ) (q : Run) (d : ℕ) → i < 1 → slice_get runs i ≡ Some q → told_dateline q.line.bytes q.outcome ≡ Some d → d ≤ 1
unfolding computing
told zero q d before at t = subst (λ (m : ℕ). m ≤ 1) (some_eq (subst (λ (r : Run). told_dateline r.line.bytes r.outcome ≡ Some d) (sym (some_eq at)) t)) one_le
told (suc i) q d before at t = absurd (omega (arith, before))

abbrev IsBoundedIfNumber : ℕ → Run → Type 0
IsBoundedIfNumber k r = (n : ℕ) → HasNumber history k r.outcome n → IsBounded history runs k r n

below_zero : {A : Type 0} → (n : ℕ) → n < 0 → A
below_zero n h = absurd (omega (arith, h))

bound_first : IsBoundedIfNumber 0 first_run
bound_first n e = subst (IsBounded history runs 0 first_run) (sym e) (record {
  lower = record { loaded = one_le; rounds = λ i q d _ later _. below_zero q.line.round later; session = λ i q d before _ _ _. below_zero i before };
  upper = one_le;
})

bound_second : IsBoundedIfNumber 1 second_run
bound_second n e = subst (IsBounded history runs 1 second_run) (sym e) (record {
  lower = record { loaded = one_le; rounds = λ i q d _ later _. below_zero q.line.round later; session = λ i q d before at _ t. told i q d before at t };
  upper = one_le;
})

lines : map (λ (r : Run). r.line) runs ≡ lines_of (first_bytes ++ 10 ∷ second_bytes ++ 10 ∷ [])
lines = refl

pub explained : IsExplainedBy loaded (λ m. true) (lines_of (first_bytes ++ 10 ∷ second_bytes ++ 10 ∷ [])) (first_reply ++ 10 ∷ second_reply ++ 10 ∷ []) history runs
explained = record {
  begins = refl;
  legal = legal;
  lines = lines;
  replies = refl;
  each = each_run (λ k r. Prints history k r.line.bytes r.outcome r.reply) printed_first printed_second;
  entries = λ e x h. no_entry e x h;
  bounds = λ k r n at. each_run IsBoundedIfNumber bound_first bound_second k r at n;
  order = λ d e x y q r a b c f before. no_entry d x a;
  moments = λ e x h. no_entry e x h;
}

-- so the pages are all rows
pub whole : AreAllShown history runs asked first (second ∷ [])
whole = shown_whole loaded (λ m. true) (lines_of (first_bytes ++ 10 ∷ second_bytes ++ 10 ∷ [])) (first_reply ++ 10 ∷ second_reply ++ 10 ∷ []) history runs asked first (second ∷ []) explained shown
