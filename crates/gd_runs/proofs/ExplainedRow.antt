-- A write and a read of one round are explained by a history of one entry.
use Rattle.std.specs.Str.{is_utf8, chars}
use lib.Utf8.{encode}
use Rattle.std.specs.Fmt.{digits}
use Rattle.std.specs.Float.Numeral.{scan_numeral}
use Rattle.json.specs.Json.{value}
use Rattle.json.specs.Lex.{punctuate, lex}
use Rattle.json.specs.Text.{content}
use Rattle.json.specs.Word.{word, after_number}
use Rattle.serde_json.specs.Read.{number_of}
use Rattle.std.proofs.Common.{◌≡◌, refl, ℕ, zero, suc, ◌<◌, ◌≤◌, List, [], ◌∷◌, ◌++◌, codes, true, Result, Ok, Err, Option, Some, None, subst, sym, ap, ◌∙◌, ◌⊎◌, ⊎_elim, arith, map}
use Rattle.gd_prim.specs.History.{prims_of}
use Rattle.gd_prim.specs.declared.Batch.{Batch}
use Rattle.gd_tree.specs.Json.{Json, null}
use Rattle.gd_defs.specs.Write.{one_change, WriteRequest, ChangeFault}
use Rattle.gd_runs.specs.Request.{one_query, Line, read, write, ReadSet, exec_after, reply_of}
use Rattle.gd_runs.specs.Input.{line_from, InputFault}
use Rattle.gd_runs.specs.Legal.{Entry, History, IsLegal, exec_line, batches}
use Rattle.std.specs.Prelude.{slice_get}
use Rattle.gd_runs.specs.Explained.{SameSession, MayBe, HasNumber, told_dateline, Explains, Run, stored, answered, lines_of, Prints, IsBounded, IsOfRun, entry_at}

abbrev write_bytes : List ℕ
write_bytes = codes "{\"sid\":0,\"write\":{\"query\":{\"create\":\"unconditional\",\"guid\":null,\"name\":\"Ann\"}}}"

abbrev read_bytes : List ℕ
read_bytes = codes "{\"sid\":0,\"read\":{\"query\":[{\"guid\":null,\"name\":\"Ann\"}]}}"

abbrev request_of : Result Line InputFault → WriteRequest
request_of (Ok (write s w)) = w
request_of _ = record { scope = None; asks = one_change (record { root = Rattle.gd_defs.specs.Change.to_create Rattle.gd_defs.specs.Change.unconditional; members = Rattle.gd_defs.specs.Change.no_members }) }

abbrev done_of : Result (Batch × Json) ChangeFault → Batch × Json
done_of (Ok done) = done
done_of (Err f) = (record { moment = 0; prims = [] }, null)

abbrev request : WriteRequest
request = request_of (line_from write_bytes)

abbrev done : Batch × Json
done = done_of (exec_after [] request 0)

abbrev entry : Entry
entry = record { line = 0; bytes = 79; request = request; moment = 0; batch = done.0; result = done.1 }

abbrev history : History
history = record { loaded = []; entries = entry ∷ [] }

abbrev first_reply : List ℕ
first_reply = codes "{\"code\":\"/api/status/ok\",\"dateline\":1,\"line\":0,\"result\":{\"create\":\"created\",\"guid\":\"#00000000000000010000000000000046\",\"name\":\"Ann\"}}"

abbrev second_reply : List ℕ
second_reply = codes "{\"code\":\"/api/status/ok\",\"dateline\":1,\"line\":1,\"result\":[{\"guid\":\"#00000000000000010000000000000046\",\"name\":\"Ann\"}]}"

abbrev runs : List Run
runs = record { line = record { bytes = write_bytes; round = 0 }; outcome = stored 0; reply = first_reply }
    ∷ record { line = record { bytes = read_bytes; round = 0 }; outcome = answered 1; reply = second_reply } ∷ []

pub lines : map (λ r. r.line) runs ≡ lines_of (codes "{\"sid\":0,\"write\":{\"query\":{\"create\":\"unconditional\",\"guid\":null,\"name\":\"Ann\"}}}\n{\"sid\":0,\"read\":{\"query\":[{\"guid\":null,\"name\":\"Ann\"}]}}\n")
lines = refl

pub entry_there : exec_line (record { loaded = []; entries = [] }) request 0 79 ≡ Ok (done.0, done.1)
unfolding digits value punctuate lex content word after_number number_of scan_numeral is_utf8 chars encode prims_of
entry_there = refl

pub legal : IsLegal history
unfolding digits value punctuate lex content word after_number number_of scan_numeral is_utf8 chars encode prims_of
legal = record { loaded = refl; entries = (refl, tt); lines = one_line }
  where
    one_line : (i j : ℕ) (x y : Entry) → slice_get history.entries i ≡ Some x → slice_get history.entries j ≡ Some y → i < j → x.line ≡ y.line → ⊥
    one_line i zero x y a b before same = Prim.omega (arith, before)
    one_line i (suc j) x y a b before same = Prim.cc b

pub printed_first : Prints history 0 write_bytes (stored 0) first_reply
unfolding digits value punctuate lex content word after_number number_of scan_numeral is_utf8 chars encode prims_of
printed_first = (entry, 0, (refl, refl), refl, refl)

abbrev read_of : Result Line InputFault → Option ReadSet
read_of (Ok (read s r)) = Some r
read_of _ = None

pub read_reply : Rattle.std.specs.Prelude.option_map (reply_of (batches history) 1 1) (read_of (line_from read_bytes)) ≡ Some second_reply
unfolding digits value punctuate lex content word after_number number_of scan_numeral is_utf8 chars encode prims_of
read_reply = refl

-- the two runs
abbrev first_run : Run
first_run = record { line = record { bytes = write_bytes; round = 0 }; outcome = stored 0; reply = first_reply }

abbrev second_run : Run
second_run = record { line = record { bytes = read_bytes; round = 0 }; outcome = answered 1; reply = second_reply }

-- a fact of each run, from the fact of the two
each_run : (P : ℕ → Run → Type 0) → P 0 first_run → P 1 second_run → (k : ℕ) (r : Run) → slice_get runs k ≡ Some r → P k r
each_run P a b zero r e = subst (P 0) (some_eq e) a
  where
    some_eq : {x y : Run} → Some x ≡ Some y → x ≡ y
    some_eq q = Prim.cc q
each_run P a b (suc zero) r e = subst (P 1) (some_eq e) b
  where
    some_eq : {x y : Run} → Some x ≡ Some y → x ≡ y
    some_eq q = Prim.cc q
each_run P a b (suc (suc k)) r e = Prim.cc e

abbrev default_read : ReadSet
default_read = one_query (record { cursor = Rattle.gd_runs.specs.Request.no_cursor; query = record { listed = true; directives = Rattle.gd_defs.specs.Query.no_directives; members = Rattle.gd_defs.specs.Query.no_members } })

abbrev read_request : ReadSet
read_request = Rattle.std.specs.Prelude.unwrap_or (read_of (line_from read_bytes)) default_read

one_le : 1 ≤ 1
one_le = Prim.omega arith

pub printed_second : Prints history 1 read_bytes (answered 1) second_reply
unfolding digits value punctuate lex content word after_number number_of scan_numeral is_utf8 chars encode prims_of
printed_second = (0, read_request, refl, one_le, refl)

abbrev IsBoundedIfNumber : ℕ → Run → Type 0
IsBoundedIfNumber k r = (n : ℕ) → HasNumber history k r.outcome n → IsBounded history runs k r n

some_eq : {A : Type 0} {x y : A} → Some x ≡ Some y → x ≡ y
some_eq q = Prim.cc q

below_zero : {A : Type 0} → (n : ℕ) → n < 0 → A
below_zero n h = absurd (Prim.omega (arith, h))

zero_le : 0 ≤ 0
zero_le = Prim.omega arith

zero_le_one : 0 ≤ 1
zero_le_one = Prim.omega arith

-- the write has number 0: nothing stands before it
bound_first : IsBoundedIfNumber 0 first_run
unfolding digits value punctuate lex content word after_number number_of scan_numeral is_utf8 chars encode prims_of
bound_first n e = subst (IsBounded history runs 0 first_run) (sym e) (record {
  lower = record { loaded = zero_le; rounds = λ i q d _ later _. below_zero q.line.round later; session = λ i q d before _ _ _. below_zero i before };
  upper = zero_le_one;
})

-- of the lines before the second one, only the first
before_second : (i : ℕ) (q : Run) (d : ℕ) → i < 1 → slice_get runs i ≡ Some q → told_dateline q.line.bytes q.outcome ≡ Some d → d ≤ 1
before_second zero q d before at t = subst (λ m. m ≤ 1) (some_eq (subst (λ r. told_dateline r.line.bytes r.outcome ≡ Some d) (sym (some_eq at)) t)) one_le
before_second (suc i) q d before at t = absurd (Prim.omega (arith, before))

-- the read has number 1: the write of its session printed dateline 1
bound_second : IsBoundedIfNumber 1 second_run
unfolding digits value punctuate lex content word after_number number_of scan_numeral is_utf8 chars encode prims_of
bound_second n e = subst (IsBounded history runs 1 second_run) (sym e) (record {
  lower = record { loaded = zero_le_one; rounds = λ i q d _ later _. below_zero q.line.round later; session = λ i q d before at same t. before_second i q d before at t };
  upper = one_le;
})

apart : {A B : Type 0} {x : A} → None ≡ Some x → B
apart e = absurd (differ e)
  where
    differ : {A : Type 0} {x : A} → None ≡ Some x → ⊥
    differ q = Prim.cc q

-- the one entry is that of the first line
its_line : (e : ℕ) (x : Entry) → entry_at history e ≡ Some x → IsOfRun runs e x
unfolding digits value punctuate lex content word after_number number_of scan_numeral is_utf8 chars encode prims_of
its_line zero x h = subst (IsOfRun runs 0) (some_eq h) (first_run, refl, (0, refl, refl), refl)
its_line (suc e) x h = apart h

moment_zero : MayBe (λ m. true) 0
moment_zero = (0, refl, refl)

its_moment : (e : ℕ) (x : Entry) → entry_at history e ≡ Some x → MayBe (λ m. true) x.moment
its_moment zero x h = subst (λ y. MayBe (λ m. true) y.moment) (some_eq h) moment_zero
its_moment (suc e) x h = apart h

-- no two entries
in_order : (d e : ℕ) (x y : Entry) (q r : Run) → entry_at history d ≡ Some x → entry_at history e ≡ Some y → slice_get runs x.line ≡ Some q → slice_get runs y.line ≡ Some r
    → ((x.line < y.line) × SameSession q r) ⊎ (q.line.round < r.line.round) → d < e
in_order zero zero x y q r a b c d before = absurd (⊎_elim (λ (h, s). differs h) (λ h. rounds h) before)
  where
    same : x ≡ y
    same = some_eq (sym a ∙ b)

    differs : x.line < y.line → ⊥
    differs h = Prim.omega (arith, h, ap (λ z. z.line) same)

    runs_same : q ≡ r
    runs_same = some_eq (sym c ∙ ap (λ z. slice_get runs z.line) same ∙ d)

    rounds : q.line.round < r.line.round → ⊥
    rounds h = Prim.omega (arith, h, ap (λ z. z.line.round) runs_same)
in_order (suc d) e x y q r a b c f before = apart a
in_order zero (suc e) x y q r a b c f before = apart b

-- the whole run: what is read, what is printed
pub explained : Explains [] (λ m. true) (codes "{\"sid\":0,\"write\":{\"query\":{\"create\":\"unconditional\",\"guid\":null,\"name\":\"Ann\"}}}\n{\"sid\":0,\"read\":{\"query\":[{\"guid\":null,\"name\":\"Ann\"}]}}\n") (first_reply ++ 10 ∷ second_reply ++ 10 ∷ []) history
unfolding digits value punctuate lex content word after_number number_of scan_numeral is_utf8 chars encode prims_of
explained = (
  runs,
  record {
    begins = refl;
    legal = legal;
    lines = lines;
    replies = refl;
    each = each_run (λ k r. Prints history k r.line.bytes r.outcome r.reply) printed_first printed_second;
    entries = its_line;
    bounds = λ k r n at. each_run IsBoundedIfNumber bound_first bound_second k r at n;
    order = in_order;
    moments = its_moment;
  },
)
