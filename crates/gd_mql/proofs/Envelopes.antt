-- What envelopes spell, step by step.
use Rattle.std.proofs.Common.{◌≡◌, ◌≢◌, ◌≤◌, ℕ, ◌+◌, List, [], ◌∷◌, Bool, true, false, ◌||◌, Option, Some, None, Vec, Global, Result, Ok, Err, codes, refl, sym, ap, ◌∙◌, arith}
use Rattle.std.specs.Prelude.{if◌then◌else◌, option_map, option_and_then, IfSome, is_some, ◌&&◌, bytes_eq, max}
use Rattle.std.specs.Int.{is_in_range}
use Rattle.std.specs.Option.{option_map_or}
use Rattle.std.specs.Result.{result_err}
use Rattle.gd_grammar.specs.Chain.{◌>>=◌, map_err}
use Rattle.gd_grammar.proofs.Steps.{some_same, ok_same}
use Rattle.gd_json.specs.View.{items_view}
use Rattle.gd_json.specs.declared.value.Json.{Json as JsonValue}
use Rattle.gd_tree.specs.Json.{Json, null, boolean, number, text, list, object, Items, no_items, item, Members, no_members, member}
use Rattle.gd_tree.specs.Look.{get, only, members_in, member_of, items_len}
use Rattle.gd_tree.specs.Bounds.{json_depth, items_depth, members_depth}
use Rattle.gd_defs.specs.Query.{Fault, Query, query_of, envelope, root_fault, each_numbered}
use Rattle.gd_defs.specs.Change.{Change, change_of}
use Rattle.gd_defs.specs.Write.{WriteRequest, one_change, changes}
use Rattle.gd_runs.specs.Request.{CursorAsk, cursor_ask, has_pages, is_misplaced, request_of, few_items, read_of, one_query, queries, scope_ask, clause_of, query_in, write_of, ReadRequest, ReadSet, Line, read, write, bad_form}
use Rattle.gd_runs.specs.Input.{InputFault, no_line, as_line}
use Rattle.gd_fault.specs.declared.fault.LineFault.TheVariants as line
use Rattle.gd_form_laws.specs.Faults.{query_fault}
use Rattle.gd_form_laws.specs.Spelled.{spelled_query}
use Rattle.gd_form_laws.proofs.Clauses.{query-given}
use Rattle.gd_form_laws.specs.WriteFaults.{change_fault}
use Rattle.gd_form_laws.specs.SpelledChange.{change_or, spelled_change}
use Rattle.gd_mql.specs.declared.form_fault.FormFault.{FormFault}
use Rattle.gd_mql.specs.declared.form_fault.FormFault.TheVariants.{Bad, Memory}
use Rattle.gd_mql.specs.FormFault.{Refuses, fault_under, line_fault}
use Rattle.gd_mql.specs.Line.{fault_view}
use Rattle.gd_mql.proofs.Numbered.{step-refused}
use Rattle.gd_mql.specs.Envelopes.{or_envelope, paged_of, few_of, written_fault, write_set_in, read_request_of, write_request_of, read_line_of, write_line_of}

-- a list of more than one has pages
pub more_pages : (a b : Json) (js : Items) → has_pages (list (item a (item b js))) ≡ true
more_pages null b js = refl
more_pages (boolean t) b js = refl
more_pages (number n) b js = refl
more_pages (text t) b js = refl
more_pages (list is) b js = refl
more_pages (object ms) b js = refl

-- ---- a query with its page

-- a page that may not be asked for
pub misplaced : (among : Bool) (c : CursorAsk) (q : Json) → is_misplaced among c q ≡ true → paged_of among c q ≡ root_fault envelope
misplaced among c q is = rw is refl

query_step : (c : CursorAsk) (r : Result Query Fault) → result_err {T = ReadRequest} (r >>= λ q. Ok (record { cursor = c; query = q })) ≡ result_err r
query_step c (Ok q) = refl
query_step c (Err f) = refl

-- a query with a fault, and one without
pub paged-refused : (among : Bool) (c : CursorAsk) (q : Json) → is_misplaced among c q ≡ false → result_err (paged_of among c q) ≡ query_fault q
unfolding query_fault
paged-refused among c q is = rw is (query_step c (query_of q))

pub paged-given : (among : Bool) (c : CursorAsk) (q : Json) → is_misplaced among c q ≡ false → query_fault q ≡ None → paged_of among c q ≡ Ok (record { cursor = c; query = spelled_query q })
paged-given among c q is right = rw (is, query-given q right) refl

-- no members but of some names
abbrev has_only : List (List ℕ) → Json → Bool
has_only names j = option_map_or (only names) (members_in j) false

-- an envelope with other members, or that is none
pub request-other : (among : Bool) (j : Json) → has_only (codes "cursor" ∷ codes "query" ∷ []) j ≡ false → request_of among j ≡ root_fault envelope
request-other among null is = refl
request-other among (boolean b) is = refl
request-other among (number n) is = refl
request-other among (text t) is = refl
request-other among (list js) is = refl
request-other among (object ms) is = rw is refl

-- or with the members of one
pub request-steps : (among : Bool) (j : Json) → has_only (codes "cursor" ∷ codes "query" ∷ []) j ≡ true
    → request_of among j ≡ (or_envelope (cursor_ask (member_of (codes "cursor") j)) >>= λ c. or_envelope (member_of (codes "query") j) >>= λ q. paged_of among c q)
request-steps among null is = cc
request-steps among (boolean b) is = cc
request-steps among (number n) is = cc
request-steps among (text t) is = cc
request-steps among (list js) is = cc
request-steps among (object ms) is = by (cursor_ask (get (codes "cursor") ms)) (get (codes "query") ms) refl refl
  where
    by : (c : Option CursorAsk) (q : Option Json) → cursor_ask (get (codes "cursor") ms) ≡ c → get (codes "query") ms ≡ q
        → request_of among (object ms) ≡ (or_envelope (cursor_ask (get (codes "cursor") ms)) >>= λ c. or_envelope (get (codes "query") ms) >>= λ q. paged_of among c q)
    by (Some c) (Some q) cursor query = rw (is, cursor, query) refl
    by (Some c) None cursor query = rw (is, cursor, query) refl
    by None q cursor query = rw (is, cursor) refl

-- a cursor that has not the form of one, a query that is not there, and one that is
pub request-uncursored : (among : Bool) (j : Json) (o : Option Json) (f : FormFault) → has_only (codes "cursor" ∷ codes "query" ∷ []) j ≡ true → o ≡ member_of (codes "cursor") j → Refuses (result_err (or_envelope (cursor_ask o))) f
    → Refuses (result_err (request_of among j)) f
request-uncursored among j o f is cursor refuses = rw (request-steps among j is, ← cursor) (step-refused (or_envelope (cursor_ask o)) _ f refuses)

pub request-unasked : (among : Bool) (j : Json) (o : Option Json) (c : CursorAsk) → has_only (codes "cursor" ∷ codes "query" ∷ []) j ≡ true → o ≡ member_of (codes "cursor") j → or_envelope (cursor_ask o) ≡ Ok c
    → None ≡ member_of (codes "query") j → request_of among j ≡ root_fault envelope
request-unasked among j o c is cursor asks query = rw (request-steps among j is, ← cursor, asks, ← query) refl

pub request-paged : (among : Bool) (j q : Json) (o : Option Json) (c : CursorAsk) → has_only (codes "cursor" ∷ codes "query" ∷ []) j ≡ true → o ≡ member_of (codes "cursor") j → or_envelope (cursor_ask o) ≡ Ok c
    → Some q ≡ member_of (codes "query") j → request_of among j ≡ paged_of among c q
request-paged among j q o c is cursor asks query = rw (request-steps among j is, ← cursor, asks, ← query) refl

-- ---- several queries

-- a name that stands twice counts once
twice : (x : Bool) → (x || false) ≡ (x || (x || false))
twice true = refl
twice false = refl

only_once : (a : List ℕ) (ms : Members) → only (a ∷ []) ms ≡ only (a ∷ a ∷ []) ms
only_once a no_members = refl
only_once a (member l j ms) = ap (λ t. t && only (a ∷ []) ms) (twice (bytes_eq l a)) ∙ ap (λ t. (bytes_eq l a || (bytes_eq l a || false)) && t) (only_once a ms)

-- what they spell in a read
pub several-steps : (j : Json) → is_some (member_of (codes "queries") j) ≡ true → read_of j ≡ (or_envelope (few_of (codes "queries") j) >>= λ js. each_numbered (request_of true) 0 js >>= λ rs. Ok (queries rs))
several-steps null is = cc
several-steps (boolean b) is = cc
several-steps (number n) is = cc
several-steps (text t) is = cc
several-steps (list js) is = cc
several-steps (object ms) is = rw (is, only_once (codes "queries") ms) refl

pub several-none : (j : Json) → is_some (member_of (codes "queries") j) ≡ true → None ≡ few_of (codes "queries") j → read_of j ≡ root_fault envelope
several-none j is none = rw (several-steps j is, ← none) refl

pub several-refused : (j : Json) (js : Items) (f : FormFault) → is_some (member_of (codes "queries") j) ≡ true → Some js ≡ few_of (codes "queries") j → Refuses (result_err (each_numbered (request_of true) 0 js)) f → Refuses (result_err (read_of j)) f
several-refused j js f is there refuses = rw (several-steps j is, ← there) (step-refused (each_numbered (request_of true) 0 js) _ f refuses)

pub several-told : (j : Json) (js : Items) (rs : List ReadRequest) → is_some (member_of (codes "queries") j) ≡ true → Some js ≡ few_of (codes "queries") j → each_numbered (request_of true) 0 js ≡ Ok rs → read_of j ≡ Ok (queries rs)
several-told j js rs is there told = rw (several-steps j is, ← there, told) refl

-- one query
pub one-steps : (j : Json) → is_some (member_of (codes "queries") j) ≡ false → read_of j ≡ (request_of false j >>= λ r. Ok (one_query r))
one-steps null is = refl
one-steps (boolean b) is = refl
one-steps (number n) is = refl
one-steps (text t) is = refl
one-steps (list js) is = refl
one-steps (object ms) is = rw is refl

pub one-refused : (j : Json) (f : FormFault) → is_some (member_of (codes "queries") j) ≡ false → Refuses (result_err (request_of false j)) f → Refuses (result_err (read_of j)) f
one-refused j f is refuses = rw (one-steps j is) (step-refused (request_of false j) _ f refuses)

-- ---- writes

pub write-steps : (j : Json) → write_of j ≡ (or_envelope (scope_ask (member_of (codes "scope") j)) >>= λ s. write_set_in j >>= λ a. Ok (record { scope = s; asks = a }))
write-steps null = refl
write-steps (boolean b) = refl
write-steps (number n) = refl
write-steps (text t) = refl
write-steps (list js) = refl
write-steps (object ms) = refl

-- a scope that has not the form of one, and one that has
pub write-unscoped : (j : Json) (o : Option Json) (f : FormFault) → o ≡ member_of (codes "scope") j → Refuses (result_err (or_envelope (scope_ask o))) f → Refuses (result_err (write_of j)) f
write-unscoped j o f scope refuses = rw (write-steps j, ← scope) (step-refused (or_envelope (scope_ask o)) _ f refuses)

-- the fault of a clause, and the change of one without
pub clause-refused : (q : Json) → result_err (clause_of q) ≡ written_fault q
unfolding change_fault
clause-refused null = refl
clause-refused (boolean b) = refl
clause-refused (number n) = refl
clause-refused (text t) = refl
clause-refused (list js) = refl
clause-refused (object ms) = refl

change_given : (r : Result Change Fault) → result_err r ≡ None → r ≡ Ok (change_or r)
change_given (Ok c) none = refl
change_given (Err f) none = cc

pub clause-given : (q : Json) → written_fault q ≡ None → clause_of q ≡ Ok (spelled_change q)
unfolding change_fault spelled_change
clause-given (object ms) none = change_given (change_of (object ms)) none
clause-given null none = cc
clause-given (boolean b) none = cc
clause-given (number n) none = cc
clause-given (text t) none = cc
clause-given (list js) none = cc

pub change-right : (q : Json) → written_fault q ≡ None → change_fault q ≡ None
change-right (object ms) none = none
change-right null none = cc
change-right (boolean b) none = cc
change-right (number n) none = cc
change-right (text t) none = cc
change-right (list js) none = cc

-- ---- depth

get_depth : (k : List ℕ) (ms : Members) (x : Json) → Some x ≡ get k ms → json_depth x ≤ members_depth ms
get_depth k no_members x there = cc
get_depth k (member l j ms) x there = by (bytes_eq k l) there (λ more. get_depth k ms x more)
  where
    by : (b : Bool) → Some x ≡ (if b then Some j else get k ms) → (Some x ≡ get k ms → json_depth x ≤ members_depth ms) → json_depth x ≤ max (json_depth j) (members_depth ms)
    by true there more = let same : json_depth x ≡ json_depth j = ap json_depth (some_same x j there) in omega arith
    by false there more = let h : json_depth x ≤ members_depth ms = more there in omega arith

-- the value of a member lies one level below its object
pub member_depth : (k : List ℕ) (j x : Json) → Some x ≡ member_of k j → 1 + json_depth x ≤ json_depth j
member_depth k null x there = cc
member_depth k (boolean b) x there = cc
member_depth k (number n) x there = cc
member_depth k (text t) x there = cc
member_depth k (list js) x there = cc
member_depth k (object ms) x there = let h : json_depth x ≤ members_depth ms = get_depth k ms x there in omega arith

-- the items of a list lie one level below it
pub list_depth : (j : Json) (js : Items) → Some js ≡ few_items (Some j) → 1 + items_depth js ≤ json_depth j
list_depth null js there = cc
list_depth (boolean b) js there = cc
list_depth (number n) js there = cc
list_depth (text t) js there = cc
list_depth (object ms) js there = cc
list_depth (list is) js there = by (is_in_range 1 16 (items_len is)) there
  where
    by : (b : Bool) → Some js ≡ (if b then Some is else None) → 1 + items_depth js ≤ json_depth (list is)
    by true there = let same : items_depth js ≡ items_depth is = ap items_depth (some_same js is there) in omega arith
    by false there = cc

-- so does the value of `query`, and the items of `queries`
pub query_depth : (j q : Json) → Some q ≡ option_and_then query_in (members_in j) → 1 + json_depth q ≤ json_depth j
query_depth null q there = cc
query_depth (boolean b) q there = cc
query_depth (number n) q there = cc
query_depth (text t) q there = cc
query_depth (list js) q there = cc
query_depth (object ms) q there = by (only (codes "query" ∷ codes "scope" ∷ []) ms) there
  where
    by : (b : Bool) → Some q ≡ (if b then get (codes "query") ms else None) → 1 + json_depth q ≤ json_depth (object ms)
    by true there = member_depth (codes "query") (object ms) q there
    by false there = cc

pub items_below : (j q : Json) (o : Option (Vec JsonValue Global)) → json_depth j ≤ 15 → Some q ≡ member_of (codes "queries") j → option_map (λ items. items_view items.items) o ≡ few_items (Some q)
    → IfSome o (λ items. items_depth (items_view items.items) ≤ 13)
items_below j q None shallow there few = tt
items_below j q (Some items) shallow there few =
    let member : 1 + json_depth q ≤ json_depth j = member_depth (codes "queries") j q there in
    let below : 1 + items_depth (items_view items.items) ≤ json_depth q = list_depth q (items_view items.items) few in
    omega arith

-- ---- lines

-- a request that is refused
pub request-refused : {A : Type 0} (r : Result A Fault) (f : FormFault) → Refuses (result_err r) f → line_fault f ≢ line.Memory → map_err no_line (map_err bad_form r) ≡ Err (fault_view (line_fault f))
request-refused r Memory refuses named = absurd (named refl)
request-refused (Ok x) (Bad code names) refuses named = cc
request-refused (Err e) (Bad code names) refuses named = ap (λ e. Err (no_line (bad_form e))) (some_same e (fault_under code names.items) refuses)

-- and one that is not
pub request-told : {A : Type 0} (r : Result A Fault) (x : A) → r ≡ Ok x → map_err no_line (map_err bad_form r) ≡ Ok x
request-told r x is = rw is refl

err_same : {A E : Type 0} (x y : E) → ◌≡◌ {A = Result A E} (Err x) (Err y) → x ≡ y
err_same x y is = cc

-- the line of a request, which is faulty or is not
line_failed : {A : Type 0} (r : Result A Fault) (make : A → Line) (f : InputFault) → map_err no_line (map_err bad_form r) ≡ Err f → as_line (map_err bad_form r >>= λ x. Ok (make x)) ≡ Err f
line_failed (Ok x) make f is = cc
line_failed (Err e) make f is = ap Err (err_same _ _ is)

line_made : {A : Type 0} (r : Result A Fault) (make : A → Line) (x : A) → map_err no_line (map_err bad_form r) ≡ Ok x → as_line (map_err bad_form r >>= λ x. Ok (make x)) ≡ Ok (make x)
line_made (Ok y) make x is = ap (λ y. Ok (make y)) (ok_same y x is)
line_made (Err e) make x is = cc

pub read_line_failed : (sid : ℕ) (j : Json) (f : InputFault) → read_request_of j ≡ Err f → read_line_of sid j ≡ Err f
read_line_failed sid j f is = line_failed (read_of j) (read sid) f is

pub write_line_failed : (sid : ℕ) (j : Json) (f : InputFault) → write_request_of j ≡ Err f → write_line_of sid j ≡ Err f
write_line_failed sid j f is = line_failed (write_of j) (write sid) f is

pub read_line_made : (sid : ℕ) (j : Json) (r : ReadSet) → read_request_of j ≡ Ok r → read_line_of sid j ≡ Ok (read sid r)
read_line_made sid j r is = line_made (read_of j) (read sid) r is

pub write_line_made : (sid : ℕ) (j : Json) (w : WriteRequest) → write_request_of j ≡ Ok w → write_line_of sid j ≡ Ok (write sid w)
write_line_made sid j w is = line_made (write_of j) (write sid) w is
