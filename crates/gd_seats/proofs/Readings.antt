-- Readings over what a seat enters, which begins with what it had entered.
use Rattle.std.proofs.Common.{◌≡◌, ℕ, ◌+◌, ◌≤◌, List, ◌++◌, length, Some, None, Option, Result, Ok, Err, refl, sym, ap, subst, ◌∙◌, arith}
use Rattle.std.specs.Prelude.{IfOk, IfErr, IfSome, IsNone, Bool, true, false, nat_lt, option_map}
use mathlib.Core.List.{IsPrefix}
use Rattle.gd_base.specs.declared.memory.Memory.{Memory}
use Rattle.gd_prim.specs.declared.Batch.{Batch}
use Rattle.gd_runs.specs.Core as core
use Rattle.gd_bytes.specs.Cursor.{Cursor, cursor_of}
use Rattle.gd_defs.specs.Lines.{Refusal, bad_cursor, cursor_ahead}
use Rattle.gd_runs.specs.Request.{ReadSet, one_query, queries, CursorAsk, no_cursor, first_page, page_after}
use Rattle.gd_shared.specs.Shared.{SeatValue}
use Rattle.gd_read.specs.Begun.{fault_at, page_dateline, read_dateline}
use Rattle.gd_read.specs.Left.{reading_left}
use Rattle.gd_read.specs.Reading.{reading_view}
use Rattle.gd_read.specs.Session as state
use Rattle.gd_read.specs.Session.{HoldsGoing, session_left}
use Rattle.gd_read.specs.declared.fault.ReadFault.{ReadFault}
use Rattle.gd_read.specs.declared.fault.ReadFault.TheVariants as read_fault
use Rattle.gd_read.specs.declared.reading.Reading.{Reading}
use Rattle.gd_read.specs.declared.reading.Progress.{Progress}
use Rattle.gd_read.specs.declared.reading.Progress.TheVariants.{Reply, Unfinished}
use Rattle.gd_read.specs.declared.session.SessionState.{SessionState}
use Rattle.gd_read.proofs.States.{holds_more}
use Rattle.gd_seats.specs.declared.fault.SessionFault.{SessionFault}
use Rattle.gd_seats.specs.declared.fault.SessionFault.TheVariants.{Read, Shut}
use Rattle.gd_seats.specs.declared.session.Looked.{Looked}
use Rattle.gd_seats.specs.Session.{SessionValue, seen_of, left_of}
use Rattle.gd_seats.specs.Calls.{HasEntered, HasBegunAt, IsRefusedAt, IsDatelineFault, LooksAs, SlicesAs, shown_of}
use Rattle.gd_seats.proofs.Fronts.{begins_shorter, begins_within}

-- a reading that is held over a list goes on over each that begins with it
pub holds_later : (held : SessionState) (bs cs : List Batch) → IsPrefix bs cs → HoldsGoing bs (length bs) held → HoldsGoing cs (length cs) held
holds_later held bs cs (more, is) holds =
    subst (λ (l : List Batch). HoldsGoing l (length l) held) is (holds_more bs more (length bs) (length (bs ++ more)) held (omega arith) (begins_shorter bs (bs ++ more) (more, refl)) holds)

-- and what is left of it stays
left_within : (n : ℕ) (held : SessionState) (bs cs : List Batch) → IsPrefix bs cs → HoldsGoing bs (length bs) held → session_left n cs held ≡ session_left n bs held
left_within n held bs cs begins holds = by held.reading refl
  where
    by : (o : Option Reading) → held.reading ≡ o → session_left n cs held ≡ session_left n bs held
    by None is = rw is refl
    by (Some r) is = rw is (ap (λ (front : List Batch). reading_left n front r) (begins_within (reading_view r).dateline bs cs (rw is at holds).0 begins))

-- ---- a reading begins over the list that a seat has entered

same_number : (a b : ℕ) → Some a ≡ Some b → a ≡ b
same_number a b is = cc

pub has_begun : (new : SeatValue) (bs : List Batch) (shown : ℕ) (request : ReadSet) (held : SessionState) (n : ℕ) → bs ≡ new.entered → state.HasBegun bs shown request held → option_map (λ r. r.dateline) (state.reads held) ≡ Some n
    → HasBegunAt shown (record { seat = new; held = held.reading }) request n
has_begun new bs shown request held n is begins at =
    let same : n ≡ begins.begun.dateline = same_number n begins.begun.dateline (sym at ∙ ap (option_map (λ r. r.dateline)) begins.held) in
    let low : n ≤ shown = let below = begins.below in omega (arith, same, below) in record {
      begun = begins.begun;
      of = subst (λ l. core.reading_of l shown request ≡ Ok begins.begun) is begins.of;
      held = begins.held;
      at = same;
      below = low;
    }

-- or is refused there
pub is_refused : (new : SeatValue) (bs : List Batch) (shown : ℕ) (request : ReadSet) (f : ReadFault) → bs ≡ new.entered → state.IsRefused bs shown request f → IsRefusedAt shown (record { seat = new; held = None }) request f
is_refused new bs shown request f is refused = subst (λ l. state.IsRefused l shown request f → IsRefusedAt shown (record { seat = new; held = None }) request f) (sym is) (λ there. record { of = there.of; offset = there.offset; none = refl }) refused

-- it begins over as many batches as are asked for, or over all
pub shown_is : (at : Option ℕ) (session : SessionValue) (bs : List Batch) (n : ℕ) → bs ≡ session.seat.entered → IfSome at (λ m. n ≡ m) → (IsNone at → n ≡ length bs) → n ≡ shown_of at session
shown_is None session bs n is this all = all refl ∙ ap length is
shown_is (Some m) session bs n is this all = this

-- which are no more than the seat had seen
pub seen_within : (at : Option ℕ) (old : SeatValue) (bs : List Batch) → IsPrefix old.entered bs → IsPrefix old.told bs → IfSome at (λ n. n ≤ seen_of old) → IfSome at (λ n. n ≤ length bs)
seen_within None old bs entered told seen = tt
seen_within (Some n) old bs entered told seen = let a = begins_shorter old.entered bs entered in let b = begins_shorter old.told bs told in omega (arith, seen, a, b)

-- ---- looking for a read

abbrev or_error : {A E : Type 0} → E → Result A E → E
or_error e (Ok a) = e
or_error e (Err x) = x

-- an error is the same, whatever else there might be
same_error : {A B E : Type 0} → (e f : E) → ◌≡◌ {A = Result A E} (Err e) (Err f) → ◌≡◌ {A = Result B E} (Err e) (Err f)
same_error e f is = ap Err (ap (or_error e) is)

-- where a request has no dateline, its reading is refused for the same
cursor_refused : (bs : List Batch) (n : ℕ) (q : ReadSet) (f : ℕ × Refusal) → read_dateline n q ≡ Err f → core.reading_of bs n q ≡ Err f
cursor_refused bs n (queries rs) f is = absurd (cc)
cursor_refused bs n (one_query r) f is = by r.cursor refl is
  where
    page : (t : List ℕ) (c : Result Cursor ℕ) → cursor_of t ≡ c → r.cursor ≡ page_after t → page_dateline n (page_after t) ≡ Err f → core.query_reading bs n r ≡ Err f
    page t (Err offset) read ask none = rw ask (rw read (same_error (n, bad_cursor offset) f (rw read at none)))
    page t (Ok c) read ask none = ahead (nat_lt n c.dateline) refl
      where
        ahead : (b : Bool) → nat_lt n c.dateline ≡ b → core.query_reading bs n r ≡ Err f
        ahead true high = rw ask (rw read (rw high (same_error (n, cursor_ahead c.dateline n) f (rw high at (rw read at none)))))
        ahead false low = absurd (let none_at = (rw low at (rw read at none)) in cc)

    by : (c : CursorAsk) → r.cursor ≡ c → page_dateline n r.cursor ≡ Err f → core.query_reading bs n r ≡ Err f
    by no_cursor ask none = absurd (let never = (rw ask at none) in cc)
    by first_page ask none = absurd (let never = (rw ask at none) in cc)
    by (page_after t) ask none = page t (cursor_of t) refl ask (rw ask at none)

-- what looking gives, over the list that a seat has entered
pub looks_in : (old new : SeatValue) (bs : List Batch) (state : SessionState) (request : ReadSet) (latest : ℕ) (result : Result Looked SessionFault) → bs ≡ new.entered → latest ≡ length bs → HasEntered old new
    → IfOk result (λ l. (l.snapshot ≡ latest) × (read_dateline latest request ≡ Ok l.dateline)) → IfErr result (IsDatelineFault latest request) → LooksAs (record { seat = old; held = state.reading }) (record { seat = new; held = state.reading }) request result
looks_in old new bs state request latest (Ok l) is count entered ok err = (
  entered,
  record { snapshot = ok.0 ∙ count ∙ ap length is; dateline = rw ok.0 ok.1 },
  refl,
)
looks_in old new bs state request latest (Err (Read f)) is count entered ok err =
    let at : latest ≡ length new.entered = count ∙ ap length is in (
      entered,
      record {
        of = λ not. subst (λ n. core.reading_of new.entered n request ≡ Err (fault_at n f)) at (cursor_refused new.entered latest request (fault_at latest f) (err.0 not));
        offset = err.1;
      },
      refl,
    )
looks_in old new bs state request latest (Err Shut) is count entered ok err = absurd err

-- ---- a slice over it

pub slices_in : (old new : SeatValue) (bs : List Batch) (was held : SessionState) (k : ℕ) (sliced : Result Progress Memory) (answer : Result Progress SessionFault) → HoldsGoing old.entered (length old.entered) was → bs ≡ new.entered → HasEntered old new
    → state.SlicesAs bs k was sliced held → IfOk sliced (λ p. answer ≡ Ok p) → IfErr sliced (λ e. answer ≡ Err (Read read_fault.Memory)) → SlicesAs (record { seat = old; held = was.reading }) (record { seat = new; held = held.reading }) k answer
slices_in old new bs was held k (Ok (Reply bytes)) answer goes is entered slices ok err =
    rw ok (entered, record { of = by was.reading refl; none = ap state.reads slices.1 })
  where
    by : (o : Option Reading) → was.reading ≡ o → IfSome (option_map reading_view was.reading) (λ r. (r.dateline ≤ length old.entered) × (bytes.items ≡ core.owed_line new.entered k r))
    by None same = rw same tt
    by (Some r) same = rw same ((rw same at goes).0, subst (λ l. bytes.items ≡ core.owed_line l k (reading_view r)) is (rw same at slices).0)
slices_in old new bs was held k (Ok Unfinished) answer goes is entered slices ok err = rw ok (entered, slices)
slices_in old new bs was held k (Err e) answer goes is entered slices ok err = rw err (entered, ap state.reads slices, refl)

-- what is left of its reading falls
pub less_in : (n : ℕ) (old new : SeatValue) (bs : List Batch) (was held : SessionState) (s u : ℕ) → HoldsGoing old.entered (length old.entered) was → bs ≡ new.entered → IsPrefix old.entered bs → u + session_left n bs held ≤ s + session_left n bs was
    → u + left_of n (record { seat = new; held = held.reading }) ≤ s + left_of n (record { seat = old; held = was.reading })
less_in n old new bs was held s u goes is begins less =
    by (session_left n bs was) (session_left n old.entered was) (session_left n bs held) (session_left n new.entered held) (left_within n was old.entered bs begins goes) (ap (λ l. session_left n l held) is) less
  where
    by : (a b c d : ℕ) → a ≡ b → c ≡ d → u + c ≤ s + a → u + d ≤ s + b
    by a b c d first second third = omega (arith, first, second, third)
