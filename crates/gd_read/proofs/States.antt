-- What a session holds of its reading: over the front that is shown, and over more batches.
use Rattle.std.proofs.Common.{◌≡◌, ◌≢◌, ℕ, ◌+◌, ◌≤◌, List, ◌++◌, map, take, length, sum_by, Option, Some, None, Ok, Err, refl, sym, ap, subst, ◌∙◌, arith}
use Rattle.std.proofs.lemmas.List.{length-take-le, take-take, take-append-le}
use Rattle.gd_prim.specs.declared.Batch.{Batch}
use Rattle.gd_prim.specs.declared.Primitive.{Primitive}
use Rattle.gd_defs.specs.Asked.{asked_query}
use Rattle.gd_runs.specs.Core as core
use Rattle.gd_runs.specs.Pace.{DueOf, first_number, query_left}
use Rattle.gd_runs.specs.Request.{ReadRequest, ReadSet}
use Rattle.gd_read.specs.Begun.{fault_at, HasOffset}
use Rattle.gd_read.specs.Left.{reading_left}
use Rattle.gd_read.specs.Reading.{reading_view, IsGoing, Replies}
use Rattle.gd_read.specs.Session.{GoesOn, HoldsGoing, left_of, session_left, HasBegun, IsRefused}
use Rattle.gd_read.specs.declared.fault.ReadFault.{ReadFault}
use Rattle.gd_read.specs.declared.fault.ReadFault.TheVariants as read_fault
use Rattle.gd_mql.specs.Requests.{read_view}
use Rattle.gd_read.specs.Marked.{mark_of}
use Rattle.gd_read.specs.Several.{part_request}
use Rattle.gd_read.specs.declared.reading.Reading.{Reading}
use Rattle.gd_read.specs.declared.reading.Reading.TheVariants as reading
use Rattle.gd_read.specs.declared.reading.Progress.{Progress}
use Rattle.gd_read.specs.declared.reading.Progress.TheVariants.{Reply, Unfinished}
use Rattle.gd_read.specs.declared.session.SessionState.{SessionState}
use Rattle.gd_read.proofs.Fronts.{front_prims, front_query, front_queries, front_reading}

-- ---- what begins

from_front : (bs front : List Batch) (shown : ℕ) (r : ReadSet) → front ≡ take shown bs → shown ≤ length bs → core.reading_of bs shown r ≡ core.reading_of front (length front) r
from_front bs front shown r is long =
    sym (front_reading bs shown r)
    ∙ sym (ap (λ (m : ℕ). core.reading_of (take shown bs) m r) (length-take-le shown bs long))
    ∙ sym (ap (λ (f : List Batch). core.reading_of f (length f) r) is)

few_of : (bs front : List Batch) (shown : ℕ) → front ≡ take shown bs → shown ≤ length bs → length front ≡ shown
few_of bs front shown is long = ap (λ (f : List Batch). length f) is ∙ length-take-le shown bs long

-- a reading that begins over the front that is shown
pub has_begun : (bs front : List Batch) (shown : ℕ) (request : ReadSet) (r : Reading) → front ≡ take shown bs → shown ≤ length bs → core.reading_of front (length front) request ≡ Ok (reading_view r) → (reading_view r).dateline ≤ length front
    → HasBegun bs shown request (record { reading = Some r })
has_begun bs front shown request r is long begins below =
    let few = few_of bs front shown is long in record {
      begun = reading_view r;
      of = from_front bs front shown request is long ∙ begins;
      held = refl;
      below = omega (arith, below, few);
    }

-- or is refused there
pub is_refused : (bs front : List Batch) (shown : ℕ) (request : ReadSet) (f : ReadFault) → front ≡ take shown bs → shown ≤ length bs → (f ≢ read_fault.Memory → core.reading_of front (length front) request ≡ Err (fault_at (length front) f)) → HasOffset f
    → IsRefused bs shown request f
is_refused bs front shown request f is long refused offset = record {
  of = λ some. from_front bs front shown request is long ∙ refused some ∙ ap (λ (m : ℕ). Err (fault_at m f)) (few_of bs front shown is long);
  offset = offset;
}

-- it goes on over the batches below its dateline
pub goes_front : (bs front : List Batch) (shown : ℕ) (r : Reading) → front ≡ take shown bs → shown ≤ length bs → (reading_view r).dateline ≤ length front → IsGoing (take (reading_view r).dateline front) r → GoesOn bs shown r
goes_front bs front shown r is long below going =
    let few = few_of bs front shown is long in
    let within : (reading_view r).dateline ≤ shown = omega (arith, below, few) in
    (within, subst (λ (f : List Batch). IsGoing f r) (ap (take (reading_view r).dateline) is ∙ take-take (reading_view r).dateline shown bs within) going)

-- the first number of a reading over the front that is shown
first_front : (bs : List Batch) (shown : ℕ) (due : DueOf) (r : Reading) → (reading_view r).dateline ≤ shown → first_number due (take shown bs) (reading_view r) ≡ first_number due bs (reading_view r)
first_front bs shown due (reading.One r) below =
    ap (λ (ps : List Primitive). query_left ps (mark_of r.subject.after) (asked_query ps (read_view r.subject.request).query)) (front_prims bs shown r.subject.dateline below)
first_front bs shown due (reading.Several r) below =
    ap (λ (ps : List Primitive). sum_by (λ (q : ReadRequest). query_left ps None (asked_query ps q.query)) (map part_request r.parts.items)) (front_prims bs shown r.dateline below)

-- no more is left of it
pub first_over : (n : ℕ) (bs front : List Batch) (shown : ℕ) (due : DueOf) (r : Reading) → front ≡ take shown bs → shown ≤ length bs → (reading_view r).dateline ≤ length front
    → reading_left n (take (reading_view r).dateline front) r ≤ first_number due front (reading_view r) → left_of n bs r ≤ first_number due bs (reading_view r)
first_over n bs front shown due r is long below first =
    let few = few_of bs front shown is long in
    let within : (reading_view r).dateline ≤ shown = omega (arith, below, few) in
    by _ _ _ _ (ap (λ (f : List Batch). reading_left n f r) (ap (take (reading_view r).dateline) is ∙ take-take (reading_view r).dateline shown bs within))
    (ap (λ (f : List Batch). first_number due f (reading_view r)) is ∙ first_front bs shown due r within) first
  where
    by : (a b c d : ℕ) → a ≡ b → c ≡ d → a ≤ c → b ≤ d
    by a b c d one two few = omega (arith, one, two, few)

-- ---- what goes on

-- as much is left over more batches
pub left_more : (n : ℕ) (bs more : List Batch) (shown : ℕ) (state : SessionState) → shown ≤ length bs → HoldsGoing bs shown state → session_left n (bs ++ more) state ≡ session_left n bs state
left_more n bs more shown state long holds = by state.reading refl
  where
    by : (r : Option Reading) → state.reading ≡ r → session_left n (bs ++ more) state ≡ session_left n bs state
    by None is = rw is refl
    by (Some r) is = let goes = rw is at holds in rw is (ap (λ (f : List Batch). reading_left n f r) (take-append-le (reading_view r).dateline bs more (omega (arith, goes.0, long))))

-- over more batches, of which no fewer are shown
pub goes_more : (bs more : List Batch) (shown most : ℕ) (r : Reading) → shown ≤ length bs → shown ≤ most → GoesOn bs shown r → GoesOn (bs ++ more) most r
goes_more bs more shown most r long less goes =
    (omega (arith, goes.0, less), subst (λ (front : List Batch). IsGoing front r) (sym (take-append-le (reading_view r).dateline bs more (omega (arith, goes.0, long)))) goes.1)

pub holds_more : (bs more : List Batch) (shown most : ℕ) (state : SessionState) → shown ≤ length bs → shown ≤ most → HoldsGoing bs shown state → HoldsGoing (bs ++ more) most state
holds_more bs more shown most state long less holds = by state.reading refl
  where
    by : (r : Option Reading) → state.reading ≡ r → HoldsGoing (bs ++ more) most state
    by None is = rw is tt
    by (Some r) is = rw is (goes_more bs more shown most r long less (rw is at holds))

-- where more of the same batches are shown
pub holds_shown : (bs : List Batch) (shown most : ℕ) (state : SessionState) → shown ≤ most → HoldsGoing bs shown state → HoldsGoing bs most state
holds_shown bs shown most state less holds = by state.reading refl
  where
    by : (r : Option Reading) → state.reading ≡ r → HoldsGoing bs most state
    by None is = rw is tt
    by (Some r) is = let goes = rw is at holds in rw is (omega (arith, goes.0, less), goes.1)

-- ---- slices

-- what a reading owes is the same over the batches below its dateline
owed_front : (bs : List Batch) (k : ℕ) (r : Reading) → core.owed_line (take (reading_view r).dateline bs) k (reading_view r) ≡ core.owed_line bs k (reading_view r)
owed_front bs k (reading.One r) = front_query bs k r.subject.dateline (read_view r.subject.request) (mark_of r.subject.after)
owed_front bs k (reading.Several r) = front_queries bs k r.dateline (map part_request r.parts.items)

-- a reply over the batches below the dateline of a reading is one over the whole list
pub replies_over : (bs : List Batch) (k d : ℕ) (r : Reading) (p : Progress) → d ≡ (reading_view r).dateline → Replies (core.owed_line (take d bs) k (reading_view r)) p → Replies (core.owed_line bs k (reading_view r)) p
replies_over bs k d r (Reply bytes) is replies = replies ∙ ap (λ n. core.owed_line (take n bs) k (reading_view r)) is ∙ owed_front bs k r
replies_over bs k d r Unfinished is replies = replies

-- what is read stays, and goes on
pub goes_still : (bs front : List Batch) (d shown : ℕ) (old new : Reading) → front ≡ take d bs → d ≡ (reading_view old).dateline → reading_view new ≡ reading_view old → IsGoing front new → GoesOn bs shown old → GoesOn bs shown new
goes_still bs front d shown old new is at same going goes =
    let late : (reading_view new).dateline ≡ (reading_view old).dateline = ap (λ (r : core.Reading). r.dateline) same in
    (omega (arith, goes.0, late), subst (λ (f : List Batch). IsGoing f new) (is ∙ ap (λ (n : ℕ). take n bs) (at ∙ sym late)) going)

-- what is left of it falls as over the batches below its dateline
pub less_over : (n : ℕ) (bs front : List Batch) (d : ℕ) (old new : Reading) (s u : ℕ) → front ≡ take d bs → d ≡ (reading_view old).dateline → reading_view new ≡ reading_view old
    → u + reading_left n front new ≤ s + reading_left n front old → u + left_of n bs new ≤ s + left_of n bs old
less_over n bs front d old new s u is at same less =
    by _ _ _ _
    (ap (λ (f : List Batch). reading_left n f old) (is ∙ ap (λ (m : ℕ). take m bs) at))
    (ap (λ (f : List Batch). reading_left n f new) (is ∙ ap (λ (m : ℕ). take m bs) (at ∙ sym (ap (λ (r : core.Reading). r.dateline) same))))
    less
  where
    by : (a b c d : ℕ) → a ≡ b → c ≡ d → u + c ≤ s + a → u + d ≤ s + b
    by a b c d first second third = omega (arith, first, second, third)

-- where nothing is held any more, nothing is left
pub less_none : (a b s u : ℕ) → u + a ≤ s + b → u + 0 ≤ s + b
less_none a b s u less = omega (arith, less)
