-- The bounds of an event that bytes spell.
use Rattle.std.proofs.Common.{◌≡◌, ℕ, ◌<◌, ◌≤◌, List, [], ◌∷◌, length, Bool, true, false, Option, Some, None, Result, Ok, Err, bytes_eq, codes, nat_lt, refl, subst, arith, pos}
use Rattle.std.specs.Prelude.{if◌then◌else◌, option_and_then, negsuc}
use Rattle.std.specs.Int.{is_in_range}
use Rattle.gd_tree.specs.Json.{Json, null, boolean, number, text, list, object, Members, no_members, member}
use Rattle.gd_tree.specs.Look.{get, only, text_of}
use Rattle.gd_grammar.specs.Chain.{◌>>=◌, map_err}
use Rattle.gd_runs.proofs.Rounds.{some_same}
use Rattle.gd_defs.specs.Query.{Fault}
use Rattle.gd_json.specs.Reading.{json_from}
use Rattle.gd_json.specs.declared.from.JsonFault.{JsonFault}
use Rattle.gd_runs.specs.Core as core
use Rattle.gd_runs.specs.Core.{Event}
use Rattle.gd_runs.specs.Request.{LineFault, bad_line, bad_form, read_of, write_of, session_of}
use Rattle.gd_runs.specs.Input.{line_too_long, no_json, no_line, max_line}
use Rattle.gd_runs.specs.Replay.{number_between, or_bad, of_members, event_named, event_of, event_from}
use Rattle.gd_replay_laws.specs.Runs.{IsBounded}

-- an event, if there is one, has its bounds
abbrev HasBounds : {F : Type 0} → Result Event F → Type 0
HasBounds (Ok e) = IsBounded e
HasBounds (Err f) = Unit {0}

-- ---- parts

either : {F : Type 0} (b : Bool) (x y : Result Event F) → HasBounds x → HasBounds y → HasBounds (if b then x else y)
either true x y first second = first
either false x y first second = second

session_is : (b : Bool) (n s : ℕ) → nat_lt n 64 ≡ b → (if b then Some n else None) ≡ Some s → s < 64
session_is true n s small is = let same : n ≡ s = some_same is in let below : n < 64 = grind (arith, small) in omega (arith, same, below)
session_is false n s small is = absurd (cc)

session_small : (o : Option Json) (s : ℕ) → session_of o ≡ Some s → s < 64
session_small None s is = absurd (cc)
session_small (Some null) s is = absurd (cc)
session_small (Some (boolean b)) s is = absurd (cc)
session_small (Some (number (pos n))) s is = session_is (nat_lt n 64) n s refl is
session_small (Some (number (negsuc n))) s is = absurd (cc)
session_small (Some (text t)) s is = absurd (cc)
session_small (Some (list js)) s is = absurd (cc)
session_small (Some (object ms)) s is = absurd (cc)

with_session : (o : Option Json) (f : ℕ → Result Event LineFault) → ((s : ℕ) → s < 64 → HasBounds (f s)) → HasBounds (or_bad (session_of o) >>= f)
with_session o f bounds = by (session_of o) refl
  where
    by : (s : Option ℕ) → session_of o ≡ s → HasBounds (or_bad (session_of o) >>= f)
    by None is = rw is tt
    by (Some s) is = rw is (bounds s (session_small o s is))

number_is : (b : Bool) (low high n m : ℕ) → is_in_range low high n ≡ b → (if b then Some n else None) ≡ Some m → (low ≤ m) × (m ≤ high)
number_is true low high n m within is = let same : n ≡ m = some_same is in subst (λ (k : ℕ). (low ≤ k) × (k ≤ high)) same (grind (arith, within), grind (arith, within))
number_is false low high n m within is = absurd (cc)

number_small : (low high : ℕ) (o : Option Json) (m : ℕ) → number_between low high o ≡ Some m → (low ≤ m) × (m ≤ high)
number_small low high None m is = absurd (cc)
number_small low high (Some null) m is = absurd (cc)
number_small low high (Some (boolean b)) m is = absurd (cc)
number_small low high (Some (number (pos n))) m is = number_is (is_in_range low high n) low high n m refl is
number_small low high (Some (number (negsuc n))) m is = absurd (cc)
number_small low high (Some (text t)) m is = absurd (cc)
number_small low high (Some (list js)) m is = absurd (cc)
number_small low high (Some (object ms)) m is = absurd (cc)

with_number : (low high : ℕ) (o : Option Json) (f : ℕ → Result Event LineFault) → ((n : ℕ) → low ≤ n → n ≤ high → HasBounds (f n)) → HasBounds (or_bad (number_between low high o) >>= f)
with_number low high o f bounds = by (number_between low high o) refl
  where
    by : (n : Option ℕ) → number_between low high o ≡ n → HasBounds (or_bad (number_between low high o) >>= f)
    by None is = rw is tt
    by (Some n) is = rw is (let small = number_small low high o n is in bounds n small.0 small.1)

with_part : {A : Type 0} (o : Option A) (f : A → Result Event LineFault) → ((x : A) → HasBounds (f x)) → HasBounds (or_bad o >>= f)
with_part None f bounds = tt
with_part (Some x) f bounds = bounds x

with_form : {A : Type 0} (r : Result A Fault) (f : A → Result Event LineFault) → ((x : A) → HasBounds (f x)) → HasBounds (map_err bad_form r >>= f)
with_form (Err e) f bounds = tt
with_form (Ok x) f bounds = bounds x

-- ---- the event of a name

abbrev begun : Members → Result Event LineFault
begun ms = or_bad (session_of (get (codes "sid") ms)) >>= λ s. or_bad (get (codes "read") ms) >>= λ e. map_err bad_form (read_of e) >>= λ r. Ok (core.begin s r)

abbrev sliced : Members → Result Event LineFault
sliced ms = or_bad (session_of (get (codes "sid") ms)) >>= λ s. or_bad (number_between 1 1_000_000 (get (codes "budget") ms)) >>= λ n. Ok (core.slice s n)

abbrev written : Members → Result Event LineFault
written ms = or_bad (session_of (get (codes "sid") ms)) >>= λ s. or_bad (get (codes "write") ms) >>= λ e. map_err bad_form (write_of e) >>= λ w. Ok (core.write s w)

abbrev learned : Members → Result Event LineFault
learned ms = or_bad (session_of (get (codes "sid") ms)) >>= λ s. or_bad (number_between 0 4_294_967_295 (get (codes "dateline") ms)) >>= λ m. Ok (core.learn s m)

abbrev frozen : Members → Result Event LineFault
frozen ms = or_bad (session_of (get (codes "sid") ms)) >>= λ s. Ok (core.freeze s)

abbrev thawed : Members → Result Event LineFault
thawed ms = or_bad (session_of (get (codes "sid") ms)) >>= λ s. or_bad (get (codes "read") ms) >>= λ e. or_bad (option_and_then text_of (get (codes "text") ms)) >>= λ t.
    map_err bad_form (read_of e) >>= λ r. Ok (core.thaw s r t)

begin_bounds : (ms : Members) → HasBounds (begun ms)
begin_bounds ms = with_session (get (codes "sid") ms) _ (λ s small. with_part (get (codes "read") ms) _ (λ e. with_form (read_of e) _ (λ r. small)))

slice_bounds : (ms : Members) → HasBounds (sliced ms)
slice_bounds ms = with_session (get (codes "sid") ms) _ (λ s small. with_number 1 1_000_000 (get (codes "budget") ms) _ (λ n low high. (small, omega (arith, low), high)))

write_bounds : (ms : Members) → HasBounds (written ms)
write_bounds ms = with_session (get (codes "sid") ms) _ (λ s small. with_part (get (codes "write") ms) _ (λ e. with_form (write_of e) _ (λ w. small)))

learn_bounds : (ms : Members) → HasBounds (learned ms)
learn_bounds ms = with_session (get (codes "sid") ms) _ (λ s small. with_part (number_between 0 4_294_967_295 (get (codes "dateline") ms)) _ (λ m. small))

freeze_bounds : (ms : Members) → HasBounds (frozen ms)
freeze_bounds ms = with_session (get (codes "sid") ms) _ (λ s small. small)

thaw_bounds : (ms : Members) → HasBounds (thawed ms)
thaw_bounds ms = with_session (get (codes "sid") ms) _ (λ s small. with_part (get (codes "read") ms) _ (λ e. with_part (option_and_then text_of (get (codes "text") ms)) _ (λ t. with_form (read_of e) _ (λ r. small))))

of_these : (names : List (List ℕ)) (ms : Members) (r : Result Event LineFault) → HasBounds r → HasBounds (of_members names ms r)
of_these names ms r bounds = either (only names ms) r (Err bad_line) bounds tt

-- the events from each name on
abbrev from_reopen : List ℕ → Members → Result Event LineFault
from_reopen name ms = if bytes_eq name (codes "reopen") then of_members [] ms (Ok core.reopen) else Err bad_line

abbrev from_thaw : List ℕ → Members → Result Event LineFault
from_thaw name ms = if bytes_eq name (codes "thaw") then of_members (codes "read" ∷ codes "sid" ∷ codes "text" ∷ []) ms (thawed ms) else from_reopen name ms

abbrev from_freeze : List ℕ → Members → Result Event LineFault
from_freeze name ms = if bytes_eq name (codes "freeze") then of_members (codes "sid" ∷ []) ms (frozen ms) else from_thaw name ms

abbrev from_learn : List ℕ → Members → Result Event LineFault
from_learn name ms = if bytes_eq name (codes "learn") then of_members (codes "dateline" ∷ codes "sid" ∷ []) ms (learned ms) else from_freeze name ms

abbrev from_write : List ℕ → Members → Result Event LineFault
from_write name ms = if bytes_eq name (codes "write") then of_members (codes "sid" ∷ codes "write" ∷ []) ms (written ms) else from_learn name ms

abbrev from_slice : List ℕ → Members → Result Event LineFault
from_slice name ms = if bytes_eq name (codes "slice") then of_members (codes "budget" ∷ codes "sid" ∷ []) ms (sliced ms) else from_write name ms

reopen_on : (name : List ℕ) (ms : Members) → HasBounds (from_reopen name ms)
reopen_on name ms = either (bytes_eq name (codes "reopen")) (of_members [] ms (Ok core.reopen)) (Err bad_line) (of_these [] ms (Ok core.reopen) tt) tt

thaw_on : (name : List ℕ) (ms : Members) → HasBounds (from_thaw name ms)
thaw_on name ms = either (bytes_eq name (codes "thaw")) (of_members (codes "read" ∷ codes "sid" ∷ codes "text" ∷ []) ms (thawed ms)) (from_reopen name ms) (of_these (codes "read" ∷ codes "sid" ∷ codes "text" ∷ []) ms (thawed ms) (thaw_bounds ms)) (reopen_on name ms)

freeze_on : (name : List ℕ) (ms : Members) → HasBounds (from_freeze name ms)
freeze_on name ms = either (bytes_eq name (codes "freeze")) (of_members (codes "sid" ∷ []) ms (frozen ms)) (from_thaw name ms) (of_these (codes "sid" ∷ []) ms (frozen ms) (freeze_bounds ms)) (thaw_on name ms)

learn_on : (name : List ℕ) (ms : Members) → HasBounds (from_learn name ms)
learn_on name ms = either (bytes_eq name (codes "learn")) (of_members (codes "dateline" ∷ codes "sid" ∷ []) ms (learned ms)) (from_freeze name ms) (of_these (codes "dateline" ∷ codes "sid" ∷ []) ms (learned ms) (learn_bounds ms)) (freeze_on name ms)

write_on : (name : List ℕ) (ms : Members) → HasBounds (from_write name ms)
write_on name ms = either (bytes_eq name (codes "write")) (of_members (codes "sid" ∷ codes "write" ∷ []) ms (written ms)) (from_learn name ms) (of_these (codes "sid" ∷ codes "write" ∷ []) ms (written ms) (write_bounds ms)) (learn_on name ms)

slice_on : (name : List ℕ) (ms : Members) → HasBounds (from_slice name ms)
slice_on name ms = either (bytes_eq name (codes "slice")) (of_members (codes "budget" ∷ codes "sid" ∷ []) ms (sliced ms)) (from_write name ms) (of_these (codes "budget" ∷ codes "sid" ∷ []) ms (sliced ms) (slice_bounds ms)) (write_on name ms)

named : (name : List ℕ) (ms : Members) → HasBounds (event_named name ms)
named name ms = either (bytes_eq name (codes "begin")) (of_members (codes "read" ∷ codes "sid" ∷ []) ms (begun ms)) (from_slice name ms) (of_these (codes "read" ∷ codes "sid" ∷ []) ms (begun ms) (begin_bounds ms)) (slice_on name ms)

-- ---- the event of a value

sole : (name : List ℕ) (j : Json) (more : Members) → HasBounds (event_of (object (member name j more)))
sole name null more = tt
sole name (boolean b) more = tt
sole name (number n) more = tt
sole name (text t) more = tt
sole name (list js) more = tt
sole name (object ms) no_members = named name ms
sole name (object ms) (member other k more) = tt

value_bounds : (j : Json) → HasBounds (event_of j)
value_bounds null = tt
value_bounds (boolean b) = tt
value_bounds (number n) = tt
value_bounds (text t) = tt
value_bounds (list js) = tt
value_bounds (object no_members) = tt
value_bounds (object (member name j more)) = sole name j more

line_bounds : (r : Result Event LineFault) → HasBounds r → HasBounds (map_err no_line r)
line_bounds (Ok e) bounds = bounds
line_bounds (Err f) bounds = tt

read_bounds : (r : Result Json JsonFault) → HasBounds (map_err no_json r >>= λ j. map_err no_line (event_of j))
read_bounds (Ok j) = line_bounds (event_of j) (value_bounds j)
read_bounds (Err f) = tt

bytes_bounds : (bytes : List ℕ) → HasBounds (event_from bytes)
bytes_bounds bytes = either (nat_lt max_line (length bytes)) (Err line_too_long) (map_err no_json (json_from bytes) >>= λ j. map_err no_line (event_of j)) tt (read_bounds (json_from bytes))

pub event_bounded : (bytes : List ℕ) (e : Event) → event_from bytes ≡ Ok e → IsBounded e
event_bounded bytes e is = subst HasBounds is (bytes_bounds bytes)
