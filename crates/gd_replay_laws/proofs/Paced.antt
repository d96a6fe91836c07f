-- Events keep the pace of what the readings have left.
use Rattle.std.proofs.Common.{◌≡◌, ◌≢◌, ℕ, ◌+◌, ◌-◌, ◌≤◌, ◌==◌, List, [], codes, bytes_eq, Bool, true, false, ◌&&◌, if◌then◌else◌, Option, Some, None, Result, Ok, Err, ⊎_elim, refl, sym, ap, subst, ◌∙◌, arith}
use Rattle.std.specs.Prelude.{IfSome}
use Rattle.std.specs.Bool.{MatchBool}
use Rattle.std.proofs.lemmas.Bool.{eqb-true}
use Rattle.gd_bytes.specs.Frozen.{Frozen}
use Rattle.gd_defs.specs.Lines.{Refusal, refusal, err_line_plain}
use Rattle.gd_defs.specs.Write.{WriteRequest}
use Rattle.gd_runs.specs.Owed.{MembersOf}
use Rattle.gd_runs.specs.Request.{ReadSet}
use Rattle.gd_runs.specs.Input.{InputFault}
use Rattle.gd_runs.specs.Legal.{batches}
use Rattle.gd_runs.specs.Explained.{memory_line}
use Rattle.gd_runs.specs.Core as core
use Rattle.gd_runs.specs.Core.{Event, Reading, State, reading_of, said, entered, owed_line, BeginStep, SliceStep}
use Rattle.gd_runs.specs.Replay.{event_from}
use Rattle.gd_runs.specs.Pace.{DueOf, Left, first_number, with_left, says_of, renewed, is_counted, Pace}
use Rattle.gd_replay_laws.specs.Paced.{AreWithin, Paces, LinePaces}
use Rattle.gd_replay_laws.proofs.Words.{same_bytes, plain_says, owed_says}

-- ---- within

within_then : (a b c : ℕ) → a ≤ b → b ≤ c → a ≤ c
within_then a b c first second = omega (arith, first, second)

pub within_more : (now next a : Left) → AreWithin next now → AreWithin now a → AreWithin next a
within_more now next a less within = λ i. within_then (next i) (now i) (a i) (less i) (within i)

-- ---- replies that say nothing

never : (b : Bool) → (b && false) ≡ false
never true = refl
never false = refl

module _ (k : ℕ) (r : Refusal) where
  -- that of a refusal without a dateline says no word of any reading
  none_says : (o : Option Reading) (what : List ℕ) → says_of o k what (err_line_plain k r) ≡ false
  none_says None what = refl
  none_says (Some x) what = plain_says k r x.dateline what

  none_counted : (o : Option Reading) → (is_counted o && says_of o k (codes "unfinished") (err_line_plain k r)) ≡ false
  none_counted o = rw (none_says o (codes "unfinished")) (never (is_counted o))

  -- so each event that it replies to keeps what is counted
  plain_pace : (members : MembersOf) (d : DueOf) (s : State) (e : Event) (t : State) (a : Left) → Pace members d s k e (err_line_plain k r) t a a
  plain_pace members d s (core.begin i q) t a = sym (ap (λ (b : Bool). if b then renewed d t i a else a) (none_says (t.sessions i).reading (codes "begun")))
  plain_pace members d s (core.slice i budget) t a =
      subst (λ (b : Bool). MatchBool b ((budget ≤ a i) × (a ≡ with_left a i (a i - budget))) (a ≡ a)) (sym (none_counted (s.sessions i).reading)) refl
  plain_pace members d s (core.write i w) t a = refl
  plain_pace members d s (core.learn i m) t a = refl
  plain_pace members d s (core.freeze i) t a = refl
  plain_pace members d s (core.thaw i q bytes) t a = refl
  plain_pace members d s core.reopen t a = refl

  pub plain_paces : (members : MembersOf) (d : DueOf) (s : State) (e : Event) (reply : List ℕ) (t : State) (now next : Left) → reply ≡ err_line_plain k r → AreWithin next now → Paces members d s k e reply t now next
  plain_paces members d s e reply t now next is less = λ a within.
      (a, subst (λ (line : List ℕ). Pace members d s k e line t a a) (sym is) (plain_pace members d s e t a), within_more now next a less within)

-- no memory was found
pub memory_paces : (members : MembersOf) (d : DueOf) (s : State) (k : ℕ) (e : Event) (reply : List ℕ) (t : State) (now next : Left) → reply ≡ memory_line k → AreWithin next now → Paces members d s k e reply t now next
memory_paces members d s k = plain_paces k (refusal (codes "Memory") []) members d s

-- ---- events

-- a write, or what is learnt
pub write_paces : (members : MembersOf) (d : DueOf) (s : State) (k i : ℕ) (w : WriteRequest) (reply : List ℕ) (t : State) (now next : Left) → AreWithin next now → Paces members d s k (core.write i w) reply t now next
write_paces members d s k i w reply t now next less = λ a within. (a, refl, within_more now next a less within)

pub learn_paces : (members : MembersOf) (d : DueOf) (s : State) (k i m : ℕ) (reply : List ℕ) (t : State) (now next : Left) → AreWithin next now → Paces members d s k (core.learn i m) reply t now next
learn_paces members d s k i m reply t now next less = λ a within. (a, refl, within_more now next a less within)

pub reopen_paces : (members : MembersOf) (d : DueOf) (s : State) (k : ℕ) (reply : List ℕ) (t : State) (now next : Left) → AreWithin next now → Paces members d s k core.reopen reply t now next
reopen_paces members d s k reply t now next less = λ a within. (a, refl, within_more now next a less within)

-- freezing, and thawing
pub freeze_paces : (members : MembersOf) (d : DueOf) (s : State) (k i : ℕ) (reply : List ℕ) (t : State) (now next : Left) → AreWithin next now → Paces members d s k (core.freeze i) reply t now next
freeze_paces members d s k i reply t now next less = λ a within. (a, refl, within_more now next a less within)

pub thaw_paces : (members : MembersOf) (d : DueOf) (s : State) (k i : ℕ) (q : ReadSet) (frozen reply : List ℕ) (t : State) (now next : Left) → AreWithin next now → Paces members d s k (core.thaw i q frozen) reply t now next
thaw_paces members d s k i q frozen reply t now next less = λ a within. (a, refl, within_more now next a less within)

-- ---- one session

same_number : (i : ℕ) → (i == i) ≡ true
same_number i = grind (arith)

-- of one session is left at most this, and of each other what was
within_one : (now next a : Left) (i n : ℕ) → AreWithin now a → next i ≤ n → ((j : ℕ) → (j == i) ≡ false → next j ≤ now j) → AreWithin next (with_left a i n)
within_one now next a i n within first others = λ j. by j (j == i) refl
  where
    by : (j : ℕ) (b : Bool) → (j == i) ≡ b → next j ≤ (if b then n else a j)
    by j true is = subst (λ (m : ℕ). next m ≤ n) (sym (eqb-true j i is)) first
    by j false is = within_then (next j) (now j) (a j) (others j is) (within j)

pub within_all : (now next : Left) (i : ℕ) → next i ≤ now i → ((j : ℕ) → (j == i) ≡ false → next j ≤ now j) → AreWithin next now
within_all now next i first others = λ j. by j (j == i) refl
  where
    by : (j : ℕ) (b : Bool) → (j == i) ≡ b → next j ≤ now j
    by j true is = subst (λ (m : ℕ). next m ≤ now m) (sym (eqb-true j i is)) first
    by j false is = others j is

-- ---- beginning

-- what is left of the reading that a session holds is at most its first number, and nothing where it holds none
abbrev pub IsFirst : DueOf → State → ℕ → ℕ → Type 0
IsFirst d t i left = IfSome (t.sessions i).reading (λ x. left ≤ first_number d (batches t.history) x) × ((t.sessions i).reading ≡ None → left ≡ 0)

module _ (members : MembersOf) (d : DueOf) (s : State) (k i : ℕ) (q : ReadSet) (line : List ℕ) (t : State) (now next : Left) (step : BeginStep s k i q line t) (first : IsFirst d t i (next i)) (others : (j : ℕ) → (j == i) ≡ false → next j ≤ now j) where
  -- a reading that is held is told
  begun_says : (x : Reading) → (t.sessions i).reading ≡ Some x → says_of (Some x) k (codes "begun") line ≡ true
  begun_says x holds = by (reading_of (batches s.history) s.shown q) refl
    where
      held : (o : Option Reading) → ((entered s i o).sessions i).reading ≡ o
      held o = ap (λ (b : Bool). (if b then record { seen = s.shown; reading = o } else s.sessions i).reading) (same_number i)

      same : (y : Reading) → Some y ≡ Some x → y ≡ x
      same y is = cc

      none : None ≡ Some x → ⊥
      none is = cc

      by : (o : Result Reading (ℕ × Refusal)) → reading_of (batches s.history) s.shown q ≡ o → says_of (Some x) k (codes "begun") line ≡ true
      by (Ok y) is =
          let both = rw is at step in
          let one : y ≡ x = same y (sym (held (Some y)) ∙ sym (ap (λ (u : State). (u.sessions i).reading) both.1) ∙ holds) in
          subst (λ (z : Reading). bytes_eq line (said z.dateline k (codes "begun")) ≡ true) one (subst (λ (xs : List ℕ). bytes_eq line xs ≡ true) both.0 (same_bytes line))
      by (Err f) is =
          let both = rw is at step in
          absurd (none (sym (held None) ∙ sym (ap (λ (u : State). (u.sessions i).reading) both.1) ∙ holds))

  pub begin_paces : Paces members d s k (core.begin i q) line t now next
  begin_paces = λ a within. by (t.sessions i).reading refl a within
    where
      count : Left → Left
      count a = if says_of (t.sessions i).reading k (codes "begun") line then renewed d t i a else a

      by : (o : Option Reading) → (t.sessions i).reading ≡ o → (a : Left) → AreWithin now a → (b : Left) × (b ≡ count a) × AreWithin next b
      by None is a within =
          let none = first.1 is in
          let same : count a ≡ a = ap (λ (o : Option Reading). if says_of o k (codes "begun") line then renewed d t i a else a) is in
          (a, sym same, within_more now next a (within_all now next i (omega (arith, none)) others) within)
      by (Some x) is a within =
          let most = subst (λ (o : Option Reading). IfSome o (λ y. next i ≤ first_number d (batches t.history) y)) is first.0 in
          let said_so = begun_says x is in
          let same : count a ≡ with_left a i (first_number d (batches t.history) x) = ap (λ (b : Bool). if b then renewed d t i a else a) (ap (λ (o : Option Reading). says_of o k (codes "begun") line) is ∙ said_so) ∙ rw is refl in
          (with_left a i (first_number d (batches t.history) x), sym same, within_one now next a i (first_number d (batches t.history) x) within most others)

-- ---- a slice

module _ (members : MembersOf) (d : DueOf) (s : State) (k i budget : ℕ) (line : List ℕ) (t : State) (now next : Left) (step : SliceStep members s k i line t)
    (lower : next i ≤ now i) (reached : is_counted (s.sessions i).reading ≡ true → (t.sessions i).reading ≢ None → budget + next i ≤ now i) (others : (j : ℕ) → (j == i) ≡ false → next j ≤ now j) where
  -- the slice of a reading that is counted says that it is unfinished
  abbrev says : Option Reading → Bool
  says o = is_counted o && says_of o k (codes "unfinished") line

  abbrev Count : Bool → Left → Left → Type 0
  Count told a b = MatchBool told ((budget ≤ a i) × (b ≡ with_left a i (a i - budget))) (b ≡ a)

  stays : says (s.sessions i).reading ≡ false → Paces members d s k (core.slice i budget) line t now next
  stays none = λ a within. (a, subst (λ (b : Bool). Count b a a) (sym none) refl, within_more now next a (within_all now next i lower others) within)

  lowers : says (s.sessions i).reading ≡ true → budget + next i ≤ now i → Paces members d s k (core.slice i budget) line t now next
  lowers told less = λ a within.
      (with_left a i (a i - budget), subst (λ (b : Bool). Count b a (with_left a i (a i - budget))) (sym told) (enough (a i) (within i), refl), within_one now next a i (a i - budget) within (rest (a i) (within i)) others)
    where
      enough : (m : ℕ) → now i ≤ m → budget ≤ m
      enough m within = omega (arith, less, within)

      rest : (m : ℕ) → now i ≤ m → next i ≤ m - budget
      rest m within = omega (arith, less, within)

  some_held : (x : Reading) → ((entered s i (Some x)).sessions i).reading ≢ None
  some_held x is = none (sym (ap (λ (b : Bool). (if b then record { seen = s.shown; reading = Some x } else s.sessions i).reading) (same_number i)) ∙ is)
    where
      none : Some x ≡ None → ⊥
      none same = cc

  -- of a reading that was thawed nothing is counted
  thawed_says : (x : Reading) (f : Frozen) → x.thawed ≡ Some f → says (Some x) ≡ false
  thawed_says x f is = rw is refl

  -- of one that began
  began : (x : Reading) → (s.sessions i).reading ≡ Some x → x.thawed ≡ None → Paces members d s k (core.slice i budget) line t now next
  began x is unthawed = ⊎_elim
      (λ (more : (line ≡ said x.dateline k (codes "unfinished")) × (t ≡ entered s i (Some x))).
      lowers (ap says is ∙ (rw unthawed (subst (λ (xs : List ℕ). bytes_eq line xs ≡ true) more.0 (same_bytes line)))) (reached (ap is_counted is ∙ rw unthawed refl) (subst (λ (u : State). (u.sessions i).reading ≢ None) (sym more.1) (some_held x))))
      (λ (done : (line ≡ owed_line (batches s.history) k x) × (t ≡ entered s i None)).
      stays (ap says is ∙ (rw unthawed (ap (λ (xs : List ℕ). bytes_eq xs (said x.dateline k (codes "unfinished"))) done.0 ∙ owed_says (batches s.history) k x (codes "unfinished") unthawed))))
      (rw is at step)

  pub slice_paces : Paces members d s k (core.slice i budget) line t now next
  slice_paces = by (s.sessions i).reading refl
    where
      of : (x : Reading) (o : Option Frozen) → (s.sessions i).reading ≡ Some x → x.thawed ≡ o → Paces members d s k (core.slice i budget) line t now next
      of x None is unthawed = began x is unthawed
      of x (Some f) is thawed = stays (ap says is ∙ thawed_says x f thawed)

      by : (o : Option Reading) → (s.sessions i).reading ≡ o → Paces members d s k (core.slice i budget) line t now next
      by None is = stays (ap says is)
      by (Some x) is = of x x.thawed is refl

-- ---- lines

-- a line that is no event
pub fault_line_paces : (members : MembersOf) (d : DueOf) (s : State) (k : ℕ) (bytes reply : List ℕ) (f : InputFault) (t : State) (now next : Left) → event_from bytes ≡ Err f → AreWithin next now → LinePaces members d s k bytes reply t now next
fault_line_paces members d s k bytes reply f t now next is less = λ a within. (a, rw is refl, within_more now next a less within)

-- an event
pub event_line_paces : (members : MembersOf) (d : DueOf) (s : State) (k : ℕ) (bytes reply : List ℕ) (e : Event) (t : State) (now next : Left) → event_from bytes ≡ Ok e → Paces members d s k e reply t now next → LinePaces members d s k bytes reply t now next
event_line_paces members d s k bytes reply e t now next is paces = rw is paces

-- a line for which no memory was found
pub memory_line_paces : (members : MembersOf) (d : DueOf) (s : State) (k : ℕ) (bytes reply : List ℕ) (t : State) (now next : Left) → reply ≡ memory_line k → AreWithin next now → LinePaces members d s k bytes reply t now next
memory_line_paces members d s k bytes reply t now next none less = by (event_from bytes) refl
  where
    by : (r : Result Event InputFault) → event_from bytes ≡ r → LinePaces members d s k bytes reply t now next
    by (Err f) is = fault_line_paces members d s k bytes reply f t now next is less
    by (Ok e) is = event_line_paces members d s k bytes reply e t now next is (memory_paces members d s k e reply t now next none less)
