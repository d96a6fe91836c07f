-- Which replies tell a failure of the disk, and how many lines of an output do.
use Rattle.std.proofs.Common.{◌≡◌, ℕ, ◌+◌, ◌≤◌, List, [], ◌∷◌, ◌++◌, length, codes, Bool, true, false, if◌then◌else◌, Option, Some, None, Result, Ok, Err, ⊎_elim, refl, sym, ap, subst, ◌∙◌, nat_lt, arith, append_assoc}
use Rattle.gd_base.specs.Counts.{Rose, RoseBy}
use Rattle.gd_tree.specs.Json.{Json, text, object, no_members, member}
use Rattle.gd_bytes.specs.Frozen.{Frozen, spelling}
use Rattle.gd_defs.specs.History.{prims_at}
use Rattle.gd_defs.specs.Asked.{Asked, Unknown, asked_query}
use Rattle.gd_defs.specs.Lines.{Refusal, ok_line, err_line, refusal, too_large, cursor_ahead, count_json}
use Rattle.gd_defs.specs.Reply.{bad_query_refusal, unknown_refusal, max_reply}
use Rattle.gd_defs.specs.Write.{WriteRequest}
use Rattle.gd_runs.specs.Request.{ReadRequest, ReadSet, one_query, queries, bad_line, bad_form, change_refusal}
use Rattle.gd_runs.specs.Owed.{MembersOf}
use Rattle.gd_runs.specs.Input.{InputFault, line_too_long, no_json, no_line, json_refusal, input_fault_line}
use Rattle.gd_runs.specs.Legal.{batches, size}
use Rattle.gd_runs.specs.Explained.{Numbered, memory_line, disk_line, tells_fault, fault_count}
use Rattle.gd_runs.specs.Core as core
use Rattle.gd_runs.specs.Core.{Event, Reading, State, reading_of, no_reading_line, many_queries_line, frozen_line, bad_frozen, owed_line, BeginStep, SliceStep, LearnStep, FreezeStep, ThawsAs, ThawStep, WriteStep}
use Rattle.gd_runs.specs.Replay.{event_from}
use Rattle.gd_core_laws.proofs.Quiet.{Quiet, ok_quiet, err_quiet, fault_quiet, memory_quiet, owed_quiet}
use Rattle.gd_replay_laws.specs.Steps.{StepOver, Takes}
use Rattle.gd_replay_laws.specs.Runs.{LineOver, RepliesOver}
use Rattle.gd_replay_laws.specs.Faults.{IsCounted, faults_from, IsNoWrite}
use Rattle.gd_core_laws.proofs.Shapes.{owed_each}
use Rattle.gd_replay_laws.proofs.Plain.{Plain, plain_ok, plain_cursor, plain_err, plain_refusal, first_piece}

-- ---- the reply lines of an event that is no write, and what holds of each

module _ (P : List ℕ → Type 0) (k : ℕ) (ok : (n k : ℕ) (j : Json) → P (ok_line n k j)) (err : (n k : ℕ) (r : Refusal) → P (err_line n k r)) (owed : (s : State) (r : Reading) → P (owed_line (batches s.history) k r)) (no_reading : P (no_reading_line k)) (many : P (many_queries_line k)) (memory : P (memory_line k)) where
  begin_each : (s : State) (i : ℕ) (r : ReadSet) (line : List ℕ) (t : State) → BeginStep s k i r line t → P line
  begin_each s i r line t step = by (reading_of (batches s.history) s.shown r) refl
    where
      by : (o : Result Reading (ℕ × Refusal)) → reading_of (batches s.history) s.shown r ≡ o → P line
      by (Ok reading) is = subst P (sym (rw is at step).0) (ok reading.dateline k (text (codes "begun")))
      by (Err f) is = subst P (sym (rw is at step).0) (err f.0 k f.1)

  slice_each : (members : MembersOf) (s : State) (i : ℕ) (line : List ℕ) (t : State) → SliceStep members s k i line t → P line
  slice_each members s i line t step = by (s.sessions i).reading refl
    where
      by : (o : Option Reading) → (s.sessions i).reading ≡ o → P line
      by None is = subst P (sym (rw is at step).0) no_reading
      by (Some r) is = ⊎_elim
          (λ more. subst P (sym more.0) (ok r.dateline k (text (codes "unfinished"))))
          (λ done. subst P (sym done.0) (owed s r))
          (rw is at step)

  learn_each : (s : State) (i m : ℕ) (line : List ℕ) (t : State) → LearnStep s k i m line t → P line
  learn_each s i m line t step = by (nat_lt s.shown m) refl
    where
      by : (b : Bool) → nat_lt s.shown m ≡ b → P line
      by true is = subst P (sym (rw is at step).0) (err s.shown k (cursor_ahead m s.shown))
      by false is = subst P (sym (rw is at step).0) (ok m k (text (codes "learnt")))

  freeze_each : (members : MembersOf) (s : State) (i : ℕ) (line : List ℕ) (t : State) → FreezeStep members s k i line t → P line
  freeze_each members s i line t step = by (s.sessions i).reading refl
    where
      within : (n : ℕ) (j : Json) (long : Bool) → P (if long then err_line n k (too_large (length (ok_line n k j))) else ok_line n k j)
      within n j true = err n k (too_large (length (ok_line n k j)))
      within n j false = ok n k j

      frozen : (r : Reading) (f : Frozen) → P (frozen_line k r f)
      frozen r f = let j : Json = object (member (codes "frozen") (text (spelling f)) no_members) in within r.dateline j (nat_lt max_reply (length (ok_line r.dateline k j)))

      of : (r : Reading) (q : ReadSet) → r.request ≡ q → (s.sessions i).reading ≡ Some r → P line
      of r (one_query q) one is = let (f, freezes, tells) = rw one at (rw is at step).1 in subst P (sym tells) (frozen r f)
      of r (queries qs) several is = subst P (sym (rw several at (rw is at step).1)) many

      by : (o : Option Reading) → (s.sessions i).reading ≡ o → P line
      by None is = subst P (sym (rw is at step).0) no_reading
      by (Some r) is = of r r.request refl is

  thaws_each : (members : MembersOf) (s : State) (i : ℕ) (r : ReadRequest) (bytes : List ℕ) (f : Frozen) (line : List ℕ) (t : State) → ThawsAs members s k i r bytes f line t → P line
  thaws_each members s i r bytes f line t step = by (nat_lt s.shown f.dateline) refl
    where
      asked : (o : Result Asked Unknown) → nat_lt s.shown f.dateline ≡ false → asked_query (prims_at (batches s.history) f.dateline) r.query ≡ o → P line
      asked (Err u) shown is = subst P (sym (rw is at (rw shown at step)).0) (err f.dateline k (unknown_refusal u))
      asked (Ok q) shown is = ⊎_elim
          (λ (fit, tells, thawed). subst P (sym tells) (ok f.dateline k (text (codes "thawed"))))
          (λ (unfit, tells, same). subst P (sym tells) (err s.shown k (bad_frozen (length bytes))))
          (rw is at (rw shown at step))

      by : (b : Bool) → nat_lt s.shown f.dateline ≡ b → P line
      by true is = subst P (sym (rw is at step).0) (err s.shown k (cursor_ahead f.dateline s.shown))
      by false is = asked (asked_query (prims_at (batches s.history) f.dateline) r.query) is refl

  thaw_each : (members : MembersOf) (s : State) (i : ℕ) (r : ReadSet) (frozen line : List ℕ) (t : State) → ThawStep members s k i r frozen line t → P line
  thaw_each members s i (one_query r) frozen line t step = ⊎_elim
      (λ (f, spelled, thaws). thaws_each members s i r frozen f line t thaws)
      (λ (n, bad, tells, same). subst P (sym tells) (err s.shown k (bad_frozen n)))
      step
  thaw_each members s i (queries rs) frozen line t step = subst P (sym step.0) many

  -- by the event, where it is said of a write
  pub step_each : (told : Bool) (members : MembersOf) (may : ℕ → Bool) (s : State) (bytes : ℕ) (e : Event) (line : List ℕ) (t : State) → ((i : ℕ) (w : WriteRequest) → e ≡ core.write i w → WriteStep may s k bytes i w line t → P line)
      → StepOver told members may s k bytes e line t → P line
  step_each told members may s bytes (core.begin i r) line t written step = begin_each s i r line t step
  step_each told members may s bytes (core.slice i n) line t written step = slice_each members s i line t step
  step_each told members may s bytes (core.write i w) line t written step = written i w refl step
  step_each told members may s bytes (core.learn i m) line t written step = learn_each s i m line t step
  step_each told members may s bytes (core.freeze i) line t written step = freeze_each members s i line t step
  step_each told members may s bytes (core.thaw i r frozen) line t written step = thaw_each members s i r frozen line t step
  step_each told members may s bytes core.reopen line t written (told_step, (loaded, tells, anew)) = subst P (sym tells) (ok (length loaded) k (text (codes "reopened")))

  pub takes_each : (told : Bool) (members : MembersOf) (may : ℕ → Bool) (s : State) (bytes : ℕ) (e : Event) (line : List ℕ) (t : State) → ((i : ℕ) (w : WriteRequest) → e ≡ core.write i w → WriteStep may s k bytes i w line t → P line)
      → Takes told members may s k bytes e line t → P line
  takes_each told members may s bytes e line t written takes = ⊎_elim
      (λ step. step_each told members may s bytes e line t written step)
      (λ lacks. subst P (sym lacks.0) memory)
      takes

  line_each : (told : Bool) (members : MembersOf) (may : ℕ → Bool) (s : State) (bytes line : List ℕ) (t : State) → ((f : InputFault) → P (input_fault_line k f))
      → ((i : ℕ) (w : WriteRequest) → event_from bytes ≡ Ok (core.write i w) → WriteStep may s k (length bytes) i w line t → P line) → LineOver told members may s k bytes line t → P line
  line_each told members may s bytes line t fault written step = ⊎_elim
      (λ (f, asked, tells, same). subst P (sym tells) (fault f))
      (λ some. ⊎_elim
      (λ (e, asked, taken). step_each told members may s (length bytes) e line t (λ i w is. written i w (asked ∙ ap Ok is)) taken)
      (λ without. subst P (sym without.0) memory)
      some)
      step

-- ---- only the reply to a write tells a failure of the disk

module _ (k : ℕ) where
  -- an event that is taken, or for which no memory was found
  pub takes_quiet : (told : Bool) (members : MembersOf) (may : ℕ → Bool) (s : State) (bytes : ℕ) (e : Event) (line : List ℕ) (t : State) → IsNoWrite e → Takes told members may s k bytes e line t → Quiet k line
  takes_quiet told members may s bytes e line t other takes =
      takes_each (Quiet k) k (ok_quiet k) (err_quiet k) (λ u. owed_quiet k (batches u.history) k) refl refl (memory_quiet k k) told members may s bytes e line t (λ i w is step. absurd (subst IsNoWrite is other)) takes

  -- a line
  pub line_quiet : (told : Bool) (members : MembersOf) (may : ℕ → Bool) (s t : State) (bytes line : List ℕ) → ((i : ℕ) (w : WriteRequest) → event_from bytes ≡ Ok (core.write i w) → ⊥) → LineOver told members may s k bytes line t → Quiet k line
  line_quiet told members may s t bytes line other step =
      line_each (Quiet k) k (ok_quiet k) (err_quiet k) (λ u. owed_quiet k (batches u.history) k) refl refl (memory_quiet k k) told members may s bytes line t (fault_quiet k k) (λ i w is written. absurd (other i w is)) step

  -- a reply that tells none is counted
  pub quiet_counted : (reply : List ℕ) (before after : ℕ) → Quiet k reply → IsCounted k reply before after
  quiet_counted reply before after quiet tells = absurd (apart (sym quiet ∙ tells))
    where
      apart : false ≡ true → ⊥
      apart e = cc

-- ---- each reply is one line

pub plain_fault : (k : ℕ) (f : InputFault) → Plain (input_fault_line k f)
plain_fault k line_too_long = plain_refusal k (refusal (codes "LineTooLong") [])
plain_fault k (no_json f) = plain_refusal k (json_refusal f)
plain_fault k (no_line bad_line) = plain_refusal k (refusal (codes "BadLine") [])
plain_fault k (no_line (bad_form f)) = plain_refusal k (bad_query_refusal f.code f.path)

pub plain_memory : (k : ℕ) → Plain (memory_line k)
plain_memory k = plain_refusal k (refusal (codes "Memory") [])

pub plain_disk : (k : ℕ) (stored : List ℕ) → Plain (disk_line k stored)
plain_disk k stored = plain_refusal k (refusal (codes "DiskFault") ((codes "stored", text stored) ∷ []))

plain_written : (may : ℕ → Bool) (s : State) (k bytes i : ℕ) (w : WriteRequest) (line : List ℕ) (t : State) → WriteStep may s k bytes i w line t → Plain line
plain_written may s k bytes i w _ _ (core.stores t e can) = plain_ok (size t.history + 1) k e.result
plain_written may s k bytes i w _ _ (core.stores_late t e can) = plain_refusal k (refusal (codes "MemoryLate") ((codes "entry", count_json (size t.history)) ∷ []))
plain_written may s k bytes i w _ _ (core.refuses t moment f settles does) = plain_err (size t.history) k (change_refusal f)
plain_written may s k bytes i w _ _ (core.doubts t e can) = plain_disk k (codes "maybe")
plain_written may s k bytes i w _ _ (core.leaves_doubt e is) = plain_disk k (codes "no")
plain_written may s k bytes i w _ _ core.lacks_memory = plain_memory k
plain_written may s k bytes i w _ _ (core.lacks_memory_settled t settles) = plain_memory k

pub plain_reply : (told : Bool) (members : MembersOf) (may : ℕ → Bool) (s : State) (k : ℕ) (bytes line : List ℕ) (t : State) → LineOver told members may s k bytes line t → Plain line
plain_reply told members may s k bytes line t step =
    line_each Plain k plain_ok plain_err (λ s r. owed_each Plain plain_ok plain_cursor plain_err tt (batches s.history) k r) (plain_refusal k (refusal (codes "NoReading") [])) (plain_refusal k (refusal (codes "ManyQueries") [])) (plain_memory k)
    told members may s bytes line t (plain_fault k) (λ i w is written. plain_written may s k (length bytes) i w line t written) step

-- ---- how many lines tell one

-- a line in front of others
pub faults_line : (k : ℕ) (line rest : List ℕ) → Plain line → faults_from k (line ++ 10 ∷ rest) ≡ (if tells_fault k line then 1 else 0) + faults_from (k + 1) rest
faults_line k line rest plain = ap (fault_count k) (first_piece line rest plain)

-- no line tells none
pub faults_none : (k : ℕ) → faults_from k [] ≡ 0
faults_none k = refl

-- a run, and what is printed behind it
pub faults_run : (told : Bool) (members : MembersOf) (may : ℕ → Bool) (s t : State) (k : ℕ) (given : List Numbered) (output rest : List ℕ) → RepliesOver told members may s k given output t
    → faults_from k (output ++ rest) ≡ faults_from k output + faults_from (k + length given) rest
faults_run told members may s t k [] output rest (none, same) =
    let all : faults_from k (output ++ rest) ≡ faults_from k rest = ap (λ (out : List ℕ). faults_from k (out ++ rest)) none in
    let first : faults_from k output ≡ 0 = ap (faults_from k) none ∙ faults_none k in
    let here : k + 0 ≡ k = omega arith in
    let later : faults_from (k + 0) rest ≡ faults_from k rest = ap (λ (n : ℕ). faults_from n rest) here in
    omega (arith, all, first, later)
faults_run told members may s t k (l ∷ ls) output rest (reply, mid, more, line, prints, others) =
    let plain = plain_reply told members may s k l.bytes reply mid line in
    let all : faults_from k (output ++ rest) ≡ (if tells_fault k reply then 1 else 0) + faults_from (k + 1) (more ++ rest) =
    ap (λ (out : List ℕ). faults_from k (out ++ rest)) prints ∙ (ap (faults_from k) (append_assoc reply (10 ∷ more) rest) ∙ faults_line k reply (more ++ rest) plain) in
    let first : faults_from k output ≡ (if tells_fault k reply then 1 else 0) + faults_from (k + 1) more = ap (faults_from k) prints ∙ faults_line k reply more plain in
    let behind = faults_run told members may mid t (k + 1) ls more rest others in
    let place : (k + 1) + length ls ≡ k + length (l ∷ ls) = omega arith in
    let later : faults_from ((k + 1) + length ls) rest ≡ faults_from (k + length (l ∷ ls)) rest = ap (λ (n : ℕ). faults_from n rest) place in
    omega (arith, all, first, behind, later)

-- ---- counts that rise

pub rose_none : (n m : ℕ) → n ≤ m → RoseBy n m 0
rose_none n m later = omega (arith, later)

pub rose_then : (a b c m n : ℕ) → RoseBy a b m → RoseBy b c n → RoseBy a c (m + n)
rose_then a b c m n first second = omega (arith, first, second)

-- the same over a longer time
pub rose_within : (a b before after n : ℕ) → before ≤ a → b ≤ after → RoseBy a b n → RoseBy before after n
rose_within a b before after n earlier later rose = omega (arith, earlier, later, rose)

-- a line that was printed
pub rose_line : (k a b : ℕ) (line : List ℕ) → Plain line → IsCounted k line a b → a ≤ b → RoseBy a b (faults_from k (line ++ 10 ∷ []))
rose_line k a b line plain counted later = subst (RoseBy a b) (sym (faults_line k line [] plain)) (by (tells_fault k line) counted)
  where
    by : (told : Bool) → (told ≡ true → Rose a b) → RoseBy a b ((if told then 1 else 0) + faults_from (k + 1) [])
    by true cause = cause refl
    by false cause = omega (arith, later)
