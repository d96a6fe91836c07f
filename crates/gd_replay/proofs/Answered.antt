-- What an event comes to is what its line comes to.
use Rattle.std.proofs.Common.{◌≡◌, ℕ, ◌<◌, ◌≤◌, List, length, Bool, true, false, Result, Ok, Err, IfOk, inl, inr, ⊎_elim, refl, ap, subst, ◌∙◌, arith, lt-ltb}
use Rattle.std.specs.Prelude.{if◌then◌else◌, ◌≢◌, IsErr}
use Rattle.gd_base.specs.declared.memory.Memory.{Memory}
use Rattle.gd_grammar.specs.Chain.{◌>>=◌, map_err}
use Rattle.gd_fault.specs.declared.fault.LineFault.{LineFault}
use Rattle.gd_fault.specs.declared.fault.LineFault.TheVariants as fault
use Rattle.gd_mql.specs.Line.{fault_view}
use Rattle.gd_json.specs.Reading.{json_from}
use Rattle.gd_sessions.specs.PassedOn.{one_member}
use Rattle.gd_runs.specs.Input.{input_fault_line, line_too_long, no_json, no_line, max_line}
use Rattle.gd_runs.specs.Explained.{tells_fault}
use Rattle.gd_runs.specs.Side.{IsFresh}
use Rattle.gd_runs.specs.Core as core
use Rattle.gd_runs.specs.Core.{Event, State}
use Rattle.gd_runs.specs.Replay.{event_from, event_of}
use Rattle.gd_replay_laws.specs.Steps.{StepOver, Takes}
use Rattle.gd_replay_laws.specs.Runs.{LineOver, IsBounded, AreBelow}
use Rattle.gd_runs.specs.Pace.{DueOf, Left}
use Rattle.gd_replay_laws.specs.Faults.{IsCounted}
use Rattle.gd_replay_laws.specs.Paced.{AreWithin, Paces, LinePaces}
use Rattle.gd_replay_laws.proofs.Paced.{reopen_paces, fault_line_paces, memory_line_paces}
use Rattle.gd_core_laws.proofs.Quiet.{fault_quiet, memory_quiet}
use Rattle.gd_replay_laws.proofs.Faults.{takes_quiet, quiet_counted}
use Rattle.gd_reply.specs.Replies.{reply_text, made_text}
use Rattle.std.specs.Global.{Vec}
use Rattle.gd_reply.specs.declared.reply.Reply.{Reply}
use Rattle.gd_sessions.specs.Running.{Answers, MayTake}
use Rattle.gd_replay.specs.Lines.{TellsTooLong, TellsFault}

-- ---- answers

pub answers_more : (P Q : List ℕ → Type 0) (result : Result Reply Memory) → ((line : List ℕ) → P line → Q line) → Answers P result → Answers Q result
answers_more P Q (Ok reply) more given = more (reply_text reply) given
answers_more P Q (Err e) more given = (given.0, more given.0 given.1)

pub answers_say : (P : List ℕ → Type 0) (Q : Type 0) (result : Result Reply Memory) → ((line : List ℕ) → P line → Q) → Answers P result → Q
answers_say P Q (Ok reply) says given = says (reply_text reply) given
answers_say P Q (Err e) says given = says given.0 given.1

-- a reply that tells no failure of the disk is counted
pub answers_counted : (P : List ℕ → Type 0) (k before after : ℕ) (result : Result Reply Memory) → ((line : List ℕ) → P line → tells_fault k line ≡ false) → Answers P result → Answers (λ line. P line × IsCounted k line before after) result
answers_counted P k before after result quiet = answers_more P (λ line. P line × IsCounted k line before after) result (λ line is. (is, quiet_counted k line before after (quiet line is)))

-- ---- an event that may be carried out

fresh : (s : State) (k : ℕ) → AreBelow k s → IsFresh s.history s.doubt k
fresh s k below = record {
  entries = λ e x at is. let small = below.entries e x at in absurd (omega (arith, small, is));
  doubted = λ x at is. let small = below.doubted x at in absurd (omega (arith, small, is));
}

pub may_take : (s : State) (k : ℕ) (e : Event) → AreBelow k s → IsBounded e → MayTake s.history s.doubt k e
may_take s k (core.begin i r) below bounds = bounds
may_take s k (core.slice i n) below bounds = bounds
may_take s k (core.write i w) below bounds = (bounds, fresh s k below)
may_take s k (core.learn i m) below bounds = bounds
may_take s k (core.freeze i) below bounds = bounds
may_take s k (core.thaw i r frozen) below bounds = bounds
may_take s k core.reopen below bounds = tt

-- ---- a line

pub takes_line : (told : Bool) (may : ℕ → Bool) (s : State) (k bytes : ℕ) (piece : List ℕ) (e : Event) (reply : List ℕ) (t : State) → event_from piece ≡ Ok e → bytes ≡ length piece → Takes told one_member may s k bytes e reply t
    → LineOver told one_member may s k piece reply t
takes_line told may s k bytes piece e reply t event long takes = ⊎_elim
    (λ taken. inr (inl (e, event, subst (λ (n : ℕ). StepOver told one_member may s k n e reply t) long taken)))
    (λ lacks. inr (inr (lacks.0, inr (e, event, lacks.1))))
    takes

pub refuses_line : (told : Bool) (may : ℕ → Bool) (s : State) (k : ℕ) (piece : List ℕ) (f : LineFault) (reply : List ℕ) → (f ≢ fault.Memory → event_from piece ≡ Err (fault_view f)) → TellsFault k f reply → LineOver told one_member may s k piece reply s
refuses_line told may s k piece f reply asked tells = ⊎_elim
    (λ told. inl (fault_view f, asked told.0, told.1, refl))
    (λ lacks. inr (inr (lacks, inl refl)))
    tells

-- more bytes than a line has are no event
long_is : (piece : List ℕ) → max_line < length piece → event_from piece ≡ Err line_too_long
long_is piece long = ap (λ (b : Bool). if b then Err line_too_long else (map_err no_json (json_from piece) >>= λ j. map_err no_line (event_of j))) (lt-ltb max_line (length piece) long)

pub long_line : (told : Bool) (may : ℕ → Bool) (s : State) (k : ℕ) (piece : List ℕ) (reply : List ℕ) → max_line < length piece → TellsTooLong k reply → LineOver told one_member may s k piece reply s
long_line told may s k piece reply long tells = ⊎_elim
    (λ told. inl (line_too_long, long_is piece long, told, refl))
    (λ lacks. inr (inr (lacks, inl refl)))
    tells

-- a line that is refused, or want of memory for that
pub tells_long : (k : ℕ) (made : Result (Vec ℕ) Memory) (reply : List ℕ) → IfOk made (λ bytes. bytes.items ≡ input_fault_line k line_too_long) → reply ≡ made_text k made → TellsTooLong k reply
tells_long k (Ok bytes) reply told is = inl (is ∙ told)
tells_long k (Err e) reply told is = inr is

never : false ≡ true → ⊥
never is = cc

pub tells_fault_of : (k : ℕ) (f : LineFault) (made : Result (Vec ℕ) Memory) (reply : List ℕ) → (f ≢ fault.Memory → IfOk made (λ bytes. bytes.items ≡ input_fault_line k (fault_view f))) → (f ≡ fault.Memory → IsErr made) → reply ≡ made_text k made
    → TellsFault k f reply
tells_fault_of k f (Ok bytes) reply told none is = inl (some, is ∙ told some)
  where
    some : f ≢ fault.Memory
    some lacks = never (none lacks)
tells_fault_of k f (Err e) reply told none is = inr is

-- ---- counts of faults

-- opening again tells no failure of the disk
pub reopened_counted : (told : Bool) (may : ℕ → Bool) (s : State) (k bytes : ℕ) (t : State) (before after : ℕ) (result : Result Reply Memory) → Answers (λ line. Takes told one_member may s k bytes core.reopen line t) result
    → Answers (λ line. Takes told one_member may s k bytes core.reopen line t × IsCounted k line before after) result
reopened_counted told may s k bytes t before after result = answers_counted (λ line. Takes told one_member may s k bytes core.reopen line t) k before after result (λ line taken. takes_quiet k told one_member may s bytes core.reopen line t tt taken)

-- nor does the refusal of what is no event
pub fault_told_quiet : (k : ℕ) (f : LineFault) (line : List ℕ) → TellsFault k f line → tells_fault k line ≡ false
fault_told_quiet k f line tells = ⊎_elim
    (λ told. ap (tells_fault k) told.1 ∙ fault_quiet k k (fault_view f))
    (λ lacks. ap (tells_fault k) lacks ∙ memory_quiet k k)
    tells

pub long_told_quiet : (k : ℕ) (line : List ℕ) → TellsTooLong k line → tells_fault k line ≡ false
long_told_quiet k line tells = ⊎_elim
    (λ told. ap (tells_fault k) told ∙ fault_quiet k k line_too_long)
    (λ lacks. ap (tells_fault k) lacks ∙ memory_quiet k k)
    tells

-- ---- the pace

-- opening again keeps it
pub reopened_paced : (told : Bool) (may : ℕ → Bool) (s : State) (k bytes : ℕ) (t : State) (before after : ℕ) (had has : Left) (result : Result Reply Memory) → AreWithin has had
    → Answers (λ line. Takes told one_member may s k bytes core.reopen line t × IsCounted k line before after) result
    → Answers (λ line. Takes told one_member may s k bytes core.reopen line t × IsCounted k line before after × ((d : DueOf) → Paces one_member d s k core.reopen line t had has)) result
reopened_paced told may s k bytes t before after had has result less =
    answers_more (λ line. Takes told one_member may s k bytes core.reopen line t × IsCounted k line before after) (λ line. Takes told one_member may s k bytes core.reopen line t × IsCounted k line before after × ((d : DueOf) → Paces one_member d s k core.reopen line t had has)) result
    (λ line (taken, counted). (taken, counted, λ d. reopen_paces one_member d s k line t had has less))

-- so does the refusal of what is no event
pub refuses_paced : (d : DueOf) (s : State) (k : ℕ) (piece : List ℕ) (f : LineFault) (reply : List ℕ) (had has : Left) → (f ≢ fault.Memory → event_from piece ≡ Err (fault_view f)) → AreWithin has had → TellsFault k f reply → LinePaces one_member d s k piece reply s had has
refuses_paced d s k piece f reply had has asked less tells = ⊎_elim
    (λ told. fault_line_paces one_member d s k piece reply (fault_view f) s had has (asked told.0) less)
    (λ lacks. memory_line_paces one_member d s k piece reply s had has lacks less)
    tells

pub long_paced : (d : DueOf) (s : State) (k : ℕ) (piece reply : List ℕ) (had has : Left) → max_line < length piece → AreWithin has had → TellsTooLong k reply → LinePaces one_member d s k piece reply s had has
long_paced d s k piece reply had has long less tells = ⊎_elim
    (λ told. fault_line_paces one_member d s k piece reply line_too_long s had has (long_is piece long) less)
    (λ lacks. memory_line_paces one_member d s k piece reply s had has lacks less)
    tells

pub stays_within : (a : Left) → AreWithin a a
stays_within a = λ i. same (a i)
  where
    same : (n : ℕ) → n ≤ n
    same n = omega arith
