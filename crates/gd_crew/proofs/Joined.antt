-- A round with its workers, from its beginning to the join.
use Rattle.std.proofs.Common.{◌≡◌, refl, ℕ, zero, suc, ◌<◌, Bool, true, false, IsTrue, cond, List, [], ◌∷◌, length, map, take, slice_index_or, Option, sym, subst, ap, ◌∙◌, arith, min}
use Rattle.std.specs.List.{All, AllByRecursion, AllZip}
use Rattle.std.specs.Option.{is_some}
use Rattle.std.proofs.lemmas.List.{length-replicate}
use Rattle.std.proofs.lemmas.List.Elements.{recursion_from_All}
use Rattle.std.proofs.lemmas.Option.{IfSome_then}
use Rattle.logbook.specs.Pages.{Book}
use Rattle.gd_prim.specs.declared.Batch.{Batch}
use Rattle.gd_runs.specs.Request.{reply_of}
use Rattle.gd_runs.specs.Side.{Begun, WriteLine, KeepsRound}
use Rattle.gd_core_laws.specs.Round.{write_lines}
use Rattle.gd_core_laws.specs.Writes.{AreNew}
use Rattle.gd_core_laws.proofs.WriteLines.{line_there}
use Rattle.gd_input.specs.declared.line.RoundLine.{RoundLine}
use Rattle.gd_input.specs.declared.line.RoundLine.TheVariants.{Bytes, TooLong}
use Rattle.gd_input.specs.Line.{IsShort}
use Rattle.gd_input.specs.Rounds.{AreKept}
use Rattle.gd_writer.specs.Side.{SideValue}
use Rattle.gd_crew.specs.Round.{Named, begun, most, StandsInRound, LeavesSince, BeginsRound, IsLocked}
use Rattle.gd_round_lines.specs.declared.work.ReadLine.{ReadLine}
use Rattle.gd_round_lines.specs.declared.work.Works.{Works}
use Rattle.gd_round_lines.specs.Works.{texts_of, write_of}
use Rattle.gd_round_lines.specs.Fresh.{IsFreshFrom}
use Rattle.gd_crew.specs.declared.seated.Seated.{Seated}
use Rattle.gd_crew.specs.declared.worker.Worker.{Worker}
use Rattle.gd_crew.specs.Runs.{JobValue, ReplyValue, is_read, reads, IsReply, RunsShare}
use Rattle.gd_crew.specs.Seated.{share_of}
use Rattle.gd_crew.specs.Jobs.{IsJob, AreJobs}
use Rattle.gd_crew.specs.Ready.{IsReady, IsManned, lent}
use Rattle.gd_crew.specs.Texts.{too_many, kept_lines}
use Rattle.gd_crew.specs.Joined.{begun_by, IsJoined, MayRun, HaveRun, IsReplyOver, HasRead, HasWorked}

-- ---- the lines

many : 262_144 < length too_many
unfolding too_many
many = let count = length-replicate {A = ℕ} 262_145 0 in omega (arith, count)

lines_kept : (lines : List RoundLine) → AllByRecursion IsShort lines → AreKept lines (texts_of (kept_lines lines))
lines_kept [] all = tt
lines_kept (Bytes v ∷ ls) (short, rest) = ((refl, short), lines_kept ls rest)
lines_kept (TooLong ∷ ls) (short, rest) = (many, lines_kept ls rest)

pub kept : (lines : List RoundLine) → All IsShort lines → AreKept lines (texts_of (kept_lines lines))
kept lines short = lines_kept lines (recursion_from_All IsShort lines short)

-- ---- the side

module _ {D C : Type 0} (content : D → Option (List ℕ)) (moment : D → ℕ) (faults : D → ℕ) (may : C → ℕ → Bool) (side : SideValue D C) (first : ℕ) (lines : List RoundLine) where
  -- what stands when the round begins, and its lines
  abbrev pub named : Named
  named = record {
    table = side.table;
    may = may side.clock;
    told = is_some (content side.log.disk);
    moment = moment side.log.disk;
    history = side.history;
    shown = length side.shown;
    doubt = side.doubt;
    faults = faults side.log.disk;
    first = first;
    given = kept_lines lines;
  }

  are_new : IsFreshFrom first side.history side.doubt → AreNew (begun named)
  are_new fresh = record {
    entries = λ i e a x at_a at_x same. let number = (line_there first (kept_lines lines) i a at_a).number in (fresh a.line (omega (arith, number))).entries e x at_x (sym same);
    doubted = λ i a x at_a was same. let number = (line_there first (kept_lines lines) i a at_a).number in (fresh a.line (omega (arith, number))).doubted x was (sym same);
  }

  pub begins_round : side.outcomes ≡ [] → IsFreshFrom first side.history side.doubt → BeginsRound content moment faults may named side
  begins_round none fresh = record {
    table = refl;
    clock = refl;
    told = refl;
    moment_is = refl;
    history = refl;
    shown = refl;
    doubt = refl;
    count = refl;
    outcomes = none;
    fresh = are_new fresh;
  }

  pub is_joined : (images : D → List ℕ → Type 0) (images_since : D → ℕ → List ℕ → Type 0) (ws : List WriteLine) (new : SideValue D C) → ws ≡ write_lines first (kept_lines lines) → IsLocked content moment images images_since faults may named new
      → IsJoined content moment images images_since faults may ws side new
  is_joined images images_since ws new is locked = record {
    table = locked.table;
    clock = locked.clock;
    told = locked.told;
    moments = λ tells. subst (λ (ls : List WriteLine). LeavesSince moment images images_since (moment side.log.disk) new.log.disk (StandsInRound (may side.clock) (begun_by faults side ls))) (sym is)
        (locked.moments (subst (λ (b : Bool). IsTrue b) (sym locked.told) tells));
    grows = locked.grows;
    fronts = λ tells. locked.fronts (subst (λ (b : Bool). IsTrue b) (sym locked.told) tells);
    later = locked.later;
    entries = locked.new;
    lock = subst (λ (ls : List WriteLine). KeepsRound (begun_by faults side ls) new.history (length new.shown) new.doubt (min (faults new.log.disk) most) most new.outcomes locked.new) (sym is) locked.lock;
  }

-- ---- the workers

pub all_may_run : (l : Begun) (table : Book) (works : Works) (ws : List Worker) → l.lines ≡ map write_of works.writes.items → All (IsManned table works) ws → All (MayRun l table) ws
all_may_run l table works ws lines all k d less = let w = all k d less in record { some = w.some; most = w.most; sessions = λ i e lt. (w.sessions i e lt).begins l lines }

front_jobs : (given : List ReadLine) (js : List JobValue) (n : ℕ) → AreJobs given js → AreJobs given (take n js)
front_jobs given js zero all = tt
front_jobs given [] (suc n) all = tt
front_jobs given (j ∷ js) (suc n) (one, rest) = (one, front_jobs given js n rest)

some_jobs : (given : List ReadLine) (js : List JobValue) → AreJobs given js → AreJobs given (reads js)
some_jobs given [] all = tt
some_jobs given (j ∷ js) (one, rest) = by (is_read j.work) (some_jobs given js rest)
  where
    by : (b : Bool) → AreJobs given (reads js) → AreJobs given (cond b (j ∷ reads js) (reads js))
    by true more = (one, more)
    by false more = more

reply_over : (given : List ReadLine) (floor : ℕ) (list : List Batch) (j : JobValue) (r : ReplyValue) → IsJob given j → IsReply floor list j r → IsReplyOver given list r
reply_over given floor list j r job is = IfSome_then r.reply is.reply (λ bytes at.
    let found = job.among at.session at.request at.asks in record {
      request = at.request;
      of = record { place = found.place; read = found.read; there = found.there; line_is = found.line_is ∙ sym is.line; asks = found.asks };
      within = at.within;
      is = at.is ∙ sym (ap (λ (n : ℕ). reply_of list r.at n at.request) is.line);
    })

replies_over : (given : List ReadLine) (floor : ℕ) (list : List Batch) (js : List JobValue) (rs : List ReplyValue) → AreJobs given js → AllZip (IsReply floor list) js rs → AllByRecursion (IsReplyOver given list) rs
replies_over given floor list [] [] jobs all = tt
replies_over given floor list [] (r ∷ rs) jobs all = absurd all
replies_over given floor list (j ∷ js) [] jobs all = absurd all
replies_over given floor list (j ∷ js) (r ∷ rs) (job, jobs) (one, rest) = (reply_over given floor list j r job one, replies_over given floor list js rs jobs rest)

has_read : (l : Begun) (table : Book) (works : Works) (old new : Seated) → IsReady table works old → RunsShare l table (share_of old) (share_of new) → HasRead table works.reads.items new
has_read l table works old new ready run =
    let w = share_of new in
    let given = works.reads.items in
    let jobs : AreJobs given w.jobs = subst (AreJobs given) (sym run.part.jobs) ready.jobs in record {
      of_table = run.part.of_table;
      replies = replies_over given _ w.entered (reads (take w.done w.jobs)) w.replies (some_jobs given (take w.done w.jobs) (front_jobs given w.jobs w.done jobs)) run.part.replies;
    }

pub all_worked : (l : Begun) (table : Book) (works : Works) (old new : List Worker) → length new ≡ length old → All (IsManned table works) old → HaveRun l table old new → All (HasWorked table works.reads.items) new
all_worked l table works old new same all run k d less =
    let lt : k < length old = omega (arith, same, less) in
    let manned = all k d lt in
    let ran = (run k d lt).ran in
    λ i e within. let below : i < length (slice_index_or old k d).seated.items = (let many = ran.0 in omega (arith, many, within)) in
    has_read l table works (slice_index_or (slice_index_or old k d).seated.items i e) (slice_index_or (slice_index_or new k d).seated.items i e) (manned.sessions i e below) (ran.1 i e below)

pub lent_same : (l : Begun) (table : Book) (old new : List Worker) → length new ≡ length old → HaveRun l table old new → lent new ≡ lent old
lent_same l table [] [] same run = refl
lent_same l table [] (w ∷ ws) same run = absurd (omega (arith, same))
lent_same l table (v ∷ vs) [] same run = absurd (omega (arith, same))
lent_same l table (v ∷ vs) (w ∷ ws) same run =
    let rest = lent_same l table vs ws (omega (arith, same)) (λ i d less. run (suc i) d (omega (arith, less))) in
    let one = (run 0 v (omega arith)).ran.0 in omega (arith, rest, one)
