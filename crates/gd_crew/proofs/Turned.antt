-- What the turns of the code are, in plain terms.
use Rattle.std.proofs.Common.{◌≡◌, refl, ℕ, ◌≤◌, ◌<◌, inl, inr, true, false, List, [], ◌++◌, length, map, append-nil, append_assoc, Option, Some, None, Result, Ok, Err, slice_get, option_map, sym, subst, ap, ◌∙◌, arith, Vec, Global, length-append}
use Rattle.std.specs.Prelude.{IfSome, IfOk, is_some, vec_capacity}
use Rattle.std.specs.Result.{result_ok}
use Rattle.std.proofs.lemmas.Option.{IfSome_then, slice_get-map}
use Rattle.std.proofs.lemmas.List.{length-map}
use Rattle.std.proofs.lemmas.List.Sums.{length-filter, count_by-le-length}
use mathlib.Core.List.{IsPrefix}
use Rattle.gd_base.specs.Counts.{Rose}
use Rattle.gd_base.specs.declared.memory.Memory.{Memory}
use Rattle.gd_prim.specs.declared.Batch.{Batch}
use Rattle.gd_defs.specs.Lines.{err_line}
use Rattle.gd_runs.specs.Request.{ReadSet}
use Rattle.gd_runs.specs.Core.{Reading, owed_line, reading_of}
use Rattle.gd_core_laws.proofs.Reading.{refuses}
use Rattle.gd_seats.specs.PassedOn.{fault_at, ReadFault, reading_view}
use Rattle.gd_seats.specs.PassedOn.read_fault
use Rattle.gd_seats.specs.Session.{SessionValue, reads as what_reads, seen_of as seat_seen}
use Rattle.gd_seats.specs.declared.fault.SessionFault.{SessionFault}
use Rattle.gd_seats.specs.declared.fault.SessionFault.TheVariants as fault
use Rattle.gd_seats.specs.Calls.{HasEntered, HasBegun, HasBegunAt, IsRefused, IsRefusedAt, HasLooked, HasBadCursor, WasTurnedAway, BeginsAs, BeginsOver, LooksAs}
use Rattle.gd_seats.specs.declared.session.Looked.{Looked}
use Rattle.gd_lookup.specs.Found.{IsReplyAt}
use Rattle.gd_lookup.proofs.Datelines.{given, dateline_given}
use Rattle.gd_cache.proofs.Answered.{kept_later}
use Rattle.gd_crew.specs.declared.job.Job.{Job}
use Rattle.gd_crew.specs.declared.job.LookUp.{LookUp}
use Rattle.gd_crew.specs.declared.job.ReadReply.{ReadReply}
use Rattle.gd_crew.specs.declared.job.Work.{Work}
use Rattle.gd_crew.specs.declared.job.Work.TheVariants.{Read}
use Rattle.gd_mql.specs.Requests.{read_set_view}
use Rattle.gd_mql.specs.declared.request.ReadSet.{ReadSet as ReadRequests}
use Rattle.std.specs.Borrow.{Bor}
use Rattle.gd_crew.specs.declared.reading.ReadTurn.{ReadTurn}
use Rattle.gd_crew.specs.declared.reading.ReadTurn.TheVariants as turn
use Rattle.gd_crew.specs.declared.seated.Seated.{Seated}
use Rattle.gd_crew.specs.Reading.{LooksFor, LooksFrom, IsTurnedAway, BeginsReading, SeatGrows, RepliesAtOnce, RepliesOwed, bytes_of, TurnsRead}
use Rattle.gd_crew.specs.Writing.{HasLearned}
use Rattle.gd_crew.specs.Runs.{JobValue, IsLookRight, is_read, reads}
use Rattle.gd_crew.specs.Turns.{SameJobs, Grows, Waits, Answers, Halts, WriteTurn}
use Rattle.gd_crew.specs.Turns as step
use Rattle.gd_crew.specs.Seated.{share_of, work_view, look_in, job_view, reply_view, IsNew, KeepsReply, TakesRead, TakesWritten}

prefix_length : (xs ys : List Batch) → IsPrefix xs ys → length xs ≤ length ys
prefix_length xs ys p = omega (arith, sym (ap length p.1) ∙ length-append xs p.0)

-- ---- a read that is refused

-- a session that has entered has seen just what it entered
pub seen_entered : (old new : SessionValue) → HasEntered old.seat new.seat → seat_seen new.seat ≡ length new.seat.entered
seen_entered old new h = let same = ap length h.all in omega (arith, same)

pub entered_grows : (old new : SessionValue) → HasEntered old.seat new.seat → SeatGrows old.seat new.seat
entered_grows old new h = record {
  table = h.table;
  entered = h.entered;
  told = subst (λ (l : List Batch). IsPrefix old.seat.told l) (sym h.all) h.told;
  seen = (let a = prefix_length old.seat.entered new.seat.entered h.entered in let b = prefix_length old.seat.told new.seat.entered h.told in omega (arith, a, b));
  turned_away = h.turned_away;
}

prefix_on : (xs ys zs : List Batch) → IsPrefix xs ys → IsPrefix ys zs → IsPrefix xs zs
prefix_on xs ys zs p q = (p.0 ++ q.0, sym (append_assoc xs p.0 q.0) ∙ (ap (λ (l : List Batch). l ++ q.0) p.1 ∙ q.1))

same_prefix : (xs ys : List Batch) → ys ≡ xs → IsPrefix xs ys
same_prefix xs ys e = ([], append-nil xs ∙ sym e)

-- what a session had seen is within what it entered
seen_within : (old new : SessionValue) → HasEntered old.seat new.seat → seat_seen old.seat ≤ length new.seat.entered
seen_within old new h = let a = prefix_length old.seat.entered new.seat.entered h.entered in let b = prefix_length old.seat.told new.seat.entered h.told in omega (arith, a, b)

-- a session that enters after it has looked
grows_twice : (before old new : SessionValue) (at : ℕ) → LooksFrom before old at → HasEntered old.seat new.seat → SeatGrows before.seat new.seat
grows_twice before old new at looked h =
    let first = entered_grows before old looked.entered in
    let then_on = entered_grows old new h in
    record {
      table = then_on.table ∙ first.table;
      entered = prefix_on before.seat.entered old.seat.entered new.seat.entered first.entered then_on.entered;
      told = prefix_on before.seat.told old.seat.told new.seat.told first.told then_on.told;
      seen = (let a = first.seen in let b = then_on.seen in omega (arith, a, b));
      turned_away = then_on.turned_away ∙ first.turned_away;
    }

-- where a read is refused at a snapshot, the line of the fault is its reply
once : (old new : SessionValue) (k n : ℕ) (q : ReadSet) (f : ReadFault) (made : Result (Vec ℕ Global) Memory) → SeatGrows old.seat new.seat → what_reads new ≡ None → seat_seen old.seat ≤ n → n ≤ length new.seat.entered
    → (((f ≡ read_fault.Memory) → ⊥) → reading_of new.seat.entered n q ≡ Err (fault_at n f)) → IfOk made (λ bytes. bytes.items ≡ err_line (fault_at n f).0 k (fault_at n f).1) → IfOk made (λ _. (f ≡ read_fault.Memory) → ⊥) → RepliesAtOnce old new k q n (bytes_of (result_ok made))
once old new k n q f (Err none) grows holds late within of is wanted = record { seat = grows; none = holds; is = tt }
once old new k n q f (Ok bytes) grows holds late within of is wanted = record { seat = grows; none = holds; is = (late, within, is ∙ refuses new.seat.entered n k q (fault_at n f) (of wanted)) }

-- a read that is refused where it begins
pub refused_reply : (old new : SessionValue) (k n : ℕ) (q : ReadSet) (f : ReadFault) (made : Result (Vec ℕ Global) Memory) → (e : SessionFault) → e ≡ fault.Read f → BeginsAs old new q (Err e) → n ≡ seat_seen new.seat
    → IfOk made (λ bytes. bytes.items ≡ err_line (fault_at n f).0 k (fault_at n f).1) → IfOk made (λ _. (f ≡ read_fault.Memory) → ⊥) → RepliesAtOnce old new k q n (bytes_of (result_ok made))
refused_reply old new k n q f made e e_is begins at is wanted =
    let (entered, refused) : HasEntered old.seat new.seat × IsRefused new q f = subst (λ x. BeginsAs old new q (Err x)) e_is begins in
    let all : n ≡ length new.seat.entered = at ∙ seen_entered old new entered in
    let seen = seen_within old new entered in
    once old new k n q f made (entered_grows old new entered) refused.none (omega (arith, all, seen)) (omega (arith, all)) (λ not. subst (λ (m : ℕ). reading_of new.seat.entered m q ≡ Err (fault_at m f)) (sym all) (refused.of not)) is wanted

-- one that is refused where it begins at what was looked at
pub refused_later : (before old new : SessionValue) (k at : ℕ) (q : ReadSet) (f : ReadFault) (made : Result (Vec ℕ Global) Memory) → (e : SessionFault) → e ≡ fault.Read f → LooksFrom before old at → BeginsOver at old new q (Err e)
    → IfOk made (λ bytes. bytes.items ≡ err_line (fault_at at f).0 k (fault_at at f).1) → IfOk made (λ _. (f ≡ read_fault.Memory) → ⊥) → RepliesAtOnce before new k q at (bytes_of (result_ok made))
refused_later before old new k at q f made e e_is looked begins is wanted =
    let (entered, refused) : HasEntered old.seat new.seat × IsRefusedAt at new q f = subst (λ x. BeginsOver at old new q (Err x)) e_is begins in
    let all = looked.snapshot_is in
    let seen = seen_within before old looked.entered in
    let longer = prefix_length old.seat.entered new.seat.entered entered.entered in
    once before new k at q f made (grows_twice before old new at looked entered) refused.none (omega (arith, all, seen)) (omega (arith, all, longer)) refused.of is wanted

-- one whose cursor is refused
pub refused_cursor : (old new : SessionValue) (k n : ℕ) (q : ReadSet) (f : ReadFault) (made : Result (Vec ℕ Global) Memory) → (e : SessionFault) → e ≡ fault.Read f → what_reads old ≡ None → LooksAs old new q (Err e) → n ≡ seat_seen new.seat
    → IfOk made (λ bytes. bytes.items ≡ err_line (fault_at n f).0 k (fault_at n f).1) → IfOk made (λ _. (f ≡ read_fault.Memory) → ⊥) → RepliesAtOnce old new k q n (bytes_of (result_ok made))
refused_cursor old new k n q f made e e_is none looks at is wanted =
    let (entered, refused, same) : HasEntered old.seat new.seat × HasBadCursor new q f × (what_reads new ≡ what_reads old) = subst (λ x. LooksAs old new q (Err x)) e_is looks in
    let all : n ≡ length new.seat.entered = at ∙ seen_entered old new entered in
    let seen = seen_within old new entered in
    once old new k n q f made (entered_grows old new entered) (same ∙ none) (omega (arith, all, seen)) (omega (arith, all)) (λ not. subst (λ (m : ℕ). reading_of new.seat.entered m q ≡ Err (fault_at m f)) (sym all) (refused.of not)) is wanted

-- ---- a read that begins

pub begins_now : (old new : SessionValue) (q : ReadSet) (n m : ℕ) → HasEntered old.seat new.seat × HasBegun new q m → n ≡ seat_seen new.seat → BeginsReading old new q n
begins_now old new q n m (entered, begun) at =
    let all : n ≡ length new.seat.entered = at ∙ seen_entered old new entered in
    let seen = seen_within old new entered in record {
      seat = entered_grows old new entered;
      begun = begun.begun;
      of = subst (λ (i : ℕ). reading_of new.seat.entered i q ≡ Ok begun.begun) (sym all) begun.of;
      held = begun.held;
      within = omega (arith, all);
      late = omega (arith, all, seen);
    }

pub begins_later : (before old new : SessionValue) (q : ReadSet) (at m : ℕ) → LooksFrom before old at → HasEntered old.seat new.seat × HasBegunAt at new q m → BeginsReading before new q at
begins_later before old new q at m looked (entered, begun) =
    let all = looked.snapshot_is in
    let seen = seen_within before old looked.entered in
    let longer = prefix_length old.seat.entered new.seat.entered entered.entered in record {
      seat = grows_twice before old new at looked entered;
      begun = begun.begun;
      of = begun.of;
      held = begun.held;
      within = omega (arith, all, longer);
      late = omega (arith, all, seen);
    }

-- ---- a read whose reply is looked up

-- what is found is the reply
pub found_reply : (before old : SessionValue) (k : ℕ) (q : ReadSet) (look : LookUp) (l : Looked) (bytes : List ℕ) → LooksFrom before old l.snapshot → what_reads old ≡ None → HasLooked old q l → LooksFor old.seat.entered q (Some look) → IsReplyAt look.cache.now look.text.now l.dateline k bytes
    → RepliesAtOnce before old k q l.snapshot (Some bytes)
found_reply before old k q look l bytes looked none has right reply =
    let all = looked.snapshot_is in
    let seen = seen_within before old looked.entered in
    let within : l.snapshot ≤ length old.seat.entered = omega (arith, all) in record {
      seat = entered_grows before old looked.entered;
      none = none;
      is = (omega (arith, all, seen), within, reply old.seat.entered q l.snapshot right.0 right.1 within (dateline_given l.snapshot q ∙ ap given has.dateline));
    }

-- there was no memory
pub no_reply : (before old : SessionValue) (k at n : ℕ) (q : ReadSet) → LooksFrom before old at → what_reads old ≡ None → RepliesAtOnce before old k q n None
no_reply before old k at n q looked none = record { seat = entered_grows before old looked.entered; none = none; is = tt }

-- what a session looks up is right over what it entered, too
pub look_entered : (old new : SessionValue) (q : ReadSet) (look : LookUp) → HasEntered old.seat new.seat → LooksFor old.seat.told q (Some look) → LooksFor new.seat.entered q (Some look)
look_entered old new q look entered right = (kept_later old.seat.told new.seat.entered look.cache.now entered.told right.0, right.1)

pub looks_from : (old new : SessionValue) (q : ReadSet) (l : Looked) → LooksAs old new q (Ok l) → LooksFrom old new l.snapshot
looks_from old new q l (entered, has, same) = record { entered = entered; snapshot_is = has.snapshot; held = same }

-- ---- a session that is turned away

pub away : (old new : SessionValue) → WasTurnedAway old new → IsTurnedAway old new
away old new was =
    let entered = ap (λ (m : SessionValue). m.seat.entered) was.counted in
    let told = ap (λ (m : SessionValue). m.seat.told) was.counted in record {
      table = ap (λ (m : SessionValue). m.seat.history) was.counted;
      entered = same_prefix old.seat.entered new.seat.entered entered;
      told = same_prefix old.seat.told new.seat.told told;
      seen = (let a = ap length entered in let b = ap length told in omega (arith, a, b));
      rose = was.rose;
      more = (let count = ap (λ (m : SessionValue). m.seat.turned_away) was.counted in omega (arith, count));
      held = ap what_reads was.counted;
    }

pub away_later : (before old new : SessionValue) (at : ℕ) → LooksFrom before old at → WasTurnedAway old new → IsTurnedAway before new
away_later before old new at looked was =
    let last = away old new was in
    let first = entered_grows before old looked.entered in record {
      table = last.table ∙ first.table;
      entered = prefix_on before.seat.entered old.seat.entered new.seat.entered first.entered last.entered;
      told = prefix_on before.seat.told old.seat.told new.seat.told first.told last.told;
      seen = (let a = first.seen in let b = last.seen in omega (arith, a, b));
      rose = subst (λ (n : ℕ). Rose n new.seat.turned_away) first.turned_away last.rose;
      more = (let a = first.turned_away in let b = last.more in omega (arith, a, b));
      held = last.held ∙ looked.held;
    }

-- ---- room for the replies

-- no more jobs are reads than there are
pub few_reads : (jobs : List Job) → length (reads (map job_view jobs)) ≤ length jobs
few_reads jobs =
    let some = length-filter (λ (j : JobValue). is_read j.work) (map job_view jobs) in
    let most = count_by-le-length (λ (j : JobValue). is_read j.work) (map job_view jobs) in let all = length-map jobs job_view in omega (arith, some, most, all)

-- of a session with its jobs nothing is done yet, where there is room for a reply of each
pub is_new : (sid : ℕ) (session : SessionValue) (jobs : Vec Job Global) (kept : Vec ReadReply Global) → kept.items ≡ [] → length jobs.items ≤ vec_capacity kept
    → IsNew sid session jobs.items (share_of (record { sid = sid; session = session; jobs = jobs; replies = kept; stop = None; done = 0; before = None; at = None }))
is_new sid session jobs kept none room = record {
  is = ap (λ (rs : List ReadReply). record {
    sid = sid;
    jobs = map job_view jobs.items;
    done = 0;
    before = None;
    table = session.seat.history;
    entered = session.seat.entered;
    told = session.seat.told;
    turned_away = session.seat.turned_away;
    reading = what_reads session;
    at = None;
    replies = map reply_view rs;
    room = vec_capacity kept;
    stop = None;
  })
      none;
  enough = (let few = few_reads jobs.items in omega (arith, few, room));
}

-- ---- the job that is next

pub at_job : (s : Seated) (j : Job) → slice_get s.jobs.items s.done ≡ Some j → slice_get (share_of s).jobs (share_of s).done ≡ Some (job_view j)
at_job s j at = slice_get-map job_view s.jobs.items s.done ∙ ap (option_map job_view) at

-- where the reply to the read of a job may be kept
pub looks_for : (batches : List Batch) (work : Work) (sid : ℕ) (request : Bor ReadRequests) (look : Option LookUp) → work ≡ Read sid request look → IfSome (look_in work) (IsLookRight batches (work_view work)) → LooksFor batches (read_set_view request.now) look
looks_for batches work sid request look is right = by look (subst (λ (w : Work). IfSome (look_in w) (IsLookRight batches (work_view w))) is right)
  where
    by : (o : Option LookUp) → IfSome (look_in (Read sid request o)) (IsLookRight batches (work_view (Read sid request o))) → LooksFor batches (read_set_view request.now) o
    by None right = tt
    by (Some l) right = (right.keeps, right.text sid (read_set_view request.now) refl)

pub has_room : (s : Seated) → length (share_of s).replies < (share_of s).room → length s.replies.items < vec_capacity s.replies
has_room s less = let same = length-map s.replies.items reply_view in omega (arith, same, less)

-- ---- a turn at a read

abbrev pub TakenIn : Seated → JobValue → ReadSet → Seated → Type 0
TakenIn s j q w = SameJobs (share_of s) (share_of w) × step.ReadTurn (share_of s) j q (share_of w)

kept : (s w : Seated) (new : SessionValue) (k n : ℕ) (reply : Option (List ℕ)) → SeatGrows s.session.seat new.seat → KeepsReply (record s { session = new }) k n reply w → SameJobs (share_of s) (share_of w) × Grows (share_of s) (share_of w)
kept s w new k n reply g r =
    let at : SeatGrows s.session.seat w.session.seat = subst (λ (m : SessionValue). SeatGrows s.session.seat m.seat) (sym r.session) g in
    (record { sid = r.sid; jobs = ap (λ (js : Vec Job Global). map job_view js.items) r.jobs; table = at.table; room = r.room }, record { entered = at.entered; told = at.told; seen = at.seen; turned_away = at.turned_away })

answers : (s w : Seated) (new : SessionValue) (j : JobValue) (n : ℕ) (reply : Option (List ℕ)) → s.stop ≡ None → what_reads new ≡ None → KeepsReply (record s { session = new }) j.line n reply w → Answers (share_of s) j n reply (share_of w)
answers s w new j n reply goes none r = record {
  done = r.done;
  before = r.before;
  replies = r.replies;
  reading = ap what_reads r.session ∙ none;
  at = r.ended;
  stop = r.stop ∙ goes;
}

turned_shut : (s w : Seated) (new : SessionValue) (j : JobValue) (q : ReadSet) → IsTurnedAway s.session new → TakesRead (record s { session = new }) j.line turn.Shut w → TakenIn s j q w
turned_shut s w new j q shut taken = subst (λ (u : Seated). TakenIn s j q u) (sym taken) (
  record { sid = refl; jobs = refl; table = shut.table; room = refl },
  step.is_shut shut.entered shut.told shut.seen shut.rose shut.more shut.held refl (record { done = refl; before = refl; replies = refl; stop = refl }),
)

-- a turn at a read that was taken in
pub turned_read : (s w : Seated) (new : SessionValue) (j : JobValue) (q : ReadSet) (what : ReadTurn) → s.stop ≡ None → is_some s.at ≡ is_some (what_reads s.session) → TurnsRead s.session s.at j.line q what new
    → TakesRead (record s { session = new }) j.line what w → TakenIn s j q w
turned_read s w new j q what goes both turned taken = by s.at refl what turned taken (what_reads s.session) refl
  where
    by : (at : Option ℕ) → s.at ≡ at → (t : ReadTurn) → TurnsRead s.session at j.line q t new → TakesRead (record s { session = new }) j.line t w → (held : Option Reading) → what_reads s.session ≡ held → TakenIn s j q w
    by None at (turn.Going n) b took held is = subst (λ (u : Seated). TakenIn s j q u) (sym took) (
      record { sid = refl; jobs = refl; table = b.seat.table; room = refl },
      step.begins b.begun n (record { entered = b.seat.entered; told = b.seat.told; seen = b.seat.seen; turned_away = b.seat.turned_away }) b.late b.within b.of b.held refl (record { done = refl; before = refl; replies = refl; stop = goes }),
    )
    by None at (turn.Answered n reply) b took held is =
        let both = kept s w new j.line n (bytes_of reply) b.seat took in
        (both.0, step.is_refused n (bytes_of reply) both.1 (subst (λ (m : SessionValue). RepliesAtOnce s.session m j.line q n (bytes_of reply)) (sym took.session) b).is (answers s w new j n (bytes_of reply) goes b.none took))
    by None at turn.Shut b took held is = turned_shut s w new j q b took
    by (Some m) at (turn.Going n) b took held is = subst (λ (u : Seated). TakenIn s j q u) (sym took) (
      record { sid = refl; jobs = refl; table = b.0.table; room = refl },
      step.goes_on (record { entered = b.0.entered; told = b.0.told; seen = b.0.seen; turned_away = b.0.turned_away }) b.1 (ap (λ (i : ℕ). Some i) b.2 ∙ sym at) (record { done = refl; before = refl; replies = refl; stop = goes }),
    )
    by (Some m) at (turn.Answered n reply) b took None is = absurd (none_held (sym (ap is_some at) ∙ (both ∙ ap is_some is)))
      where
        none_held : true ≡ false → ⊥
        none_held e = cc
    by (Some m) at (turn.Answered n reply) b took (Some r) is =
        let both = kept s w new j.line n (bytes_of reply) b.0.seat took in
        let owed : IfSome (bytes_of reply) (λ bytes. IfSome (what_reads s.session) (λ x. bytes ≡ owed_line w.session.seat.entered j.line x)) =
        (subst (λ (x : SessionValue). RepliesOwed s.session x j.line (bytes_of reply)) (sym took.session) b.0).is in (
          both.0,
          step.is_answered r n (bytes_of reply) both.1 is (at ∙ ap (λ (i : ℕ). Some i) (sym b.1))
              (IfSome_then (bytes_of reply) owed (λ bytes h. subst (λ (o : Option Reading). IfSome o (λ x. bytes ≡ owed_line w.session.seat.entered j.line x)) is h)) (answers s w new j n (bytes_of reply) goes b.0.none took),
        )
    by (Some m) at turn.Shut b took held is = turned_shut s w new j q (away s.session new b) took

-- ---- a turn at a write

-- a turn at a write that was taken in
pub turned_write : (s w : Seated) (new : SessionValue) (j : JobValue) (res : Result (Unit {0}) Memory) → s.stop ≡ None → HasLearned s.session new → TakesWritten (record s { session = new }) j.line res w
    → SameJobs (share_of s) (share_of w) × WriteTurn (share_of s) j (share_of w)
turned_write s w new j (Ok done) goes learned taken = subst (λ (u : Seated). SameJobs (share_of s) (share_of u) × WriteTurn (share_of s) j (share_of u)) (sym taken) (
  record { sid = refl; jobs = refl; table = learned.table; room = refl },
  record { entered = learned.entered; told = learned.told; turned_away = learned.turned_away; reading = ap (option_map reading_view) learned.held; at = refl; replies = refl; step = inl (refl, refl, goes) },
)
turned_write s w new j (Err none) goes learned taken = subst (λ (u : Seated). SameJobs (share_of s) (share_of u) × WriteTurn (share_of s) j (share_of u)) (sym taken) (
  record { sid = refl; jobs = refl; table = learned.table; room = refl },
  record { entered = learned.entered; told = learned.told; turned_away = learned.turned_away; reading = ap (option_map reading_view) learned.held; at = refl; replies = refl; step = inr (refl, refl, refl) },
)
