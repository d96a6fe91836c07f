-- Sessions that are seated, and workers that have them.
use Rattle.std.proofs.Common.{◌≡◌, refl, ℕ, zero, suc, ◌+◌, ◌<◌, ◌≤◌, ⊎_elim, ◌==◌, List, [], ◌∷◌, ◌++◌, length, map, filter, set, slice_index_or, Option, Some, None, sym, subst, ap, ◌∙◌, arith}
use Rattle.std.specs.Borrow.{Bor}
use Rattle.std.specs.Prelude.{IfSome, option_copied}
use Rattle.std.specs.List.{All}
use Rattle.std.proofs.lemmas.Option.{IfSome_then}
use mathlib.Core.List.{IsPrefix}
use Rattle.std.proofs.lemmas.List.Elements.{All-nil, All-push, All-set, All-pop}
use Rattle.logbook.specs.Pages.{Book}
use Rattle.gd_prim.specs.declared.Batch.{Batch}
use Rattle.gd_runs.specs.Side as side
use Rattle.gd_runs.specs.Side.{Begun}
use Rattle.gd_shared.specs.History.{FrontValue}
use Rattle.gd_shared.specs.Shared.{longer}
use Rattle.gd_seats.specs.Session.{SessionValue, reads as what_reads}
use Rattle.gd_round_lines.specs.declared.work.Works.{Works}
use Rattle.gd_round_lines.specs.Works.{write_of}
use Rattle.gd_round_lines.proofs.Read.{all_at}
use Rattle.gd_cache.specs.Right.{KeepsRight}
use Rattle.gd_cache.specs.Shown.{Shown}
use Rattle.gd_cache.proofs.Answered.{kept_later}
use Rattle.gd_crew.specs.declared.job.Job.{Job}
use Rattle.gd_crew.specs.declared.seated.Seated.{Seated}
use Rattle.gd_crew.specs.declared.worker.Worker.{Worker}
use Rattle.gd_crew.specs.Runs.{JobValue, Share, AreOfRound, LookRight, BeginsShare}
use Rattle.gd_crew.specs.Seated.{share_of, job_view, IsNew}
use Rattle.gd_crew.specs.Jobs.{IsJob, AreJobs, AreLooks, AreJobsOf}
use Rattle.gd_crew.specs.Ready.{IsIdle, IsReady, IsManned, MayHire, lent}

-- ---- a session with its jobs

of_round : (l : Begun) (cache : Option Shown) (works : Works) (sid : ℕ) (jobs : List JobValue) → l.lines ≡ map write_of works.writes.items → AreJobsOf cache works sid jobs → AreOfRound l sid jobs
of_round l cache works sid jobs lines are = record {
  writes = are.writes_are ∙ ap (filter (λ (a : side.WriteLine). a.session == sid)) (sym lines);
  lines = λ i j at. (all_at (IsJob works.reads.items) jobs i j are.each at).line;
  short = λ i j at. (all_at (IsJob works.reads.items) jobs i j are.each at).short;
}

-- what the jobs of a session may look up is right where its cache is
looks_right : (cache : Option Shown) (batches : List Batch) (jobs : List JobValue) → IfSome cache (KeepsRight batches) → AreLooks cache jobs → LookRight batches jobs
looks_right cache batches [] right all = tt
looks_right cache batches (j ∷ js) right (one, rest) = (
  IfSome_then j.look one (λ l is. record { keeps = subst (λ (o : Option Shown). IfSome o (KeepsRight batches)) is.0 right; text = is.1 }),
  looks_right cache batches js right rest,
)

begins : (l : Begun) (cache : Option Shown) (works : Works) (sid : ℕ) (session : SessionValue) (jobs : List Job) (v : Share) → l.lines ≡ map write_of works.writes.items → IfSome cache (KeepsRight session.seat.told) → AreJobsOf cache works sid (map job_view jobs) → IsNew sid session jobs v
    → what_reads session ≡ None → BeginsShare l session.seat.history v
begins l cache works sid session jobs v lines right are new none = subst (BeginsShare l session.seat.history) (sym new.is) (record {
  of_round = of_round l cache works sid (map job_view jobs) lines are;
  of_table = refl;
  room = new.enough;
  done = refl;
  before = refl;
  reading = none;
  at = refl;
  replies = refl;
  stop = refl;
  looks = looks_right cache session.seat.told (map job_view jobs) right are.looks;
})

pub is_ready : (table : Book) (cache : Option Shown) (works : Works) (sid : ℕ) (session : SessionValue) (jobs : List Job) (s : Seated) → IfSome cache (KeepsRight session.seat.told) → AreJobsOf cache works sid (map job_view jobs) → IsNew sid session jobs (share_of s) → session.seat.history ≡ table
    → what_reads session ≡ None → IsReady table works s
is_ready table cache works sid session jobs s right are new of none = record {
  begins = λ l lines. subst (λ (t : Book). BeginsShare l t (share_of s)) of (begins l cache works sid session jobs (share_of s) lines right are new none);
  jobs = subst (AreJobs works.reads.items) (sym (ap (λ (v : Share). v.jobs) new.is)) are.each;
}

-- the cache of a session is right over all that the session was told
pub cache_right : (cache : Option (Bor Shown)) (shown told : List Batch) → IsPrefix shown told → IfSome cache (λ c. KeepsRight shown c.now) → IfSome (option_copied cache) (KeepsRight told)
cache_right None shown told begins right = tt
cache_right (Some c) shown told begins right = kept_later shown told c.now begins right

-- ---- seats that nobody has

pub idle_popped : (table : Book) (old rest : List SessionValue) (s : SessionValue) → old ≡ rest ++ s ∷ [] → All (IsIdle table) old → All (IsIdle table) rest × IsIdle table s
idle_popped table old rest s is all = All-pop (IsIdle table) old rest (Some s) is all

pub idle_back : (table : Book) (old new : List SessionValue) (s : SessionValue) → new ≡ old ++ s ∷ [] → All (IsIdle table) old → IsIdle table s → All (IsIdle table) new
idle_back table old new s is all one = subst (All (IsIdle table)) (sym is) (All-push (IsIdle table) old s all one)

pub idle_learned : (shown : FrontValue) (old new : SessionValue) → new ≡ record old { seat = record old.seat { told = longer old.seat.told shown.list } } → IsIdle shown.history old → IsIdle shown.history new
idle_learned shown old new is idle = subst (IsIdle shown.history) (sym is) idle

-- ---- how many seats workers have

pub lent_push : (ws : List Worker) (w : Worker) → lent (ws ++ w ∷ []) ≡ lent ws + length w.seated.items
lent_push [] w = omega arith
lent_push (v ∷ ws) w = let rest = lent_push ws w in omega (arith, rest)

pub lent_set : (ws : List Worker) (k : ℕ) (d w : Worker) → k < length ws → lent (set ws k w) + length (slice_index_or ws k d).seated.items ≡ lent ws + length w.seated.items
lent_set [] k d w less = absurd (omega (arith, less))
lent_set (v ∷ ws) zero d w less = omega arith
lent_set (v ∷ ws) (suc k) d w less = let rest = lent_set ws k d w (omega (arith, less)) in omega (arith, rest)

-- ---- a worker more

pub hired_lent : (budget : ℕ) (old new : List Worker) → MayHire budget old new → lent new ≡ lent old
hired_lent budget old new may = ⊎_elim (λ same. ap lent same) (λ (w, is, b, none). let more = lent_push old w in let all = ap lent is in let no = ap length none in omega (arith, more, all, no)) may

pub hired_manned : (table : Book) (works : Works) (budget : ℕ) (old new : List Worker) → 0 < budget → budget ≤ 1_000_000 → MayHire budget old new → All (IsManned table works) old → All (IsManned table works) new
hired_manned table works budget old new some most may all = ⊎_elim (λ same. subst (All (IsManned table works)) (sym same) all)
    (λ (w, is, b, none). subst (All (IsManned table works)) (sym is) (All-push (IsManned table works) old w all (record {
      some = omega (arith, b, some);
      most = omega (arith, b, most);
      sessions = subst (All (IsReady table works)) (sym none) (All-nil (IsReady table works));
    })))
    may

-- ---- a session more at a worker

pub seated_manned : (table : Book) (works : Works) (ws : List Worker) (k : ℕ) (d w : Worker) → k < length ws → All (IsManned table works) ws → w.budget ≡ (slice_index_or ws k d).budget → All (IsReady table works) w.seated.items
    → All (IsManned table works) (set ws k w)
seated_manned table works ws k d w less all same ready =
    let was = all k d less in
    let some = was.some in
    let most = was.most in
    All-set (IsManned table works) ws k w (record { some = omega (arith, some, same); most = omega (arith, most, same); sessions = ready }) all
