-- Jobs that are added one after another.
use Rattle.std.proofs.Common.{◌≡◌, refl, ℕ, zero, suc, ◌+◌, ◌<◌, ◌≤◌, ◌==◌, Bool, true, false, cond, List, [], ◌∷◌, ◌++◌, length, map, take, filter, Option, Some, None, Ok, slice_get, sym, subst, ap, ◌∙◌, arith, append-nil, append_assoc, get_or, take_all}
use Rattle.std.specs.Prelude.{IfSome}
use Rattle.std.specs.List.{AllByRecursion}
use Rattle.std.proofs.lemmas.List.{map-append}
use Rattle.std.proofs.lemmas.Option.{slice_get-get_or}
use Rattle.std.proofs.lemmas.List.Elements.{filter-append}
use Rattle.gd_runs.specs.Request.{Line, ReadSet, read, write}
use Rattle.gd_defs.specs.Write as defs
use Rattle.gd_runs.specs.Side as side
use Rattle.gd_runs.proofs.Rounds.{no_some, some_same}
use Rattle.gd_core_laws.specs.Round.{one_write}
use Rattle.gd_core_laws.proofs.Lock.{same_numbers}
use Rattle.gd_core_laws.proofs.Reading.{same_number}
use Rattle.gd_mql.specs.Requests.{read_set_view, write_view}
use Rattle.gd_round_lines.specs.declared.work.ReadLine.{ReadLine}
use Rattle.gd_round_lines.specs.declared.work.WriteLine.{WriteLine}
use Rattle.gd_round_lines.specs.declared.work.Works.{Works}
use Rattle.gd_round_lines.specs.Works.{write_of, IsKeyed, IsReadWithin, IsWriteWithin, MayBeWritten}
use Rattle.gd_round_lines.proofs.Read.{all_append, all_weaker}
use Rattle.gd_cache.specs.Asked.{IsKeyOf}
use Rattle.gd_cache.specs.Shown.{Shown}
use Rattle.gd_crew.specs.declared.job.Job.{Job}
use Rattle.gd_crew.specs.Runs.{JobValue, writes}
use Rattle.gd_crew.specs.Seated.{job_view}
use Rattle.gd_crew.specs.Jobs.{IsJob, look_of, job_of_read, job_of_write, IsLook, AreLooks, AreJobs, AreJobsOf, Adds, MayBeRead, AreNumbered}

pub writes_append : (xs ys : List JobValue) → writes (xs ++ ys) ≡ writes xs ++ writes ys
writes_append [] ys = refl
writes_append (x ∷ xs) ys = ap (λ (ls : List side.WriteLine). one_write x.line x.bytes (Ok x.work) ++ ls) (writes_append xs ys) ∙ sym (append_assoc (one_write x.line x.bytes (Ok x.work)) (writes xs) (writes ys))

-- the write lines among these of a session
abbrev pub own : ℕ → List WriteLine → List WriteLine
own sid ws = filter (λ w. w.session == sid) ws

-- ---- a job more

pub adds_none : (cache : Option Shown) (reads : List ReadLine) (js : List JobValue) → Adds cache reads [] js js
adds_none cache reads js = record { writes_are = sym (append-nil (writes js)); each = λ all. all; looks = λ all. all }

pub adds_then : (cache : Option Shown) (reads : List ReadLine) (xs ys : List WriteLine) (a b c : List JobValue) → Adds cache reads xs a b → Adds cache reads ys b c → Adds cache reads (xs ++ ys) a c
adds_then cache reads xs ys a b c p q = record {
  writes_are = q.writes_are ∙ (ap (λ (ls : List side.WriteLine). ls ++ map write_of ys) p.writes_are ∙ (append_assoc (writes a) (map write_of xs) (map write_of ys) ∙ ap (λ (ls : List side.WriteLine). writes a ++ ls) (sym (map-append write_of xs ys))));
  each = λ all. q.each (p.each all);
  looks = λ all. q.looks (p.looks all);
}

not_read : (s t : ℕ) (w : defs.WriteRequest) (q : ReadSet) → write s w ≡ read t q → ⊥
not_read s t w q e = cc

request_of : ReadSet → Line → ReadSet
request_of d (read t p) = p
request_of d (write t w) = d

read_is : (r : ReadLine) (s : ℕ) (q : ReadSet) → read r.session (read_set_view r.request) ≡ read s q → read_set_view r.request ≡ q
unfolding request_of
read_is r s q e = ap (request_of q) e

-- the reply to a read may be kept in the cache of its session, under its text
read_looks : (cache : Option Shown) (r : ReadLine) → IsKeyed r → IsLook cache (job_of_read cache r)
read_looks cache r keyed = by cache r.key keyed
  where
    by : (o : Option Shown) (key : Option (List ℕ)) → IfSome key (λ text. IsKeyOf text (read_set_view r.request)) → IfSome (look_of o key) (λ l. (o ≡ Some l.cache) × ((s : ℕ) (q : ReadSet) → read r.session (read_set_view r.request) ≡ read s q → IsKeyOf l.text q))
    by None key keyed = tt
    by (Some s) None keyed = tt
    by (Some s) (Some text) keyed = (refl, λ t q e. subst (IsKeyOf text) (read_is r t q e) keyed)

pub adds_read : (cache : Option Shown) (reads : List ReadLine) (place : ℕ) (r : ReadLine) (a b : List JobValue) → slice_get reads place ≡ Some r → MayBeRead r → b ≡ a ++ job_of_read cache r ∷ [] → Adds cache reads [] a b
adds_read cache reads place r a b there may is = record {
  writes_are = ap writes is ∙ writes_append a (job_of_read cache r ∷ []);
  each = λ all. subst (AreJobs reads) (sym is) (all_append (IsJob reads) a (job_of_read cache r ∷ []) all (
    record {
      line = may.0;
      short = omega arith;
      among = λ s q e. record { place = place; read = r; there = there; line_is = refl; asks = read_is r s q e };
    },
    tt,
  ));
  looks = λ all. subst (AreLooks cache) (sym is) (all_append (IsLook cache) a (job_of_read cache r ∷ []) all (read_looks cache r may.1, tt));
}

pub adds_write : (cache : Option Shown) (reads : List ReadLine) (w : WriteLine) (a b : List JobValue) → MayBeWritten w → b ≡ a ++ job_of_write w ∷ [] → Adds cache reads (w ∷ []) a b
adds_write cache reads w a b may is = record {
  writes_are = ap writes is ∙ writes_append a (job_of_write w ∷ []);
  each = λ all. subst (AreJobs reads) (sym is) (all_append (IsJob reads) a (job_of_write w ∷ []) all (
    record {
      line = may.1;
      short = may.0;
      among = λ s q e. absurd (not_read w.session s (write_view w.request) q e);
    },
    tt,
  ));
  looks = λ all. subst (AreLooks cache) (sym is) (all_append (IsLook cache) a (job_of_write w ∷ []) all (tt, tt));
}

-- the read at a place
pub read_at : (reads : List ReadLine) (place : ℕ) (r : ReadLine) → place < length reads → r ≡ get_or reads place r → slice_get reads place ≡ Some r
read_at reads place r within is = slice_get-get_or reads place r within ∙ ap Some (sym is)

pub write_at : (ws : List WriteLine) (i : ℕ) (w : WriteLine) → i < length ws → w ≡ get_or ws i w → slice_get ws i ≡ Some w
write_at ws i w within is = slice_get-get_or ws i w within ∙ ap Some (sym is)

-- a job that was appended
pub one_more_job : (old new : List Job) (j : Job) (v : JobValue) → new ≡ old ++ j ∷ [] → job_view j ≡ v → map job_view new ≡ map job_view old ++ v ∷ []
one_more_job old new j v is view = ap (map job_view) is ∙ (map-append job_view old (j ∷ []) ∙ ap (λ (k : JobValue). map job_view old ++ k ∷ []) view)

-- ---- a write line more

pub same_session : (a b : ℕ) → a ≡ b → (a == b) ≡ true
same_session a b same = subst (λ (n : ℕ). (a == n) ≡ true) same (same_number a)

pub other_session : (a b : ℕ) → (a ≡ b → ⊥) → (a == b) ≡ false
other_session a b other = by (a == b) refl
  where
    by : (t : Bool) → (a == b) ≡ t → t ≡ false
    by true is = absurd (other (same_numbers a b is))
    by false is = refl

pub passes_other : (cache : Option Shown) (reads : List ReadLine) (sid : ℕ) (w : WriteLine) (js : List JobValue) → (w.session == sid) ≡ false → Adds cache reads (own sid (w ∷ [])) js js
passes_other cache reads sid w js other = subst (λ (b : Bool). Adds cache reads (cond b (w ∷ []) []) js js) (sym other) (adds_none cache reads js)

pub takes_own : (cache : Option Shown) (reads : List ReadLine) (sid : ℕ) (w : WriteLine) (a b c : List JobValue) → (w.session == sid) ≡ true → Adds cache reads [] a b → MayBeWritten w → c ≡ b ++ job_of_write w ∷ [] → Adds cache reads (own sid (w ∷ [])) a c
takes_own cache reads sid w a b c same p may is = subst (λ (t : Bool). Adds cache reads (cond t (w ∷ []) []) a c) (sym same) (adds_then cache reads [] (w ∷ []) a b c p (adds_write cache reads w b c may is))

pub own_more : (sid : ℕ) (ws : List WriteLine) (w : WriteLine) → own sid (ws ++ w ∷ []) ≡ own sid ws ++ own sid (w ∷ [])
own_more sid ws w = filter-append (λ (x : WriteLine). x.session == sid) ws (w ∷ [])

pub adds_next : (cache : Option Shown) (reads : List ReadLine) (sid : ℕ) (ws : List WriteLine) (i : ℕ) (w : WriteLine) (a b c : List JobValue) → slice_get ws i ≡ Some w → Adds cache reads (own sid (take i ws)) a b → Adds cache reads (own sid (w ∷ [])) b c
    → Adds cache reads (own sid (take (i + 1) ws)) a c
adds_next cache reads sid ws i w a b c at p q = subst (λ (ls : List WriteLine). Adds cache reads ls a c) (sym (ap (own sid) (take_next ws i w at) ∙ own_more sid (take i ws) w)) (adds_then cache reads (own sid (take i ws)) (own sid (w ∷ [])) a b c p q)
  where
    take_next : (xs : List WriteLine) (n : ℕ) (x : WriteLine) → slice_get xs n ≡ Some x → take (n + 1) xs ≡ take n xs ++ x ∷ []
    take_next [] n x got = no_some got
    take_next (y ∷ xs) zero x got = ap (λ (z : WriteLine). z ∷ []) (some_same got)
    take_next (y ∷ xs) (suc n) x got = let more : suc n + 1 ≡ suc (n + 1) = omega arith in ap (λ (k : ℕ). take k (y ∷ xs)) more ∙ ap (λ (zs : List WriteLine). y ∷ zs) (take_next xs n x got)

pub all_taken : (cache : Option Shown) (reads : List ReadLine) (sid : ℕ) (ws : List WriteLine) (i : ℕ) (a b : List JobValue) → length ws ≤ i → Adds cache reads (own sid (take i ws)) a b → Adds cache reads (own sid ws) a b
all_taken cache reads sid ws i a b all p = subst (λ (ls : List WriteLine). Adds cache reads (own sid ls) a b) (take_all i ws all) p

-- ---- all of them

own_views : (sid : ℕ) (ws : List WriteLine) → map write_of (own sid ws) ≡ filter (λ a. a.session == sid) (map write_of ws)
own_views sid [] = refl
own_views sid (w ∷ ws) = by (w.session == sid) (own_views sid ws)
  where
    by : (b : Bool) → map write_of (own sid ws) ≡ filter (λ a. a.session == sid) (map write_of ws)
        → map write_of (cond b (w ∷ own sid ws) (own sid ws)) ≡ cond b (write_of w ∷ filter (λ a. a.session == sid) (map write_of ws)) (filter (λ a. a.session == sid) (map write_of ws))
    by true rest = ap (λ (ls : List side.WriteLine). write_of w ∷ ls) rest
    by false rest = rest

pub jobs_all : (cache : Option Shown) (works : Works) (sid : ℕ) (a b : List JobValue) → Adds cache works.reads.items (own sid works.writes.items) [] a → Adds cache works.reads.items [] a b → AreJobsOf cache works sid b
jobs_all cache works sid a b p q =
    let all = adds_then cache works.reads.items (own sid works.writes.items) [] [] a b p q in record {
      writes_are = all.writes_are ∙ ap (map write_of) (append-nil (own sid works.writes.items)) ∙ own_views sid works.writes.items;
      each = all.each tt;
      looks = all.looks tt;
    }

-- ---- lines that are numbered as those of a round

pub may_be_read : (works : Works) → AreNumbered works → AllByRecursion MayBeRead works.reads.items
may_be_read works (first, within, low) = all_weaker (IsReadWithin first (first + length works.numbers.items)) MayBeRead works.reads.items (λ r is. let below = is.1 in (omega (arith, below, low), is.3)) within.reads

pub may_be_written : (works : Works) → AreNumbered works → AllByRecursion MayBeWritten works.writes.items
may_be_written works (first, within, low) = all_weaker (IsWriteWithin first (first + length works.numbers.items)) MayBeWritten works.writes.items (λ w is. let below = is.1 in (is.2, omega (arith, below, low))) within.writes
