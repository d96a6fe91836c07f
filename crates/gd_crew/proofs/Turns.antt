-- What each turn of a session keeps.
use Rattle.std.proofs.Common.{◌≡◌, refl, ℕ, zero, suc, ◌+◌, ◌≤◌, ◌<◌, ⊎_elim, List, [], ◌∷◌, ◌++◌, length, take, drop, map, Option, Some, None, Ok, sym, subst, ap, ◌∙◌, arith, append-nil, append_assoc, length-append, take-append-drop, le_refl}
use Rattle.std.specs.Prelude.{slice_get, IfSome, is_some}
use Rattle.std.specs.List.{AllZip, last_or}
use Rattle.std.proofs.lemmas.List.Elements.{filter-append}
use Rattle.std.proofs.lemmas.List.{map-append}
use Rattle.std.proofs.lemmas.Option.{IfSome_then}
use mathlib.Core.List.{IsPrefix}
use Rattle.logbook.specs.Pages.{Book}
use Rattle.gd_prim.specs.declared.Batch.{Batch}
use Rattle.gd_defs.specs.Write.{WriteRequest}
use Rattle.gd_runs.specs.Request.{Line, read, write, ReadSet, reply_of}
use Rattle.gd_runs.specs.Core.{Reading}
use Rattle.gd_runs.specs.Side.{WriteLine, Begun}
use Rattle.gd_runs.proofs.Rounds.{no_some, some_same}
use Rattle.gd_core_laws.specs.Round.{one_write}
use Rattle.gd_core_laws.proofs.Reading.{owes}
use Rattle.gd_crew.specs.Runs.{JobValue, ReplyValue, Share, seen_of, is_read, reads, writes, last_write, AreOfRound, RepliesAt, IsReply, IsStop, IsReading, IsLookRight, LookRight, BeginsShare, RunsPart, IsOver}
use Rattle.gd_crew.specs.Turns.{SameJobs, Grows, Waits, Answers, ReadTurn, begins, goes_on, is_refused, is_answered, is_shut, WriteTurn}
use Rattle.gd_cache.proofs.Answered.{kept_later}
use Rattle.gd_crew.proofs.Grown.{reading_grows, reply_grows}

-- ---- lists

module _ {A B : Type 0} where
  zip_then : (R S : A → B → Type 0) (xs : List A) (ys : List B) → ((x : A) (y : B) → R x y → S x y) → AllZip R xs ys → AllZip S xs ys
  zip_then R S [] [] f z = z
  zip_then R S [] (y ∷ ys) f z = absurd z
  zip_then R S (x ∷ xs) [] f z = absurd z
  zip_then R S (x ∷ xs) (y ∷ ys) f z = (f x y z.0, zip_then R S xs ys f z.1)

  zip_push : (R : A → B → Type 0) (xs : List A) (ys : List B) (x : A) (y : B) → AllZip R xs ys → R x y → AllZip R (xs ++ x ∷ []) (ys ++ y ∷ [])
  zip_push R [] [] x y z r = (r, z)
  zip_push R [] (v ∷ ys) x y z r = absurd z
  zip_push R (u ∷ xs) [] x y z r = absurd z
  zip_push R (u ∷ xs) (v ∷ ys) x y z r = (z.0, zip_push R xs ys x y z.1 r)

  zip_length : (R : A → B → Type 0) (xs : List A) (ys : List B) → AllZip R xs ys → length xs ≡ length ys
  zip_length R [] [] z = refl
  zip_length R [] (v ∷ ys) z = absurd z
  zip_length R (u ∷ xs) [] z = absurd z
  zip_length R (u ∷ xs) (v ∷ ys) z = ap suc (zip_length R xs ys z.1)

prefix_length : (xs ys : List Batch) → IsPrefix xs ys → length xs ≤ length ys
prefix_length xs ys p = omega (arith, sym (ap length p.1) ∙ length-append xs p.0)

same_prefix : (xs ys : List Batch) → ys ≡ xs → IsPrefix xs ys
same_prefix xs ys e = ([], append-nil xs ∙ sym e)

prefix_on : (xs ys zs : List Batch) → IsPrefix xs ys → IsPrefix ys zs → IsPrefix xs zs
prefix_on xs ys zs p q = (p.0 ++ q.0, sym (append_assoc xs p.0 q.0) ∙ (ap (λ (l : List Batch). l ++ q.0) p.1 ∙ q.1))

take_next : {A : Type 0} (xs : List A) (k : ℕ) (x : A) → slice_get xs k ≡ Some x → take (suc k) xs ≡ take k xs ++ x ∷ []
take_next [] k x e = no_some e
take_next (y ∷ xs) zero x e = ap (λ z. z ∷ []) (some_same e)
take_next (y ∷ xs) (suc k) x e = ap (λ zs. y ∷ zs) (take_next xs k x e)

take_more : {A : Type 0} (xs : List A) (k : ℕ) (x : A) → slice_get xs k ≡ Some x → take (k + 1) xs ≡ take k xs ++ x ∷ []
take_more xs k x e = let one : k + 1 ≡ suc k = omega arith in ap (λ (n : ℕ). take n xs) one ∙ take_next xs k x e

there_within : {A : Type 0} (xs : List A) (k : ℕ) (x : A) → slice_get xs k ≡ Some x → k < length xs
there_within [] k x e = no_some e
there_within (y ∷ xs) zero x e = omega arith
there_within (y ∷ xs) (suc k) x e = let less = there_within xs k x e in omega (arith, less)

if_none : {A : Type 0} (P : A → Type 0) (o : Option A) → o ≡ None → IfSome o P
if_none {A = A} P o e = subst (λ (u : Option A). IfSome u P) (sym e) tt

if_is : {A : Type 0} (P : A → Type 0) (o : Option A) (a : A) → o ≡ Some a → P a → IfSome o P
if_is {A = A} P o a e p = subst (λ (u : Option A). IfSome u P) (sym e) p

is_in : {A : Type 0} (P : A → Type 0) (o : Option A) (a : A) → o ≡ Some a → IfSome o P → P a
is_in {A = A} P o a e p = subst (λ (u : Option A). IfSome u P) e p

-- ---- read and write jobs

one_read : (j : JobValue) (s : ℕ) (q : ReadSet) → j.work ≡ read s q → reads (j ∷ []) ≡ j ∷ []
one_read j s q e = rw e refl

no_read : (j : JobValue) (s : ℕ) (w : WriteRequest) → j.work ≡ write s w → reads (j ∷ []) ≡ []
no_read j s w e = rw e refl

reads_more : (jobs : List JobValue) (k : ℕ) (j : JobValue) → slice_get jobs k ≡ Some j → reads (take (k + 1) jobs) ≡ reads (take k jobs) ++ reads (j ∷ [])
reads_more jobs k j at = ap reads (take_more jobs k j at) ∙ filter-append (λ (i : JobValue). is_read i.work) (take k jobs) (j ∷ [])

reads_read : (jobs : List JobValue) (k : ℕ) (j : JobValue) → slice_get jobs k ≡ Some j → (s : ℕ) (q : ReadSet) → j.work ≡ read s q → reads (take (k + 1) jobs) ≡ reads (take k jobs) ++ j ∷ []
reads_read jobs k j at s q e = reads_more jobs k j at ∙ ap (λ js. reads (take k jobs) ++ js) (one_read j s q e)

reads_write : (jobs : List JobValue) (k : ℕ) (j : JobValue) → slice_get jobs k ≡ Some j → (s : ℕ) (w : WriteRequest) → j.work ≡ write s w → reads (take (k + 1) jobs) ≡ reads (take k jobs)
reads_write jobs k j at s w e = reads_more jobs k j at ∙ (ap (λ js. reads (take k jobs) ++ js) (no_read j s w e) ∙ append-nil (reads (take k jobs)))

writes_append : (xs ys : List JobValue) → writes (xs ++ ys) ≡ writes xs ++ writes ys
writes_append [] ys = refl
writes_append (x ∷ xs) ys = ap (λ (ls : List WriteLine). one_write x.line x.bytes (Ok x.work) ++ ls) (writes_append xs ys) ∙ sym (append_assoc (one_write x.line x.bytes (Ok x.work)) (writes xs) (writes ys))

last_push : (o : Option ℕ) (xs : List ℕ) (x : ℕ) → last_or o (xs ++ x ∷ []) ≡ Some x
last_push o [] x = refl
last_push o (y ∷ ys) x = last_push (Some y) ys x

last_more : (jobs : List JobValue) (k : ℕ) (j : JobValue) → slice_get jobs k ≡ Some j → last_write (take (k + 1) jobs) ≡ last_or None (map (λ a. a.line) (writes (take k jobs) ++ writes (j ∷ [])))
last_more jobs k j at = ap (λ js. last_or None (map (λ (a : WriteLine). a.line) (writes js))) (take_more jobs k j at)
    ∙ ap (λ ls. last_or None (map (λ (a : WriteLine). a.line) ls)) (writes_append (take k jobs) (j ∷ []))

last_read : (jobs : List JobValue) (k : ℕ) (j : JobValue) → slice_get jobs k ≡ Some j → (s : ℕ) (q : ReadSet) → j.work ≡ read s q → last_write (take (k + 1) jobs) ≡ last_write (take k jobs)
last_read jobs k j at s q e = last_more jobs k j at
    ∙ ap (λ (ls : List WriteLine). last_or None (map (λ (a : WriteLine). a.line) (writes (take k jobs) ++ ls))) (nothing e)
    ∙ ap (λ (ls : List WriteLine). last_or None (map (λ (a : WriteLine). a.line) ls)) (append-nil (writes (take k jobs)))
  where
    nothing : j.work ≡ read s q → writes (j ∷ []) ≡ []
    nothing e = rw e refl

last_written : (jobs : List JobValue) (k : ℕ) (j : JobValue) → slice_get jobs k ≡ Some j → (s : ℕ) (w : WriteRequest) → j.work ≡ write s w → last_write (take (k + 1) jobs) ≡ Some j.line
last_written jobs k j at s w e = last_more jobs k j at
    ∙ ap (λ (ls : List WriteLine). last_or None (map (λ (a : WriteLine). a.line) (writes (take k jobs) ++ ls))) (this e)
    ∙ ap (λ (ns : List ℕ). last_or None ns) (map-append (λ (a : WriteLine). a.line) (writes (take k jobs)) (record { line = j.line; session = s; request = w; bytes = j.bytes } ∷ []))
    ∙ last_push None (map (λ (a : WriteLine). a.line) (writes (take k jobs))) j.line
  where
    this : j.work ≡ write s w → writes (j ∷ []) ≡ record { line = j.line; session = s; request = w; bytes = j.bytes } ∷ []
    this e = rw e refl

-- there is room for the reply of a read job
pub has_room : (l : Begun) (table : Book) (v w : Share) (j : JobValue) → RunsPart l table v w → slice_get w.jobs w.done ≡ Some j → (s : ℕ) (q : ReadSet) → j.work ≡ read s q → length w.replies < w.room
has_room l table v w j run at s q asks =
    let z : length (reads (take w.done w.jobs)) ≡ length w.replies = zip_length _ _ _ run.replies in
    let more : length (reads (take (w.done + 1) w.jobs)) ≡ length (reads (take w.done w.jobs)) + 1 = ap length (reads_read w.jobs w.done j at s q asks) ∙ length-append (reads (take w.done w.jobs)) (j ∷ []) in
    let whole : length (reads (take (w.done + 1) w.jobs)) + length (reads (drop (w.done + 1) w.jobs)) ≡ length (reads w.jobs) =
    sym (length-append (reads (take (w.done + 1) w.jobs)) (reads (drop (w.done + 1) w.jobs)))
    ∙ (ap length (sym (filter-append (λ (i : JobValue). is_read i.work) (take (w.done + 1) w.jobs) (drop (w.done + 1) w.jobs))) ∙ ap (λ js. length (reads js)) (take-append-drop (w.done + 1) w.jobs)) in
    let room : length (reads w.jobs) ≤ w.room = run.room in
    omega (arith, z, more, whole, room)

-- ---- a list that grows

reply_stays : (floor : ℕ) (xs ys : List Batch) → IsPrefix xs ys → (j : JobValue) (r : ReplyValue) → IsReply floor xs j r → IsReply floor ys j r
reply_stays floor xs ys p j r e = record {
  line = e.line;
  reply = IfSome_then r.reply e.reply (λ bytes a. record {
    session = a.session;
    request = a.request;
    asks = a.asks;
    late = a.late;
    within = (let longer = prefix_length xs ys p in let within = a.within in omega (arith, longer, within));
    is = a.is ∙ sym (reply_grows xs ys r.at j.line a.request p a.within);
  });
}

-- what may be looked up stays right
looks_stay : (xs ys : List Batch) (js : List JobValue) → IsPrefix xs ys → LookRight xs js → LookRight ys js
looks_stay xs ys [] p all = tt
looks_stay xs ys (j ∷ js) p (one, rest) = (IfSome_then j.look one (λ l is. record { keeps = kept_later xs ys l.cache p is.keeps; text = is.text }), looks_stay xs ys js p rest)

-- where the reply to the next job may be looked up, what is kept is right
pub look_next : (batches : List Batch) (js : List JobValue) (k : ℕ) (j : JobValue) → slice_get js k ≡ Some j → LookRight batches js → IfSome j.look (IsLookRight batches j.work)
look_next batches [] k j at all = no_some at
look_next batches (i ∷ js) zero j at (one, rest) = subst (λ (x : JobValue). IfSome x.look (IsLookRight batches x.work)) (some_same at) one
look_next batches (i ∷ js) (suc k) j at (one, rest) = look_next batches js k j at rest

-- the replies that were kept stay right
replies_stay : (floor : ℕ) (w x : Share) → AllZip (IsReply floor w.entered) (reads (take w.done w.jobs)) w.replies → IsPrefix w.entered x.entered → reads (take x.done x.jobs) ≡ reads (take w.done w.jobs) → x.replies ≡ w.replies
    → AllZip (IsReply floor x.entered) (reads (take x.done x.jobs)) x.replies
replies_stay floor w x z p js rs =
    subst (λ (t : List JobValue × List ReplyValue). AllZip (IsReply floor x.entered) t.0 t.1) (λ i. (sym js i, sym rs i))
    (zip_then (IsReply floor w.entered) (IsReply floor x.entered) _ _ (reply_stays floor w.entered x.entered p) z)

reading_stays : (floor : ℕ) (w x : Share) → IfSome w.reading (IsReading floor w) → IsPrefix w.entered x.entered → x.reading ≡ w.reading → x.at ≡ w.at → x.done ≡ w.done → x.jobs ≡ w.jobs → IfSome x.reading (IsReading floor x)
reading_stays floor w x h p same at done jobs =
    subst (λ (o : Option Reading). IfSome o (IsReading floor x)) (sym same)
    (IfSome_then w.reading h (λ r i. record {
      job = i.job;
      there = (λ k. slice_get (jobs k) (done k)) ∙ i.there;
      session = i.session;
      request = i.request;
      asks = i.asks;
      at = i.at;
      began = at ∙ i.began;
      begun = reading_grows w.entered x.entered i.at i.request p i.within ∙ i.begun;
      late = i.late;
      within = (let longer = prefix_length w.entered x.entered p in let within = i.within in omega (arith, longer, within));
    }))

module _ (l : Begun) (table : Book) (v w x : Share) (j : JobValue) (there : slice_get w.jobs w.done ≡ Some j) (run : RunsPart l table v w) (same : SameJobs w x) where
  abbrev floor : ℕ
  floor = seen_of v

  same_reads : x.done ≡ w.done → reads (take x.done x.jobs) ≡ reads (take w.done w.jobs)
  same_reads done = λ i. reads (take (done i) (same.jobs i))

  -- the jobs, the table and the room stay
  stays : (done : x.done ≤ length x.jobs) → x.before ≡ last_write (take x.done x.jobs) → IsPrefix w.entered x.entered → IsPrefix w.told x.told → seen_of w ≤ seen_of x → v.turned_away ≤ x.turned_away
      → AllZip (IsReply floor x.entered) (reads (take x.done x.jobs)) x.replies → IfSome x.reading (IsReading floor x) → is_some x.at ≡ is_some x.reading → IfSome x.stop (IsStop v.turned_away x) → RunsPart l table v x
  stays done before entered told seen turned replies reading at stop = record {
    of_round = subst (λ (t : ℕ × List JobValue). AreOfRound l t.0 t.1) (λ i. (sym same.sid i, sym same.jobs i)) run.of_round;
    of_table = same.table ∙ run.of_table;
    room = (let few = run.room in let jobs = ap (λ (js : List JobValue). length (reads js)) same.jobs in let room = same.room in omega (arith, few, jobs, room));
    sid = same.sid ∙ run.sid;
    jobs = same.jobs ∙ run.jobs;
    done = done;
    before = before;
    entered = prefix_on v.entered w.entered x.entered run.entered entered;
    seen = (let old = run.seen in omega (arith, old, seen));
    turned_away = turned;
    replies = replies;
    reading = reading;
    at = at;
    stop = stop;
    looks = subst (LookRight x.told) (sym same.jobs) (looks_stay w.told x.told w.jobs told run.looks);
  }

  as_many : x.done ≡ w.done → x.done ≤ length x.jobs
  as_many done = let most = run.done in let jobs = ap length same.jobs in omega (arith, done, most, jobs)

  one_more_done : x.done ≡ w.done + 1 → x.done ≤ length x.jobs
  one_more_done done = let most = there_within w.jobs w.done j there in let jobs = ap length same.jobs in omega (arith, done, most, jobs)

  same_before : x.done ≡ w.done → x.before ≡ w.before → x.before ≡ last_write (take x.done x.jobs)
  same_before done before = before ∙ (run.before ∙ sym (λ i. last_write (take (done i) (same.jobs i))))

  not_less : x.turned_away ≡ w.turned_away → v.turned_away ≤ x.turned_away
  not_less is = let old = run.turned_away in omega (arith, old, is)

  waited : Grows w x → Waits w x → IfSome x.reading (IsReading floor x) → is_some x.at ≡ is_some x.reading → RunsPart l table v x
  waited g h reading at =
      stays (as_many h.done) (same_before h.done h.before) g.entered g.told g.seen (not_less g.turned_away) (replies_stay floor w x run.replies g.entered (same_reads h.done) h.replies) reading at (if_none (IsStop v.turned_away x) x.stop h.stop)

  answered : (s : ℕ) (q : ReadSet) → j.work ≡ read s q → (at : ℕ) (reply : Option (List ℕ)) → Grows w x → Answers w j at reply x → IfSome reply (λ bytes. RepliesAt floor x.entered j at bytes) → RunsPart l table v x
  answered s q asks at reply g h is =
      let old = zip_then (IsReply floor w.entered) (IsReply floor x.entered) _ _ (reply_stays floor w.entered x.entered g.entered) run.replies in
      let new = zip_push (IsReply floor x.entered) (reads (take w.done w.jobs)) w.replies j (record { line = j.line; at = at; reply = reply }) old (record { line = refl; reply = is }) in
      let js : reads (take x.done x.jobs) ≡ reads (take w.done w.jobs) ++ j ∷ [] = (λ i. reads (take (h.done i) (same.jobs i))) ∙ reads_read w.jobs w.done j there s q asks in
      let before : x.before ≡ last_write (take x.done x.jobs) = h.before ∙ (run.before ∙ (sym (last_read w.jobs w.done j there s q asks) ∙ sym (λ i. last_write (take (h.done i) (same.jobs i))))) in
      stays (one_more_done h.done) before g.entered g.told g.seen (not_less g.turned_away)
      (subst (λ (t : List JobValue × List ReplyValue). AllZip (IsReply floor x.entered) t.0 t.1) (λ i. (sym js i, sym h.replies i)) new)
      (if_none (IsReading floor x) x.reading h.reading) (ap is_some h.at ∙ sym (ap is_some h.reading)) (if_none (IsStop v.turned_away x) x.stop h.stop)

  -- the reading that it holds is of this job
  this_job : (r : Reading) → IsReading floor w r → (i : IsReading floor w r) → i.job ≡ j
  this_job r _ i = some_same (sym i.there ∙ there)

  -- a turn at a read job
  pub read_kept : (s : ℕ) (q : ReadSet) → j.work ≡ read s q → ReadTurn w j q x → RunsPart l table v x
  read_kept s q asks (begins r n g late within begun holds at h) = waited g h (if_is (IsReading floor x) x.reading r holds (record {
    job = j;
    there = (λ i. slice_get (same.jobs i) (h.done i)) ∙ there;
    session = s;
    request = q;
    asks = asks;
    at = n;
    began = at;
    begun = begun;
    late = (let seen = run.seen in omega (arith, late, seen));
    within = within;
  })) (ap is_some at ∙ sym (ap is_some holds))
  read_kept s q asks (goes_on g holds at h) = waited g h (reading_stays floor w x run.reading g.entered holds at h.done same.jobs) (ap is_some at ∙ (run.at ∙ sym (ap is_some holds)))
  read_kept s q asks (is_refused at reply g is h) = answered s q asks at reply g h (IfSome_then reply is (λ bytes t. record {
    session = s;
    request = q;
    asks = asks;
    late = (let late = t.0 in let seen = run.seen in omega (arith, late, seen));
    within = t.1;
    is = t.2;
  }))
  read_kept s q asks (is_answered r at reply g holds began is h) =
      let i = is_in (IsReading floor w) w.reading r holds run.reading in
      let its : i.job ≡ j = some_same (sym i.there ∙ there) in
      let longer = prefix_length w.entered x.entered g.entered in
      let within = i.within in
      let snapshot : i.at ≡ at = some_same (sym i.began ∙ began) in
      let late = i.late in
      answered s q asks at reply g h (IfSome_then reply is (λ bytes owed. record {
        session = i.session;
        request = i.request;
        asks = sym (ap (λ (k : JobValue). k.work) its) ∙ i.asks;
        late = omega (arith, snapshot, late);
        within = omega (arith, snapshot, longer, within);
        is = owed ∙ (owes x.entered i.at j.line i.request r (reading_grows w.entered x.entered i.at i.request g.entered i.within ∙ i.begun) ∙ ap (λ (n : ℕ). reply_of x.entered n j.line i.request) snapshot);
      }))
  read_kept s q asks (is_shut entered told seen rose more holds at h) =
      let before = run.turned_away in
      stays (as_many h.done) (same_before h.done h.before) entered told seen (omega (arith, before, more))
      (replies_stay floor w x run.replies entered (same_reads h.done) h.replies)
      (reading_stays floor w x run.reading entered holds at h.done same.jobs)
      (ap is_some at ∙ (run.at ∙ sym (ap is_some holds)))
      (if_is (IsStop v.turned_away x) x.stop _ h.stop (record {
        job = j;
        there = (λ i. slice_get (same.jobs i) (h.done i)) ∙ there;
        line = refl;
        cause = (rw asks refl, omega (arith, before, rose));
      }))

  -- a turn at a write job
  pub write_kept : (s : ℕ) (q : WriteRequest) → j.work ≡ write s q → WriteTurn w j x → RunsPart l table v x
  write_kept s q asks h =
      let seen : seen_of w ≤ seen_of x = (let a = ap length h.entered in let b = prefix_length w.told x.told h.told in omega (arith, a, b)) in
      let front = same_prefix w.entered x.entered h.entered in
      let idle : (r : Reading) → IsReading floor w r → ⊥ = λ r i. not_both (ap (λ (k : JobValue). k.work) (some_same (sym i.there ∙ there)) ∙ asks) i.asks in
      let holds_none : IfSome x.reading (IsReading floor x) = subst (λ (o : Option Reading). IfSome o (IsReading floor x)) (sym h.reading) (IfSome_then w.reading run.reading (λ r i. absurd (idle r i))) in
      let both : is_some x.at ≡ is_some x.reading = ap is_some h.at ∙ (run.at ∙ sym (ap is_some h.reading)) in
      ⊎_elim
      (λ (done, before, stop). stays (one_more_done done) (before ∙ (sym (last_written w.jobs w.done j there s q asks) ∙ sym (λ i. last_write (take (done i) (same.jobs i))))) front h.told seen (not_less h.turned_away)
      (replies_stay floor w x run.replies front ((λ i. reads (take (done i) (same.jobs i))) ∙ reads_write w.jobs w.done j there s q asks) h.replies) holds_none both (if_none (IsStop v.turned_away x) x.stop stop))
      (λ (done, before, stop). stays (as_many done) (same_before done before) front h.told seen (not_less h.turned_away) (replies_stay floor w x run.replies front (same_reads done) h.replies) holds_none both
      (if_is (IsStop v.turned_away x) x.stop _ stop (record {
        job = j;
        there = (λ i. slice_get (same.jobs i) (done i)) ∙ there;
        line = refl;
        cause = rw asks refl;
      })))
      h.step
    where
      not_both : {a : Line} {t : ℕ} {r : ReadSet} → a ≡ write s q → a ≡ read t r → ⊥
      not_both p o = cc

-- a session that did all its jobs holds no reading
pub none_held : (l : Begun) (table : Book) (v w : Share) → RunsPart l table v w → IsOver w → w.stop ≡ None → w.reading ≡ None
none_held l table v w run over goes = by w.reading run.reading
  where
    by : (o : Option Reading) → IfSome o (IsReading (seen_of v) w) → o ≡ None
    by None i = refl
    by (Some r) i = let within = there_within w.jobs w.done i.job i.there in let all = over goes in absurd (omega (arith, within, all))

-- a session before its first job
pub share_begins : (l : Begun) (table : Book) (v : Share) → BeginsShare l table v → RunsPart l table v v
share_begins l table v b = record {
  of_round = b.of_round;
  of_table = b.of_table;
  room = b.room;
  sid = refl;
  jobs = refl;
  done = (let none = b.done in omega (arith, none));
  before = b.before ∙ sym (ap (λ (n : ℕ). last_write (take n v.jobs)) b.done);
  entered = same_prefix v.entered v.entered refl;
  seen = le_refl (seen_of v);
  turned_away = le_refl v.turned_away;
  replies = subst (λ (t : List JobValue × List ReplyValue). AllZip (IsReply (seen_of v) v.entered) t.0 t.1) (λ i. (reads (take (sym b.done i) v.jobs), sym b.replies i)) tt;
  reading = if_none (IsReading (seen_of v) v) v.reading b.reading;
  at = ap is_some b.at ∙ sym (ap is_some b.reading);
  stop = if_none (IsStop v.turned_away v) v.stop b.stop;
  looks = b.looks;
}
