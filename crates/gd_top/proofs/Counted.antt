-- What a run of lines prints whose sessions keep replies, on the way.
use Rattle.std.proofs.Common.{◌≡◌, ◌⊎◌, ℕ, ◌<◌, List, [], ◌∷◌, ◌++◌, length, Bool, true, false, Option, Some, None, IfSome, option_map, codes, decimal, refl, sym, subst, ap, ◌∙◌, inl, inr, ⊎_elim, arith, append-nil, append_assoc}
use Rattle.std.specs.declared.num.NonZeroU32.{NonZeroU32}
use Rattle.std.proofs.KnownBytes.{Appends-trans}
use Rattle.std.specs.Io.KnownBytes.{Appends}
use Rattle.gd_outside.specs.Gains.{GainsFront}
use Rattle.gd_prim.specs.declared.Batch.{Batch}
use Rattle.gd_runs.specs.Legal.{History}
use Rattle.gd_runs.specs.Explained.{Numbered, Run, lines_of}
use Rattle.gd_cache.specs.Shown.{Shown}
use Rattle.gd_threads.specs.PassedOn.{KeepingValue, AreCounts, none_kept, first_kept}
use Rattle.gd_threads.proofs.PassedOn.{counts_are}
use Rattle.gd_round_lines.specs.Works.{texts_of}
use Rattle.gd_top.specs.declared.status.Status.{Status}
use Rattle.gd_top.specs.declared.status.Status.TheVariants as status
use Rattle.gd_top.specs.declared.stop.Stop.{Stop}
use Rattle.gd_top.specs.declared.stop.Stop.TheVariants as stop
use Rattle.gd_words.specs.Verbs.{serves, caches, serving, reads_input, prints_output}
use Rattle.gd_top.specs.Ends.{Causes, may_tell}
use Rattle.gd_top.specs.Stops.{status_of}
use Rattle.gd_top.specs.Counted.{counts_line, hits_in, refused_in, line_of, TellsCounts, ServesCounted, ServesCountedFront, ServesEither, PrintsCounted, PrintsServed, ServesKeeping}
use Rattle.gd_top.specs.Serves.{Accounts, Serves, ServesFront, ServesRounds, PrintsLines}
use Rattle.gd_top.proofs.Weaker.{accounts, prints_weaker, serves_front, serves_rounds}

-- ---- said of what stands further out

module _ (n : ℕ) (may : ℕ → Bool) (begins begins' : List Batch → Type 0) (leaves leaves' : History → List Run → Type 0) (rises rises' : ℕ → Type 0)
    (begun : (loaded : List Batch) → begins loaded → begins' loaded) (left : (h : History) (runs : List Run) → leaves h runs → leaves' h runs) (rose : (m : ℕ) → rises m → rises' m) where
  serves_counted : (old new known : Option (List ℕ)) → IfSome known (ServesCounted n may begins leaves rises old new) → IfSome known (ServesCounted n may begins' leaves' rises' old new)
  serves_counted old new None s = tt
  serves_counted old new (Some input) s = record { output = s.output; accounts = accounts may begins begins' leaves leaves' rises rises' begun left rose _ s.output s.accounts; line = s.line; tells = s.tells; gained = s.gained }

  serves_either : (old new known : Option (List ℕ)) → IfSome known (ServesEither n may begins leaves rises old new) → IfSome known (ServesEither n may begins' leaves' rises' old new)
  serves_either old new None s = tt
  serves_either old new (Some input) s = ⊎_elim
      (λ front. inl (serves_front may begins begins' leaves leaves' rises rises' begun left rose old new (Some input) front))
      (λ f. inr (record { output = f.output; accounts = accounts may begins begins' leaves leaves' rises rises' begun left rose _ f.output f.accounts; line = f.line; tells = f.tells; piece = f.piece; rest = f.rest; parts = f.parts; gained = f.gained }))
      s

  pub counted_weaker : (s : Status) (idle idle' : Type 0) (known now old new : Option (List ℕ)) → (idle → idle') → PrintsCounted n s may begins leaves rises idle known now old new → PrintsCounted n s may begins' leaves' rises' idle' known now old new
  counted_weaker s idle idle' known now old new still p = record {
    done = λ is. serves_counted old new known (p.done is);
    rounds = λ is. serves_rounds may begins begins' leaves leaves' rises rises' begun left rose old new now known (p.rounds is);
    front = λ is. serves_either old new known (p.front is);
    memory = λ is. ⊎_elim (λ i. inl (still i)) (λ f. inr (serves_front may begins begins' leaves leaves' rises rises' begun left rose old new known f)) (p.memory is);
    nothing = λ is. still (p.nothing is);
  }

-- ---- a run that is not done printed what it would without a line of counts

either_front : (n : ℕ) (may : ℕ → Bool) (begins : List Batch → Type 0) (leaves : History → List Run → Type 0) (rises : ℕ → Type 0) (old new known : Option (List ℕ)) → IfSome known (ServesFront may begins leaves rises old new) → IfSome known (ServesEither n may begins leaves rises old new)
either_front n may begins leaves rises old new None front = tt
either_front n may begins leaves rises old new (Some input) front = inl front

pub counted_stopped : (n : ℕ) (s : Status) (may : ℕ → Bool) (begins : List Batch → Type 0) (leaves : History → List Run → Type 0) (rises : ℕ → Type 0) (idle : Type 0) (known now old new : Option (List ℕ)) → (s ≡ status.Done → ⊥) → PrintsLines s may begins leaves rises idle known now old new
    → PrintsCounted n s may begins leaves rises idle known now old new
counted_stopped n s may begins leaves rises idle known now old new not p = record {
  done = λ is. absurd (not is);
  rounds = p.rounds;
  front = λ is. either_front n may begins leaves rises old new known (p.front is);
  memory = p.memory;
  nothing = p.nothing;
}

pub stop_not_done : (s : Stop) → status_of s ≡ status.Done → ⊥
stop_not_done stop.ReadFault is = cc
stop_not_done stop.SinkFault is = cc
stop_not_done stop.Memory is = cc
stop_not_done stop.TooMuch is = cc

-- ---- the end of a run

module _ (n : ℕ) (some : 0 < n) (may : ℕ → Bool) (begins : List Batch → Type 0) (leaves : History → List Run → Type 0) (rises : ℕ → Type 0) (old mid : Option (List ℕ)) (has : KeepingValue) where
  tells : (input : List ℕ) → (s : ServesKeeping may begins leaves rises old mid (none_kept n) has input) → TellsCounts n (lines_of input) s.output (line_of has)
  tells input s = record {
    replies = s.replies;
    many = s.many;
    prints = s.prints;
    hits = hits_in has;
    reads = has.reads;
    refused = refused_in has;
    counts = counts_are n (texts_of (lines_of input)) s.replies has some s.counted;
    is = refl;
  }

  -- the line of the counts was printed
  pub ends_counted : (new known : Option (List ℕ)) → IfSome known (ServesKeeping may begins leaves rises old mid (none_kept n) has) → Appends mid new (line_of has ++ 10 ∷ []) → IfSome known (ServesCounted n may begins leaves rises old new)
  ends_counted new None s gained = tt
  ends_counted new (Some input) s gained = record { output = s.output; accounts = s.accounts; line = line_of has; tells = tells input s; gained = Appends-trans old mid new s.output (line_of has ++ 10 ∷ []) s.gained gained }

  -- or a front of it
  pub ends_front : (new known : Option (List ℕ)) → IfSome known (ServesKeeping may begins leaves rises old mid (none_kept n) has) → GainsFront mid new (line_of has ++ 10 ∷ []) → IfSome known (ServesEither n may begins leaves rises old new)
  ends_front new None s front = tt
  ends_front new (Some input) s front = inr (record {
    output = s.output;
    accounts = s.accounts;
    line = line_of has;
    tells = tells input s;
    piece = s.output ++ front.piece;
    rest = front.rest;
    parts = append_assoc s.output front.piece front.rest ∙ ap (λ (l : List ℕ). s.output ++ l) front.parts;
    gained = Appends-trans old mid new s.output front.piece s.gained front.gained;
  })

-- what was served is explained, whatever sessions keep
pub serves_kept : (may : ℕ → Bool) (begins : List Batch → Type 0) (leaves : History → List Run → Type 0) (rises : ℕ → Type 0) (old new : Option (List ℕ)) (had has : KeepingValue) (known : Option (List ℕ)) → IfSome known (ServesKeeping may begins leaves rises old new had has) → IfSome known (Serves may begins leaves rises old new)
serves_kept may begins leaves rises old new had has None s = tt
serves_kept may begins leaves rises old new had has (Some input) s = record { output = s.output; accounts = s.accounts; gained = s.gained }

-- a run whose sessions keep replies, and that printed the line of the counts, or a front of it
module _ (n : ℕ) (s : Status) (may : ℕ → Bool) (begins : List Batch → Type 0) (leaves : History → List Run → Type 0) (rises : ℕ → Type 0) (idle : Type 0) (known now old new : Option (List ℕ)) where
  pub counted_done : s ≡ status.Done → IfSome known (ServesCounted n may begins leaves rises old new) → PrintsCounted n s may begins leaves rises idle known now old new
  counted_done is done = rw is (record { done = λ same. done; rounds = λ r. absurd (⊎_elim (λ e. cc) (λ e. cc) r); front = λ e. absurd (cc); memory = λ e. absurd (cc); nothing = λ e. absurd (cc) })

  pub counted_front : s ≡ status.SinkFault → IfSome known (ServesEither n may begins leaves rises old new) → PrintsCounted n s may begins leaves rises idle known now old new
  counted_front is front = rw is (record { done = λ e. absurd (cc); rounds = λ r. absurd (⊎_elim (λ e. cc) (λ e. cc) r); front = λ e. front; memory = λ e. absurd (cc); nothing = λ e. absurd (cc) })

-- ---- the line of the counts

-- how it begins, and how it goes on behind that
abbrev pub hits_text : ℕ → ℕ → List ℕ
hits_text hits reads = (codes "{\"cache\":{\"hits\":" ++ decimal hits) ++ (codes ",\"reads\":" ++ decimal reads)

abbrev pub refused_text : ℕ → List ℕ
refused_text refused = codes ",\"refused\":" ++ decimal refused

-- a line in pieces, and its newline
pub line_end : (xs ys zs : List ℕ) → xs ++ (ys ++ (zs ++ 10 ∷ [])) ≡ (xs ++ (ys ++ zs)) ++ 10 ∷ []
line_end xs ys zs = ap (λ (l : List ℕ). xs ++ l) (sym (append_assoc ys zs (10 ∷ []))) ∙ sym (append_assoc xs (ys ++ zs) (10 ∷ []))

-- the counts of what sessions keep
pub line_same : (k : KeepingValue) (hits reads refused : ℕ) → hits ≡ hits_in k → reads ≡ k.reads → refused ≡ refused_in k → counts_line hits reads refused ≡ line_of k
line_same k hits reads refused h r f = ap (λ (n : ℕ). counts_line n reads refused) h ∙ (ap (λ (n : ℕ). counts_line (hits_in k) n refused) r ∙ ap (λ (n : ℕ). counts_line (hits_in k) k.reads n) f)

pub none_long : (kept : List Shown) → kept ≡ [] → length kept ≡ 64 → ⊥
none_long [] none long = absurd (omega (arith, long))
none_long (c ∷ cs) none long = cc

no_caches : (kept : List Shown) → length kept ≡ 0 → kept ≡ []
no_caches [] long = refl
no_caches (c ∷ cs) long = absurd (omega (arith, long))

-- ---- a run of lines, whether sessions keep replies or not

-- said of what stands further out
pub served_weaker : (cache : Option ℕ) (may : ℕ → Bool) (begins begins' : List Batch → Type 0) (leaves leaves' : History → List Run → Type 0) (rises rises' : ℕ → Type 0)
    (begun : (loaded : List Batch) → begins loaded → begins' loaded) (left : (h : History) (runs : List Run) → leaves h runs → leaves' h runs) (rose : (m : ℕ) → rises m → rises' m)
    (s : Status) (idle idle' : Type 0) (known now old new : Option (List ℕ)) → (idle → idle') → PrintsServed cache s may begins leaves rises idle known now old new → PrintsServed cache s may begins' leaves' rises' idle' known now old new
served_weaker None may begins begins' leaves leaves' rises rises' begun left rose s idle idle' known now old new still p = prints_weaker may begins begins' leaves leaves' rises rises' begun left rose s idle idle' known now old new still p
served_weaker (Some n) may begins begins' leaves leaves' rises rises' begun left rose s idle idle' known now old new still p = counted_weaker n may begins begins' leaves leaves' rises rises' begun left rose s idle idle' known now old new still p

module _ (may : ℕ → Bool) (begins : List Batch → Type 0) (leaves : History → List Run → Type 0) (rises : ℕ → Type 0) (idle : Type 0) (known now old new : Option (List ℕ)) where
  lines_done : (s : Status) → s ≡ status.Done → IfSome known (Serves may begins leaves rises old new) → PrintsLines s may begins leaves rises idle known now old new
  lines_done s is done = rw is (record { done = λ same. done; rounds = λ r. absurd (⊎_elim (λ e. cc) (λ e. cc) r); front = λ e. absurd (cc); memory = λ e. absurd (cc); nothing = λ e. absurd (cc) })

  lines_stopped : (s : Stop) → (s ≡ stop.ReadFault → IfSome known (ServesRounds may begins leaves rises old new now)) → (s ≡ stop.TooMuch → IfSome known (ServesRounds may begins leaves rises old new now))
      → IfSome known (ServesFront may begins leaves rises old new) → PrintsLines (status_of s) may begins leaves rises idle known now old new
  lines_stopped stop.ReadFault failed much front = record { done = λ e. absurd (cc); rounds = λ r. failed refl; front = λ e. front; memory = λ e. absurd (cc); nothing = λ e. absurd (cc) }
  lines_stopped stop.SinkFault failed much front = record { done = λ e. absurd (cc); rounds = λ r. absurd (⊎_elim (λ e. cc) (λ e. cc) r); front = λ e. front; memory = λ e. absurd (cc); nothing = λ e. absurd (cc) }
  lines_stopped stop.Memory failed much front = record { done = λ e. absurd (cc); rounds = λ r. absurd (⊎_elim (λ e. cc) (λ e. cc) r); front = λ e. absurd (cc); memory = λ e. inr front; nothing = λ e. absurd (cc) }
  lines_stopped stop.TooMuch failed much front = record { done = λ e. absurd (cc); rounds = λ r. much refl; front = λ e. front; memory = λ e. absurd (cc); nothing = λ e. absurd (cc) }

  -- a run that stopped before the end of its input
  pub served_stopped : (cache : Option ℕ) (s : Stop) → (s ≡ stop.ReadFault → IfSome known (ServesRounds may begins leaves rises old new now)) → (s ≡ stop.TooMuch → IfSome known (ServesRounds may begins leaves rises old new now))
      → IfSome known (ServesFront may begins leaves rises old new) → PrintsServed cache (status_of s) may begins leaves rises idle known now old new
  served_stopped None s failed much front = lines_stopped s failed much front
  served_stopped (Some n) s failed much front = counted_stopped n (status_of s) may begins leaves rises idle known now old new (stop_not_done s) (lines_stopped s failed much front)

  -- a run without replies kept
  pub served_plain : (cache : Option ℕ) (s : Status) → cache ≡ None → PrintsServed cache s may begins leaves rises idle known now old new → PrintsLines s may begins leaves rises idle known now old new
  served_plain cache s none p = rw none at p

  -- a run to the end of its input
  pub served_whole : (cache : Option ℕ) (s : Status) (mid : Option (List ℕ)) (had has : KeepingValue) → IfSome cache (λ n. 0 < n) → had ≡ first_kept cache → length has.caches ≡ length had.caches
      → IfSome known (ServesKeeping may begins leaves rises old mid had has) → (has.caches ≡ [] → (s ≡ status.Done) × (new ≡ mid)) → (length has.caches ≡ 64 → s ≡ status.Done → Appends mid new (line_of has ++ 10 ∷ []))
      → (s ≡ status.SinkFault → GainsFront mid new (line_of has ++ 10 ∷ [])) → (s ≡ status.Done) ⊎ (s ≡ status.SinkFault) → PrintsServed cache s may begins leaves rises idle known now old new
  served_whole None s mid had has some first long served off done front ends =
      let none : has.caches ≡ [] = no_caches has.caches (long ∙ ap (λ (k : KeepingValue). length k.caches) first) in
      let (is, same) = off none in
      lines_done s is (subst (λ (held : Option (List ℕ)). IfSome known (Serves may begins leaves rises old held)) (sym same) (serves_kept may begins leaves rises old mid had has known served))
  served_whole (Some n) s mid had has some first long served off done front ends =
      let all : length has.caches ≡ 64 = long ∙ ap (λ (k : KeepingValue). length k.caches) first in
      let kept : IfSome known (ServesKeeping may begins leaves rises old mid (none_kept n) has) = subst (λ (k : KeepingValue). IfSome known (ServesKeeping may begins leaves rises old mid k has)) first served in
      ⊎_elim
      (λ is. counted_done n s may begins leaves rises idle known now old new is (ends_counted n some may begins leaves rises old mid has new known kept (done all is)))
      (λ is. counted_front n s may begins leaves rises idle known now old new is (ends_front n some may begins leaves rises old mid has new known kept (front is)))
      ends

-- a number that is not 0
pub above_none : (cache : Option NonZeroU32) → IfSome (option_map (λ n. n.value) cache) (λ n. 0 < n)
above_none None = tt
above_none (Some n) = n.ok

-- ---- how the end of a run is told

pub ends_cause : (s : Status) (r k l : Type 0) → (s ≡ status.Done) ⊎ (s ≡ status.SinkFault) → (s ≡ status.SinkFault → k) → Causes s r k ⊥ l (λ m. ⊥) (λ m. ⊥)
ends_cause s r k l (inl done) failed = record {
  read_fault = λ is. absurd (cc);
  sink_fault = failed;
  disk_fault = λ is. cc;
  too_much = λ is. absurd (cc);
  not_store_told = λ is. cc;
  damaged_told = λ offset is. cc;
  not_store_found = λ never. absurd never;
  damaged_found = λ offset never. absurd never;
}
ends_cause s r k l (inr fault) failed = record {
  read_fault = λ is. absurd (cc);
  sink_fault = failed;
  disk_fault = λ is. cc;
  too_much = λ is. absurd (cc);
  not_store_told = λ is. cc;
  damaged_told = λ offset is. cc;
  not_store_found = λ never. absurd never;
  damaged_found = λ offset never. absurd never;
}

pub ends_tell : (s : Status) → (s ≡ status.Done) ⊎ (s ≡ status.SinkFault) → may_tell serves s ≡ true
ends_tell s (inl done) = rw done refl
ends_tell s (inr fault) = rw fault refl

-- whether sessions keep replies or not, a run of lines reads, prints and may tell the same
pub serving_reads : (cache : Option ℕ) → reads_input (serving cache) ≡ true
serving_reads None = refl
serving_reads (Some n) = refl

pub serving_prints : (cache : Option ℕ) → prints_output (serving cache) ≡ true
serving_prints None = refl
serving_prints (Some n) = refl

counted_tells : (n : ℕ) (s : Status) → may_tell (caches n) s ≡ may_tell serves s
counted_tells n status.Done = refl
counted_tells n status.Usage = refl
counted_tells n status.ReadFault = refl
counted_tells n status.SinkFault = refl
counted_tells n status.DiskFault = refl
counted_tells n status.NotStore = refl
counted_tells n (status.Damaged offset) = refl
counted_tells n status.Memory = refl
counted_tells n status.TooMuch = refl
counted_tells n (status.BadDump offset) = refl
counted_tells n (status.DumpFrom asked have) = refl
counted_tells n (status.Unfit batch) = refl

pub serving_tells : (cache : Option ℕ) (s : Status) → may_tell serves s ≡ true → may_tell (serving cache) s ≡ true
serving_tells None s tells = tells
serving_tells (Some n) s tells = counted_tells n s ∙ tells
