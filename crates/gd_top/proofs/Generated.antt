-- What a run of generated requests printed, said of what stands further out, and where it did not begin.
use Rattle.std.proofs.Common.{◌≡◌, ◌∙◌, ℕ, List, [], Bool, true, false, Option, None, Some, refl, sym, ap, subst, inl, inr, ⊎_elim}
use Rattle.std.specs.Io.KnownBytes.{Keeps}
use Rattle.std.proofs.KnownBytes.{Keeps-refl}
use Rattle.gd_prim.specs.declared.Batch.{Batch}
use Rattle.gd_bytes.specs.File.{not_store, damaged}
use Rattle.gd_runs.specs.Explained.{lines_of}
use Rattle.gd_gen.specs.Lines.{lines_of as generated}
use Rattle.gd_gen.specs.Summary.{summary_of}
use Rattle.gd_disk.specs.declared.shelf.ShelfFault.{ShelfFault}
use Rattle.gd_disk.specs.declared.shelf.ShelfFault.TheVariants as shelf
use Rattle.gd_words.specs.declared.verbs.Command.{Command}
use Rattle.gd_words.specs.declared.verbs.Command.TheVariants as command
use Rattle.gd_words.specs.Verbs.{generates, serving, verb_in, file_of}
use Rattle.gd_top.specs.declared.status.Status.{Status}
use Rattle.gd_top.specs.declared.status.Status.TheVariants as status
use Rattle.gd_top.specs.Stops.{status_of_shelf}
use Rattle.gd_top.specs.Ends.{Causes, RisesAt, may_tell}
use Rattle.gd_top.specs.Held.{Loads, MayMean, DoesMean, MayMeanAt}
use Rattle.gd_top.specs.Generates.{AnswersGenerated, IsSum, PrintsSummary, is_summed}
use Rattle.gd_top.specs.Summed.{SumsOutput}
use Rattle.gd_top.specs.Verbs.{PrintsAt}
use Rattle.gd_top.proofs.Caused.{says_of_file, causes_begun}
use Rattle.gd_top.proofs.Weaker.{accounts}

-- ---- further out

module _ (may : ℕ → Bool) (begins begins' : List Batch → Type 0) (rises rises' : ℕ → Type 0) (begun : (loaded : List Batch) → begins loaded → begins' loaded) (rose : (n : ℕ) → rises n → rises' n) (number count : ℕ) (old new : Option (List ℕ)) where
  is_sum : (line : List ℕ) → IsSum may begins rises number count line → IsSum may begins' rises' number count line
  is_sum line s = record {
    output = s.output;
    answers = accounts may begins begins' (λ history runs. Unit {0}) (λ history runs. Unit {0}) rises rises' begun (λ history runs left. left) rose (lines_of (generated number count)) s.output s.answers;
    sum = s.sum;
  }

  pub summary_weaker : (s : Status) (idle idle' : Type 0) → (idle → idle') → PrintsSummary s may begins rises idle number count old new → PrintsSummary s may begins' rises' idle' number count old new
  summary_weaker s idle idle' still p = record {
    done = λ e. let d = p.done e in record { line = d.line; is = is_sum d.line d.is; gained = d.gained };
    front = λ e. let f = p.front e in record { line = f.line; is = is_sum f.line f.is; front = f.front };
    memory = λ e. ⊎_elim (λ i. inl (still i)) (λ k. inr k) (p.memory e);
    nothing = λ e. still (p.nothing e);
  }

-- ---- a run that did not begin

module _ (may : ℕ → Bool) (begins : List Batch → Type 0) (rises : ℕ → Type 0) (idle : Type 0) (number count : ℕ) (old new : Option (List ℕ)) where
  pub shelf_summary : (f : ShelfFault) → idle → PrintsSummary (status_of_shelf f) may begins rises idle number count old new
  shelf_summary shelf.Failed i = record { done = λ e. absurd (cc); front = λ e. absurd (cc); memory = λ e. absurd (cc); nothing = λ e. i }
  shelf_summary shelf.Memory i = record { done = λ e. absurd (cc); front = λ e. absurd (cc); memory = λ e. inl i; nothing = λ e. absurd (cc) }

  -- nothing was printed for want of memory
  pub none_printed : Keeps old new → PrintsSummary status.Memory may begins rises idle number count old new
  none_printed kept = record { done = λ e. absurd (cc); front = λ e. absurd (cc); memory = λ e. inr kept; nothing = λ e. absurd (cc) }

-- ---- what an output comes to

-- what was printed of an output
pub sums_printed : (may : ℕ → Bool) (begins : List Batch → Type 0) (rises : ℕ → Type 0) (number count : ℕ) (output : List ℕ) (s : Status) (untouched : Type 0) (old new : Option (List ℕ))
    → AnswersGenerated may begins rises number count output → (untouched → Keeps old new) → SumsOutput s (summary_of output) untouched old new → PrintsSummary s may begins rises ⊥ number count old new
sums_printed may begins rises number count output s untouched old new answers kept p = record {
  done = λ e. let (line, sum, gained) = p.done e in record { line = line; is = record { output = output; answers = answers; sum = sum }; gained = gained };
  front = λ e. let (line, sum, front) = p.front e in record { line = line; is = record { output = output; answers = answers; sum = sum }; front = front };
  memory = λ e. inr (kept (p.memory e));
  nothing = λ e. let other : true ≡ false = sym p.ends ∙ e in absurd (cc);
}

-- a sink that is as it was keeps its bytes
pub untouched_keeps : {K : Type 0} (held : K → Option (List ℕ)) (old new : K) → new ≡ old → Keeps (held old) (held new)
untouched_keeps held old new same = subst (λ k. Keeps (held old) (held k)) (sym same) (Keeps-refl (held old))

-- ---- how it ends

another : (s t : Status) → is_summed s ≡ true → is_summed t ≡ false → s ≡ t → ⊥
another s t summed other is = let e : true ≡ false = sym summed ∙ (ap is_summed is ∙ other) in cc

silent : (s : Status) → is_summed s ≡ true → says_of_file s ≡ false
silent status.Done e = refl
silent status.Usage e = refl
silent status.ReadFault e = refl
silent status.SinkFault e = refl
silent status.DiskFault e = refl
silent status.NotStore e = absurd (cc)
silent (status.Damaged offset) e = absurd (cc)
silent status.Memory e = refl
silent status.TooMuch e = refl
silent (status.BadDump offset) e = refl
silent (status.DumpFrom asked have) e = refl
silent (status.Unfit batch) e = refl

-- why, where the lines were served over a store that was opened
pub sums_cause : (s : Status) (k : Type 0) (told : Option (List ℕ)) (loaded : List Batch) → is_summed s ≡ true → (s ≡ status.SinkFault → k) → Loads told loaded → Causes s ⊥ k ⊥ ⊥ (MayMean told) (DoesMean told)
sums_cause s k told loaded summed failed begun = causes_begun s ⊥ k ⊥ ⊥ told (silent s summed) (another s status.ReadFault summed refl) failed (another s status.DiskFault summed refl) (another s status.TooMuch summed refl) (λ file is. (loaded, begun file is))

-- and where there was no memory
pub none_cause : (k : Type 0) (told : Option (List ℕ)) → Causes status.Memory ⊥ k ⊥ ⊥ (MayMean told) (DoesMean told)
none_cause k told = record {
  read_fault = λ e. absurd (cc);
  sink_fault = λ e. absurd (cc);
  disk_fault = λ e. absurd (cc);
  too_much = λ e. absurd (cc);
  not_store_told = λ e. absurd (cc);
  damaged_told = λ offset e. absurd (cc);
  not_store_found = λ means. inr (inr refl);
  damaged_found = λ offset means. inr (inr refl);
}

pub sums_tell : (number count : ℕ) (s : Status) → is_summed s ≡ true → may_tell (generates number count) s ≡ true
sums_tell number count status.Done e = refl
sums_tell number count status.Usage e = absurd (cc)
sums_tell number count status.ReadFault e = absurd (cc)
sums_tell number count status.SinkFault e = refl
sums_tell number count status.DiskFault e = refl
sums_tell number count status.NotStore e = refl
sums_tell number count (status.Damaged offset) e = refl
sums_tell number count status.Memory e = refl
sums_tell number count status.TooMuch e = absurd (cc)
sums_tell number count (status.BadDump offset) e = absurd (cc)
sums_tell number count (status.DumpFrom asked have) e = absurd (cc)
sums_tell number count (status.Unfit batch) e = absurd (cc)

-- ---- the words

-- without a file it ends in one of three ways
only : (number count : ℕ) (s : Status) → may_tell (generates number count) s ≡ true → (s ≡ status.DiskFault → ⊥) → (s ≡ status.NotStore → ⊥) → ((offset : ℕ) → s ≡ status.Damaged offset → ⊥) → is_summed s ≡ true
only number count status.Done tells disk store damage = refl
only number count status.Usage tells disk store damage = absurd (cc)
only number count status.ReadFault tells disk store damage = absurd (cc)
only number count status.SinkFault tells disk store damage = refl
only number count status.DiskFault tells disk store damage = absurd (disk refl)
only number count status.NotStore tells disk store damage = absurd (store refl)
only number count (status.Damaged offset) tells disk store damage = absurd (damage offset refl)
only number count status.Memory tells disk store damage = refl
only number count status.TooMuch tells disk store damage = absurd (cc)
only number count (status.BadDump offset) tells disk store damage = absurd (cc)
only number count (status.DumpFrom asked have) tells disk store damage = absurd (cc)
only number count (status.Unfit batch) tells disk store damage = absurd (cc)

-- words that serve are none that generate, whatever is kept
serves_not : {number count : ℕ} (cache : Option ℕ) → serving cache ≡ generates number count → ⊥
serves_not None is = absurd (cc)
serves_not (Some n) is = absurd (cc)

module _ (number count : ℕ) (s : Status) (may : ℕ → Bool) (content : List ℕ → Option (List ℕ)) (images : List ℕ → List ℕ → Type 0) (before after : ℕ) (idle : Option (List ℕ) → Type 0) (left now old new : Option (List ℕ)) where
  -- words that generate name no file
  pub summary_known : (c : Command) → verb_in c ≡ generates number count → (idle None → Keeps old new) → PrintsAt (verb_in c) s may content images (file_of c) (RisesAt (file_of c) before after) (idle (file_of c)) left now old new
      → may_tell (verb_in c) s ≡ true → (file_of c ≡ None → s ≡ status.DiskFault → ⊥) → (s ≡ status.NotStore → MayMeanAt content (file_of c) not_store) → ((offset : ℕ) → s ≡ status.Damaged offset → MayMeanAt content (file_of c) (damaged offset))
      → PrintsSummary s may (λ loaded. loaded ≡ []) (λ faults. faults ≡ 0) ⊥ number count old new
  summary_known (command.Generate generate) is kept p tells disk store damage =
      let summed : is_summed s ≡ true = only generate.number generate.count s tells (disk refl) store damage in
      let all : PrintsSummary s may (λ loaded. loaded ≡ []) (λ faults. faults ≡ 0) ⊥ generate.number generate.count old new = record {
        done = p.done;
        front = p.front;
        memory = λ e. inr (⊎_elim kept (λ k. k) (p.memory e));
        nothing = λ e. let other : true ≡ false = sym summed ∙ e in absurd (cc);
      } in
      let same_number : generate.number ≡ number = cc in
      let same_count : generate.count ≡ count = cc in
      subst (λ (n : ℕ). PrintsSummary s may (λ loaded. loaded ≡ []) (λ faults. faults ≡ 0) ⊥ n count old new) same_number
      (subst (λ (n : ℕ). PrintsSummary s may (λ loaded. loaded ≡ []) (λ faults. faults ≡ 0) ⊥ generate.number n old new) same_count all)
  summary_known (command.Serve serve) is kept p tells disk store damage = absurd (serves_not serve.cache is)
  summary_known (command.Replay place) is kept p tells disk store damage = absurd (cc)
  summary_known (command.Dump dump) is kept p tells disk store damage = absurd (cc)
  summary_known (command.Restore place) is kept p tells disk store damage = absurd (cc)
  summary_known (command.Follow place) is kept p tells disk store damage = absurd (cc)
  summary_known (command.Templates place) is kept p tells disk store damage = absurd (cc)
