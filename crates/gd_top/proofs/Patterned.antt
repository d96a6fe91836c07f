-- What a run of templates printed, said of what stands further out, and where a store was not opened.
use Rattle.std.proofs.Common.{◌≡◌, ◌⊎◌, ℕ, List, true, Option, Some, None, IfSome, Result, Ok, Err, OnOk, refl, inl, inr, ⊎_elim}
use Rattle.std.specs.Option.{ForSome}
use Rattle.gd_prim.specs.declared.Batch.{Batch}
use Rattle.gd_bytes.specs.File.{meaning, StandsFor}
use Rattle.gd_runs.specs.Explained.{Numbered, lines_of}
use Rattle.gd_disk.specs.declared.shelf.ShelfFault.{ShelfFault}
use Rattle.gd_disk.specs.declared.shelf.ShelfFault.TheVariants as shelf
use Rattle.gd_journal.specs.declared.fault.JournalFault.{JournalFault}
use Rattle.gd_journal.specs.declared.fault.JournalFault.TheVariants as journal
use Rattle.gd_log.specs.Opening.{Refuses}
use Rattle.gd_words.specs.Verbs.{answers}
use Rattle.gd_answering.specs.declared.stop.Stop.TheVariants as line
use Rattle.gd_patterns.specs.declared.stop.PatternStop.{PatternStop}
use Rattle.gd_patterns.specs.declared.stop.PatternStop.TheVariants as stop
use Rattle.gd_patterns.specs.Stops.{EndsAs, EndsBy, IfBetween, IfOpened, IfUnopened}
use Rattle.gd_patterns.specs.Patterns.{Answered, AnsweredAll, AnsweredTaken, AnsweredFront}
use Rattle.gd_top.specs.declared.status.Status.{Status}
use Rattle.gd_top.specs.declared.status.Status.TheVariants as status
use Rattle.gd_top.specs.Stops.{status_of_shelf, status_of_store, status_of_patterns}
use Rattle.gd_top.specs.Ends.{Causes, may_tell}
use Rattle.gd_top.specs.Held.{Loads, MayMean, DoesMean}
use Rattle.gd_top.specs.Answers.{PrintsAnswers}
use Rattle.gd_top.proofs.Caused.{not_of_store, causes_begun, causes_refused, refused_tells}

module _ (begins begins' : List Batch → Type 0) (begun : (loaded : List Batch) → begins loaded → begins' loaded) (old new : Option (List ℕ)) where
  answered : (given : List Numbered) (output : List ℕ) → Answered begins given output → Answered begins' given output
  answered given output a = record { loaded = a.loaded; begun = begun a.loaded a.begun; replies = a.replies; each = a.each; printed = a.printed }

  all : (known : Option (List ℕ)) → IfSome known (AnsweredAll begins old new) → IfSome known (AnsweredAll begins' old new)
  all None a = tt
  all (Some input) a = record { output = a.output; answered = answered _ a.output a.answered; gained = a.gained }

  taken : (known : Option (List ℕ)) → IfSome known (AnsweredTaken begins old new) → IfSome known (AnsweredTaken begins' old new)
  taken None a = tt
  taken (Some input) a = record { taken = a.taken; output = a.output; answered = answered _ a.output a.answered; gained = a.gained }

  front : (known : Option (List ℕ)) → IfSome known (AnsweredFront begins old new) → IfSome known (AnsweredFront begins' old new)
  front None a = tt
  front (Some input) a = record { taken = a.taken; output = a.output; rest = a.rest; answered = answered _ _ a.answered; gained = a.gained }

  pub answers_weaker : (s : Status) (idle idle' : Type 0) (known : Option (List ℕ)) → (idle → idle') → PrintsAnswers s begins idle known old new → PrintsAnswers s begins' idle' known old new
  answers_weaker s idle idle' known still p = record {
    done = λ is. all known (p.done is);
    between = λ is. taken known (p.between is);
    within = λ is. front known (p.within is);
    memory = λ is. ⊎_elim (λ i. inl (still i)) (λ a. inr (taken known a)) (p.memory is);
    nothing = λ is. still (p.nothing is);
  }

module _ (begins : List Batch → Type 0) (idle : Type 0) (known old new : Option (List ℕ)) where
  -- the store was not opened
  refused_answers : (f : JournalFault) → idle → PrintsAnswers (status_of_store f) begins idle known old new
  refused_answers f i = record {
    done = λ is. absurd (not_of_store f status.Done refl is);
    between = λ is. absurd (⊎_elim (λ e. not_of_store f status.ReadFault refl e) (λ e. not_of_store f status.TooMuch refl e) is);
    within = λ is. absurd (not_of_store f status.SinkFault refl is);
    memory = λ is. inl i;
    nothing = λ is. i;
  }

  -- nor its file
  pub shelf_answers : (f : ShelfFault) → idle → PrintsAnswers (status_of_shelf f) begins idle known old new
  shelf_answers shelf.Failed i = refused_answers journal.DiskFault i
  shelf_answers shelf.Memory i = refused_answers journal.Memory i

  -- what was printed, by how it ended
  pub answers_print : (still : Type 0) → (still → idle) → (end : Result (Unit {0}) PatternStop) → EndsAs end (IfSome known (AnsweredAll begins old new)) (IfSome known (AnsweredTaken begins old new)) (IfSome known (AnsweredFront begins old new)) still
      → PrintsAnswers (status_of_patterns end) begins idle known old new
  answers_print still is_idle (Ok u) ends = record { done = λ is. ends; between = λ is. absurd (⊎_elim (λ e. cc) (λ e. cc) is); within = λ is. absurd (cc); memory = λ is. absurd (cc); nothing = λ is. absurd (cc) }
  answers_print still is_idle (Err (stop.Unopened f)) ends = refused_answers f (is_idle ends)
  answers_print still is_idle (Err (stop.Stopped line.ReadFault)) ends = record { done = λ is. absurd (cc); between = λ is. ends; within = λ is. absurd (cc); memory = λ is. absurd (cc); nothing = λ is. absurd (cc) }
  answers_print still is_idle (Err (stop.Stopped line.TooMuch)) ends = record { done = λ is. absurd (cc); between = λ is. ends; within = λ is. absurd (cc); memory = λ is. absurd (cc); nothing = λ is. absurd (cc) }
  answers_print still is_idle (Err (stop.Stopped line.SinkFault)) ends = record { done = λ is. absurd (cc); between = λ is. absurd (⊎_elim (λ e. cc) (λ e. cc) is); within = λ is. ends; memory = λ is. absurd (cc); nothing = λ is. absurd (cc) }
  answers_print still is_idle (Err (stop.Stopped line.Memory)) ends = record { done = λ is. absurd (cc); between = λ is. absurd (⊎_elim (λ e. cc) (λ e. cc) is); within = λ is. absurd (cc); memory = λ is. inr ends; nothing = λ is. absurd (cc) }

unopened_by : (r k d l : Type 0) (f : JournalFault) → EndsBy (Err (stop.Unopened f)) r k d l → f ≡ journal.DiskFault → d
unopened_by r k d l journal.DiskFault by is = by
unopened_by r k d l journal.NotStore by is = absurd (cc)
unopened_by r k d l (journal.Damaged offset) by is = absurd (cc)
unopened_by r k d l journal.Memory by is = absurd (cc)

stands : (told : Option (List ℕ)) → (loaded : List Batch) × Loads told loaded → ForSome told (λ file. (bs : List Batch) × StandsFor file bs)
stands told opened file is = (opened.0, opened.1 file is)

-- and why
pub answers_cause : (r k d l : Type 0) (told : Option (List ℕ)) (end : Result (Unit {0}) PatternStop) → EndsBy end r k d l → IfOpened end ((loaded : List Batch) × Loads told loaded) → IfUnopened end (λ f. ForSome told (λ file. Refuses f (meaning file)))
    → Causes (status_of_patterns end) r k d l (MayMean told) (DoesMean told)
answers_cause r k d l told (Ok u) by opened refused = causes_begun status.Done r k d l told refl (λ is. absurd (cc)) (λ is. absurd (cc)) (λ is. absurd (cc)) (λ is. absurd (cc)) (stands told opened)
answers_cause r k d l told (Err (stop.Unopened f)) by opened refused = causes_refused f r k d l told (unopened_by r k d l f by) refused
answers_cause r k d l told (Err (stop.Stopped line.ReadFault)) by opened refused = causes_begun status.ReadFault r k d l told refl (λ is. by) (λ is. absurd (cc)) (λ is. absurd (cc)) (λ is. absurd (cc)) (stands told opened)
answers_cause r k d l told (Err (stop.Stopped line.SinkFault)) by opened refused = causes_begun status.SinkFault r k d l told refl (λ is. absurd (cc)) (λ is. by) (λ is. absurd (cc)) (λ is. absurd (cc)) (stands told opened)
answers_cause r k d l told (Err (stop.Stopped line.Memory)) by opened refused = causes_begun status.Memory r k d l told refl (λ is. absurd (cc)) (λ is. absurd (cc)) (λ is. absurd (cc)) (λ is. absurd (cc)) (stands told opened)
answers_cause r k d l told (Err (stop.Stopped line.TooMuch)) by opened refused = causes_begun status.TooMuch r k d l told refl (λ is. absurd (cc)) (λ is. absurd (cc)) (λ is. absurd (cc)) (λ is. by) (stands told opened)

pub answers_tell : (end : Result (Unit {0}) PatternStop) → may_tell answers (status_of_patterns end) ≡ true
answers_tell (Ok u) = refl
answers_tell (Err (stop.Unopened f)) = refused_tells answers f
answers_tell (Err (stop.Stopped line.ReadFault)) = refl
answers_tell (Err (stop.Stopped line.SinkFault)) = refl
answers_tell (Err (stop.Stopped line.Memory)) = refl
answers_tell (Err (stop.Stopped line.TooMuch)) = refl

-- what is so of a run that is done
pub answers_done : (P : Type 0) (end : Result (Unit {0}) PatternStop) → OnOk end P → status_of_patterns end ≡ status.Done → P
answers_done P (Ok u) ok is = ok
answers_done P (Err (stop.Unopened f)) ok is = absurd (not_of_store f status.Done refl is)
answers_done P (Err (stop.Stopped line.ReadFault)) ok is = absurd (cc)
answers_done P (Err (stop.Stopped line.SinkFault)) ok is = absurd (cc)
answers_done P (Err (stop.Stopped line.Memory)) ok is = absurd (cc)
answers_done P (Err (stop.Stopped line.TooMuch)) ok is = absurd (cc)

-- what is so of one that ended behind a line
pub answers_between : (P : Type 0) (end : Result (Unit {0}) PatternStop) → IfBetween end P → status_of_patterns end ≡ status.Done → P
answers_between P (Ok u) between is = between
answers_between P (Err (stop.Unopened f)) between is = absurd (not_of_store f status.Done refl is)
answers_between P (Err (stop.Stopped line.ReadFault)) between is = absurd (cc)
answers_between P (Err (stop.Stopped line.SinkFault)) between is = absurd (cc)
answers_between P (Err (stop.Stopped line.Memory)) between is = absurd (cc)
answers_between P (Err (stop.Stopped line.TooMuch)) between is = absurd (cc)
