-- What is kept of the file of a store.
use Rattle.std.proofs.Common.{◌≡◌, ℕ, List, [], ◌∷◌, ◌++◌, true, Option, Some, None, Result, Ok, Err, refl, sym, ap, subst, ◌∙◌, ⊎_elim, append_assoc}
use Rattle.std.specs.Option.{ForSome, is_some}
use Rattle.gd_prim.specs.declared.Batch.{Batch}
use Rattle.gd_bytes.specs.File.{not_store, damaged, groups, meaning, StandsFor, MayStandFor}
use Rattle.gd_outside.specs.declared.Failed.{Failed}
use Rattle.gd_input.specs.declared.fault.InputFault.{InputFault}
use Rattle.gd_input.specs.declared.fault.InputFault.TheVariants as input
use Rattle.gd_journal.specs.declared.fault.JournalFault.{JournalFault}
use Rattle.gd_journal.specs.declared.fault.JournalFault.TheVariants as journal
use Rattle.gd_log.specs.Opening.{Refuses}
use Rattle.gd_runs.specs.Legal.{Entry, batches}
use Rattle.gd_runs.specs.Core.{State}
use Rattle.gd_runs.specs.Side.{doubt_groups}
use Rattle.gd_sessions.specs.PassedOn.{Tells, Opens}
use Rattle.gd_replay.specs.declared.stop.Stop.{Stop}
use Rattle.gd_replay.specs.declared.stop.Stop.TheVariants as stop
use Rattle.gd_replay.specs.Stops.{stop_of, Leaves, IsHalt, EndsSent}
use Rattle.gd_replay.specs.Kept.{Grows, HasBatches, IsHindrance, KeepsAs}

-- ---- batches

stands_more : (bs cs : List Batch) (file : List ℕ) → Grows bs cs → (d : Option Entry) → MayStandFor cs (doubt_groups d) file → (more : List Batch) × StandsFor file (bs ++ more)
stands_more bs cs file grows None stands = (grows.more, subst (StandsFor file) grows.is stands)
stands_more bs cs file grows (Some e) stands = ⊎_elim
    (λ old. (grows.more, subst (StandsFor file) grows.is old))
    (λ new. (grows.more ++ e.batch ∷ [], subst (StandsFor file) (ap (λ (l : List Batch). l ++ e.batch ∷ []) grows.is ∙ append_assoc bs grows.more (e.batch ∷ [])) new))
    stands

-- what is left of a state that has grown from batches has them
pub leaves_has : (content : Option (List ℕ)) (images : List ℕ → Type 0) (bs : List Batch) (s : State) → Tells content → Grows bs (batches s.history) → Leaves images s → HasBatches content images bs
leaves_has content images bs s told grows leaves = record { told = told; left = λ file is. stands_more bs (batches s.history) file grows s.doubt (leaves file is) }

-- and those before them
pub has_earlier : (content : Option (List ℕ)) (images : List ℕ → Type 0) (a b : List Batch) → Grows a b → HasBatches content images b → HasBatches content images a
has_earlier content images a b grows has = record {
  told = has.told;
  left = λ file is. let (more, stands) = has.left file is in (grows.more ++ more, subst (StandsFor file) (ap (λ (l : List Batch). l ++ more) grows.is ∙ append_assoc a grows.more more) stands);
}

-- ---- ends

pub keeps_more : (end : Result (Unit {0}) Stop) (P Q : Type 0) (U V : JournalFault → Type 0) → (P → Q) → ((f : JournalFault) → U f → V f) → KeepsAs end P U → KeepsAs end Q V
keeps_more (Ok u) P Q U V more other kept = more kept
keeps_more (Err stop.ReadFault) P Q U V more other kept = more kept
keeps_more (Err stop.TooMuch) P Q U V more other kept = more kept
keeps_more (Err stop.SinkFault) P Q U V more other kept = more kept
keeps_more (Err stop.Memory) P Q U V more other kept = more kept
keeps_more (Err (stop.Unopened f)) P Q U V more other kept = other f kept
keeps_more (Err (stop.Lost f)) P Q U V more other kept = (more kept.0, kept.1)

-- the input could not be read further
pub input_keeps : (fault : InputFault) (P : Type 0) (U : JournalFault → Type 0) → P → KeepsAs (Err (stop_of fault)) P U
input_keeps input.Failed P U kept = kept
input_keeps input.TooMuch P U kept = kept
input_keeps input.Memory P U kept = kept

-- a reply was not printed
pub halted_keeps : (why : Stop) (rose unmade P : Type 0) (U : JournalFault → Type 0) → IsHalt why rose unmade → P → KeepsAs (Err why) P U
halted_keeps stop.SinkFault rose unmade P U halt kept = kept
halted_keeps stop.Memory rose unmade P U halt kept = kept
halted_keeps stop.ReadFault rose unmade P U halt kept = absurd halt
halted_keeps stop.TooMuch rose unmade P U halt kept = absurd halt
halted_keeps (stop.Unopened f) rose unmade P U halt kept = absurd halt
halted_keeps (stop.Lost f) rose unmade P U halt kept = absurd halt

-- the output was sent on or was not
pub sent_keeps : (end : Result (Unit {0}) Stop) (sent : Result (Unit {0}) Failed) (result : Result (Unit {0}) Stop) (P : Type 0) (U : JournalFault → Type 0) → EndsSent end sent result → KeepsAs end P (λ f. ⊥) → KeepsAs result P U
sent_keeps (Ok u) (Ok v) result P U is kept = rw is kept
sent_keeps (Ok u) (Err e) result P U is kept = rw is kept
sent_keeps (Err stop.ReadFault) sent result P U is kept = rw is kept
sent_keeps (Err stop.TooMuch) sent result P U is kept = rw is kept
sent_keeps (Err stop.SinkFault) sent result P U is kept = rw is kept
sent_keeps (Err stop.Memory) sent result P U is kept = rw is kept
sent_keeps (Err (stop.Lost f)) sent result P U is kept = rw is kept
sent_keeps (Err (stop.Unopened f)) sent result P U is kept = absurd kept

-- ---- a store that is not opened again

no_store : (gs : List (List Batch)) → not_store ≡ groups gs → ⊥
no_store gs e = cc

no_damage : (at : ℕ) (gs : List (List Batch)) → damaged at ≡ groups gs → ⊥
no_damage at gs e = cc

-- what stands for batches is not refused for what it means
sound : (file : List ℕ) (bs : List Batch) (fault : JournalFault) → StandsFor file bs → Refuses fault (meaning file) → IsHindrance fault
sound file bs journal.DiskFault stands refuses = tt
sound file bs journal.Memory stands refuses = tt
sound file bs journal.NotStore stands refuses = absurd (no_store stands.0 (sym refuses ∙ stands.1))
sound file bs (journal.Damaged at) stands refuses = absurd (no_damage at stands.0 (sym refuses ∙ stands.1))

some_of : (o : Option (List ℕ)) → is_some o ≡ true → (x : List ℕ) × (o ≡ Some x)
some_of None told = absurd (cc)
some_of (Some x) told = (x, refl)

-- some batches that the file of a state stands for
some_batches : (s : State) (file : List ℕ) (d : Option Entry) → MayStandFor (batches s.history) (doubt_groups d) file → (bs : List Batch) × StandsFor file bs
some_batches s file None stands = (batches s.history, stands)
some_batches s file (Some e) stands = ⊎_elim (λ old. (batches s.history, old)) (λ new. (batches s.history ++ e.batch ∷ [], new)) stands

module _ {D : Type 0} (content : D → Option (List ℕ)) (moment : D → ℕ) (images : D → List ℕ → Type 0) (images_since : D → ℕ → List ℕ → Type 0) (faults : D → ℕ) (reads : (disk : D) (file : List ℕ) → content disk ≡ Some file → images disk file) where
  pub hindered : (old new : D) (s : State) (fault : JournalFault) → ForSome (content old) (λ file. Refuses fault (meaning file)) → (Tells (content old) → Leaves (images new) s) → Opens content moment images images_since faults old new → Tells (content old) → IsHindrance fault
  hindered old new s fault refuses leaves opens tells =
      let (file, is) = some_of (content old) tells in
      let kept = opens.kept file is in
      let (later, now) = some_of (content new) kept.told in
      let stands = some_batches s later s.doubt (leaves tells later (reads new later now)) in
      ⊎_elim
      (λ same. sound file stands.0 fault (subst (λ (bytes : List ℕ). StandsFor bytes stands.0) same stands.1) (refuses file is))
      (λ (bs, was, after). sound file bs fault was (refuses file is))
      (kept.read later now)
