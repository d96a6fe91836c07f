-- Why a run has its status, by whether its store was opened.
use Rattle.std.proofs.Common.{◌≡◌, ◌∙◌, ◌⊎◌, ℕ, List, Bool, true, false, Option, Some, None, refl, sym, ap, inl, inr}
use Rattle.std.specs.Option.{ForSome}
use Rattle.gd_prim.specs.declared.Batch.{Batch}
use Rattle.gd_bytes.specs.File.{Meaning, not_store, damaged, groups, meaning, StandsFor}
use Rattle.gd_journal.specs.declared.fault.JournalFault.{JournalFault}
use Rattle.gd_journal.specs.declared.fault.JournalFault.TheVariants as journal
use Rattle.gd_log.specs.Opening.{Refuses}
use Rattle.gd_words.specs.Verbs.{Verb, serves}
use Rattle.gd_top.specs.declared.status.Status.{Status}
use Rattle.gd_top.specs.declared.status.Status.TheVariants as status
use Rattle.gd_top.specs.declared.stop.Stop.{Stop}
use Rattle.gd_top.specs.declared.stop.Stop.TheVariants as stop
use Rattle.gd_top.specs.Stops.{status_of, status_of_store, status_of_shelf}
use Rattle.gd_disk.specs.declared.shelf.ShelfFault.{ShelfFault}
use Rattle.gd_disk.specs.declared.shelf.ShelfFault.TheVariants as shelf
use Rattle.gd_top.specs.Ends.{IsHindered, Causes, may_tell}
use Rattle.gd_top.specs.Held.{MayMean, DoesMean}

-- ---- a status that is not one of these

-- a status of a store that is not opened
abbrev pub is_of_store : Status → Bool
is_of_store status.DiskFault = true
is_of_store status.NotStore = true
is_of_store (status.Damaged offset) = true
is_of_store status.Memory = true
is_of_store _ = false

pub of_store : (f : JournalFault) → is_of_store (status_of_store f) ≡ true
of_store journal.DiskFault = refl
of_store journal.NotStore = refl
of_store (journal.Damaged offset) = refl
of_store journal.Memory = refl

pub not_of_store : (f : JournalFault) (s : Status) → is_of_store s ≡ false → status_of_store f ≡ s → ⊥
not_of_store f s other is = let e : true ≡ false = sym (of_store f) ∙ (ap is_of_store is ∙ other) in cc

-- ---- what a refusal says of a file

-- a file that stands for batches is neither no store nor damaged
pub sound : (file : List ℕ) (bs : List Batch) (m : Meaning) → StandsFor file bs → meaning file ≡ m → ((gs : List (List Batch)) → m ≡ groups gs → ⊥) → ⊥
sound file bs m stands means apart = apart stands.0 (sym means ∙ stands.1)

pub no_store : (gs : List (List Batch)) → not_store ≡ groups gs → ⊥
no_store gs e = cc

pub no_damage : (at : ℕ) (gs : List (List Batch)) → damaged at ≡ groups gs → ⊥
no_damage at gs e = cc

pub refused_store : (f : JournalFault) (m : Meaning) → Refuses f m → status_of_store f ≡ status.NotStore → m ≡ not_store
refused_store journal.NotStore m refuses is = refuses
refused_store journal.DiskFault m refuses is = absurd (cc)
refused_store (journal.Damaged at) m refuses is = absurd (cc)
refused_store journal.Memory m refuses is = absurd (cc)

pub refused_damage : (f : JournalFault) (m : Meaning) (at : ℕ) → Refuses f m → status_of_store f ≡ status.Damaged at → m ≡ damaged at
refused_damage (journal.Damaged other) m at refuses is = let e : other ≡ at = cc in refuses ∙ ap damaged e
refused_damage journal.NotStore m at refuses is = absurd (cc)
refused_damage journal.DiskFault m at refuses is = absurd (cc)
refused_damage journal.Memory m at refuses is = absurd (cc)

pub found_store : (f : JournalFault) (m : Meaning) → Refuses f m → m ≡ not_store → (status_of_store f ≡ status.NotStore) ⊎ IsHindered (status_of_store f)
found_store journal.NotStore m refuses means = inl refl
found_store journal.DiskFault m refuses means = inr (inl refl)
found_store journal.Memory m refuses means = inr (inr refl)
found_store (journal.Damaged at) m refuses means = let e : damaged at ≡ not_store = sym refuses ∙ means in absurd (cc)

pub found_damage : (f : JournalFault) (m : Meaning) (at : ℕ) → Refuses f m → m ≡ damaged at → (status_of_store f ≡ status.Damaged at) ⊎ IsHindered (status_of_store f)
found_damage (journal.Damaged other) m at refuses means = let e : damaged other ≡ damaged at = sym refuses ∙ means in let same : other ≡ at = cc in inl (ap status.Damaged same)
found_damage journal.DiskFault m at refuses means = inr (inl refl)
found_damage journal.Memory m at refuses means = inr (inr refl)
found_damage journal.NotStore m at refuses means = let e : not_store ≡ damaged at = sym refuses ∙ means in absurd (cc)

-- ---- a run whose store was opened

-- the status says what the file is
abbrev pub says_of_file : Status → Bool
says_of_file status.NotStore = true
says_of_file (status.Damaged offset) = true
says_of_file _ = false

-- a file that is told means one thing
means_one : (told : Option (List ℕ)) (m : Meaning) → ForSome told (λ file. (bs : List Batch) × StandsFor file bs) → ((gs : List (List Batch)) → m ≡ groups gs → ⊥) → DoesMean told m → ⊥
means_one None m stands apart means = absurd means
means_one (Some file) m stands apart means = let (bs, is) = stands file refl in sound file bs m is means apart

pub causes_begun : (s : Status) (r k d l : Type 0) (told : Option (List ℕ)) → says_of_file s ≡ false → (s ≡ status.ReadFault → r) → (s ≡ status.SinkFault → k) → (s ≡ status.DiskFault → d) → (s ≡ status.TooMuch → l)
    → ForSome told (λ file. (bs : List Batch) × StandsFor file bs) → Causes s r k d l (MayMean told) (DoesMean told)
causes_begun s r k d l told silent read sink disk long stands = record {
  read_fault = read;
  sink_fault = sink;
  disk_fault = disk;
  too_much = long;
  not_store_told = λ is. let e : true ≡ false = sym (ap says_of_file is) ∙ silent in absurd (cc);
  damaged_told = λ offset is. let e : true ≡ false = sym (ap says_of_file is) ∙ silent in absurd (cc);
  not_store_found = λ means. absurd (means_one told not_store stands no_store means);
  damaged_found = λ offset means. absurd (means_one told (damaged offset) stands (no_damage offset) means);
}

-- ---- one whose store was not

found_to : (told : Option (List ℕ)) (f : JournalFault) (m : Meaning) (P : Type 0) → ForSome told (λ file. Refuses f (meaning file)) → ((n : Meaning) → Refuses f n → n ≡ m → P) → DoesMean told m → P
found_to None f m P refused says means = absurd means
found_to (Some file) f m P refused says means = says (meaning file) (refused file refl) means

by_disk : (f : JournalFault) (d : Type 0) → (f ≡ journal.DiskFault → d) → status_of_store f ≡ status.DiskFault → d
by_disk journal.DiskFault d failed is = failed refl
by_disk journal.NotStore d failed is = absurd (cc)
by_disk (journal.Damaged offset) d failed is = absurd (cc)
by_disk journal.Memory d failed is = absurd (cc)

pub causes_refused : (f : JournalFault) (r k d l : Type 0) (told : Option (List ℕ)) → (f ≡ journal.DiskFault → d) → ForSome told (λ file. Refuses f (meaning file)) → Causes (status_of_store f) r k d l (MayMean told) (DoesMean told)
causes_refused f r k d l told failed refused = record {
  read_fault = λ is. absurd (not_of_store f status.ReadFault refl is);
  sink_fault = λ is. absurd (not_of_store f status.SinkFault refl is);
  disk_fault = by_disk f d failed;
  too_much = λ is. absurd (not_of_store f status.TooMuch refl is);
  not_store_told = λ is file known. refused_store f (meaning file) (refused file known) is;
  damaged_told = λ offset is file known. refused_damage f (meaning file) offset (refused file known) is;
  not_store_found = found_to told f not_store _ refused (λ m refuses means. found_store f m refuses means);
  damaged_found = λ offset. found_to told f (damaged offset) _ refused (λ m refuses means. found_damage f m offset refuses means);
}

-- by causes that say less
pub causes_weaker : (s : Status) (r r' k k' d d' l l' : Type 0) (may does : Meaning → Type 0) → (r → r') → (k → k') → (d → d') → (l → l') → Causes s r k d l may does → Causes s r' k' d' l' may does
causes_weaker s r r' k k' d d' l l' may does read sink disk long c = record {
  read_fault = λ is. read (c.read_fault is);
  sink_fault = λ is. sink (c.sink_fault is);
  disk_fault = λ is. disk (c.disk_fault is);
  too_much = λ is. long (c.too_much is);
  not_store_told = c.not_store_told;
  damaged_told = c.damaged_told;
  not_store_found = c.not_store_found;
  damaged_found = c.damaged_found;
}

-- a verb may tell that its store was not opened
pub refused_tells : (v : Verb) (f : JournalFault) → may_tell v (status_of_store f) ≡ true
refused_tells v journal.DiskFault = refl
refused_tells v journal.NotStore = refl
refused_tells v (journal.Damaged offset) = refl
refused_tells v journal.Memory = refl

-- and that the shelf did not open its file
pub shelf_tells : (v : Verb) (f : ShelfFault) → may_tell v (status_of_shelf f) ≡ true
shelf_tells v shelf.Failed = refl
shelf_tells v shelf.Memory = refl

-- lines that are served may stop so
pub stop_tells : (s : Stop) → may_tell serves (status_of s) ≡ true
stop_tells stop.ReadFault = refl
stop_tells stop.SinkFault = refl
stop_tells stop.Memory = refl
stop_tells stop.TooMuch = refl

-- nothing that may be told is that the words were none
pub not_usage : (v : Verb) (s : Status) → may_tell v s ≡ true → s ≡ status.Usage → ⊥
not_usage v s may is = let e : false ≡ true = sym (ap (may_tell v) is) ∙ may in cc
