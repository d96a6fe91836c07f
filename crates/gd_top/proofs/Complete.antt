-- A run that meets no fault is done, but for want of memory.
use Rattle.std.proofs.Common.{◌≡◌, true, ◌^◌, ◌<◌, ℕ, List, length, Option, Some, None, refl, sym, ap, ◌∙◌, length-append, ◌⊎◌, inl, inr, arith}
use Rattle.std.specs.Prelude.{IsSomeAnd}
use Rattle.gd_prim.specs.declared.Batch.{Batch}
use Rattle.gd_bytes.specs.File.{Meaning, not_store, damaged, groups, StandsFor}
use Rattle.gd_input.specs.Taken.{TakesAtLeast}
use Rattle.gd_top.specs.declared.status.Status.{Status}
use Rattle.gd_top.specs.declared.status.Status.TheVariants as status
use Rattle.gd_top.specs.Held.{MayMean, MayMeanAt, DoesMean, IsSoundAt, told_at}
use Rattle.gd_top.specs.Ends.{Causes, is_of_text}

-- the input is not too long
within : (left now : Option (List ℕ)) (given_old given_new : ℕ) → TakesAtLeast (2 ^ 40) left now given_old given_new → IsSomeAnd left (λ input. length input < 2 ^ 40) → ⊥
within None now given_old given_new takes short = absurd short
within (Some input) None given_old given_new ((bytes, taken, many), rose) short = absurd taken
within (Some input) (Some rest) given_old given_new ((bytes, taken, many), rose) short = omega (arith, ap length taken, length-append bytes rest, many, short)

-- a file that stands for batches means nothing else
differs : (told : Option (List ℕ)) (m : Meaning) → ((gs : List (List Batch)) → m ≡ groups gs → ⊥) → MayMean told m → IsSomeAnd told (λ file. (bs : List Batch) × StandsFor file bs) → ⊥
differs None m apart may sound = absurd sound
differs (Some file) m apart may sound = let (bs, stands) = sound in let (gs, means, all) = stands in apart gs (sym (may file refl) ∙ means)

sound_at : (content : List ℕ → Option (List ℕ)) (path : Option (List ℕ)) (m : Meaning) → ((gs : List (List Batch)) → m ≡ groups gs → ⊥) → MayMeanAt content path m → IsSoundAt content path → ⊥
sound_at content None m apart may sound = absurd may
sound_at content (Some path) m apart may sound = differs (content path) m apart may sound

no_store : (gs : List (List Batch)) → not_store ≡ groups gs → ⊥
no_store gs e = cc

no_damage : (offset : ℕ) (gs : List (List Batch)) → damaged offset ≡ groups gs → ⊥
no_damage offset gs e = cc

pub complete : (s : Status) (read sink disk : Type 0) (left now : Option (List ℕ)) (given_old given_new : ℕ) (content : List ℕ → Option (List ℕ)) (path : Option (List ℕ)) → (s ≡ status.Usage → ⊥)
    → Causes s read sink disk (TakesAtLeast (2 ^ 40) left now given_old given_new) (MayMeanAt content path) (DoesMean (told_at content path)) → ¬ read → ¬ sink → ¬ disk → IsSoundAt content path
    → IsSomeAnd left (λ input. length input < 2 ^ 40) → ((s ≡ status.Done) ⊎ (s ≡ status.Memory)) ⊎ (is_of_text s ≡ true)
complete status.Done read sink disk left now given_old given_new content path used c no_read no_sink no_disk sound short = inl (inl refl)
complete status.Usage read sink disk left now given_old given_new content path used c no_read no_sink no_disk sound short = absurd (used refl)
complete status.ReadFault read sink disk left now given_old given_new content path used c no_read no_sink no_disk sound short = absurd (no_read (c.read_fault refl))
complete status.SinkFault read sink disk left now given_old given_new content path used c no_read no_sink no_disk sound short = absurd (no_sink (c.sink_fault refl))
complete status.DiskFault read sink disk left now given_old given_new content path used c no_read no_sink no_disk sound short = absurd (no_disk (c.disk_fault refl))
complete status.NotStore read sink disk left now given_old given_new content path used c no_read no_sink no_disk sound short = absurd (sound_at content path not_store no_store (c.not_store_told refl) sound)
complete (status.Damaged offset) read sink disk left now given_old given_new content path used c no_read no_sink no_disk sound short = absurd (sound_at content path (damaged offset) (no_damage offset) (c.damaged_told offset refl) sound)
complete status.Memory read sink disk left now given_old given_new content path used c no_read no_sink no_disk sound short = inl (inr refl)
complete status.TooMuch read sink disk left now given_old given_new content path used c no_read no_sink no_disk sound short = absurd (within left now given_old given_new (c.too_much refl) short)
complete (status.BadDump offset) read sink disk left now given_old given_new content path used c no_read no_sink no_disk sound short = inr refl
complete (status.DumpFrom asked have) read sink disk left now given_old given_new content path used c no_read no_sink no_disk sound short = inr refl
complete (status.Unfit batch) read sink disk left now given_old given_new content path used c no_read no_sink no_disk sound short = inr refl
