-- A store that was not opened, since there was no memory for its seats.
use Rattle.std.proofs.Common.{refl, ℕ, inl, List, Option, sym, subst, ◌∙◌, arith}
use Rattle.std.specs.Prelude.{IsSome}
use Rattle.std.specs.Option.{ForSome}
use Rattle.gd_bytes.specs.File.{meaning}
use Rattle.gd_disk.specs.Runs.{leaves_start}
use Rattle.gd_journal.specs.declared.fault.JournalFault.TheVariants.{Memory}
use Rattle.gd_log.specs.Opening.{MeansOneOf, Refuses}
use Rattle.gd_runs.proofs.Rounds.{some_same}
use Rattle.gd_crew.specs.PassedOn.{Opens}

module _ {D : Type 0} (content : D → Option (List ℕ)) (moment : D → ℕ) (images : D → List ℕ → Type 0) (images_since : D → ℕ → List ℕ → Type 0) (faults : D → ℕ) where
  -- the disk is as it was
  pub opens_same : ((disk : D) (c : List ℕ) → images_since disk (moment disk) c → images disk c) → (d : D) → Opens content moment images images_since faults d d
  opens_same only d = record {
    told = refl;
    moments = λ file is. leaves_start moment images images_since d (MeansOneOf (images d)) (only d) (λ c now. (c, now, refl));
    kept = λ file is. record {
      told = subst IsSome (sym is) refl;
      read = λ later same. inl (some_same (sym same ∙ is));
      stops = λ c now. (c, now, inl refl);
      left = λ none. record { same = refl; now = λ c now. now; later = omega arith; since = λ t c le since. since };
    };
    later = omega arith;
  }

-- want of memory says nothing of a file
pub refuses_nothing : (told : Option (List ℕ)) → ForSome told (λ file. Refuses Memory (meaning file))
refuses_nothing told = λ file is. tt
