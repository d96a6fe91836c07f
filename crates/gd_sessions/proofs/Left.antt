-- What opening leaves of a disk that nobody touched.
use Rattle.std.proofs.Common.{◌≡◌, ℕ, Bool, true, false, List, [], ◌∷◌, ◌++◌, Option, Some, None, refl, sym, subst, inl, inr, ⊎_elim, ◌∙◌, arith}
use Rattle.std.specs.Prelude.{IsSome}
use Rattle.std.specs.Option.{ForSome}
use Rattle.gd_disk.specs.Runs.{leaves_start}
use Rattle.gd_log.specs.Opening.{MeansOneOf, Refuses}
use Rattle.gd_prim.specs.declared.Batch.{Batch}
use Rattle.gd_bytes.specs.File.{meaning, MayStandFor}
use Rattle.gd_journal.specs.declared.fault.JournalFault.TheVariants.{Memory}
use Rattle.gd_runs.proofs.Rounds.{some_same}
use Rattle.gd_runs.specs.Legal.{batches}
use Rattle.gd_runs.specs.Side.{doubt_groups}
use Rattle.gd_runs.specs.Core.{Session}
use Rattle.gd_writer.specs.Parts.{Tells}
use Rattle.gd_writer.specs.Side.{SideValue, state_of, KeepsAll}
use Rattle.gd_sessions.specs.Running.{StandsForState}
use Rattle.gd_writer.specs.Opened.{Opens}

module _ {D : Type 0} (content : D → Option (List ℕ)) (moment : D → ℕ) (images : D → List ℕ → Type 0) (images_since : D → ℕ → List ℕ → Type 0) (faults : D → ℕ) where
  pub opens_same : ((disk : D) (c : List ℕ) → images_since disk (moment disk) c → images disk c) → (d : D) → Opens content moment images images_since faults d d
  opens_same only d = record {
    told = refl;
    moments = λ file is. leaves_start moment images images_since d (MeansOneOf (images d)) (only d) (λ c now. (c, now, refl));
    kept = λ file is. record {
      told = subst IsSome (sym is) refl;
      read = λ later same. inl (some_same (sym same ∙ is));
      stops = λ c now. (c, now, inl refl);
      left = λ none. record { same = refl; now = λ c now. now; later = omega arith; since = λ t c le since. since };
    };
    later = omega arith;
  }

-- want of memory says nothing of a file
pub refuses_nothing : (told : Option (List ℕ)) → ForSome told (λ file. Refuses Memory (meaning file))
refuses_nothing told = λ file is. tt

-- what means the same stands for the same
pub same_stands : (bs : List Batch) (gs : List (List Batch)) (file before : List ℕ) → meaning file ≡ meaning before → MayStandFor bs gs before → MayStandFor bs gs file
same_stands bs [] file before same (groups, means, joins) = (groups, same ∙ means, joins)
same_stands bs (g ∷ gs) file before same stands = ⊎_elim
    (λ without. inl (same_stands bs gs file before same without))
    (λ with_it. inr (same_stands (bs ++ g) gs file before same with_it))
    stands

not_true : false ≡ true → ⊥
not_true is = cc

-- what is left of a store that was not opened again stands for the state before
pub lost_stands : {D C : Type 0} (content : D → Option (List ℕ)) (moment : D → ℕ) (images : D → List ℕ → Type 0) (images_since : D → ℕ → List ℕ → Type 0) (faults : D → ℕ) (may : C → ℕ → Bool) (old : SideValue D C) (sessions : ℕ → Session) (disk new : D)
    → KeepsAll content images may old → disk ≡ old.log.disk → Opens content moment images images_since faults disk new → Tells (content old.log.disk) → (file : List ℕ) → images new file → StandsForState (state_of old sessions) file
lost_stands content moment images images_since faults may old sessions disk new keeps same opens tells file left = by (content disk) refl told
  where
    told : Tells (content disk)
    told = subst (λ (d : _). Tells (content d)) (sym same) tells

    by : (o : Option (List ℕ)) → content disk ≡ o → Tells (content disk) → StandsForState (state_of old sessions) file
    by None is t = absurd (not_true (subst Tells is t))
    by (Some f) is t =
        let (before, was, means) = (opens.moments f is).now file left in
        same_stands (batches old.history) (doubt_groups old.doubt) file before means (keeps.holds before (tells, subst (λ (d : _). images d before) same was))
