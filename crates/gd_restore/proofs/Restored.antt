-- A run over the store of a disk that was opened.
use Rattle.std.proofs.Common.{◌≡◌, refl, sym, subst, ℕ, List, Bool, Option, Some, None, Result, Ok, Err, IfSome, IsTrue}
use Rattle.std.specs.Option.{ForSome, is_some}
use Rattle.gd_prim.specs.declared.Batch.{Batch}
use Rattle.gd_log.specs.State.{IsHeld}
use Rattle.gd_log.specs.Stored.{Stored, Holds}
use Rattle.gd_restore.specs.Dumps.{Loads}
use Rattle.gd_restore.specs.Gathered.{Gathered, HoldsAs, Tells}
use Rattle.gd_restore.specs.Restores.{Leaves, EndsAs, RestoresAs, IfNotOpened}
use Rattle.gd_restore.specs.declared.stop.RestoreStop.{RestoreStop}
use Rattle.gd_restore.specs.declared.stop.RestoreStop.TheVariants as stop

some_of : (o : Option (List ℕ)) → IsTrue (is_some o) → (x : List ℕ) × (o ≡ Some x)
some_of None tells = let never : ⊥ = cc in absurd never
some_of (Some x) tells = (x, refl)

if_some_more : {P Q : List ℕ → Type 0} (a : Option (List ℕ)) → ((x : List ℕ) → P x → Q x) → IfSome a P → IfSome a Q
if_some_more None so p = tt
if_some_more (Some x) so p = so x p

-- a run that has begun, by its end
by_end : (result : Result (Unit {0}) RestoreStop) (begins : List Batch → Type 0) (leaves : List Batch → List (List Batch) → Type 0) (list after : List Batch) (text : List ℕ) → IfNotOpened result (λ f. ⊥) → begins list → EndsAs result leaves list text after
    → RestoresAs result begins leaves text
by_end (Ok u) begins leaves list after text was begun ends = record { list = list; after = after; begun = begun; ends = ends }
by_end (Err (stop.Unopened f)) begins leaves list after text was begun ends = tt
by_end (Err (stop.BadDump n)) begins leaves list after text was begun ends = record { list = list; after = after; begun = begun; ends = ends }
by_end (Err (stop.DumpFrom asked have)) begins leaves list after text was begun ends = record { list = list; after = after; begun = begun; ends = ends }
by_end (Err (stop.Unfit n)) begins leaves list after text was begun ends = record { list = list; after = after; begun = begun; ends = ends }
by_end (Err stop.ReadFault) begins leaves list after text was begun ends = record { list = list; after = after; begun = begun; ends = ends }
by_end (Err stop.TooMuch) begins leaves list after text was begun ends = record { list = list; after = after; begun = begun; ends = ends }
by_end (Err stop.Memory) begins leaves list after text was begun ends = record { list = list; after = after; begun = begun; ends = ends }
by_end (Err stop.DiskFault) begins leaves list after text was begun ends = record { list = list; after = after; begun = begun; ends = ends }

module _ {D : Type 0} (content : D → Option (List ℕ)) (images : D → List ℕ → Type 0) where
  -- a log that was opened holds the batches of its store
  opened_holds : (disk : D) (s : Stored D) → s.log.doubt ≡ None → is_some (content s.log.disk) ≡ is_some (content disk) → ForSome (content disk) (λ file. IsHeld (content s.log.disk) (images s.log.disk) s.log.gate s.batches)
      → Tells (content s.log.disk) → HoldsAs content images s None
  opened_holds disk s none told held tells =
      let (file, is) = some_of (content disk) (subst (λ (b : Bool). IsTrue b) told tells) in
      subst (λ (next : Option ℕ). Holds (content s.log.disk) (images s.log.disk) s.log.gate next s.batches None) (sym none) (held file is)

  pub restored : (disk after : D) (first new : Gathered D) (a : Option (List ℕ)) (result : Result (Unit {0}) RestoreStop) → first.stored.log.doubt ≡ None → is_some (content first.stored.log.disk) ≡ is_some (content disk)
      → ForSome (content disk) (λ file. IsHeld (content first.stored.log.disk) (images first.stored.log.disk) first.stored.log.gate first.stored.batches) → Loads (content disk) first.stored.batches → after ≡ new.stored.log.disk → IfNotOpened result (λ f. ⊥)
      → ((Tells (content first.stored.log.disk) → HoldsAs content images first.stored None) → IfSome a (λ text. EndsAs result (Leaves content images new.stored.log.disk) first.stored.batches text new.stored.batches))
      → IfSome a (RestoresAs result (Loads (content disk)) (Leaves content images after))
  restored disk after first new a result none told held loads same was ends =
      subst (λ (d : D). IfSome a (RestoresAs result (Loads (content disk)) (Leaves content images d))) (sym same)
      (if_some_more a (λ text. by_end result (Loads (content disk)) (Leaves content images new.stored.log.disk) first.stored.batches new.stored.batches text was loads) (ends (opened_holds disk first.stored none told held)))

  -- whatever the source tells
  pub restored_made : (disk after : D) (first new : Gathered D) (result : Result (Unit {0}) RestoreStop) → first.stored.log.doubt ≡ None → is_some (content first.stored.log.disk) ≡ is_some (content disk)
      → ForSome (content disk) (λ file. IsHeld (content first.stored.log.disk) (images first.stored.log.disk) first.stored.log.gate first.stored.batches) → Loads (content disk) first.stored.batches → after ≡ new.stored.log.disk → IfNotOpened result (λ f. ⊥)
      → ((Tells (content first.stored.log.disk) → HoldsAs content images first.stored None) → (text : List ℕ) × EndsAs result (Leaves content images new.stored.log.disk) first.stored.batches text new.stored.batches)
      → (text : List ℕ) × RestoresAs result (Loads (content disk)) (Leaves content images after) text
  restored_made disk after first new result none told held loads same was made =
      let (text, ends) = made (opened_holds disk first.stored none told held) in (
        text,
        subst (λ (d : D). RestoresAs result (Loads (content disk)) (Leaves content images d) text) (sym same)
            (by_end result (Loads (content disk)) (Leaves content images new.stored.log.disk) first.stored.batches new.stored.batches text was loads ends),
      )
