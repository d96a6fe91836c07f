-- A doubt that ends with a closed gate.
use Rattle.std.proofs.Common.{◌≡◌, ◌≢◌, ℕ, List, get_or, false, sym, ◌∙◌, ap}
use Rattle.std.specs.Prelude.{Option, Bool, ◌==◌}
use Rattle.std.specs.Option.{is_some, ForSome}
use Rattle.gd_bytes.specs.File.{Version}
use Rattle.gd_bytes.specs.Disk.{LeavesOnly, IsUntouched, Only}
use Rattle.gd_disk.specs.Runs.{leaves_start, leaves_join, leaves_weaken, leaves_untouched}
use Rattle.gd_journal.specs.Shape.{IsClosed, IsDoubtful}
use Rattle.gd_journal.specs.State.{AtGate}
use Rattle.gd_journal.proofs.Told.{content_of, gate_shut}
use Rattle.gd_journal.proofs.Gates.{closed_doubtful, closed_if}

module _ {D : Type 0} {content : D → Option (List ℕ)} {moment : D → ℕ} {images : D → List ℕ → Type 0} {images_since : D → ℕ → List ℕ → Type 0} where
  -- the gate was read, and is not open
  pub shut_there : (was mid : D) (gate : ℕ) (open_there : Bool) (v : Version) (ps : List (List ℕ)) (p : List ℕ) → IsUntouched content moment images images_since was mid → ForSome (content mid) (λ file. Only file (images mid))
      → ForSome (content mid) (λ file. open_there ≡ (get_or file gate 0 == 1)) → open_there ≡ false → AtGate (content was) (images was) gate v ps (IsDoubtful v ps p) → AtGate (content mid) (images mid) gate v ps (IsClosed v ps)
  shut_there was mid gate open_there v ps p u only value closed s =
      let f0 = content_of (content was) s.told in
      let told = u.same ∙ f0.1 in
      let shut : get_or f0.0 gate 0 ≢ 1 = gate_shut open_there (get_or f0.0 gate 0) (value f0.0 told) closed in
      record {
        told = ap is_some u.same ∙ s.told;
        place = s.place;
        left = λ f now. closed_if v ps p f gate s.place (λ one. shut (ap (λ (l : List ℕ). get_or l gate 0) (sym (only f0.0 told f now)) ∙ one)) (s.left f (u.now f now));
      }

  -- and then the file is cleared
  pub shut_leaves : (was mid new : D) (gate : ℕ) (open_there : Bool) (v : Version) (ps : List (List ℕ)) (p : List ℕ) → ((c : List ℕ) → images_since was (moment was) c → images was c) → IsUntouched content moment images images_since was mid → ForSome (content mid) (λ file. Only file (images mid))
      → ForSome (content mid) (λ file. open_there ≡ (get_or file gate 0 == 1)) → open_there ≡ false → ((qs : List (List ℕ)) → AtGate (content mid) (images mid) gate v qs (IsClosed v qs) → LeavesOnly moment images images_since mid new (IsClosed v qs))
      → AtGate (content was) (images was) gate v ps (IsDoubtful v ps p) → LeavesOnly moment images images_since was new (IsDoubtful v ps p)
  shut_leaves was mid new gate open_there v ps p only_now u only value closed clears s =
      let begun = leaves_start moment images images_since was (IsDoubtful v ps p) only_now s.left in
      let read = leaves_untouched was was mid (IsDoubtful v ps p) begun u in
      leaves_join was mid new (IsDoubtful v ps p) read
      (leaves_weaken mid new (IsClosed v ps) (IsDoubtful v ps p) (closed_doubtful v ps p) (clears ps (shut_there was mid gate open_there v ps p u only value closed s)))
