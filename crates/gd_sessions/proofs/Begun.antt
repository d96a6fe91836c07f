-- What a session tells of a reading that begins over the front of the batches that is shown.
use Rattle.std.proofs.Common.{◌≡◌, ◌≢◌, ℕ, List, None, Option, refl, ap, subst, codes}
use Rattle.std.specs.Prelude.{IfSome}
use Rattle.gd_prim.specs.declared.Batch.{Batch}
use Rattle.gd_defs.specs.Lines.{err_line}
use Rattle.gd_runs.specs.Request.{ReadSet}
use Rattle.gd_runs.specs.Core.{Reading, said}
use Rattle.gd_held.specs.PassedOn.{fault_at, IsRefused, ReadFault}
use Rattle.gd_held.specs.PassedOn.read_fault
use Rattle.gd_held.specs.Held.{reads, HasBegun}
use Rattle.gd_held.specs.declared.held.HeldReading.{HeldReading}
use Rattle.gd_sessions.specs.Sessions.{in_session, BeginsAs}

-- it has begun
pub tells_begun : (bs : List Batch) (n k : ℕ) (r : ReadSet) (line : List ℕ) (state : HeldReading) → HasBegun bs n r state → IfSome (reads state) (λ x. line ≡ said x.dateline k (codes "begun")) → BeginsAs bs n k r line (in_session n (reads state))
tells_begun bs n k r line state begins told =
    rw begins.of (subst (λ (o : Option Reading). IfSome o (λ x. line ≡ said x.dateline k (codes "begun"))) begins.held told, ap (in_session n) begins.held)

-- or is refused
pub tells_refused : (bs : List Batch) (n k : ℕ) (r : ReadSet) (line : List ℕ) (f : ReadFault) → IsRefused bs n r f → f ≢ read_fault.Memory → line ≡ err_line (fault_at n f).0 k (fault_at n f).1 → BeginsAs bs n k r line (in_session n None)
tells_refused bs n k r line f refused some told = rw (refused.of some) (told, refl)
