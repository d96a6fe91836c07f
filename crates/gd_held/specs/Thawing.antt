-- What thawing a frozen text of one query comes to, where so many batches are shown.
use Rattle.std.specs.Prelude.{◌≡◌, ℕ, List, length, nat_lt, ◌⊎◌, Some, Result, Ok, Err, IsTrue}
use Rattle.std.specs.Bool.{MatchBool}
use Rattle.gd_prim.specs.declared.Batch.{Batch}
use Rattle.gd_defs.specs.History.{prims_at}
use Rattle.gd_defs.specs.Asked.{Asked, Unknown, asked_query}
use Rattle.gd_defs.specs.Lines.{Refusal, cursor_ahead}
use Rattle.gd_defs.specs.Reply.{unknown_refusal}
use Rattle.gd_bytes.specs.Frozen.{Frozen, IsFrozenText, IsBadFrozenAt}
use Rattle.gd_runs.specs.Core.{Reading, frozen_fits, bad_frozen}
use Rattle.gd_runs.specs.Request.{ReadRequest, one_query}
use Rattle.gd_thawed.specs.PassedOn.{one_member}

-- the reading of a request that goes on from a frozen reading
abbrev pub going_on : ReadRequest → Frozen → Reading
going_on r f = record { request = one_query r; dateline = f.dateline; after = f.after; thawed = Some f }

-- what a frozen reading comes to whose dateline is shown: its query has no meaning there, or it fits and goes on, or its text is refused as a whole
abbrev pub FittingComes : List Batch → ℕ → ReadRequest → List ℕ → Frozen → Result Asked Unknown → Result Reading (ℕ × Refusal) → Type 0
FittingComes batches shown r bytes f (Err u) outcome = outcome ≡ Err (f.dateline, unknown_refusal u)
FittingComes batches shown r bytes f (Ok q) outcome = (IsTrue (frozen_fits one_member batches r f) × (outcome ≡ Ok (going_on r f)))
    ⊎ ((IsTrue (frozen_fits one_member batches r f) → ⊥) × (outcome ≡ Err (shown, bad_frozen (length bytes))))

-- what a frozen reading comes to whose text the bytes are: it is ahead of what is shown, or its query is looked at
abbrev pub TextComes : List Batch → ℕ → ReadRequest → List ℕ → Frozen → Result Reading (ℕ × Refusal) → Type 0
TextComes batches shown r bytes f outcome = MatchBool (nat_lt shown f.dateline) (outcome ≡ Err (shown, cursor_ahead f.dateline shown))
    (FittingComes batches shown r bytes f (asked_query (prims_at batches f.dateline) r.query) outcome)

-- what thawing bytes as a reading of a request comes to: the reading that goes on, or the refusal with its dateline. They are the text of a frozen reading, or so many of them go with the grammar
abbrev pub ThawComes : List Batch → ℕ → ReadRequest → List ℕ → Result Reading (ℕ × Refusal) → Type 0
ThawComes batches shown r bytes outcome =
    ((f : Frozen) × IsFrozenText f bytes × TextComes batches shown r bytes f outcome)
    ⊎ ((n : ℕ) × IsBadFrozenAt bytes n × (outcome ≡ Err (shown, bad_frozen n)))
