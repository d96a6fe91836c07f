-- Laws of what is kept.
use Rattle.std.specs.Prelude.{◌≡◌, ℕ, ◌≤◌, List, length, true}
use mathlib.Core.List.{IsPrefix}
use Rattle.gd_prim.specs.declared.Batch.{Batch}
use Rattle.gd_runs.specs.Request.{ReadSet, reply_of}
use Rattle.gd_cache.specs.Asked.{IsTextOf}
use Rattle.gd_cache.specs.Right.{KeepsRight, is_ok, IsAnswered}
use Rattle.gd_cache.specs.Shown.{Shown}

-- one text is that of one read
abbrev pub KeysTell : Type 0
KeysTell = (text : List ℕ) (q r : ReadSet) → IsTextOf text q → IsTextOf text r → q ≡ r

-- what is kept rightly is right over all batches that begin with those over which it was
abbrev pub KeptLater : Type 0
KeptLater = (batches more : List Batch) (s : Shown) → IsPrefix batches more → KeepsRight batches s → KeepsRight more s

-- a reply line that begins as one of an answer is that of what may be kept
abbrev pub AnswersAreKept : Type 0
AnswersAreKept = (batches : List Batch) (at k : ℕ) (q : ReadSet) → at ≤ length batches → is_ok (reply_of batches at k q) ≡ true → IsAnswered batches at k q
