-- What it means that a reply is kept rightly.
use Rattle.std.specs.Prelude.{◌≡◌, ◌≢◌, ℕ, ◌≤◌, List, [], ◌∷◌, length, take, Bool, bytes_eq, Option, None, Some, codes}
use Rattle.std.specs.List.{AllByRecursion}
use Rattle.gd_prim.specs.declared.Batch.{Batch}
use Rattle.gd_defs.specs.Reply.{max_reply}
use Rattle.gd_runs.specs.Request.{ReadSet, reply_of}
use Rattle.gd_cache.specs.declared.key.ReplyKey.{ReplyKey}
use Rattle.gd_cache.specs.declared.key.Kept.{Kept}
use Rattle.gd_cache.specs.Asked.{IsKeyOf, dateline_at}
use Rattle.gd_cache.specs.Line.{kept_text}
use Rattle.gd_cache.specs.Shown.{Shown}

-- What is kept under a key is right over batches: at each line, it makes the reply to whatever read has this key, wherever that read has this dateline. A line that would be longer than a reply may be is none.
pub record IsKeptRight (batches : List Batch) (key : ReplyKey) (kept : Kept) : Type 0 where
  pub within : key.dateline ≤ length batches
  pub right : (q : ReadSet) → IsKeyOf key.text q → (at : ℕ) → at ≤ length batches → dateline_at at q ≡ Some key.dateline → (k : ℕ) → length (kept_text key.dateline k kept) ≤ max_reply
      → reply_of batches at k q ≡ kept_text key.dateline k kept

-- all that is kept is right over batches
abbrev pub KeepsRight : List Batch → Shown → Type 0
KeepsRight batches s = AllByRecursion (λ p. IsKeptRight batches p.0 p.1) s.pairs

-- the bytes with which the reply line of an answer begins
abbrev pub ok_front : List ℕ
ok_front = codes "{\"code\":\"/api/status/ok\""

-- a reply line is that of an answer
abbrev pub is_ok : List ℕ → Bool
is_ok reply = bytes_eq (take 24 reply) ok_front

-- a cursor as it prints has no comma
abbrev pub Commaless : List ℕ → Type 0
Commaless [] = Unit {0}
Commaless (c ∷ cs) = (c ≢ 44) × Commaless cs

-- so it is of a cursor, where there is one
abbrev pub IsPlainCursor : Option (List ℕ) → Type 0
IsPlainCursor None = Unit {0}
IsPlainCursor (Some cursor) = Commaless cursor

-- so it is of what is kept
abbrev pub IsPlainKept : Kept → Type 0
IsPlainKept kept = IsPlainCursor kept.cursor

-- The reply to a read is an answer: at this dateline, as the line of what may be kept of it, which is right under the key of the read.
pub record IsAnswered (batches : List Batch) (at k : ℕ) (q : ReadSet) : Type 0 where
  pub dateline : ℕ
  pub has : dateline_at at q ≡ Some dateline
  pub kept : Kept
  pub plain : IsPlainKept kept
  pub is : reply_of batches at k q ≡ kept_text dateline k kept
  pub right : (text : List ℕ) → IsKeyOf text q → IsKeptRight batches (record { text = text; dateline = dateline }) kept
