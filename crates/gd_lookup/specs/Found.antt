-- Which reply to a read is found in a cache.
use Rattle.std.specs.Prelude.{◌≡◌, ℕ, ◌≤◌, List, length, nat_le, Option, None, Some, option_and_then, slice_get, if◌then◌else◌}
use Rattle.std.specs.Map.{lookup}
use Rattle.gd_prim.specs.declared.Batch.{Batch}
use Rattle.gd_defs.specs.Reply.{max_reply}
use Rattle.gd_runs.specs.Request.{ReadSet, reply_of}
use Rattle.gd_cache.specs.Asked.{IsKeyOf, dateline_at}
use Rattle.gd_cache.specs.Hits.{same_key}
use Rattle.gd_cache.specs.Line.{kept_text}
use Rattle.gd_cache.specs.Right.{KeepsRight}
use Rattle.gd_cache.specs.Shown.{Shown}

-- a line, if it is no longer than a reply may be
abbrev pub within_reply : List ℕ → Option (List ℕ)
within_reply line = if nat_le (length line) max_reply then Some line else None

-- the reply line k of what is kept under a text and a dateline
abbrev pub found_line : Shown → List ℕ → ℕ → ℕ → Option (List ℕ)
found_line s text dateline k = option_and_then (λ kept. within_reply (kept_text dateline k kept)) (lookup (same_key (record { text = text; dateline = dateline })) s.pairs)

-- the reply line k of what is kept under a text, for a read of this dateline
abbrev pub found_reply : Shown → List ℕ → Option ℕ → ℕ → Option (List ℕ)
found_reply s text dateline k = option_and_then (λ n. found_line s text n k) dateline

-- so it is of what the session with a number keeps, if replies are kept and the read has a text
abbrev pub reply_kept : List Shown → ℕ → Option (List ℕ) → Option ℕ → ℕ → Option (List ℕ)
reply_kept caches session key dateline k = option_and_then (λ s. option_and_then (λ text. found_reply s text dateline k) key) (slice_get caches session)

-- these bytes are the reply line k to whatever read has this text, wherever it has this dateline, over all batches over which what is kept is right
abbrev pub IsReplyAt : Shown → List ℕ → ℕ → ℕ → List ℕ → Type 0
IsReplyAt s text dateline k bytes = (batches : List Batch) (q : ReadSet) (at : ℕ) → KeepsRight batches s → IsKeyOf text q → at ≤ length batches → dateline_at at q ≡ Some dateline → bytes ≡ reply_of batches at k q

-- these bytes are the reply line k to this read over so many of all batches over which what is kept is right, if this is its text
abbrev pub IsReplyFor : Shown → List ℕ → ReadSet → ℕ → ℕ → List ℕ → Type 0
IsReplyFor s text q at k bytes = (batches : List Batch) → KeepsRight batches s → IsKeyOf text q → at ≤ length batches → bytes ≡ reply_of batches at k q
