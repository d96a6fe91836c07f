-- What the sessions of a run keep, and what becomes of it by the replies to their reads.
use Rattle.std.specs.Prelude.{◌≡◌, ◌⊎◌, ℕ, List, [], ◌∷◌, length, MatchBool, Option, Some, slice_get, slice_set}
use Rattle.std.specs.List.{AllByRecursion}
use Rattle.gd_prim.specs.declared.Batch.{Batch}
use Rattle.gd_cache.specs.declared.key.Kept.{Kept}
use Rattle.gd_cache.specs.Line.{kept_text}
use Rattle.gd_cache.specs.Right.{KeepsRight, is_ok, IsPlainKept}
use Rattle.gd_cache.specs.Shown.{Shown, one_more, put_refused, Counts}

-- the caches by session, none where replies are not kept, and how many reads were answered
pub record KeepingValue : Type 0 where
  pub caches : List Shown
  pub reads : ℕ

-- all that is kept is right over batches
abbrev pub AllRight : List Batch → List Shown → Type 0
AllRight batches caches = AllByRecursion (KeepsRight batches) caches

-- the reply line k, an answer, was counted in a cache by what is kept of it under its text; or there was no memory for that, and a put is refused
abbrev pub CountsOne : Shown → Option (List ℕ) → ℕ → List ℕ → Shown → Type 0
CountsOne s key k reply now = ((text : List ℕ) × (dateline : ℕ) × (kept : Kept) × (key ≡ Some text) × (reply ≡ kept_text dateline k kept) × IsPlainKept kept × Counts s (record { text = text; dateline = dateline }, kept) now) ⊎ (now ≡ put_refused s)

-- this was counted in a cache at this dateline, under the text, or a put is refused
abbrev pub IsCountedAs : Shown → Option (List ℕ) → ℕ → Kept → Shown → Type 0
IsCountedAs s key dateline kept now = ((text : List ℕ) × (key ≡ Some text) × Counts s (record { text = text; dateline = dateline }, kept) now) ⊎ (now ≡ put_refused s)

-- the reply line k to a read of a session, an answer, was counted
pub record CountsAnswer (old : KeepingValue) (session : ℕ) (key : Option (List ℕ)) (k : ℕ) (reply : List ℕ) (new : KeepingValue) : Type 0 where
  pub cache : Shown
  pub there : slice_get old.caches session ≡ Some cache
  pub now : Shown
  pub caches : new.caches ≡ slice_set old.caches session now
  pub reads : new.reads ≡ one_more old.reads
  pub counts : CountsOne cache key k reply now

-- so it is of each reply that is an answer, and of no other, where these caches are kept
abbrev pub CountsIn : List Shown → KeepingValue → ℕ → Option (List ℕ) → ℕ → List ℕ → KeepingValue → Type 0
CountsIn [] old session key k reply new = new ≡ old
CountsIn (s ∷ ss) old session key k reply new = MatchBool (is_ok reply) (CountsAnswer old session key k reply new) (new ≡ old)

-- the reply line k to a read of a session was counted, if it is an answer and replies are kept
abbrev pub CountsReply : KeepingValue → ℕ → Option (List ℕ) → ℕ → List ℕ → KeepingValue → Type 0
CountsReply old session key k reply new = CountsIn old.caches old session key k reply new

-- replies are kept by none of the sessions, or by each
abbrev pub AreAll : List Shown → Type 0
AreAll caches = (caches ≡ []) ⊎ (length caches ≡ 64)
