-- A reply cache as contracts see it.
use Rattle.std.specs.Prelude.{◌≡◌, ◌⊎◌, ℕ, ◌+◌, ◌-◌, List, [], ◌∷◌, take, min, length, map, Bool, MatchBool, if◌then◌else◌, is_some}
use Rattle.std.specs.Map.{lookup}
use Rattle.lru.specs.LruCache.{promoted}
use Rattle.gd_cache.specs.declared.key.ReplyKey.{ReplyKey}
use Rattle.gd_cache.specs.declared.key.Kept.{Kept}
use Rattle.gd_cache.specs.Hits.{Call, same_key, fits}

-- the pairs, the latest first, how many there may be, and the counts of hits and of refused puts
pub record Shown : Type 0 where
  pub pairs : List (ReplyKey × Kept)
  pub most : ℕ
  pub hits : ℕ
  pub refused : ℕ

-- one more, up to the greatest number of 64 bits
abbrev pub one_more : ℕ → ℕ
one_more n = min (n + 1) 18_446_744_073_709_551_615

-- the keys that are in, the latest first
abbrev pub keys : Shown → List ReplyKey
keys s = map (λ p. p.0) s.pairs

-- nothing is in yet
abbrev pub empty : ℕ → Shown
empty most = record { pairs = []; most = most; hits = 0; refused = 0 }

-- the key is in
abbrev pub has : Shown → ReplyKey → Bool
has s key = is_some (lookup (same_key key) s.pairs)

-- the key is brought to the front, and counts as a hit where it is in
abbrev pub found : Shown → ReplyKey → Shown
found s key = record { pairs = promoted (same_key key) s.pairs; most = s.most; hits = if has s key then one_more s.hits else s.hits; refused = s.refused }

-- the pair is put in at the front, and the last one goes where there are too many
abbrev pub put : Shown → ReplyKey → Kept → Shown
put s key kept = record { pairs = (key, kept) ∷ take (s.most - 1) s.pairs; most = s.most; hits = s.hits; refused = s.refused }

-- a put found no memory: the pair is dropped
abbrev pub put_refused : Shown → Shown
put_refused s = record { pairs = s.pairs; most = s.most; hits = s.hits; refused = one_more s.refused }

-- what becomes of a cache by a read that was answered: its key is found, or else its reply is put in where it is short enough, unless there is no memory
abbrev pub Counts : Shown → ReplyKey × Kept → Shown → Type 0
Counts s (key, kept) now = MatchBool (has s key)
    (now ≡ found s key)
    (MatchBool (fits key (length kept.outcome)) ((now ≡ put (found s key) key kept) ⊎ (now ≡ put_refused (found s key))) (now ≡ found s key))

-- the call that an answered read is
abbrev pub call_of : ReplyKey × Kept → Call
call_of (key, kept) = record { key = key; outcome = length kept.outcome }

-- what becomes of a cache by reads that were answered, one after another
abbrev pub CountsAll : Shown → List (ReplyKey × Kept) → Shown → Type 0
CountsAll s [] now = now ≡ s
CountsAll s (read ∷ reads) now = (next : Shown) × Counts s read next × CountsAll next reads now
