-- Laws of the counts of what sessions keep.
use Rattle.std.specs.Prelude.{ℕ, ◌<◌, List, [], map, min, sum, replicate, Option, Some, None}
use Rattle.gd_cache.specs.Shown.{empty}
use Rattle.gd_lookup.specs.Keeping.{KeepingValue}
use Rattle.gd_lookup.specs.Calls.{CountsLines, most_count, AreCounts}

-- what 64 sessions keep at first, which may have so many replies each
abbrev pub none_kept : ℕ → KeepingValue
none_kept n = record { caches = replicate 64 (empty n); reads = 0 }

-- what is kept at first: by 64 sessions, which may have so many replies each, or by none
abbrev pub first_kept : Option ℕ → KeepingValue
first_kept (Some n) = none_kept n
first_kept None = record { caches = []; reads = 0 }

-- from caches without any reply the counts are those of the reads that were answered
abbrev pub CountsAre : Type 0
CountsAre = (n : ℕ) (bs rs : List (List ℕ)) (new : KeepingValue) → 0 < n → CountsLines 0 bs rs (none_kept n) new → AreCounts n bs rs (min (sum (map (λ s. s.hits) new.caches)) most_count) new.reads (min (sum (map (λ s. s.refused) new.caches)) most_count)
