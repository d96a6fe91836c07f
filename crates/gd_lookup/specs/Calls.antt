-- How the replies to lines are counted, and what that comes to.
use Rattle.std.specs.Prelude.{◌≡◌, ℕ, ◌+◌, ◌-◌, ◌^◌, List, [], ◌∷◌, length, map, min, sum, Bool, false, ◌&&◌, ◌==◌, MatchBool, Option, Some, None, IfSome, Result, Ok, Err, if◌then◌else◌, slice_get}
use Rattle.gd_runs.specs.Request.{Line, ReadSet, read, write}
use Rattle.gd_runs.specs.Input.{InputFault, line_from}
use Rattle.gd_cache.specs.declared.key.ReplyKey.{ReplyKey}
use Rattle.gd_cache.specs.declared.key.Kept.{Kept}
use Rattle.gd_cache.specs.Asked.{key_of}
use Rattle.gd_cache.specs.Hits.{hits_of}
use Rattle.gd_cache.specs.Line.{kept_text}
use Rattle.gd_cache.specs.Right.{is_ok, IsPlainKept}
use Rattle.gd_cache.specs.Shown.{call_of}
use Rattle.gd_lookup.specs.Keeping.{KeepingValue, CountsReply}

-- ---- what is done

-- the session of a line that is a read
abbrev pub reader_of : List ℕ → Option ℕ
reader_of bytes = by (line_from bytes)
  where
    by : Result Line InputFault → Option ℕ
    by (Ok (read s q)) = Some s
    by (Ok (write s w)) = None
    by (Err f) = None

-- a line is a read that was answered
abbrev pub is_answered : List ℕ → List ℕ → Bool
is_answered bytes reply = by (reader_of bytes)
  where
    by : Option ℕ → Bool
    by (Some s) = is_ok reply
    by None = false

-- the reply line k to a read was counted for its session, under the text of the read, if it had that
pub record CountsRead (k : ℕ) (bytes reply : List ℕ) (old new : KeepingValue) : Type 0 where
  pub session : ℕ
  pub request : ReadSet
  pub asks : line_from bytes ≡ Ok (read session request)
  pub key : Option (List ℕ)
  pub key_is : IfSome key (λ text. key_of bytes ≡ Some text)
  pub counts : CountsReply old session key k reply new

-- the reply to line k was counted, if it is the answer to a read
abbrev pub CountsLine : ℕ → List ℕ → List ℕ → KeepingValue → KeepingValue → Type 0
CountsLine k bytes reply old new = MatchBool (is_answered bytes reply) (CountsRead k bytes reply old new) (new ≡ old)

-- so it is of each line, in order, the first of them line k
abbrev pub CountsLines : ℕ → List (List ℕ) → List (List ℕ) → KeepingValue → KeepingValue → Type 0
CountsLines k [] [] old new = new ≡ old
CountsLines k [] (r ∷ rs) old new = ⊥
CountsLines k (b ∷ bs) [] old new = ⊥
CountsLines k (b ∷ bs) (r ∷ rs) old new = (next : KeepingValue) × CountsLine k b r old next × CountsLines (k + 1) bs rs next new

-- ---- what it comes to

-- where a count stays
abbrev pub most_count : ℕ
most_count = 2 ^ 64 - 1

-- how many of the lines are reads that were answered
abbrev pub answered_count : List (List ℕ) → List (List ℕ) → ℕ
answered_count [] rs = 0
answered_count (b ∷ bs) [] = 0
answered_count (b ∷ bs) (r ∷ rs) = (if is_answered b r then 1 else 0) + answered_count bs rs

-- a line is a read of this session that was answered
abbrev pub is_answered_for : ℕ → List ℕ → List ℕ → Bool
is_answered_for s bytes reply = by (reader_of bytes)
  where
    by : Option ℕ → Bool
    by (Some i) = (i == s) && is_ok reply
    by None = false

-- what line k asks and was answered: the text and the printed dateline, and of the reply the cursor and the result
pub record IsRead (k : ℕ) (bytes reply : List ℕ) (r : ReplyKey × Kept) : Type 0 where
  pub text : key_of bytes ≡ Some r.0.text
  pub line : reply ≡ kept_text r.0.dateline k r.1
  pub plain : IsPlainKept r.1

-- these are the reads of a session that were answered, in order, the first of the lines being line k
abbrev pub AreReads : ℕ → ℕ → List (List ℕ) → List (List ℕ) → List (ReplyKey × Kept) → Type 0
AreReads s k [] rs reads = reads ≡ []
AreReads s k (b ∷ bs) [] reads = reads ≡ []
AreReads s k (b ∷ bs) (r ∷ rs) reads = MatchBool (is_answered_for s b r)
    ((one : ReplyKey × Kept) × (rest : List (ReplyKey × Kept)) × (reads ≡ one ∷ rest) × IsRead k b r one × AreReads s (k + 1) bs rs rest)
    (AreReads s (k + 1) bs rs reads)

-- so many of the reads of a session that were answered found their reply among the last n, by definition
abbrev pub HasHits : ℕ → List (List ℕ) → List (List ℕ) → ℕ → ℕ → Type 0
HasHits n bs rs s h = (reads : List (ReplyKey × Kept)) × AreReads s 0 bs rs reads × (h ≡ hits_of (map call_of reads) n)

-- The counts of a run whose 64 sessions keep n replies each: as many reads as were answered; and, where no put was refused, the hits of all sessions together.
pub record AreCounts (n : ℕ) (bs rs : List (List ℕ)) (hits reads refused : ℕ) : Type 0 where
  pub reads_are : reads ≡ min (answered_count bs rs) most_count
  pub hits_are : refused ≡ 0 → (each : List ℕ) × (length each ≡ 64) × ((s h : ℕ) → slice_get each s ≡ Some h → HasHits n bs rs s h) × (hits ≡ min (sum each) most_count)
