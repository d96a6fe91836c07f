-- What the bytes of a file mean.
use Rattle.std.specs.Prelude.{◌⊎◌, ◌≡◌, ℕ, suc, zero, ◌+◌, List, [], ◌∷◌, ◌++◌, length, take, drop, Bool, true, false, not, ◌&&◌, ◌||◌, ◌==◌, nat_lt, nat_le, Option, Some, None, is_some, if◌then◌else◌, codes, bytes_eq, flat_map}
use Rattle.std.specs.List.{list_any}
use Rattle.std.specs.Int.{w32, to_be_bytes, from_be_bytes}
use Rattle.gd_prim.specs.declared.Batch.{Batch}
use Rattle.gd_prim.specs.History.{prims_of}
use Rattle.gd_prim.specs.WellFormed.{all_follow}
use Rattle.gd_bytes.specs.Group.{group_of}

-- no store, damage at an offset, or groups of batches
pub data Meaning : Type 0 where
  not_store : Meaning
  damaged : ℕ → Meaning
  groups : List (List Batch) → Meaning

-- the versions of the format: in a file of the first one texts have no language before the mark
pub data Version : Type 0 where
  first second : Version

-- the first eight bytes of a file that is a store of a version
abbrev pub header : Version → List ℕ
header first = codes "GRAPHD1\n"
header second = codes "GRAPHD2\n"

-- the version of a file by its first eight bytes, if it is a store
abbrev pub version_of : List ℕ → Option Version
version_of bytes = if bytes_eq (take 8 bytes) (header first) then Some first else if bytes_eq (take 8 bytes) (header second) then Some second else None

-- the payload that marks a file of the first version: behind it texts may have languages
abbrev pub mark : List ℕ
mark = 0 ∷ 0 ∷ 0 ∷ 2 ∷ []

-- texts may have languages, and no mark may stand: from the start in a file of the second version, behind the mark in one of the first
abbrev pub is_marked : Version → Bool
is_marked first = false
is_marked second = true

-- the greatest length of a payload
abbrev pub max_payload : ℕ
max_payload = 268_435_456

-- the groups joined
abbrev pub joined : List (List Batch) → List Batch
joined gs = flat_map (λ g. g) gs

-- the payload behind a length, where it and the next gate are there in full
abbrev pub payload : List ℕ → Option (List ℕ)
payload bytes =
    let n : ℕ = from_be_bytes w32 (take 4 bytes) in
    if nat_lt (length bytes) 4 || n == 0 || nat_lt max_payload n || nat_le (length bytes) (4 + n) then None else Some (take n (drop 4 bytes))

-- payloads, each with the offset of its record's gate, and the offset of the first record that is not there in full
pub record Payloads : Type 0 where
  pub list : List (ℕ × List ℕ)
  pub damaged : Option ℕ

-- no payloads, and no damage
abbrev pub no_payloads : Payloads
no_payloads = record { list = []; damaged = None }

-- the payloads from an offset on, up to a gate that is not 1; more bounds their number
abbrev pub payloads_from : ℕ → ℕ → List ℕ → Payloads
payloads_from zero offset bytes = no_payloads
payloads_from (suc more) offset [] = no_payloads
payloads_from (suc more) offset (gate ∷ bytes) = if gate == 1 then next (payload bytes) (λ n. payloads_from more (offset + 5 + n) (drop (4 + n) bytes)) else no_payloads
  where
    next : Option (List ℕ) → (ℕ → Payloads) → Payloads
    next None rest = record { list = []; damaged = Some offset }
    next (Some p) rest = let behind : Payloads = rest (length p) in record { list = (offset, p) ∷ behind.list; damaged = behind.damaged }

-- the payloads of a file that begins with a header
abbrev pub payloads : List ℕ → Payloads
payloads bytes = payloads_from (length bytes) 8 (drop 8 bytes)

-- some primitive of the batches names a language
abbrev pub has_lang : List Batch → Bool
has_lang bs = list_any (λ b. list_any (λ p. is_some p.lang) b.prims) bs

-- the batches of a payload, where they may follow those before, and name no language where that is not allowed
abbrev pub record_batches : Bool → List Batch → List ℕ → Option (List Batch)
record_batches marked before p = by (group_of p)
  where
    by : Option (List Batch) → Option (List Batch)
    by None = None
    by (Some bs) = if (marked || not (has_lang bs)) && all_follow (prims_of before) (length before) bs then Some bs else None

-- a group in front of what follows
abbrev pub with_group : List Batch → Meaning → Meaning
with_group bs not_store = not_store
with_group bs (damaged offset) = damaged offset
with_group bs (groups gs) = groups (bs ∷ gs)

-- the groups of payloads, behind these batches and behind the mark or not; the mark is no group, another payload that is none is damage, and so is a record that is not there in full
abbrev pub groups_of : Bool → List Batch → List (ℕ × List ℕ) → Option ℕ → Meaning
groups_of marked before [] None = groups []
groups_of marked before [] (Some offset) = damaged offset
groups_of marked before (r ∷ rs) torn = if not marked && bytes_eq r.1 mark then groups_of true before rs torn
    else next (record_batches marked before r.1) (λ bs. groups_of marked (before ++ bs) rs torn)
  where
    next : Option (List Batch) → (List Batch → Meaning) → Meaning
    next None rest = damaged r.0
    next (Some bs) rest = with_group bs (rest bs)

-- what the bytes of a file mean: a file of at most 9 bytes is an unfinished creation and has no groups, one that does not begin with a header is no store, and the rest is that of its payloads
abbrev pub meaning : List ℕ → Meaning
meaning bytes = if nat_le (length bytes) 9 then groups [] else by (version_of bytes)
  where
    by : Option Version → Meaning
    by None = not_store
    by (Some v) = groups_of (is_marked v) [] (payloads bytes).list (payloads bytes).damaged

-- the bytes stand for this list of batches
abbrev pub StandsFor : List ℕ → List Batch → Type 0
StandsFor bytes bs = (gs : List (List Batch)) × (meaning bytes ≡ groups gs) × (joined gs ≡ bs)

-- the bytes stand for the batches followed by all or none of each of these groups, in order
abbrev pub MayStandFor : List Batch → List (List Batch) → List ℕ → Type 0
MayStandFor bs [] bytes = StandsFor bytes bs
MayStandFor bs (g ∷ gs) bytes = MayStandFor bs gs bytes ⊎ MayStandFor (bs ++ g) gs bytes

-- ---- writing: a record with its gate open, and a file at rest

-- a gate that is open, a length, the payload
abbrev pub open_record : List ℕ → List ℕ
open_record p = 1 ∷ to_be_bytes w32 (length p) ++ p

-- a file of a version whose last gate is closed
abbrev pub at_rest : Version → List (List ℕ) → List ℕ
at_rest v payloads = header v ++ flat_map open_record payloads ++ 0 ∷ []
