-- Which batches may follow a list of primitives.
use Rattle.std.specs.Prelude.{ℕ, ◌+◌, ℤ, pos, negsuc, List, [], ◌∷◌, ◌++◌, length, Bool, true, false, not, ◌&&◌, ◌||◌, ◌==◌, nat_lt, nat_le, int_le, Option, Some, None, is_some, if◌then◌else◌}
use Rattle.std.specs.List.{list_all}
use Rattle.std.specs.Option.{option_map_or}
use Rattle.gd_base.specs.declared.datum.Datum.{Datum}
use Rattle.gd_base.specs.declared.datum.Datum.TheVariants as datum
use Rattle.gd_prim.specs.declared.Primitive.{Primitive}
use Rattle.gd_prim.specs.declared.Batch.{Batch}
use Rattle.gd_prim.specs.Builtin.{english_place}
use Rattle.gd_prim.specs.Live.{is_current, text_of}
use Rattle.gd_prim.specs.Limits.{max_prims, max_batch, limits, first_full}

-- a clock's numbers are cut off here
abbrev pub max_moment : ℕ
max_moment = 253_402_300_799_999

-- the reference, if there is one, is below this place
abbrev pub refers_below : ℕ → Option ℕ → Bool
refers_below place reference = option_map_or (λ p. nat_lt p place) reference true

-- the previous primitive, if there is one, is current among those before
abbrev pub succeeds_current : List Primitive → Option ℕ → Bool
succeeds_current before previous = option_map_or (is_current before) previous true

-- from the first moment of the year 0000 to the last of 9999
abbrev pub is_moment : ℤ → Bool
is_moment ms = int_le (negsuc 62_167_219_199_999) ms && int_le ms (pos max_moment)

-- a whole number of 64 bits
abbrev pub is_number : ℤ → Bool
is_number n = int_le (negsuc 9_223_372_036_854_775_807) n && int_le n (pos 9_223_372_036_854_775_807)

-- a value that a primitive may hold
abbrev pub may_hold : Datum → Bool
may_hold (datum.Object o) = false
may_hold (datum.Int n) = is_number n
may_hold (datum.Moment ms precision) = is_moment ms
may_hold _ = true

-- each reference of the primitive is below this place
abbrev pub refers_back : ℕ → Primitive → Bool
refers_back place p = list_all (refers_below place) (p.left ∷ p.right ∷ p.typ ∷ p.scope ∷ p.previous ∷ p.lang ∷ [])

-- a language that is named is not English, and is that of a text
abbrev pub may_name_language : Primitive → Bool
may_name_language p = option_map_or (λ l. not (l == english_place) && is_some (text_of p.value)) p.lang true

-- the rules for the primitive at the end of a list, the i-th of a batch of this moment
abbrev pub is_well_placed : List Primitive → ℕ → ℕ → Primitive → Bool
is_well_placed before moment i p =
    refers_back (length before) p && (p.live || is_some p.previous) && may_hold p.value && may_name_language p
    && p.moment == moment && nat_le moment max_moment && nat_lt (length before) max_prims && nat_lt i max_batch
    && succeeds_current before p.previous

-- the first place whose primitive breaks a rule
abbrev pub first_bad : List Primitive → ℕ → ℕ → List Primitive → Option ℕ
first_bad before moment i [] = None
first_bad before moment i (p ∷ ps) = if is_well_placed before moment i p then first_bad (before ++ p ∷ []) moment (i + 1) ps else Some (length before)

-- the first place of a batch that breaks a rule behind a list
abbrev pub bad_place : List Primitive → Batch → Option ℕ
bad_place prims b = first_bad prims b.moment 0 b.prims

-- the batch is well formed and passes no limit after so many requests
abbrev pub may_follow : List Primitive → ℕ → Batch → Bool
may_follow prims requests b = not (is_some (bad_place prims b)) && not (is_some (first_full (limits prims requests b.prims)))

-- so is each batch after those before it
abbrev pub all_follow : List Primitive → ℕ → List Batch → Bool
all_follow prims requests [] = true
all_follow prims requests (b ∷ bs) = may_follow prims requests b && all_follow (prims ++ b.prims) (requests + 1) bs
