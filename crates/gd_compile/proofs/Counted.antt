-- Something was looked at where a property was found.
use Rattle.std.proofs.Common.{◌≡◌, ◌≤◌, ℕ, Bool, true, false, ◌||◌, ◌⊎◌, inl, inr, arith}
use Rattle.gd_base.specs.Counts.{Rose}
use Rattle.gd_defs.specs.Query as query
use Rattle.gd_mql.specs.Clauses.{with_part}
use Rattle.gd_mql.specs.declared.clause.Part.{Part}
use Rattle.gd_mql.specs.declared.clause.Part.TheVariants as part
use Rattle.gd_compile.specs.Walk.{asks_property, part_asks}

-- a count that rose has risen since before and until later
rose_since : (a b c : ℕ) → a ≤ b → Rose b c → Rose a c
rose_since a b c before rose = omega (arith, before, rose)

rose_until : (a b c : ℕ) → Rose a b → b ≤ c → Rose a c
rose_until a b c rose later = omega (arith, rose, later)

-- one of members asks a property: the first of them, or one behind it
pub asks_next : (p : Part) (ms : query.Members) → asks_property (with_part p ms) ≡ true → (part_asks p ≡ true) ⊎ (asks_property ms ≡ true)
asks_next (part.Sort ws) ms asks = inr asks
asks_next (part.Member n f) ms asks = by (part_asks (part.Member n f)) (asks_property ms) asks
  where
    by : (a b : Bool) → (a || b) ≡ true → (a ≡ true) ⊎ (b ≡ true)
    by true b is = inl is
    by false b is = inr is

-- a part more was walked
pub counted_next : (all rest part others : Bool) (a b c : ℕ) → (all ≡ true → (rest ≡ true) ⊎ Rose a b) → (rest ≡ true → (part ≡ true) ⊎ (others ≡ true)) → (part ≡ true → Rose b c) → a ≤ b → b ≤ c
    → all ≡ true → (others ≡ true) ⊎ Rose a c
counted_next all rest part others a b c counted next rose before later asks = split (counted asks)
  where
    first : (part ≡ true) ⊎ (others ≡ true) → (others ≡ true) ⊎ Rose a c
    first (inl here) = inr (rose_since a b c before (rose here))
    first (inr behind) = inl behind

    split : (rest ≡ true) ⊎ Rose a b → (others ≡ true) ⊎ Rose a c
    split (inl left) = first (next left)
    split (inr risen) = inr (rose_until a b c risen later)
