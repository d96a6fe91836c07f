-- The walk of the code.
use Rattle.std.specs.Prelude.{◌≡◌, ℕ, ◌+◌, ◌<◌, ◌≤◌, List, [], ◌∷◌, length, reverse, Result, MatchResult, if◌then◌else◌}
use Rattle.std.specs.Borrow.{Bor}
use Rattle.gd_tplang.specs.Survey as walk
use Rattle.gd_tplang.specs.Survey.{Walk, marks, top, others, finish, enters, Enough}
use Rattle.gd_tplang.specs.declared.stop.Stop.{Stop}
use Rattle.gd_tplang.specs.Stop.{Stopped}
use Rattle.gd_tplang.specs.declared.survey.Walk.TheInside.{Inside}

-- how many items each open template has, the innermost first, and what was seen
unfoldable pub seen : Inside → walk.Walk
seen w = record { counts = if w.is_done then [] else (w.count ∷ reverse w.outer.items); bad = w.is_bad; deepest = w.deepest }

-- an item, which is counted already, was read, and the rest is read from the bytes left, which are fewer, or reading stops
abbrev pub Enters : ℕ → Walk → List ℕ → Walk → Result (Bor (List ℕ)) Stop → Type 0
Enters k old bytes now result =
    let whole = enters k (top old.counts) (others old.counts) (marks old) bytes in
    MatchResult result (λ rest. (whole ≡ finish k now.counts (marks now) rest.now) × (length rest.now < length bytes) × (length now.counts ≤ length old.counts + 1)) (λ e. Stopped e whole)

-- a step was read, and the rest is read from the bytes left, which are fewer and enough, or reading stops
abbrev pub Steps : ℕ → Walk → List ℕ → Walk → Result (Bor (List ℕ)) Stop → Type 0
Steps k old bytes now result =
    let whole = finish k old.counts (marks old) bytes in
    MatchResult result (λ rest. (whole ≡ finish k now.counts (marks now) rest.now) × (length rest.now < length bytes) × Enough k now.counts rest.now) (λ e. Stopped e whole)
