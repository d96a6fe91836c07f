-- Laws of numbers in runs: where a place stands among all numbers, and what a change of one run means for them.
use Rattle.std.proofs.Common.{◌≡◌, ◌∙◌, ◌+◌, ◌-◌, ◌<◌, ◌≤◌, ℕ, zero, suc, List, [], ◌∷◌, ◌++◌, Bool, true, false, Some, refl, sym, ap, subst, length, length-append, append_assoc, take, drop, arith, get_or, ⊎_elim}
use Rattle.std.specs.Prelude.{slice_get, slice_set, nat_lt}
use Rattle.std.specs.List.{insert, remove}
use Rattle.std.specs.List.Sorted.{IsPartitionedBy, IsPartitionPoint}
use Rattle.std.proofs.lemmas.Bool.{cases_lt, ltb-true}
use Rattle.std.proofs.lemmas.List.{length-take-le, length-drop}
use Rattle.std.proofs.lemmas.Option.{slice_get_within, slice_get-get_or, slice_get_read, get_or_from_slice_get}
use Rattle.std.proofs.lemmas.List.Concat.{get_or-flat_map}
use Rattle.std.proofs.lemmas.List.Folds.{length-flat_map-take}
use Rattle.std.proofs.lemmas.Grind.{get_or_default_zero}
use Rattle.gd_valueidx.specs.Runs.{flat, rank, AreRuns, IsPlace, IsSplit}

-- ---- where a place stands

longer : (runs : List (List ℕ)) (i j : ℕ) → i ≤ j → length (flat (take i runs)) ≤ length (flat (take j runs))
longer runs zero j order = omega arith
longer [] (suc i) j order = omega arith
longer (r ∷ rs) (suc i) zero order = absurd (omega (arith, order))
longer (r ∷ rs) (suc i) (suc j) order =
    let rest = longer rs i j (omega (arith, order)) in
    let left = length-append r (flat (take i rs)) in
    let right = length-append r (flat (take j rs)) in
    omega (arith, rest, left, right)

within : (runs : List (List ℕ)) (c i : ℕ) → c < length runs → i < length (get_or runs c []) → length (flat (take c runs)) + i < length (flat runs)
within runs c i there inside =
    let all = length-flat_map-take (λ (r : List ℕ). r) runs c [] there in
    omega (arith, all, inside)

-- the number at a place of a run
pub at_rank : (runs : List (List ℕ)) (c i d : ℕ) → c < length runs → i < length (get_or runs c []) → get_or (flat runs) (rank runs c i) d ≡ get_or (get_or runs c []) i d
at_rank runs c i d there inside = get_or-flat_map (λ (r : List ℕ). r) runs c i [] d there inside

full : (runs : List (List ℕ)) → AreRuns runs → (c : ℕ) → c < length runs → 0 < length (get_or runs c [])
full [] some c there = absurd (omega (arith, there))
full (r ∷ rs) some zero there = some.0
full (r ∷ rs) some (suc c) there = full rs some.1 c (omega (arith, there))

-- the first numbers of the runs
pub first_of : List ℕ → ℕ
first_of run = get_or run 0 0

at_first : (runs : List (List ℕ)) → AreRuns runs → (c d : ℕ) → c < length runs → get_or (flat runs) (rank runs c 0) d ≡ get_or (get_or runs c []) 0 0
at_first runs some c d there = at_rank runs c 0 d there (full runs some c there) ∙ get_or_default_zero (get_or runs c []) 0 d (full runs some c there)

-- ---- what stands before comes first, in the runs and in each

default_run : (runs : List (List ℕ)) (c : ℕ) (d : List ℕ) → c < length runs → get_or runs c d ≡ get_or runs c []
default_run [] c d there = absurd (omega (arith, there))
default_run (r ∷ rs) zero d there = refl
default_run (r ∷ rs) (suc c) d there = default_run rs c d (omega (arith, there))

pub firsts_parted : (p : ℕ → Bool) (runs : List (List ℕ)) → AreRuns runs → IsPartitionedBy p (flat runs) → IsPartitionedBy (λ run. p (get_or run 0 0)) runs
firsts_parted p runs some parted i j d order there passes =
    let before : i < length runs = omega (arith, order, there) in
    let later = longer runs i j order in
    let inside = within runs j 0 there (full runs some j there) in
    let high = ap p (at_first runs some j 0 there ∙ ap (λ (r : List ℕ). get_or r 0 0) (sym (default_run runs j d there))) ∙ passes in
    sym (ap p (at_first runs some i 0 before ∙ ap (λ (r : List ℕ). get_or r 0 0) (sym (default_run runs i d before))))
    ∙ parted (rank runs i 0) (rank runs j 0) 0 (omega (arith, later)) inside high

pub run_parted : (p : ℕ → Bool) (runs : List (List ℕ)) (c : ℕ) → c < length runs → IsPartitionedBy p (flat runs) → IsPartitionedBy p (get_or runs c [])
run_parted p runs c here parted i j d order there passes =
    let low : i < length (get_or runs c []) = omega (arith, order, there) in
    sym (ap p (at_rank runs c i d here low))
    ∙ parted (rank runs c i) (rank runs c j) d (omega (arith, order)) (within runs c j here there) (ap p (at_rank runs c j d here there) ∙ passes)

not_both : (b : Bool) → b ≡ true → b ≡ false → ⊥
not_both true holds fails = cc
not_both false holds fails = cc

-- a test that is not true is false
is_false : (b : Bool) → (b ≡ true → ⊥) → b ≡ false
is_false true fails = absurd (fails refl)
is_false false fails = refl

next_rank : (runs : List (List ℕ)) (c : ℕ) → c < length runs → length (flat (take (suc c) runs)) ≡ length (flat (take c runs)) + length (get_or runs c [])
next_rank [] c there = absurd (omega (arith, there))
next_rank (r ∷ rs) zero there = let only = length-append r [] in omega (arith, only)
next_rank (r ∷ rs) (suc c) there =
    let rest = next_rank rs c (omega (arith, there)) in
    let left = length-append r (flat (take (suc c) rs)) in
    let right = length-append r (flat (take c rs)) in
    omega (arith, rest, left, right)

all_taken : (runs : List (List ℕ)) (n : ℕ) → length runs ≤ n → length (flat (take n runs)) ≡ length (flat runs)
all_taken [] zero past = refl
all_taken [] (suc n) past = refl
all_taken (r ∷ rs) zero past = absurd (omega (arith, past))
all_taken (r ∷ rs) (suc n) past =
    let rest = all_taken rs n (omega (arith, past)) in
    let left = length-append r (flat (take n rs)) in
    let right = length-append r (flat rs) in
    omega (arith, rest, left, right)

-- where none of the first numbers stands before, no number does
pub split_none : (p : ℕ → Bool) (runs : List (List ℕ)) → AreRuns runs → IsPartitionedBy p (flat runs) → IsPartitionPoint (λ run. p (get_or run 0 0) ≡ true) (λ run. p (get_or run 0 0) ≡ false) runs 0 → IsSplit p (flat runs) 0
split_none p [] some parted point = (omega arith, (λ k d low high. absurd (omega (arith, high)), λ k d low high. absurd (omega (arith, high))))
split_none p (r ∷ rs) some parted point = (
  omega arith,
  (
    λ k d low high. absurd (omega (arith, high)),
    λ k d low high. is_false (p (get_or (flat (r ∷ rs)) k d)) (λ passes.
        not_both (p (get_or r 0 0)) (sym (ap p (at_first (r ∷ rs) some 0 d (omega arith))) ∙ parted 0 k d (omega arith) high passes) (point.1 0 [] (omega arith) (omega arith))),
  ),
)

-- the places of a run where some stand before, seen among all numbers
all_before : (p : ℕ → Bool) (runs : List (List ℕ)) (c i : ℕ) → IsPartitionedBy p (flat runs) → c < length runs → 0 < i → IsSplit p (get_or runs c []) i → (k d : ℕ) → k < rank runs c i → p (get_or (flat runs) k d) ≡ true
all_before p runs c zero parted here some split k d high = absurd (omega (arith, some))
all_before p runs c (suc j) parted here some split k d high =
    let there : j < length (get_or runs c []) = let short = split.0 in omega (arith, short) in
    parted k (rank runs c j) d (omega (arith, high)) (within runs c j here there) (ap p (at_rank runs c j d here there) ∙ split.1.0 j d (omega arith) (omega arith))

inside_run : (p : ℕ → Bool) (runs : List (List ℕ)) (c i : ℕ) → IsPartitionedBy p (flat runs) → c < length runs → IsSplit p (get_or runs c []) i → i < length (get_or runs c [])
    → (k d : ℕ) → rank runs c i ≤ k → k < length (flat runs) → p (get_or (flat runs) k d) ≡ true → ⊥
inside_run p runs c i parted here split there k d low high passes =
    not_both (p (get_or (get_or runs c []) i d)) (sym (ap p (at_rank runs c i d here there)) ∙ parted (rank runs c i) k d low high passes) (split.1.1 i d (omega arith) there)

next_run : (p : ℕ → Bool) (runs : List (List ℕ)) (c : ℕ) → AreRuns runs → IsPartitionedBy p (flat runs) → IsPartitionPoint (λ run. p (get_or run 0 0) ≡ true) (λ run. p (get_or run 0 0) ≡ false) runs c
    → c < length runs → (k d : ℕ) → length (flat (take c runs)) ≤ k → k < length (flat runs) → p (get_or (flat runs) k d) ≡ true → ⊥
next_run p runs c some parted point there k d low high passes =
    not_both (p (get_or (get_or runs c []) 0 0)) (sym (ap p (at_first runs some c d there)) ∙ parted (rank runs c 0) k d (omega (arith, low)) high passes) (point.1 c [] (omega arith) there)

behind_run : (p : ℕ → Bool) (runs : List (List ℕ)) (c i : ℕ) → AreRuns runs → IsPartitionedBy p (flat runs) → c < length runs
    → IsPartitionPoint (λ run. p (get_or run 0 0) ≡ true) (λ run. p (get_or run 0 0) ≡ false) runs (suc c) → i ≡ length (get_or runs c [])
    → (k d : ℕ) → rank runs c i ≤ k → k < length (flat runs) → p (get_or (flat runs) k d) ≡ true → ⊥
behind_run p runs c i some parted here point end k d low high passes =
    let next = next_rank runs c here in
    ⊎_elim (λ (h : suc c < length runs). next_run p runs (suc c) some parted point h k d (omega (arith, low, next, end)) high passes)
    (λ (h : length runs ≤ suc c). let all = all_taken runs (suc c) h in omega (arith, all, next, end, low, high)) (cases_lt (suc c) (length runs))

-- else those before a place in the last run whose first number does
pub split_some : (p : ℕ → Bool) (runs : List (List ℕ)) (c i : ℕ) → AreRuns runs → IsPartitionedBy p (flat runs) → c < length runs
    → IsPartitionPoint (λ run. p (get_or run 0 0) ≡ true) (λ run. p (get_or run 0 0) ≡ false) runs (suc c) → IsSplit p (get_or runs c []) i → (0 < i) × IsSplit p (flat runs) (rank runs c i)
split_some p runs c i some parted here point split =
    let all = length-flat_map-take (λ (r : List ℕ). r) runs c [] here in
    let few = split.0 in
    let positive : 0 < i = ⊎_elim (λ (h : 0 < i). h) (λ (h : i ≤ 0). absurd (not_both (p (get_or (get_or runs c []) 0 0)) (point.0 c [] (omega arith) (omega arith)) (split.1.1 0 0 h (full runs some c here)))) (cases_lt 0 i) in (
      positive,
      (
        omega (arith, all, few),
        (
          λ k d low high. all_before p runs c i parted here positive split k d high,
          λ k d low high. is_false (p (get_or (flat runs) k d)) (λ passes.
              ⊎_elim (λ (h : i < length (get_or runs c [])). inside_run p runs c i parted here split h k d low high passes)
              (λ (h : length (get_or runs c []) ≤ i). behind_run p runs c i some parted here point (omega (arith, h, few)) k d low high passes) (cases_lt i (length (get_or runs c [])))),
        ),
      ),
    )

-- ---- a change of one run

insert_left : (xs ys : List ℕ) (i n : ℕ) → i ≤ length xs → insert (xs ++ ys) i n ≡ insert xs i n ++ ys
insert_left [] ys zero n order = refl
insert_left [] ys (suc i) n order = absurd (omega (arith, order))
insert_left (x ∷ xs) ys zero n order = refl
insert_left (x ∷ xs) ys (suc i) n order = ap (λ zs. x ∷ zs) (insert_left xs ys i n (omega (arith, order)))

insert_right : (xs ys : List ℕ) (i n : ℕ) → insert (xs ++ ys) (length xs + i) n ≡ xs ++ insert ys i n
insert_right [] ys i n = ap (λ k. insert ys k n) (omega arith)
insert_right (x ∷ xs) ys i n =
    let at : length (x ∷ xs) + i ≡ suc (length xs + i) = omega arith in
    ap (λ k. insert (x ∷ (xs ++ ys)) k n) at ∙ ap (λ zs. x ∷ zs) (insert_right xs ys i n)

remove_left : (xs ys : List ℕ) (i : ℕ) → i < length xs → remove (xs ++ ys) i ≡ remove xs i ++ ys
remove_left [] ys i order = absurd (omega (arith, order))
remove_left (x ∷ xs) ys zero order = refl
remove_left (x ∷ xs) ys (suc i) order = ap (λ zs. x ∷ zs) (remove_left xs ys i (omega (arith, order)))

remove_right : (xs ys : List ℕ) (i : ℕ) → remove (xs ++ ys) (length xs + i) ≡ xs ++ remove ys i
remove_right [] ys i = ap (λ k. remove ys k) (omega arith)
remove_right (x ∷ xs) ys i =
    let at : length (x ∷ xs) + i ≡ suc (length xs + i) = omega arith in
    ap (λ k. remove (x ∷ (xs ++ ys)) k) at ∙ ap (λ zs. x ∷ zs) (remove_right xs ys i)

-- a number more in a run
pub flat_insert : (runs : List (List ℕ)) (c i n : ℕ) → c < length runs → i ≤ length (get_or runs c []) → flat (slice_set runs c (insert (get_or runs c []) i n)) ≡ insert (flat runs) (rank runs c i) n
flat_insert [] c i n there inside = absurd (omega (arith, there))
flat_insert (r ∷ rs) zero i n there inside = sym (ap (λ k. insert (flat (r ∷ rs)) k n) (omega arith) ∙ insert_left r (flat rs) i n inside)
flat_insert (r ∷ rs) (suc c) i n there inside =
    ap (λ ns. r ++ ns) (flat_insert rs c i n (omega (arith, there)) inside)
    ∙ sym (ap (λ k. insert (flat (r ∷ rs)) k n) (let parts = length-append r (flat (take c rs)) in omega (arith, parts)) ∙ insert_right r (flat rs) (rank rs c i) n)

-- a run of its own behind another
pub flat_new : (runs : List (List ℕ)) (c n : ℕ) → c < length runs → flat (insert runs (suc c) (n ∷ [])) ≡ insert (flat runs) (rank runs c (length (get_or runs c []))) n
flat_new [] c n there = absurd (omega (arith, there))
flat_new (r ∷ rs) zero n there = sym (ap (λ k. insert (flat (r ∷ rs)) k n) (omega arith) ∙ insert_right r (flat rs) 0 n)
flat_new (r ∷ rs) (suc c) n there =
    ap (λ ns. r ++ ns) (flat_new rs c n (omega (arith, there)))
    ∙ sym (ap (λ k. insert (flat (r ∷ rs)) k n) (let parts = length-append r (flat (take c rs)) in omega (arith, parts)) ∙ insert_right r (flat rs) (rank rs c (length (get_or rs c []))) n)

-- a number less in a run
pub flat_remove : (runs : List (List ℕ)) (c i : ℕ) → c < length runs → i < length (get_or runs c []) → flat (slice_set runs c (remove (get_or runs c []) i)) ≡ remove (flat runs) (rank runs c i)
flat_remove [] c i there inside = absurd (omega (arith, there))
flat_remove (r ∷ rs) zero i there inside = sym (ap (λ k. remove (flat (r ∷ rs)) k) (omega arith) ∙ remove_left r (flat rs) i inside)
flat_remove (r ∷ rs) (suc c) i there inside =
    ap (λ ns. r ++ ns) (flat_remove rs c i (omega (arith, there)) inside)
    ∙ sym (ap (λ k. remove (flat (r ∷ rs)) k) (let parts = length-append r (flat (take c rs)) in omega (arith, parts)) ∙ remove_right r (flat rs) (rank rs c i))

-- a run of one number less
pub flat_drop : (runs : List (List ℕ)) (c : ℕ) → c < length runs → length (get_or runs c []) ≡ 1 → flat (remove runs c) ≡ remove (flat runs) (rank runs c 0)
flat_drop [] c there one = absurd (omega (arith, there))
flat_drop ([] ∷ rs) zero there one = absurd (omega (arith, one))
flat_drop ((x ∷ []) ∷ rs) zero there one = refl
flat_drop ((x ∷ y ∷ r) ∷ rs) zero there one = absurd (omega (arith, one))
flat_drop (r ∷ rs) (suc c) there one =
    ap (λ ns. r ++ ns) (flat_drop rs c (omega (arith, there)) one)
    ∙ sym (ap (λ k. remove (flat (r ∷ rs)) k) (let parts = length-append r (flat (take c rs)) in omega (arith, parts)) ∙ remove_right r (flat rs) (rank rs c 0))

-- a run in two
pub flat_split : (runs : List (List ℕ)) (c : ℕ) (a b : List ℕ) → c < length runs → get_or runs c [] ≡ a ++ b → flat (insert (slice_set runs c a) (suc c) b) ≡ flat runs
flat_split [] c a b there is = absurd (omega (arith, there))
flat_split (r ∷ rs) zero a b there is = sym (append_assoc a b (flat rs)) ∙ ap (λ xs. xs ++ flat rs) (sym is)
flat_split (r ∷ rs) (suc c) a b there is = ap (λ ns. r ++ ns) (flat_split rs c a b (omega (arith, there)) is)

pub front_kept : (runs : List (List ℕ)) (c : ℕ) (a b : List ℕ) → c < length runs → take c (insert (slice_set runs c a) (suc c) b) ≡ take c runs
front_kept [] c a b there = absurd (omega (arith, there))
front_kept (r ∷ rs) zero a b there = refl
front_kept (r ∷ rs) (suc c) a b there = ap (λ rs. r ∷ rs) (front_kept rs c a b (omega (arith, there)))

pub split_first : (runs : List (List ℕ)) (c : ℕ) (a b : List ℕ) → c < length runs → get_or (insert (slice_set runs c a) (suc c) b) c [] ≡ a
split_first [] c a b there = absurd (omega (arith, there))
split_first (r ∷ rs) zero a b there = refl
split_first (r ∷ rs) (suc c) a b there = split_first rs c a b (omega (arith, there))

pub split_second : (runs : List (List ℕ)) (c : ℕ) (a b : List ℕ) → c < length runs → get_or (insert (slice_set runs c a) (suc c) b) (suc c) [] ≡ b
split_second [] c a b there = absurd (omega (arith, there))
split_second (r ∷ rs) zero a b there = refl
split_second (r ∷ rs) (suc c) a b there = split_second rs c a b (omega (arith, there))

pub split_count : (runs : List (List ℕ)) (c : ℕ) (a b : List ℕ) → c < length runs → length (insert (slice_set runs c a) (suc c) b) ≡ length runs + 1
split_count [] c a b there = absurd (omega (arith, there))
split_count (r ∷ rs) zero a b there = omega arith
split_count (r ∷ rs) (suc c) a b there = let rest = split_count rs c a b (omega (arith, there)) in omega (arith, rest)

-- a place in the first part stays where it was
pub rank_kept : (runs : List (List ℕ)) (c i : ℕ) (a b : List ℕ) → c < length runs → rank (insert (slice_set runs c a) (suc c) b) c i ≡ rank runs c i
rank_kept runs c i a b there = ap (λ rs. length (flat rs) + i) (front_kept runs c a b there)

-- and so does one in the second, counted from there
pub rank_moved : (runs : List (List ℕ)) (c i j : ℕ) (a b : List ℕ) → c < length runs → i ≡ length a + j → rank (insert (slice_set runs c a) (suc c) b) (suc c) j ≡ rank runs c i
rank_moved runs c i j a b there at =
    let count = split_count runs c a b there in
    let next = next_rank (insert (slice_set runs c a) (suc c) b) c (omega (arith, count, there)) in
    let front = ap (λ rs. length (flat rs)) (front_kept runs c a b there) in
    let first = ap length (split_first runs c a b there) in
    omega (arith, next, front, first, at)

-- ---- each run keeps a number

pub runs_set : (runs : List (List ℕ)) (c : ℕ) (r : List ℕ) → AreRuns runs → 0 < length r → AreRuns (slice_set runs c r)
runs_set [] c r some own = tt
runs_set (x ∷ xs) zero r some own = (own, some.1)
runs_set (x ∷ xs) (suc c) r some own = (some.0, runs_set xs c r some.1 own)

pub runs_insert : (runs : List (List ℕ)) (c : ℕ) (r : List ℕ) → AreRuns runs → 0 < length r → AreRuns (insert runs c r)
runs_insert [] zero r some own = (own, tt)
runs_insert [] (suc c) r some own = (own, tt)
runs_insert (x ∷ xs) zero r some own = (own, some)
runs_insert (x ∷ xs) (suc c) r some own = (some.0, runs_insert xs c r some.1 own)

pub runs_remove : (runs : List (List ℕ)) (c : ℕ) → AreRuns runs → AreRuns (remove runs c)
runs_remove [] zero some = tt
runs_remove [] (suc c) some = tt
runs_remove (x ∷ xs) zero some = some.1
runs_remove (x ∷ xs) (suc c) some = (some.0, runs_remove xs c some.1)

pub runs_push : (runs : List (List ℕ)) (r : List ℕ) → AreRuns runs → 0 < length r → AreRuns (runs ++ r ∷ [])
runs_push [] r some own = (own, tt)
runs_push (x ∷ xs) r some own = (some.0, runs_push xs r some.1 own)

-- ---- the number at a place, and the place behind it

pub number_at : (runs : List (List ℕ)) (c i n : ℕ) → c < length runs → slice_get (get_or runs c []) i ≡ Some n → slice_get (flat runs) (rank runs c i) ≡ Some n
number_at runs c i n here is =
    let there = slice_get_within (get_or runs c []) i n is in
    slice_get-get_or (flat runs) (rank runs c i) 0 (within runs c i here there)
    ∙ ap (λ (m : ℕ). Some m) (at_rank runs c i 0 here there ∙ get_or_from_slice_get (get_or runs c []) i n 0 is)

pub behind_all : (runs : List (List ℕ)) (c i : ℕ) → length runs ≤ c → length (flat runs) ≤ rank runs c i
behind_all runs c i past = let all = all_taken runs c past in omega (arith, all)

-- the end of a run is the beginning of the next
pub end_rank : (runs : List (List ℕ)) (c i : ℕ) → c < length runs → i ≡ length (get_or runs c []) → rank runs c i ≡ rank runs (suc c) 0
end_rank runs c i here end = let next = next_rank runs c here in omega (arith, next, end)

pub flat_push : (runs : List (List ℕ)) (n : ℕ) → flat (runs ++ (n ∷ []) ∷ []) ≡ insert (flat runs) (length (flat runs)) n
flat_push [] n = refl
flat_push (r ∷ rs) n = ap (λ ns. r ++ ns) (flat_push rs n) ∙ sym (ap (λ k. insert (r ++ flat rs) k n) (length-append r (flat rs)) ∙ insert_right r (flat rs) (length (flat rs)) n)

-- ---- what a read of the runs gives

read_there : (runs xs : List (List ℕ)) (c : ℕ) → xs ≡ runs → true ≡ nat_lt c (length xs) → c < length runs
read_there runs xs c same inside = subst (λ (zs : List (List ℕ)). c < length zs) same (ltb-true c (length xs) (sym inside))

read_run : (runs xs : List (List ℕ)) (c : ℕ) (r : List ℕ) → xs ≡ runs → c < length runs → r ≡ get_or xs c r → r ≡ get_or runs c []
read_run runs xs c r same there is = is ∙ ap (λ (zs : List (List ℕ)). get_or zs c r) same ∙ default_run runs c r there

pub own_run : (runs : List (List ℕ)) (c : ℕ) (r : List ℕ) → c < length runs → r ≡ get_or runs c r → r ≡ get_or runs c []
own_run runs c r there is = is ∙ default_run runs c r there

pub first_number : (runs xs : List (List ℕ)) (c n : ℕ) (r : List ℕ) → AreRuns runs → xs ≡ runs → true ≡ nat_lt c (length xs) → r ≡ get_or xs c r → n ≡ get_or r 0 0
    → slice_get (flat runs) (rank runs c 0) ≡ Some n
first_number runs xs c n r some same inside is own =
    let there = read_there runs xs c same inside in
    let run = read_run runs xs c r same there is in
    let long : 0 < length r = subst (λ (s : List ℕ). 0 < length s) (sym run) (full runs some c there) in
    number_at runs c 0 n there (ap (λ (s : List ℕ). slice_get s 0) (sym run) ∙ slice_get-get_or r 0 0 long ∙ ap (λ (m : ℕ). Some m) (sym own))

pub next_number : (runs xs : List (List ℕ)) (c i n : ℕ) (r ys : List ℕ) → xs ≡ runs → true ≡ nat_lt c (length xs) → r ≡ get_or xs c r → ys ≡ r → true ≡ nat_lt i (length ys) → n ≡ get_or ys i n
    → slice_get (flat runs) (rank runs c i) ≡ Some n
next_number runs xs c i n r ys same inside is own here at =
    let there = read_there runs xs c same inside in
    let run = read_run runs xs c r same there is in
    number_at runs c i n there (ap (λ (s : List ℕ). slice_get s i) (sym (own ∙ run)) ∙ slice_get_read ys (length ys) i n refl (ltb-true i (length ys) (sym here)) at)

-- a place behind a number is in a run
pub is_there : (runs : List (List ℕ)) (c i : ℕ) → IsPlace runs c i → 0 < i → c < length runs
is_there [] c i place some = let short = place.1 in absurd (omega (arith, short, some))
is_there (r ∷ rs) c i place some = place.0 (omega arith)

-- the place that two halvings find
pub placed : (p : ℕ → Bool) (runs xs : List (List ℕ)) (count i : ℕ) (r ys : List ℕ) → AreRuns runs → IsPartitionedBy p (flat runs) → xs ≡ runs → count ≤ length xs → (count ≡ 0 → ⊥)
    → IsPartitionPoint (λ run. p (get_or run 0 0) ≡ true) (λ run. p (get_or run 0 0) ≡ false) xs count → r ≡ get_or runs (count - 1) r → ys ≡ r → IsSplit p ys i
    → (0 < i) × IsSplit p (flat runs) (rank runs (count - 1) i)
placed p runs xs zero i r ys some parted same bound more point is own split = absurd (more refl)
placed p runs xs (suc c) i r ys some parted same bound more point is own split =
    let at : suc c - 1 ≡ c = omega arith in
    let there : c < length runs = subst (λ (zs : List (List ℕ)). c < length zs) same (omega (arith, bound)) in
    let run = own ∙ own_run runs c r there (is ∙ ap (λ k. get_or runs k r) at) in
    subst (λ (k : ℕ). (0 < i) × IsSplit p (flat runs) (rank runs k i)) (sym at)
    (split_some p runs c i some parted there
    (subst (λ (zs : List (List ℕ)). IsPartitionPoint (λ run. p (get_or run 0 0) ≡ true) (λ run. p (get_or run 0 0) ≡ false) zs (suc c)) same point)
    (subst (λ (zs : List ℕ). IsSplit p zs i) run split))

pub placed_front : (p : ℕ → Bool) (runs xs : List (List ℕ)) (count : ℕ) → AreRuns runs → IsPartitionedBy p (flat runs) → xs ≡ runs → count ≡ 0
    → IsPartitionPoint (λ run. p (get_or run 0 0) ≡ true) (λ run. p (get_or run 0 0) ≡ false) xs count → IsSplit p (flat runs) 0
placed_front p runs xs count some parted same none point =
    split_none p runs some parted
    (subst (λ (k : ℕ). IsPartitionPoint (λ run. p (get_or run 0 0) ≡ true) (λ run. p (get_or run 0 0) ≡ false) runs k) none
    (subst (λ (zs : List (List ℕ)). IsPartitionPoint (λ run. p (get_or run 0 0) ≡ true) (λ run. p (get_or run 0 0) ≡ false) zs count) same point))

pub firsts_read : (p : ℕ → Bool) (runs xs : List (List ℕ)) → AreRuns runs → IsPartitionedBy p (flat runs) → xs ≡ runs → IsPartitionedBy (λ run. p (get_or run 0 0)) xs
firsts_read p runs xs some parted same = subst (λ (zs : List (List ℕ)). IsPartitionedBy (λ run. p (get_or run 0 0)) zs) (sym same) (firsts_parted p runs some parted)

pub run_read : (p : ℕ → Bool) (runs : List (List ℕ)) (count n : ℕ) (r ys : List ℕ) → IsPartitionedBy p (flat runs) → n ≡ length runs → count ≤ n → (count ≡ 0 → ⊥) → r ≡ get_or runs (count - 1) r → ys ≡ r
    → IsPartitionedBy p ys
run_read p runs zero n r ys parted same bound more is own = absurd (more refl)
run_read p runs (suc c) n r ys parted same bound more is own =
    let at : suc c - 1 ≡ c = omega arith in
    let there : c < length runs = omega (arith, same, bound) in
    subst (λ (zs : List ℕ). IsPartitionedBy p zs) (sym (own ∙ own_run runs c r there (is ∙ ap (λ k. get_or runs k r) at))) (run_parted p runs c there parted)

-- the halves of a full run
pub first_half : (r : List ℕ) → length r ≡ 512 → length (take 256 r) ≡ 256
first_half r all = length-take-le 256 r (omega (arith, all))

pub second_half : (r : List ℕ) → length r ≡ 512 → length (drop 256 r) ≡ 256
second_half r all = let rest = length-drop 256 r in omega (arith, all, rest)

-- a number less, where the place behind it is known
pub drop_before : (runs : List (List ℕ)) (c i j n : ℕ) (r : List ℕ) → IsPlace runs c i → 0 < i → n ≡ length r → n ≡ 1 → r ≡ get_or runs c r → rank runs c i ≡ suc j → flat (remove runs c) ≡ remove (flat runs) j
drop_before runs c i j n r place some long one is at =
    let there = is_there runs c i place some in
    let only : length (get_or runs c []) ≡ 1 = ap length (sym (own_run runs c r there is)) ∙ sym long ∙ one in
    let few = place.1 in
    flat_drop runs c there only ∙ ap (λ k. remove (flat runs) k) (omega (arith, at, some, few, only))

pub remove_before : (runs : List (List ℕ)) (c i j : ℕ) (r new : List ℕ) → IsPlace runs c i → 0 < i → r ≡ get_or runs c r → new ≡ remove r (i - 1) → rank runs c i ≡ suc j → flat (slice_set runs c new) ≡ remove (flat runs) j
remove_before runs c i j r new place some is less at =
    let there = is_there runs c i place some in
    let few = place.1 in
    ap (λ (s : List ℕ). flat (slice_set runs c s)) (less ∙ ap (λ (s : List ℕ). remove s (i - 1)) (own_run runs c r there is))
    ∙ flat_remove runs c (i - 1) there (omega (arith, some, few))
    ∙ ap (λ k. remove (flat runs) k) (omega (arith, at, some))
