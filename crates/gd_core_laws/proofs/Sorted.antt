-- What the lock keeps in a round: the outcomes of a session stand in the order of its lines.
use Rattle.std.proofs.Common.{◌≡◌, refl, ℕ, zero, suc, ◌+◌, ◌<◌, ◌==◌, ⊎_elim, Bool, true, false, cond, List, [], ◌∷◌, length, map, take, Option, Some, None, Result, Ok, Err, slice_get, option_map, nat_lt, ltb-true, ltb-false, sym, subst, ap, ◌∙◌, arith}
use Rattle.std.specs.Prelude.{filter, ◌||◌}
use Rattle.std.specs.List.{list_any}
use Rattle.std.proofs.lemmas.Option.{slice_get-map}
use Rattle.gd_runs.specs.Request.{Line, read, write}
use Rattle.gd_runs.specs.Input.{InputFault, line_from}
use Rattle.gd_runs.specs.Legal.{Entry, History}
use Rattle.gd_runs.specs.Explained.{Numbered}
use Rattle.gd_runs.specs.Side.{Told, WriteLine, Begun, session_lines, session_outcomes, KeepsRound, IsLeft}
use Rattle.gd_runs.proofs.Rounds.{no_some, some_same, get_cases, get_within}
use Rattle.gd_core_laws.specs.Writes.{RisesBy}
use Rattle.gd_core_laws.specs.Round.{one_write, write_lines, KeepsWrites}
use Rattle.gd_core_laws.proofs.Reading.{same_number}
use Rattle.gd_core_laws.proofs.WriteLines.{line_there}

-- ---- lists that rise

cons_rises : {X : Type 0} (f : X → ℕ) (c : X) (xs : List X) → RisesBy f xs → ((j : ℕ) (b : X) → slice_get xs j ≡ Some b → f c < f b) → RisesBy f (c ∷ xs)
cons_rises f c xs rest first zero zero a b less at_a at_b = absurd (omega (arith, less))
cons_rises f c xs rest first zero (suc j) a b less at_a at_b = let same = ap f (some_same at_a) in let above = first j b at_b in omega (arith, same, above)
cons_rises f c xs rest first (suc i) zero a b less at_a at_b = absurd (omega (arith, less))
cons_rises f c xs rest first (suc i) (suc j) a b less at_a at_b = rest i j a b (omega (arith, less)) at_a at_b

pub from_filter : {X : Type 0} (p : X → Bool) (xs : List X) (i : ℕ) (a : X) → slice_get (filter p xs) i ≡ Some a → (j : ℕ) × (slice_get xs j ≡ Some a)
from_filter p [] i a at = no_some at
from_filter p (c ∷ xs) i a at = by (p c) i at (λ k. from_filter p xs k a)
  where
    by : (t : Bool) (k : ℕ) → slice_get (cond t (c ∷ filter p xs) (filter p xs)) k ≡ Some a → ((k : ℕ) → slice_get (filter p xs) k ≡ Some a → (j : ℕ) × (slice_get xs j ≡ Some a)) → (j : ℕ) × (slice_get (c ∷ xs) j ≡ Some a)
    by true zero is rest = (0, is)
    by true (suc k) is rest = let (j, there) = rest k is in (suc j, there)
    by false k is rest = let (j, there) = rest k is in (suc j, there)

pub passes_filter : {X : Type 0} (p : X → Bool) (xs : List X) (i : ℕ) (a : X) → slice_get (filter p xs) i ≡ Some a → p a ≡ true
passes_filter p [] i a at = no_some at
passes_filter p (c ∷ xs) i a at = by (p c) refl i at (λ k. passes_filter p xs k a)
  where
    by : (t : Bool) → p c ≡ t → (k : ℕ) → slice_get (cond t (c ∷ filter p xs) (filter p xs)) k ≡ Some a → ((k : ℕ) → slice_get (filter p xs) k ≡ Some a → p a ≡ true) → p a ≡ true
    by true e zero is rest = ap p (sym (some_same is)) ∙ e
    by true e (suc k) is rest = rest k is
    by false e k is rest = rest k is

pub in_filter : {X : Type 0} (p : X → Bool) (xs : List X) (j : ℕ) (b : X) → slice_get xs j ≡ Some b → p b ≡ true → (m : ℕ) × (slice_get (filter p xs) m ≡ Some b)
in_filter p [] j b at passes = no_some at
in_filter p (c ∷ xs) zero b at passes = (0, ap (λ (t : Bool). slice_get (cond t (c ∷ filter p xs) (filter p xs)) 0) (ap p (some_same at) ∙ passes) ∙ at)
in_filter p (c ∷ xs) (suc j) b at passes = by (p c) (in_filter p xs j b at passes)
  where
    by : (t : Bool) → (m : ℕ) × (slice_get (filter p xs) m ≡ Some b) → (m : ℕ) × (slice_get (cond t (c ∷ filter p xs) (filter p xs)) m ≡ Some b)
    by true (m, there) = (suc m, there)
    by false (m, there) = (m, there)

pub filter_rises : {X : Type 0} (f : X → ℕ) (p : X → Bool) (xs : List X) → RisesBy f xs → RisesBy f (filter p xs)
filter_rises f p [] rises = rises
filter_rises f p (c ∷ xs) rises = by (p c) (filter_rises f p xs (λ i j a b less at_a at_b. rises (suc i) (suc j) a b (omega (arith, less)) at_a at_b))
  where
    by : (t : Bool) → RisesBy f (filter p xs) → RisesBy f (cond t (c ∷ filter p xs) (filter p xs))
    by true rest = cons_rises f c (filter p xs) rest (λ j b at. let (m, there) = from_filter p xs j b at in rises 0 (suc m) c b (omega arith) refl there)
    by false rest = rest

pub map_rises : {X : Type 0} (f : X → ℕ) (xs : List X) → RisesBy f xs → RisesBy (λ (n : ℕ). n) (map f xs)
map_rises {X = X} f xs rises i j v w less at_v at_w =
    let (a, at_a, a_is) = back i v at_v in
    let (b, at_b, b_is) = back j w at_w in
    let above = rises i j a b less at_a at_b in
    omega (arith, above, a_is, b_is)
  where
    from : (o : Option X) (v : ℕ) → option_map f o ≡ Some v → (a : X) × (o ≡ Some a) × (f a ≡ v)
    from (Some a) v is = (a, refl, some_same is)
    from None v is = no_some is

    back : (k v : ℕ) → slice_get (map f xs) k ≡ Some v → (a : X) × (slice_get xs k ≡ Some a) × (f a ≡ v)
    back k v is = from (slice_get xs k) v (sym (slice_get-map f xs k) ∙ is)

pub take_got : {X : Type 0} (n : ℕ) (xs : List X) (i : ℕ) (a : X) → slice_get (take n xs) i ≡ Some a → slice_get xs i ≡ Some a
take_got zero xs i a at = no_some at
take_got (suc n) [] i a at = no_some at
take_got (suc n) (c ∷ xs) zero a at = at
take_got (suc n) (c ∷ xs) (suc i) a at = take_got n xs i a at

pub take_below : {X : Type 0} (n : ℕ) (xs : List X) (i : ℕ) (a : X) → slice_get (take n xs) i ≡ Some a → i < n
take_below zero xs i a at = no_some at
take_below (suc n) [] i a at = no_some at
take_below (suc n) (c ∷ xs) zero a at = omega arith
take_below (suc n) (c ∷ xs) (suc i) a at = let less = take_below n xs i a at in omega (arith, less)

pub take_in : {X : Type 0} (n : ℕ) (xs : List X) (i : ℕ) (a : X) → i < n → slice_get xs i ≡ Some a → slice_get (take n xs) i ≡ Some a
take_in zero xs i a less at = absurd (omega (arith, less))
take_in (suc n) [] i a less at = no_some at
take_in (suc n) (c ∷ xs) zero a less at = at
take_in (suc n) (c ∷ xs) (suc i) a less at = take_in n xs i a (omega (arith, less)) at

pub told_back : (ts : List Told) (i n : ℕ) → slice_get (map (λ (u : Told). u.line) ts) i ≡ Some n → (t : Told) × (slice_get ts i ≡ Some t) × (t.line ≡ n)
told_back [] i n at = no_some at
told_back (t ∷ ts) zero n at = (t, refl, some_same at)
told_back (t ∷ ts) (suc i) n at = told_back ts i n at

-- where the elements that pass rise, those stand in order in the whole list
filter_back : (p : ℕ → Bool) (xs : List ℕ) → RisesBy (λ (n : ℕ). n) (filter p xs) → (i j a b : ℕ) → i < j → slice_get xs i ≡ Some a → slice_get xs j ≡ Some b → p a ≡ true → p b ≡ true → a < b
filter_back p [] rises i j a b less at_a at_b pass_a pass_b = no_some at_a
filter_back p (c ∷ xs) rises zero zero a b less at_a at_b pass_a pass_b = absurd (omega (arith, less))
filter_back p (c ∷ xs) rises zero (suc j) a b less at_a at_b pass_a pass_b =
    let (m, there) = in_filter p xs j b at_b pass_b in
    let kept : p c ≡ true = ap p (some_same at_a) ∙ pass_a in
    let whole : RisesBy (λ (n : ℕ). n) (c ∷ filter p xs) = subst (λ (t : Bool). RisesBy (λ (n : ℕ). n) (cond t (c ∷ filter p xs) (filter p xs))) kept rises in
    whole 0 (suc m) a b (omega arith) at_a there
filter_back p (c ∷ xs) rises (suc i) zero a b less at_a at_b pass_a pass_b = absurd (omega (arith, less))
filter_back p (c ∷ xs) rises (suc i) (suc j) a b less at_a at_b pass_a pass_b = filter_back p xs (by (p c) rises) i j a b (omega (arith, less)) at_a at_b pass_a pass_b
  where
    by : (t : Bool) → RisesBy (λ (n : ℕ). n) (cond t (c ∷ filter p xs) (filter p xs)) → RisesBy (λ (n : ℕ). n) (filter p xs)
    by true r = λ k m x y below at_x at_y. r (suc k) (suc m) x y (omega (arith, below)) at_x at_y
    by false r = r

pub any_there : {X : Type 0} (f : X → Bool) (xs : List X) (i : ℕ) (a : X) → slice_get xs i ≡ Some a → f a ≡ true → list_any f xs ≡ true
any_there f [] i a at is = no_some at
any_there f (c ∷ xs) zero a at is = by (f c) (ap f (some_same at) ∙ is)
  where
    by : (t : Bool) → t ≡ true → (t || list_any f xs) ≡ true
    by true e = refl
    by false e = cc
any_there f (c ∷ xs) (suc i) a at is = by (f c) (any_there f xs i a at is)
  where
    by : (t : Bool) → list_any f xs ≡ true → (t || list_any f xs) ≡ true
    by true e = refl
    by false e = e

-- ---- the write lines of a round rise

pub write_lines_rise : (k : ℕ) (ls : List Numbered) → RisesBy (λ (a : WriteLine). a.line) (write_lines k ls)
write_lines_rise k [] i j a b less at_a at_b = no_some at_a
write_lines_rise k (l ∷ ls) i j a b less at_a at_b = ⊎_elim
    (λ one_a. ⊎_elim
    (λ one_b. let first = only (line_from l.bytes) i a one_a in let second = only (line_from l.bytes) j b one_b in absurd (omega (arith, first.0, second.0, less)))
    (λ (n, j_is, rest_b). let first = only (line_from l.bytes) i a one_a in let above = (line_there (k + 1) ls n b rest_b).number in omega (arith, first.1, above))
    (get_cases (one_write k (length l.bytes) (line_from l.bytes)) (write_lines (k + 1) ls) j b at_b))
    (λ (m, i_is, rest_a). ⊎_elim
    (λ one_b. let within = get_within (one_write k (length l.bytes) (line_from l.bytes)) j b one_b in absurd (omega (arith, within, i_is, less)))
    (λ (n, j_is, rest_b). write_lines_rise (k + 1) ls m n a b (omega (arith, i_is, j_is, less)) rest_a rest_b)
    (get_cases (one_write k (length l.bytes) (line_from l.bytes)) (write_lines (k + 1) ls) j b at_b))
    (get_cases (one_write k (length l.bytes) (line_from l.bytes)) (write_lines (k + 1) ls) i a at_a)
  where
    only : (r : Result Line InputFault) (x : ℕ) (c : WriteLine) → slice_get (one_write k (length l.bytes) r) x ≡ Some c → (x ≡ 0) × (c.line ≡ k)
    only (Ok (write s w)) zero c at = (refl, sym (ap (λ (b : WriteLine). b.line) (some_same at)))
    only (Ok (write s w)) (suc x) c at = no_some at
    only (Ok (read s q)) x c at = no_some at
    only (Err f) x c at = no_some at

-- ---- the outcomes of a session

module _ (l : Begun) (rise : RisesBy (λ (a : WriteLine). a.line) l.lines) (outcomes : List Told) (firsts : (s : ℕ) → (n : ℕ) × (session_outcomes l s outcomes ≡ take n (session_lines l s))) where
  lines_rise : (s : ℕ) → RisesBy (λ (n : ℕ). n) (session_lines l s)
  lines_rise s = map_rises (λ (a : WriteLine). a.line) (filter (λ (a : WriteLine). a.session == s) l.lines) (filter_rises (λ (a : WriteLine). a.line) (λ (a : WriteLine). a.session == s) l.lines rise)

  outcomes_rise : (s : ℕ) → RisesBy (λ (n : ℕ). n) (session_outcomes l s outcomes)
  outcomes_rise s =
      let (n, is) = firsts s in
      subst (RisesBy (λ (m : ℕ). m)) (sym is) (λ i j a b less at_a at_b. lines_rise s i j a b less (take_got n (session_lines l s) i a at_a) (take_got n (session_lines l s) j b at_b))

  got : (i : ℕ) (t : Told) → slice_get outcomes i ≡ Some t → slice_get (map (λ (u : Told). u.line) outcomes) i ≡ Some t.line
  got i t at = slice_get-map (λ (u : Told). u.line) outcomes i ∙ ap (option_map (λ (u : Told). u.line)) at

  -- a line of the session is among its lines
  among : (s x : ℕ) (a : WriteLine) → slice_get l.lines x ≡ Some a → a.session ≡ s → (m : ℕ) × (slice_get (session_lines l s) m ≡ Some a.line)
  among s x a at is =
      let same : (a.session == s) ≡ true = subst (λ (n : ℕ). (a.session == n) ≡ true) is (same_number a.session) in
      let (m, there) = in_filter (λ (b : WriteLine). b.session == s) l.lines x a at same in
      (m, slice_get-map (λ (b : WriteLine). b.line) (filter (λ (b : WriteLine). b.session == s) l.lines) m ∙ ap (option_map (λ (b : WriteLine). b.line)) there)

  passes : (s x n : ℕ) (a : WriteLine) → slice_get l.lines x ≡ Some a → a.session ≡ s → a.line ≡ n → list_any (λ (m : ℕ). m == n) (session_lines l s) ≡ true
  passes s x n a at is line =
      let (m, there) = among s x a at is in
      any_there (λ (k : ℕ). k == n) (session_lines l s) m a.line there (subst (λ (k : ℕ). (a.line == k) ≡ true) line (same_number a.line))

  pub are_sorted : (i j x y : ℕ) (t u : Told) (a b : WriteLine) → slice_get outcomes i ≡ Some t → slice_get outcomes j ≡ Some u → i < j → slice_get l.lines x ≡ Some a → slice_get l.lines y ≡ Some b
      → a.line ≡ t.line → b.line ≡ u.line → a.session ≡ b.session → t.line < u.line
  are_sorted i j x y t u a b at_i at_j less at_x at_y line_a line_b same =
      filter_back (λ (n : ℕ). list_any (λ (m : ℕ). m == n) (session_lines l b.session)) (map (λ (v : Told). v.line) outcomes) (outcomes_rise b.session) i j t.line u.line less (got i t at_i) (got j u at_j)
      (passes b.session x t.line a at_x same line_a) (passes b.session y u.line b at_y refl line_b)

  -- a write line of which nothing is kept is behind all of its session of which something is
  pub front_of : (i x y : ℕ) (t : Told) (a b : WriteLine) → slice_get outcomes i ≡ Some t → slice_get l.lines x ≡ Some a → a.line ≡ t.line → slice_get l.lines y ≡ Some b → a.session ≡ b.session
      → IsLeft outcomes b.line → t.line < b.line
  front_of i x y t a b at_i at_x line at_y session left = by (firsts b.session)
    where
      by : (n : ℕ) × (session_outcomes l b.session outcomes ≡ take n (session_lines l b.session)) → t.line < b.line
      by (n, is) =
          let (m, there) = in_filter (λ (k : ℕ). list_any (λ (m : ℕ). m == k) (session_lines l b.session)) (map (λ (v : Told). v.line) outcomes) i t.line (got i t at_i) (passes b.session x t.line a at_x session line) in
          let front = subst (λ (ls : List ℕ). slice_get ls m ≡ Some t.line) is there in
          let below = take_below n (session_lines l b.session) m t.line front in
          let (q, there_b) = among b.session y b at_y refl in
          by_order m q n (nat_lt m q) refl below (take_got n (session_lines l b.session) m t.line front) there_b is
        where
          by_order : (m q n : ℕ) (c : Bool) → nat_lt m q ≡ c → m < n → slice_get (session_lines l b.session) m ≡ Some t.line → slice_get (session_lines l b.session) q ≡ Some b.line
              → session_outcomes l b.session outcomes ≡ take n (session_lines l b.session) → t.line < b.line
          by_order m q n true less below at_m at_q is = lines_rise b.session m q t.line b.line (ltb-true m q less) at_m at_q
          by_order m q n false not_less below at_m at_q is =
              let le = ltb-false m q not_less in
              let inside = take_in n (session_lines l b.session) q b.line (omega (arith, le, below)) at_q in
              let (j, there) = from_filter (λ (k : ℕ). list_any (λ (m : ℕ). m == k) (session_lines l b.session)) (map (λ (v : Told). v.line) outcomes) q b.line (subst (λ (ls : List ℕ). slice_get ls q ≡ Some b.line) (sym is) inside) in
              let (u, at_u, line_u) = told_back outcomes j b.line there in
              absurd (left j u at_u line_u)

-- what the lock kept in a round is what is kept of its writes
pub keeps_writes : (l : Begun) (k : ℕ) (ls : List Numbered) (h : History) (shown : ℕ) (doubt : Option Entry) (faults most : ℕ) (outcomes : List Told) (new : List Entry) → l.lines ≡ write_lines k ls
    → KeepsRound l h shown doubt faults most outcomes new → KeepsWrites l h shown doubt outcomes new
keeps_writes l k ls h shown doubt faults most outcomes new is r = record {
  grown = r.grown;
  entries = r.entries;
  in_doubt = r.in_doubt;
  outcomes_of = r.outcomes_of;
  least = r.least;
  waits = r.waits;
  shows = r.shows;
  shows_stored = r.shows_stored;
  sorted = are_sorted l (subst (RisesBy (λ (a : WriteLine). a.line)) (sym is) (write_lines_rise k ls)) outcomes r.firsts;
}
