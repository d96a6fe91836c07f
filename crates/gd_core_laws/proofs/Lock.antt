-- A write under the lock of a round keeps what the lock keeps.
use Rattle.std.proofs.Common.{◌≡◌, refl, ℕ, zero, suc, ◌+◌, ◌≤◌, ◌<◌, ◌==◌, inl, inr, ⊎_elim, Bool, true, false, cond, List, [], ◌∷◌, ◌++◌, map, take, Option, Some, None, slice_get, option_map, sym, subst, ap, ◌∙◌, arith, append-nil}
use Rattle.std.specs.Prelude.{filter, ◌||◌}
use Rattle.std.specs.List.{list_any}
use Rattle.std.proofs.lemmas.List.{map-append}
use Rattle.std.proofs.lemmas.Option.{slice_get-map}
use Rattle.std.proofs.lemmas.List.Elements.{filter-append}
use Rattle.std.proofs.lemmas.Grind.{fold-append}
use Rattle.std.proofs.lemmas.Bool.Decides.{nat_tests}
use Rattle.gd_runs.specs.Legal.{Entry, size}
use Rattle.gd_runs.specs.Core.{State}
use Rattle.gd_runs.specs.Side.{Kept, Told, WriteLine, Begun, session_lines, session_outcomes, is_fault, KeepsRound, IsLeft, WriteKeeps, KeepsHistory, told_of}
use Rattle.gd_runs.specs.Explained.{Numbered}
use Rattle.gd_runs.proofs.Rounds.{no_some, some_same}
use Rattle.gd_core_laws.specs.Round.{write_lines}
use Rattle.gd_core_laws.specs.Writes.{AreNew, KeepsSide, RisesBy}
use Rattle.gd_core_laws.specs.Lock.{HasOutcome, FaultsMore, LockKeeps}
use Rattle.gd_core_laws.proofs.Sorted.{write_lines_rise, from_filter, passes_filter, in_filter, map_rises, filter_rises, take_got, take_in, take_below, told_back, any_there, keeps_writes, front_of}
use Rattle.gd_core_laws.proofs.SideWrites.{side_keeps}
use Rattle.gd_core_laws.proofs.RoundAfter.{equal}
use Rattle.gd_core_laws.proofs.Reading.{same_number}

take_more : (n : ℕ) (xs : List ℕ) (v : ℕ) → slice_get xs n ≡ Some v → take n xs ++ v ∷ [] ≡ take (n + 1) xs
take_more n [] v at = no_some at
take_more zero (c ∷ xs) v at = ap (λ (w : ℕ). w ∷ []) (sym (some_same at))
take_more (suc n) (c ∷ xs) v at = let e : suc (n + 1) ≡ suc n + 1 = omega arith in ap (λ (l : List ℕ). c ∷ l) (take_more n xs v at) ∙ ap (λ (k : ℕ). take k (c ∷ xs)) e

none_any : (f : ℕ → Bool) (xs : List ℕ) → ((i v : ℕ) → slice_get xs i ≡ Some v → f v ≡ true → ⊥) → list_any f xs ≡ false
none_any f [] none = refl
none_any f (c ∷ xs) none = by (f c) refl (none_any f xs (λ i v at. none (suc i) v at))
  where
    by : (t : Bool) → f c ≡ t → list_any f xs ≡ false → (f c || list_any f xs) ≡ false
    by true is rest = absurd (none 0 c refl is)
    by false is rest = rw is rest

pub same_numbers : (m n : ℕ) → (m == n) ≡ true → m ≡ n
same_numbers m n is = grind (arith, nat_tests)

module _ (l : Begun) (rise : RisesBy (λ (a : WriteLine). a.line) l.lines) (outcomes : List Told) (firsts : (s : ℕ) → (n : ℕ) × (session_outcomes l s outcomes ≡ take n (session_lines l s)))
    (x : ℕ) (a : WriteLine) (in_lines : slice_get l.lines x ≡ Some a) (left : IsLeft outcomes a.line) (kept : Kept)
    (next : (q m : ℕ) → slice_get (session_lines l a.session) (q + 1) ≡ Some a.line → slice_get (session_lines l a.session) q ≡ Some m → HasOutcome outcomes m) where
  abbrev among_of : ℕ → ℕ → Bool
  among_of s n = list_any (λ (m : ℕ). m == n) (session_lines l s)

  lines_rise : (s : ℕ) → RisesBy (λ (n : ℕ). n) (session_lines l s)
  lines_rise s = map_rises (λ (b : WriteLine). b.line) (filter (λ (b : WriteLine). b.session == s) l.lines) (filter_rises (λ (b : WriteLine). b.line) (λ (b : WriteLine). b.session == s) l.lines rise)

  split : (s : ℕ) → session_outcomes l s (outcomes ++ told_of a.line kept ∷ []) ≡ session_outcomes l s outcomes ++ filter (among_of s) (a.line ∷ [])
  split s = ap (filter (among_of s)) (map-append (λ (t : Told). t.line) outcomes (told_of a.line kept ∷ [])) ∙ filter-append (among_of s) (map (λ (t : Told). t.line) outcomes) (a.line ∷ [])

  got : (i : ℕ) (t : Told) → slice_get outcomes i ≡ Some t → slice_get (map (λ (u : Told). u.line) outcomes) i ≡ Some t.line
  got i t at = slice_get-map (λ (u : Told). u.line) outcomes i ∙ ap (option_map (λ (u : Told). u.line)) at

  among : (m : ℕ) × (slice_get (session_lines l a.session) m ≡ Some a.line)
  among =
      let (m, there) = in_filter (λ (b : WriteLine). b.session == a.session) l.lines x a in_lines (same_number a.session) in
      (m, slice_get-map (λ (b : WriteLine). b.line) (filter (λ (b : WriteLine). b.session == a.session) l.lines) m ∙ ap (option_map (λ (b : WriteLine). b.line)) there)

  -- a line among the first n has an outcome
  has_outcome : (s n q m : ℕ) → session_outcomes l s outcomes ≡ take n (session_lines l s) → q < n → slice_get (session_lines l s) q ≡ Some m → HasOutcome outcomes m
  has_outcome s n q m is less at =
      let inside = take_in n (session_lines l s) q m less at in
      let (j, there) = from_filter (among_of s) (map (λ (t : Told). t.line) outcomes) q m (subst (λ (ls : List ℕ). slice_get ls q ≡ Some m) (sym is) inside) in
      let (u, at_u, line_u) = told_back outcomes j m there in
      (j, u, at_u, line_u)

  -- and one that has an outcome is among them
  is_first : (s n q m : ℕ) → session_outcomes l s outcomes ≡ take n (session_lines l s) → HasOutcome outcomes m → slice_get (session_lines l s) q ≡ Some m → q < n
  is_first s n q m is (i, t, at_t, line) at =
      let passes = any_there (λ (k : ℕ). k == m) (session_lines l s) q m at (same_number m) in
      let told : slice_get (map (λ (u : Told). u.line) outcomes) i ≡ Some m = got i t at_t ∙ ap (λ (k : ℕ). Some k) line in
      let (p, there) = in_filter (among_of s) (map (λ (u : Told). u.line) outcomes) i m told passes in
      let front = subst (λ (ls : List ℕ). slice_get ls p ≡ Some m) is there in
      let below = take_below n (session_lines l s) p m front in
      let at_p = take_got n (session_lines l s) p m front in
      let same : p ≡ q = equal p q (λ less. let e = lines_rise s p q m m less at_p at in omega (arith, e)) (λ more. let e = lines_rise s q p m m more at at_p in omega (arith, e)) in
      omega (arith, below, same)

  before_it : (xs : List ℕ) (q v : ℕ) → slice_get xs (q + 1) ≡ Some v → (m : ℕ) × (slice_get xs q ≡ Some m)
  before_it [] q v at = no_some at
  before_it (c ∷ xs) zero v at = (c, refl)
  before_it (c ∷ xs) (suc q) v at = let e : suc q + 1 ≡ suc (q + 1) = omega arith in before_it xs q v (subst (λ (n : ℕ). slice_get (c ∷ xs) n ≡ Some v) e at)

  -- the line is the next one of its session
  is_next : (n : ℕ) → session_outcomes l a.session outcomes ≡ take n (session_lines l a.session) → slice_get (session_lines l a.session) n ≡ Some a.line
  is_next n is = by among.0 among.1
    where
      not_first : (q : ℕ) → slice_get (session_lines l a.session) q ≡ Some a.line → q < n → ⊥
      not_first q at less = let (i, t, at_t, line) = has_outcome a.session n q a.line is less at in left i t at_t line

      by : (q : ℕ) → slice_get (session_lines l a.session) q ≡ Some a.line → slice_get (session_lines l a.session) n ≡ Some a.line
      by zero at = subst (λ (k : ℕ). slice_get (session_lines l a.session) k ≡ Some a.line) (equal zero n (not_first zero at) (λ less. omega (arith, less))) at
      by (suc q) at =
          let at_more : slice_get (session_lines l a.session) (q + 1) ≡ Some a.line = subst (λ (k : ℕ). slice_get (session_lines l a.session) k ≡ Some a.line) (omega arith) at in
          let (m, at_m) = before_it (session_lines l a.session) q a.line at_more in
          let below = is_first a.session n q m is (next q m at_more at_m) at_m in
          subst (λ (k : ℕ). slice_get (session_lines l a.session) k ≡ Some a.line) (equal (suc q) n (not_first (suc q) at) (λ less. omega (arith, less, below))) at

  -- a line is of one session
  other_session : (s : ℕ) → (a.session == s) ≡ false → among_of s a.line ≡ false
  other_session s other = none_any (λ (m : ℕ). m == a.line) (session_lines l s) (λ i v at same.
      let v_is = same_numbers v a.line same in
      let (b, at_b, b_is) = back s i v at in
      let (j, there) = from_filter (λ (c : WriteLine). c.session == s) l.lines i b at_b in
      let passed = passes_filter (λ (c : WriteLine). c.session == s) l.lines i b at_b in
      let place : j ≡ x = equal j x (λ less. let e = rise j x b a less there in_lines in omega (arith, e, b_is, v_is)) (λ more. let e = rise x j a b more in_lines there in omega (arith, e, b_is, v_is)) in
      let is : b ≡ a = some_same (sym there ∙ ap (λ (n : ℕ). slice_get l.lines n) place ∙ in_lines) in
      apart (sym passed ∙ ap (λ (c : WriteLine). c.session == s) is ∙ other))
    where
      apart : true ≡ false → ⊥
      apart q = cc

      from : (o : Option WriteLine) (v : ℕ) → option_map (λ (b : WriteLine). b.line) o ≡ Some v → (b : WriteLine) × (o ≡ Some b) × (b.line ≡ v)
      from (Some b) v is = (b, refl, some_same is)
      from None v is = no_some is

      back : (s i v : ℕ) → slice_get (session_lines l s) i ≡ Some v → (b : WriteLine) × (slice_get (filter (λ (c : WriteLine). c.session == s) l.lines) i ≡ Some b) × (b.line ≡ v)
      back s i v at = from (slice_get (filter (λ (c : WriteLine). c.session == s) l.lines) i) v (sym (slice_get-map (λ (b : WriteLine). b.line) (filter (λ (c : WriteLine). c.session == s) l.lines) i) ∙ at)

  -- the outcomes of each session are again those of its first write lines
  pub firsts_more : (s : ℕ) → (n : ℕ) × (session_outcomes l s (outcomes ++ told_of a.line kept ∷ []) ≡ take n (session_lines l s))
  firsts_more s = by (a.session == s) refl
    where
      by : (t : Bool) → (a.session == s) ≡ t → (n : ℕ) × (session_outcomes l s (outcomes ++ told_of a.line kept ∷ []) ≡ take n (session_lines l s))
      by false other = (
        (firsts s).0,
        split s ∙ ap (λ (t : Bool). session_outcomes l s outcomes ++ cond t (a.line ∷ []) []) (other_session s other) ∙ append-nil (session_outcomes l s outcomes) ∙ (firsts s).1,
      )
      by true same =
          let is : a.session ≡ s = same_numbers a.session s same in
          let n = (firsts a.session).0 in
          let passes : among_of a.session a.line ≡ true = any_there (λ (k : ℕ). k == a.line) (session_lines l a.session) among.0 a.line among.1 (same_number a.line) in
          let here : session_outcomes l a.session (outcomes ++ told_of a.line kept ∷ []) ≡ take (n + 1) (session_lines l a.session) =
          split a.session ∙ ap (λ (t : Bool). session_outcomes l a.session outcomes ++ cond t (a.line ∷ []) []) passes
          ∙ ap (λ (ls : List ℕ). ls ++ a.line ∷ []) (firsts a.session).1 ∙ take_more n (session_lines l a.session) a.line (is_next n (firsts a.session).1) in
          (n + 1, subst (λ (k : ℕ). session_outcomes l k (outcomes ++ told_of a.line kept ∷ []) ≡ take (n + 1) (session_lines l k)) is here)

-- ---- what the lock keeps

module _ (may : ℕ → Bool) (l : Begun) (first : ℕ) (given : List Numbered) (lines : l.lines ≡ write_lines first given) (s : State) (faults most : ℕ) (outcomes : List Told) (new : List Entry)
    (history : KeepsHistory may s.history s.doubt outcomes) (lock : KeepsRound l s.history s.shown s.doubt faults most outcomes new) (within : s.shown ≤ size s.history)
    (x : ℕ) (a : WriteLine) (in_lines : slice_get l.lines x ≡ Some a) (left : IsLeft outcomes a.line)
    (next : (q m : ℕ) → slice_get (session_lines l a.session) (q + 1) ≡ Some a.line → slice_get (session_lines l a.session) q ≡ Some m → HasOutcome outcomes m) where
  rises : RisesBy (λ (b : WriteLine). b.line) l.lines
  rises = subst (RisesBy (λ (b : WriteLine). b.line)) (sym lines) (write_lines_rise first given)

  fresh : AreNew l
  fresh = record { entries = lock.fresh; doubted = lock.fresh_doubt }

  side : KeepsSide may l 0 s outcomes new
  side = record {
    history = history;
    writes = keeps_writes l first given s.history s.shown s.doubt faults most outcomes new lines lock;
    most = within;
    front = λ i y z u b c at_i at_y line at_z session above free. front_of l rises outcomes lock.firsts i y z u b c at_i at_y line at_z session free;
  }

  pub lock_keeps : (kept : Kept) (u : State) (more : ℕ) → WriteKeeps may s a.line a.bytes a.request kept u → FaultsMore kept faults more most → LockKeeps may l most u more (outcomes ++ told_of a.line kept ∷ [])
  lock_keeps kept u more step count =
      let (entries, kept_side) = side_keeps may l fresh s outcomes new 0 side x a in_lines (omega arith) left kept u step in
      let w = kept_side.writes in
      record {
        entries = entries;
        history = kept_side.history;
        lock = record {
          grown = w.grown;
          fresh = lock.fresh;
          fresh_doubt = lock.fresh_doubt;
          entries = w.entries;
          in_doubt = w.in_doubt;
          outcomes_of = w.outcomes_of;
          least = w.least;
          waits = w.waits;
          shows = w.shows;
          shows_stored = w.shows_stored;
          firsts = firsts_more l rises outcomes lock.firsts x a in_lines left kept next;
          failed = ⊎_elim
              (λ before. ⊎_elim
              (λ rise. let sum = fold-append (λ (n : ℕ) (t : Told). n + cond (is_fault t.kept) 1 0) 0 outcomes (told_of a.line kept ∷ []) in inl (omega (arith, before, rise, sum)))
              (λ end. inr end)
              count.rises)
              (λ end. inr (count.stays end))
              lock.failed;
        };
        most = kept_side.most;
      }
