-- What one call more makes of a disk in memory.
use Rattle.std.proofs.Common.{◌≡◌, ◌⊎◌, inl, inr, ℕ, zero, suc, ◌+◌, ◌≤◌, List, ◌∷◌, ◌++◌, length, take, drop, Some, refl, sym, ◌∙◌, ap, subst, arith, length-append, length-take, length-drop}
use Rattle.std.proofs.lemmas.List.{take-append-le, take_all, drop_at, take-take, length-take-le, append_assoc}
use Rattle.gd_bytes.specs.Disk.{written, Torn, Cut, Tells, Follows, Stays, Elapses}
use Rattle.gd_disk.specs.Recorded.{Made, wrote, cut_to, synced, held, left, left_since}
use Rattle.gd_disk.specs.Laws.{held_left}

-- what holds of the calls with the new one holds of what tells them
at_new : (P : List ℕ → List Made → Type 0) (first first_new : List ℕ) (made new : List Made) → first_new ≡ first → new ≡ made → P first made → P first_new new
at_new P first first_new made new same is there = subst (λ (f : List ℕ). P f new) (sym same) (subst (λ (l : List Made). P first l) (sym is) there)

-- ---- moments

-- no call more
pub elapses_same : (first : List ℕ) (made : List Made) → Elapses (length made) (length made) (left_since first made) (left_since first made) (left first made)
elapses_same first made = record {
  later = omega arith;
  nothing_else = λ t c le since. inl since;
  keeps = λ t c le past. past;
}

since_more : (first : List ℕ) (made : List Made) (call : Made) (t later : ℕ) (c : List ℕ) → t + later ≤ length made + 1 → left first (drop later (call ∷ made)) c → left_since first made t c ⊎ left first (call ∷ made) c
since_more first made call t zero c le has = inr has
since_more first made call t (suc j) c le has = inl (j, omega arith, has)

-- one call more
pub elapses_more : (first first_new : List ℕ) (made new : List Made) (call : Made) → first_new ≡ first → new ≡ call ∷ made → Elapses (length made) (length new) (left_since first made) (left_since first_new new) (left first_new new)
elapses_more first first_new made new call same is =
    at_new (λ f l. Elapses (length made) (length l) (left_since first made) (left_since f l) (left f l)) first first_new (call ∷ made) new same is there
  where
    there : Elapses (length made) (length (call ∷ made)) (left_since first made) (left_since first (call ∷ made)) (left first (call ∷ made))
    there = record {
      later = omega arith;
      nothing_else = λ t c le since. since_more first made call t since.0 c (omega (arith, since.1)) since.2;
      keeps = λ t c le past. (suc past.0, omega (arith, past.1), past.2);
    }

-- ---- what is left

-- a write that was done is one that a stop may leave
pub torn_written : (at : ℕ) (bytes file : List ℕ) → at ≤ length file → Torn at (length bytes) file (written at bytes file)
torn_written at bytes file le =
    let front : length (take at file) ≡ at = omega (arith, length-take at file) in
    let both : length (take at file ++ bytes) ≡ at + length bytes = omega (arith, front, length-append (take at file) bytes) in
    let back : drop (at + length bytes) (written at bytes file) ≡ drop (at + length bytes) file = ap (λ (l : List ℕ). drop (at + length bytes) l) (sym (append_assoc (take at file) bytes (drop (at + length bytes) file))) ∙ drop_at (take at file ++ bytes) (drop (at + length bytes) file) (at + length bytes) both in
    let long : length (written at bytes file) ≡ at + (length bytes + length (drop (at + length bytes) file)) = omega (arith, front, length-append (take at file) (bytes ++ drop (at + length bytes) file), length-append bytes (drop (at + length bytes) file)) in
    record {
      before = take-append-le at (take at file) (bytes ++ drop (at + length bytes) file) (omega (arith, front)) ∙ take-take at at file (omega arith);
      after = back;
      no_shorter = omega (arith, long, length-drop (at + length bytes) file);
      no_longer = omega (arith, long, length-drop (at + length bytes) file);
    }

pub cut_take : (n : ℕ) (file : List ℕ) → n ≤ length file → Cut n file (take n file)
cut_take n file le = record {
  no_shorter = omega (arith, length-take n file);
  front = ap (λ (k : ℕ). take k file) (length-take-le n file le);
}

-- a call that did nothing
pub still_torn : (at n : ℕ) (file : List ℕ) → Torn at n file file
still_torn at n file = record { before = refl; after = refl; no_shorter = omega arith; no_longer = omega arith }

pub still_cut : (n : ℕ) (file : List ℕ) → Cut n file file
still_cut n file = record { no_shorter = omega arith; front = take_all (length file) file (omega arith) }

pub follows_write : (first first_new : List ℕ) (made new : List Made) (at : ℕ) (bytes : List ℕ) → at ≤ length (held first made) → first_new ≡ first → new ≡ wrote at bytes ∷ made → Follows (Torn at (length bytes)) (left first made) (left first_new new)
follows_write first first_new made new at bytes le same is =
    at_new (λ f l. Follows (Torn at (length bytes)) (left first made) (left f l)) first first_new (wrote at bytes ∷ made) new same is there
  where
    there : Follows (Torn at (length bytes)) (left first made) (left first (wrote at bytes ∷ made))
    there c (inl whole) = (held first made, held_left first made, subst (λ (l : List ℕ). Torn at (length bytes) (held first made) l) (sym whole) (torn_written at bytes (held first made) le))
    there c (inr part) = part

pub follows_cut : (first first_new : List ℕ) (made new : List Made) (n : ℕ) → n ≤ length (held first made) → first_new ≡ first → new ≡ cut_to n ∷ made → Follows (Cut n) (left first made) (left first_new new)
follows_cut first first_new made new n le same is =
    at_new (λ f l. Follows (Cut n) (left first made) (left f l)) first first_new (cut_to n ∷ made) new same is there
  where
    there : Follows (Cut n) (left first made) (left first (cut_to n ∷ made))
    there c (inl whole) = (held first made, held_left first made, subst (λ (l : List ℕ). Cut n (held first made) l) (sym whole) (cut_take n (held first made) le))
    there c (inr part) = part

pub stays_synced : (first first_new : List ℕ) (made new : List Made) → first_new ≡ first → new ≡ synced ∷ made → Stays (Some (held first made)) (Some (held first_new new)) (left first made) (left first_new new)
stays_synced first first_new made new same is =
    at_new (λ f l. Stays (Some (held first made)) (Some (held f l)) (left first made) (left f l)) first first_new (synced ∷ made) new same is
    (record { content = refl; images = λ c has. subst (λ (f : List ℕ). left first made f) (sym has) (held_left first made) })

-- ---- what is told

pub tells_some : (step : List ℕ → List ℕ → Type 0) (old new : List ℕ) → step old new → Tells step (Some old) (Some new)
tells_some step old new goes = record {
  forth = λ file is. let same : old ≡ file = cc in (new, refl, subst (λ (f : List ℕ). step f new) same goes);
  back = λ later is. let same : new ≡ later = cc in (old, refl, subst (λ (f : List ℕ). step old f) same goes);
}

pub tells_torn : (first first_new : List ℕ) (made new : List Made) (at : ℕ) (bytes : List ℕ) → at ≤ length (held first made) → first_new ≡ first → new ≡ wrote at bytes ∷ made → Tells (Torn at (length bytes)) (Some (held first made)) (Some (held first_new new))
tells_torn first first_new made new at bytes le same is =
    at_new (λ f l. Tells (Torn at (length bytes)) (Some (held first made)) (Some (held f l))) first first_new (wrote at bytes ∷ made) new same is
    (tells_some (Torn at (length bytes)) (held first made) (written at bytes (held first made)) (torn_written at bytes (held first made) le))
