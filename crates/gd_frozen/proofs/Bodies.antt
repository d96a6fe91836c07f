-- Bodies, and all of a frozen reading, in the steps of the code.
use Rattle.std.proofs.Common.{◌≡◌, ◌∙◌, ◌-◌, ◌≤◌, refl, sym, ap, subst, arith, ℕ, List, [], ◌∷◌, ◌++◌, length, length-append, Bool, true, false, ◌==◌, if◌then◌else◌, Result, Ok, Err, eqb-true, eq-eqb, ne_eqb}
use Rattle.gd_grammar.specs.Chain.{◌>>=◌}
use Rattle.gd_grammar.specs.Grammar.{Reads, text_at, ended, with_offset}
use Rattle.gd_grammar.proofs.Scans.{ok_of, ok_same, Says}
use Rattle.gd_bytes.specs.Frozen.{Body, scanning, Frozen, spelling, Fits, IsFrozenText, IsBadFrozenAt}
use Rattle.gd_frozen.specs.declared.halt.Halt.{Halt}
use Rattle.gd_frozen.specs.declared.halt.Halt.TheVariants as halt
use Rattle.gd_frozen.specs.Halts.{Halts}
use Rattle.gd_grammar.specs.Choice.{is_next}
use Rattle.gd_frozen.specs.FrozenAt.{scan_at, building_at, printing_at, body_at, frozen_at, frozen_of}
use Rattle.gd_frozen.specs.BodySteps.{scanning_at, lettered_at, further_body_at, head_at, behind_at, read_at, whole_frozen_at}
use Rattle.gd_frozen.proofs.FrozenSteady.{Steady-frozen, frozen_says}

pub further_built : (bytes rest : List ℕ) → bytes ≡ 98 ∷ rest → further_body_at bytes ≡ building_at rest
further_built bytes rest is = ap further_body_at is

pub further_lettered : (bytes : List ℕ) → is_next 98 bytes ≡ false → further_body_at bytes ≡ lettered_at bytes
further_lettered [] none = refl
further_lettered (c ∷ cs) none = ap (λ (b : Bool). if b then building_at cs else lettered_at (c ∷ cs)) none

pub body_scanned : (bytes rest : List ℕ) → bytes ≡ 115 ∷ rest → body_at bytes ≡ scanning_at rest
unfolding scanning_at
body_scanned bytes rest is = ap body_at is

pub body_further : (bytes : List ℕ) → is_next 115 bytes ≡ false → body_at bytes ≡ further_body_at bytes
unfolding scanning_at lettered_at
body_further [] none = refl
body_further (c ∷ cs) none =
    ap (λ (b : Bool). if b then scanning_at cs else (if c == 98 then building_at cs else last (c == 112))) none ∙ ap (λ (r : Reads Body). if c == 98 then building_at cs else r) (sym (third (c == 112) refl))
  where
    last : Bool → Reads Body
    last t = if t then printing_at cs else Err (c ∷ cs)

    turned : (t : Bool) → (c == 112) ≡ t → (112 == c) ≡ t
    turned true e = eq-eqb 112 c (sym (eqb-true c 112 e))
    turned false e = ne_eqb 112 c (λ same. let t = eq-eqb c 112 (sym same) in cc (t, e))

    word : Bool → Reads (Unit {0})
    word t = if t then Ok (tt, cs) else Err (c ∷ cs)

    third : (t : Bool) → (c == 112) ≡ t → lettered_at (c ∷ cs) ≡ last t
    third true e = ap (λ (t : Bool). word t >>= λ x. printing_at x.1) (turned true e)
    third false e = ap (λ (t : Bool). word t >>= λ x. printing_at x.1) (turned false e)

-- ---- all of it

-- what is behind a byte, if it is the right one
abbrev behind_byte : Bool → ℕ → List ℕ → Reads (Unit {0})
behind_byte b d ds = if b then Ok (tt, ds) else Err (d ∷ ds)

text_first : (c : ℕ) (cs bytes : List ℕ) → text_at (c ∷ cs) bytes ≡ (text_at (c ∷ []) bytes >>= λ u. text_at cs u.1)
text_first c cs [] = refl
text_first c cs (d ∷ ds) = by (c == d)
  where
    by : (b : Bool) → (if b then text_at cs ds else Err (d ∷ ds)) ≡ (behind_byte b d ds >>= λ u. text_at cs u.1)
    by true = refl
    by false = refl

head_is : (bytes : List ℕ) → head_at bytes ≡ text_at (102 ∷ 49 ∷ 58 ∷ []) bytes
unfolding head_at
head_is bytes = sym (text_first 102 (49 ∷ 58 ∷ []) bytes ∙ ap (λ (f : Unit {0} × List ℕ → Reads (Unit {0})). text_at (102 ∷ []) bytes >>= f) (λ i u. text_first 49 (58 ∷ []) u.1 i))

read_is : (bytes : List ℕ) → read_at bytes ≡ frozen_at bytes
unfolding read_at behind_at
read_is bytes = ap (λ (r : Reads (Unit {0})). r >>= λ t. behind_at t.1) (head_is bytes)

whole_is : (bytes : List ℕ) → whole_frozen_at bytes ≡ (frozen_at bytes >>= ended)
whole_is bytes = ap (λ (r : Reads Frozen). r >>= ended) (read_is bytes)

-- what was read is spelt so
pub frozen_spelled : (bytes : List ℕ) (f : Frozen) → whole_frozen_at bytes ≡ Ok f → IsFrozenText f bytes
frozen_spelled bytes f is = subst (Says spelling Fits bytes) (ap (with_offset bytes) (sym (whole_is bytes) ∙ is)) (frozen_says bytes)

-- where reading stops no text goes on
pub frozen_bad : (bytes rest : List ℕ) (n : ℕ) → whole_frozen_at bytes ≡ Err rest → n ≡ length rest → IsBadFrozenAt bytes (length bytes - n)
frozen_bad bytes rest n is n_is = subst (Says spelling Fits bytes) (ap (with_offset bytes) (sym (whole_is bytes) ∙ is) ∙ ap (λ k. Err (length bytes - k)) (sym n_is)) (frozen_says bytes)

-- what is left is a part of the bytes
pub left_within : (bytes rest : List ℕ) → whole_frozen_at bytes ≡ Err rest → length rest ≤ length bytes
left_within bytes rest is = by (frozen_at bytes) refl (sym (whole_is bytes) ∙ is)
  where
    shorter : (front end : List ℕ) → bytes ≡ front ++ end → length end ≤ length bytes
    shorter front end split = let long = ap length split in let sum = length-append front end in omega (arith, long, sum)

    by : (r : Reads Frozen) → frozen_at bytes ≡ r → (r >>= ended) ≡ Err rest → length rest ≤ length bytes
    by (Ok (f, [])) e same = cc
    by (Ok (f, b ∷ bs)) e same =
        let (w, s, split) = Steady-frozen.found bytes f (b ∷ bs) e in
        let rest_is : b ∷ bs ≡ rest = cc in
        subst (λ (l : List ℕ). length l ≤ length bytes) rest_is (shorter w (b ∷ bs) split)
    by (Err end) e same =
        let (front, split, begs) = Steady-frozen.begun bytes end e in
        let rest_is : end ≡ rest = cc in
        subst (λ (l : List ℕ). length l ≤ length bytes) rest_is (shorter front end split)

-- where the code stops
pub halted_at : {A : Type 0} (h : Halt) (left : ℕ) (r : Result A (List ℕ)) → h ≡ halt.Bad left → Halts h r → (rest : List ℕ) × (r ≡ Err rest) × (left ≡ length rest)
halted_at {A} h left r is s = by r (subst (λ (x : Halt). Halts x r) is s)
  where
    by : (r : Result A (List ℕ)) → Halts (halt.Bad left) r → (rest : List ℕ) × (r ≡ Err rest) × (left ≡ length rest)
    by (Ok x) s = absurd s
    by (Err rest) s = (rest, refl, s)
