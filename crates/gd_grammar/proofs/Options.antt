-- Readers that give a value and the bytes after it, or nothing: what they give is spelled, and what is spelled they give.
use Rattle.std.proofs.Common.{◌≡◌, refl, ℕ, zero, suc, ◌<◌, ◌≤◌, Bool, true, false, if◌then◌else◌, List, [], ◌∷◌, ◌++◌, length, flat_map, take, drop, get_or, Option, Some, None, nat_le, sym, ◌∙◌, ap, subst, arith, append_assoc, le-leb, length-append, ◌-◌, ◌^◌}
use Rattle.std.proofs.lemmas.List.{append-nil, take-append-drop, take_at, drop_at, length-take-le}
use Rattle.std.proofs.lemmas.Bool.Decides.{nat_tests}
use Rattle.std.specs.List.{AllByRecursion}
use Rattle.std.specs.Int.{w16, w32, w64, from_be_bytes, bytes_high_first}
use Rattle.std.proofs.lemmas.Nat.{be_bytes_2, be_bytes_4, be_bytes_8, from_be_bytes-to_be_bytes_2, from_be_bytes-to_be_bytes_4, from_be_bytes-to_be_bytes_8}
use Rattle.gd_grammar.specs.Maybe.{◌>>=◌}
use Rattle.gd_grammar.specs.Grammar.{IsText}
use Rattle.gd_grammar.proofs.Scans.{Then, Only}
use Rattle.gd_grammar.specs.Options.{Reads, bytes_at, u8_at, u16_at, u32_at, u64_at, many_at}
use Rattle.gd_grammar.proofs.Exact.{Mapped}
use Rattle.gd_grammar.proofs.Ranges.{InRange}

-- each is a byte
abbrev pub AreBytes : List ℕ → Type 0
AreBytes = AllByRecursion (λ b. b < 256)

pub bytes_below : (bytes : List ℕ) → ((i : ℕ) → get_or bytes i 0 < 256) → AreBytes bytes
bytes_below [] h = tt
bytes_below (b ∷ bytes) h = (h 0, bytes_below bytes (λ i. h (suc i)))

below : (bytes : List ℕ) → AreBytes bytes → (i : ℕ) → get_or bytes i 0 < 256
below [] h i = omega arith
below (b ∷ bytes) h zero = h.0
below (b ∷ bytes) h (suc i) = below bytes h.1 i

front_bytes : (front rest : List ℕ) → AreBytes (front ++ rest) → AreBytes front
front_bytes [] rest h = tt
front_bytes (b ∷ front) rest h = (h.0, front_bytes front rest h.1)

rest_bytes : (front rest : List ℕ) → AreBytes (front ++ rest) → AreBytes rest
rest_bytes [] rest h = h
rest_bytes (b ∷ front) rest h = rest_bytes front rest h.1

pub record Means {A : Type 0} (spells : A → List ℕ → Type 0) (read : List ℕ → Reads A) : Type 0 where
  pub found : (bytes : List ℕ) (a : A) (rest : List ℕ) → AreBytes bytes → read bytes ≡ Some (a, rest) → (w : List ℕ) × spells a w × (bytes ≡ w ++ rest)
  pub all : (a : A) (w rest : List ℕ) → spells a w → read (w ++ rest) ≡ Some (a, rest)

abbrev some_pair : {A : Type 0} → A → List ℕ → Reads A
some_pair a rest = Some (a, rest)

pub some_same : {X : Type 0} {p q : X} → ◌≡◌ {A = Option X} (Some p) (Some q) → p ≡ q
some_same is = cc

abbrev on : {A C : Type 0} → (A → List ℕ → Reads C) → Reads A → Reads C
on two r = r >>= λ x. two x.0 x.1

-- one thing and then another, which may depend on it
pub Means-then : {A C : Type 0} (first : A → List ℕ → Type 0) (second : A → C → List ℕ → Type 0) (one : List ℕ → Reads A) (two : A → List ℕ → Reads C) → Means first one → ((a : A) → Means (second a) (two a))
    → Means (Then first second) (λ bytes. one bytes >>= λ x. two x.0 x.1)
Means-then {A} {C} first second one two begun next = record {
  found = λ bytes c rest are is. at_one bytes c rest are (one bytes) refl is;
  all = λ c w rest (a, v, u, f, s, is).
      let ones : one (w ++ rest) ≡ Some (a, u ++ rest) = ap (λ (l : List ℕ). one (l ++ rest)) is ∙ ap one (append_assoc v u rest) ∙ begun.all a v (u ++ rest) f in
      ap (λ (r : Reads A). on two r) ones ∙ (next a).all c u rest s;
}
  where
    at_one : (bytes : List ℕ) (c : C) (rest : List ℕ) → AreBytes bytes → (r : Reads A) → one bytes ≡ r → on two r ≡ Some (c, rest) → (w : List ℕ) × Then first second c w × (bytes ≡ w ++ rest)
    at_one bytes c rest are (Some (a, mid)) ones is =
        let (v, f, split) = begun.found bytes a mid are ones in
        let (u, s, split') = (next a).found mid c rest (rest_bytes v mid (subst AreBytes split are)) is in
        (v ++ u, (a, v, u, f, s, refl), split ∙ ap (λ (l : List ℕ). v ++ l) split' ∙ sym (append_assoc v u rest))
    at_one bytes c rest are None ones is = cc

pub Means-only : {A : Type 0} (value : A) → Means (Only value) (λ bytes. Some (value, bytes))
Means-only {A} value = record {
  found = λ bytes a rest are is. let pairs = some_same is in ([], (sym (ap (λ p. p.0) pairs), refl), ap (λ p. p.1) pairs);
  all = λ a w rest (same, none). ap (λ (x : A). some_pair x (w ++ rest)) (sym same) ∙ ap (λ (l : List ℕ). some_pair a (l ++ rest)) none;
}

pub Means-same : {A : Type 0} (old new : A → List ℕ → Type 0) (read : List ℕ → Reads A) → ((a : A) (w : List ℕ) → old a w → new a w) → ((a : A) (w : List ℕ) → new a w → old a w) → Means old read → Means new read
Means-same old new read to from reads = record {
  found = λ bytes a rest are is. let (w, s, split) = reads.found bytes a rest are is in (w, to a w s, split);
  all = λ a w rest s. reads.all a w rest (from a w s);
}

pub Means-mapped : {A B : Type 0} (f : A → B) (spells : A → List ℕ → Type 0) (read : List ℕ → Reads A) → Means spells read → Means (Mapped f spells) (λ bytes. read bytes >>= λ x. Some (f x.0, x.1))
Means-mapped {A} {B} f spells read reads =
    Means-same (Then spells (λ a. Only (f a))) (Mapped f spells) (λ bytes. read bytes >>= λ x. Some (f x.0, x.1))
    (λ b w (a, v, u, s, (b_is, none), w_is). (a, b_is, subst (spells a) (sym (w_is ∙ ap (λ (l : List ℕ). v ++ l) none ∙ append-nil v)) s))
    (λ b w (a, b_is, s). (a, w, [], s, (b_is, refl), sym (append-nil w)))
    (Means-then spells (λ a. Only (f a)) read (λ a bytes. Some (f a, bytes)) reads (λ a. Means-only (f a)))

-- where a test passes
abbrev pub Where : {A : Type 0} → Bool → (A → List ℕ → Type 0) → A → List ℕ → Type 0
Where test spells a w = (test ≡ true) × spells a w

pub Means-where : {A : Type 0} (test : Bool) (spells : A → List ℕ → Type 0) (read : List ℕ → Reads A) → Means spells read → Means (Where test spells) (λ bytes. if test then read bytes else None)
Means-where true spells read reads = record { found = λ bytes a rest are is. let (w, s, split) = reads.found bytes a rest are is in (w, (refl, s), split); all = λ a w rest (passes, s). reads.all a w rest s }
Means-where false spells read reads = record { found = λ bytes a rest are is. cc; all = λ a w rest (passes, s). cc }

-- where a test fails
abbrev pub Unless : {A : Type 0} → Bool → (A → List ℕ → Type 0) → A → List ℕ → Type 0
Unless test spells a w = (test ≡ false) × spells a w

pub Means-unless : {A : Type 0} (test : Bool) (spells : A → List ℕ → Type 0) (read : List ℕ → Reads A) → Means spells read → Means (Unless test spells) (λ bytes. if test then None else read bytes)
Means-unless false spells read reads = record { found = λ bytes a rest are is. let (w, s, split) = reads.found bytes a rest are is in (w, (refl, s), split); all = λ a w rest (passes, s). reads.all a w rest s }
Means-unless true spells read reads = record { found = λ bytes a rest are is. cc; all = λ a w rest (passes, s). cc }

-- so many bytes
abbrev pub Taken : ℕ → List ℕ → List ℕ → Type 0
Taken n t w = (length t ≡ n) × (w ≡ t)

abbrev take_by : ℕ → List ℕ → Bool → Reads (List ℕ)
take_by n bytes b = if b then Some (take n bytes, drop n bytes) else None

pub Means-taken : (n : ℕ) → Means (Taken n) (bytes_at n)
Means-taken n = record {
  found = λ bytes t rest are is. by bytes t rest (nat_le n (length bytes)) refl is;
  all = λ t w rest (long, w_is).
      ap (λ (l : List ℕ). bytes_at n (l ++ rest)) w_is ∙ ap (λ (b : Bool). take_by n (t ++ rest) b) (enough t rest long)
      ∙ ap (λ (l : List ℕ). some_pair l (drop n (t ++ rest))) (take_at t rest n long) ∙ ap (λ (l : List ℕ). some_pair t l) (drop_at t rest n long);
}
  where
    enough : (t rest : List ℕ) → length t ≡ n → nat_le n (length (t ++ rest)) ≡ true
    enough t rest long = let sum = length-append t rest in le-leb n (length (t ++ rest)) (omega (arith, sum, long))

    le_of : (a b : ℕ) → nat_le a b ≡ true → a ≤ b
    le_of a b is = grind (arith, nat_tests)

    by : (bytes t rest : List ℕ) (b : Bool) → nat_le n (length bytes) ≡ b → take_by n bytes b ≡ Some (t, rest) → (w : List ℕ) × Taken n t w × (bytes ≡ w ++ rest)
    by bytes t rest true e is =
        let pairs = some_same is in
        let t_is : take n bytes ≡ t = ap (λ p. p.0) pairs in
        let rest_is : drop n bytes ≡ rest = ap (λ p. p.1) pairs in
        let long = length-take-le n bytes (le_of n (length bytes) e) in
        (t, (ap length (sym t_is) ∙ long, refl), sym (take-append-drop n bytes) ∙ (λ i. t_is i ++ rest_is i))
    by bytes t rest false e is = cc

-- one byte
abbrev pub OneOf : ℕ → List ℕ → Type 0
OneOf b w = (b < 256) × (w ≡ b ∷ [])

pub Means-u8 : Means OneOf u8_at
Means-u8 = record { found = λ bytes b rest are is. by bytes b rest are is; all = λ b w rest (small, w_is). ap (λ (l : List ℕ). u8_at (l ++ rest)) w_is }
  where
    by : (bytes : List ℕ) (b : ℕ) (rest : List ℕ) → AreBytes bytes → u8_at bytes ≡ Some (b, rest) → (w : List ℕ) × OneOf b w × (bytes ≡ w ++ rest)
    by [] b rest are is = cc
    by (c ∷ cs) b rest are is =
        let pairs = some_same is in
        let b_is : c ≡ b = ap (λ p. p.0) pairs in
        let rest_is : cs ≡ rest = ap (λ p. p.1) pairs in
        (b ∷ [], (subst (λ (x : ℕ). x < 256) b_is are.0, refl), (λ i. b_is i ∷ rest_is i))

-- numbers of two, four and eight bytes
module _ (size most : ℕ) (number : List ℕ → ℕ) (within : (bytes : List ℕ) → length bytes ≡ size → ((i : ℕ) → get_or bytes i 0 < 256) → number bytes ≤ most)
    (back : (bytes : List ℕ) (n : ℕ) → length bytes ≡ size → ((i : ℕ) → get_or bytes i 0 < 256) → n ≡ number bytes → bytes_high_first size n ≡ bytes) (again : (n : ℕ) → n ≤ most → number (bytes_high_first size n) ≡ n)
    (long : (n : ℕ) → length (bytes_high_first size n) ≡ size) where
  abbrev pub number_by : List ℕ → Reads ℕ
  number_by bytes = bytes_at size bytes >>= λ b. Some (number b.0, b.1)

  pub Means-number : Means (InRange 0 most size) number_by
  Means-number = record { found = found; all = all }
    where
      found : (bytes : List ℕ) (n : ℕ) (rest : List ℕ) → AreBytes bytes → number_by bytes ≡ Some (n, rest) → (w : List ℕ) × InRange 0 most size n w × (bytes ≡ w ++ rest)
      found bytes n rest are is =
          let (w, (t, n_is, (t_long, w_is)), split) = (Means-mapped number (Taken size) (bytes_at size) (Means-taken size)).found bytes n rest are is in
          let small = below t (subst AreBytes w_is (front_bytes w rest (subst AreBytes split are))) in
          (w, (omega arith, subst (λ (x : ℕ). x ≤ most) (sym n_is) (within t t_long small), w_is ∙ sym (back t n t_long small n_is)), split)

      all : (n : ℕ) (w rest : List ℕ) → InRange 0 most size n w → number_by (w ++ rest) ≡ Some (n, rest)
      all n w rest (low, high, w_is) = (Means-mapped number (Taken size) (bytes_at size) (Means-taken size)).all n w rest (bytes_high_first size n, sym (again n high), (long n, w_is))

pub Means-u16 : Means (InRange 0 (2 ^ 16 - 1) 2) u16_at
Means-u16 = Means-number 2 (2 ^ 16 - 1) (from_be_bytes w16) (λ bytes l small. within bytes (small 0) (small 1)) be_bytes_2 (λ n h. from_be_bytes-to_be_bytes_2 n (omega (arith, h))) (λ n. refl)
  where
    within : (bytes : List ℕ) → get_or bytes 0 0 < 256 → get_or bytes 1 0 < 256 → from_be_bytes w16 bytes ≤ 2 ^ 16 - 1
    within bytes a b = omega (arith, a, b)

pub Means-u32 : Means (InRange 0 (2 ^ 32 - 1) 4) u32_at
Means-u32 = Means-number 4 (2 ^ 32 - 1) (from_be_bytes w32) (λ bytes l small. within bytes (small 0) (small 1) (small 2) (small 3)) be_bytes_4 (λ n h. from_be_bytes-to_be_bytes_4 n (omega (arith, h))) (λ n. refl)
  where
    within : (bytes : List ℕ) → get_or bytes 0 0 < 256 → get_or bytes 1 0 < 256 → get_or bytes 2 0 < 256 → get_or bytes 3 0 < 256 → from_be_bytes w32 bytes ≤ 2 ^ 32 - 1
    within bytes a b c d = omega (arith, a, b, c, d)

pub Means-u64 : Means (InRange 0 (2 ^ 64 - 1) 8) u64_at
Means-u64 = Means-number 8 (2 ^ 64 - 1) (from_be_bytes w64) (λ bytes l small. within bytes (small 0) (small 1) (small 2) (small 3) (small 4) (small 5) (small 6) (small 7)) be_bytes_8 (λ n h. from_be_bytes-to_be_bytes_8 n (omega (arith, h))) (λ n. refl)
  where
    within : (bytes : List ℕ) → get_or bytes 0 0 < 256 → get_or bytes 1 0 < 256 → get_or bytes 2 0 < 256 → get_or bytes 3 0 < 256 → get_or bytes 4 0 < 256 → get_or bytes 5 0 < 256 → get_or bytes 6 0 < 256 → get_or bytes 7 0 < 256 → from_be_bytes w64 bytes ≤ 2 ^ 64 - 1
    within bytes a b c d e f g h = omega (arith, a, b, c, d, e, f, g, h)

-- so many items
abbrev pub ItemsOf : {A : Type 0} → (A → List ℕ) → (A → Type 0) → ℕ → List A → List ℕ → Type 0
ItemsOf spelling Fits n xs w = (length xs ≡ n) × AllByRecursion Fits xs × (w ≡ flat_map spelling xs)

module _ {A : Type 0} (spelling : A → List ℕ) (Fits : A → Type 0) (one : List ℕ → Reads A) (means : Means (IsText spelling Fits) one) where
  abbrev Further : ℕ → A → List A → List ℕ → Type 0
  Further n x = Mapped (λ xs. x ∷ xs) (ItemsOf spelling Fits n)

  to_items : (n : ℕ) (xs : List A) (w : List ℕ) → Then (IsText spelling Fits) (Further n) xs w → ItemsOf spelling Fits (suc n) xs w
  to_items n xs w (x, v, u, (fits, v_is), (ys, xs_is, (long, each, u_is)), w_is) =
      subst (λ (l : List A). ItemsOf spelling Fits (suc n) l w) (sym xs_is) (omega (arith, long), (fits, each), w_is ∙ ap (λ (l : List ℕ). l ++ u) v_is ∙ ap (λ (l : List ℕ). spelling x ++ l) u_is)

  from_items : (n : ℕ) (xs : List A) (w : List ℕ) → ItemsOf spelling Fits (suc n) xs w → Then (IsText spelling Fits) (Further n) xs w
  from_items n [] w (long, each, w_is) = absurd (omega (arith, long))
  from_items n (x ∷ xs) w (long, (fits, each), w_is) = (x, spelling x, flat_map spelling xs, (fits, refl), (xs, refl, (omega (arith, long), each, refl)), w_is)

  none_items : (xs : List A) (w : List ℕ) → ItemsOf spelling Fits 0 xs w → Only [] xs w
  none_items [] w (long, each, w_is) = (refl, w_is)
  none_items (x ∷ xs) w (long, each, w_is) = absurd (omega (arith, long))

  pub Means-many : (n : ℕ) → Means (ItemsOf spelling Fits n) (many_at one n)
  Means-many zero = Means-same (Only []) (ItemsOf spelling Fits 0) (many_at one 0) (λ xs w (same, none). subst (λ (l : List A). ItemsOf spelling Fits 0 l w) (sym same) (refl, tt, none)) none_items (Means-only [])
  Means-many (suc n) =
      Means-same (Then (IsText spelling Fits) (Further n)) (ItemsOf spelling Fits (suc n)) (many_at one (suc n)) (to_items n) (from_items n)
      (Means-then (IsText spelling Fits) (Further n) one (λ x bytes. many_at one n bytes >>= λ xs. Some (x ∷ xs.0, xs.1)) means (λ x. Means-mapped (λ xs. x ∷ xs) (ItemsOf spelling Fits n) (many_at one n) (Means-many n)))
