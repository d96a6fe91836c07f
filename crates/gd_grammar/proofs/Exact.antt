-- Readers of grammars in which no text goes on behind another: each is exact, and so is what is made of them.
use Rattle.std.proofs.Common.{◌≡◌, refl, ◌⊎◌, inl, inr, ⊎_elim, ℕ, zero, suc, ◌+◌, ◌-◌, ◌<◌, ◌≤◌, Bool, true, false, if◌then◌else◌, List, [], ◌∷◌, ◌++◌, length, flat_map, Option, Some, None, Ok, Err, sym, ◌∙◌, ap, subst, arith, append_assoc}
use Rattle.std.proofs.lemmas.List.{append-nil}
use Rattle.std.specs.List.{AllByRecursion}
use Rattle.gd_grammar.specs.Chain.{◌>>=◌}
use Rattle.gd_grammar.specs.Grammar.{Reads, IsText}
use Rattle.gd_grammar.proofs.Scans.{Ends, Stops, Scans, Then, chain, Only, ok_of, ok_same}
use Rattle.gd_grammar.specs.Choice.{with_front}
use Rattle.gd_grammar.specs.Reading.{byte_if, items_at}

-- The reader gives each text that the bytes begin with, or tells where no text goes on.
pub record Exact {A : Type 0} (spells : A → List ℕ → Type 0) (read : List ℕ → Reads A) : Type 0 where
  pub found : (bytes : List ℕ) (a : A) (rest : List ℕ) → read bytes ≡ Ok (a, rest) → (w : List ℕ) × spells a w × (bytes ≡ w ++ rest)
  pub all : (a : A) (w rest : List ℕ) → spells a w → read (w ++ rest) ≡ Ok (a, rest)
  pub stops : (bytes rest : List ℕ) → read bytes ≡ Err rest → Stops spells bytes rest

-- some value has a text
abbrev pub Some_text : {A : Type 0} → (A → List ℕ → Type 0) → Type 0
Some_text {A} spells = (a : A) × (w : List ℕ) × spells a w

-- no text goes on behind one that was read
exact_ends : {A : Type 0} (spells : A → List ℕ → Type 0) (read : List ℕ → Reads A) → Exact spells read → (a : A) (w rest : List ℕ) → spells a w → Ends spells w rest
exact_ends spells read reads a w rest s b more e (c, v, m, t, v_is) =
    let one = reads.all a w (b ∷ m) s in
    let other = reads.all c v [] t in
    let same : v ++ [] ≡ w ++ (b ∷ m) = append-nil v ∙ v_is ∙ append_assoc w (b ∷ []) m in
    let pairs = ok_same (sym one ∙ ap read (sym same) ∙ other) in
    let ends : b ∷ m ≡ [] = ap (λ p. p.1) pairs in
    cc ends

-- such a reader takes the longest text
pub exact_scans : {A : Type 0} (spells : A → List ℕ → Type 0) (read : List ℕ → Reads A) → Exact spells read → Scans spells read
exact_scans spells read reads = record {
  found = λ bytes a rest is. let f = reads.found bytes a rest is in record { text = f.0; spelled = f.1; split = f.2; last = exact_ends spells read reads a f.0 rest f.1 };
  all = λ a w rest s ends. reads.all a w rest s;
  stops = reads.stops;
}

-- ---- one thing and then another, which may depend on it

abbrev on : {A C : Type 0} → (A → List ℕ → Reads C) → Reads A → Reads C
on two r = r >>= λ x. two x.0 x.1

-- of two lists that begin one list, one begins the other
fronts : (a b c d : List ℕ) → a ++ b ≡ c ++ d → ((t : List ℕ) × (a ≡ c ++ t)) ⊎ ((t : List ℕ) × (c ≡ a ++ t) × (b ≡ t ++ d))
fronts [] b c d is = inr (c, refl, is)
fronts (x ∷ a) b [] d is = inl (x ∷ a, refl)
fronts (x ∷ a) b (y ∷ c) d is =
    let heads : x ≡ y = cc in
    let tails : a ++ b ≡ c ++ d = cc in
    ⊎_elim (λ (t, e). inl (t, cc (heads, e))) (λ (t, e, f). inr (t, cc (heads, e), f)) (fronts a b c d tails)

module _ {A C : Type 0} (first : A → List ℕ → Type 0) (second : A → C → List ℕ → Type 0) (one : List ℕ → Reads A) (two : A → List ℕ → Reads C)
    (reads : Exact first one) (next : (a : A) (w : List ℕ) → first a w → Exact (second a) (two a)) (some : (a : A) (w : List ℕ) → first a w → Some_text (second a)) where
  then_found : (bytes : List ℕ) (c : C) (rest : List ℕ) → chain one two bytes ≡ Ok (c, rest) → (w : List ℕ) × Then first second c w × (bytes ≡ w ++ rest)
  then_found bytes c rest is = at_one (one bytes) refl is
    where
      at_one : (r : Reads A) → one bytes ≡ r → on two r ≡ Ok (c, rest) → (w : List ℕ) × Then first second c w × (bytes ≡ w ++ rest)
      at_one (Ok (a, mid)) ones is =
          let f = reads.found bytes a mid ones in
          let s = (next a f.0 f.1).found mid c rest is in
          (f.0 ++ s.0, (a, f.0, s.0, f.1, s.1, refl), f.2 ∙ ap (λ (l : List ℕ). f.0 ++ l) s.2 ∙ sym (append_assoc f.0 s.0 rest))
      at_one (Err end) ones is = cc

  then_all : (c : C) (w rest : List ℕ) → Then first second c w → chain one two (w ++ rest) ≡ Ok (c, rest)
  then_all c w rest (a, v, u, f, s, is) =
      let ones : one (w ++ rest) ≡ Ok (a, u ++ rest) = ap (λ (l : List ℕ). one (l ++ rest)) is ∙ ap one (append_assoc v u rest) ∙ reads.all a v (u ++ rest) f in
      ap (λ (r : Reads A). on two r) ones ∙ (next a v f).all c u rest s

  then_stops : (bytes rest : List ℕ) → chain one two bytes ≡ Err rest → Stops (Then first second) bytes rest
  then_stops bytes rest is = at_one (one bytes) refl is
    where
      at_one : (r : Reads A) → one bytes ≡ r → on two r ≡ Err rest → Stops (Then first second) bytes rest
      at_one (Ok (a, mid)) ones is =
          let f = reads.found bytes a mid ones in
          let s = (next a f.0 f.1).stops mid rest is in
          let (c, w, m, sp, w_is) = s.begins in
          record {
            front = f.0 ++ s.front;
            split = f.2 ∙ ap (λ (l : List ℕ). f.0 ++ l) s.split ∙ sym (append_assoc f.0 s.front rest);
            begins = (c, f.0 ++ w, m, (a, f.0, w, f.1, sp, refl), ap (λ (l : List ℕ). f.0 ++ l) w_is ∙ sym (append_assoc f.0 s.front m));
            last = λ b more e (c', w', m', (a', v', u', f', s', w'_is), is').
                let x = (s.front ++ (b ∷ [])) ++ m' in
                let regroup : v' ++ u' ≡ f.0 ++ x = sym w'_is ∙ is' ∙ ap (λ (l : List ℕ). l ++ m') (append_assoc f.0 s.front (b ∷ [])) ∙ append_assoc f.0 (s.front ++ (b ∷ [])) m' in
                let pairs = ok_same (sym (reads.all a f.0 x f.1) ∙ ap one (sym regroup) ∙ reads.all a' v' u' f') in
                let heads : a ≡ a' = ap (λ p. p.0) pairs in
                let tails : x ≡ u' = ap (λ p. p.1) pairs in
                s.last b more e (c', u', m', subst (λ (z : A). second z c' u') (sym heads) s', sym tails);
          }
      at_one (Err end) ones is =
          let ends_is : end ≡ rest = cc in
          let s = reads.stops bytes rest (ones ∙ ap (λ (l : List ℕ). err_of l) ends_is) in
          let (a, w, m, f, w_is) = s.begins in
          let (c, u, sp) = some a w f in
          record {
            front = s.front;
            split = s.split;
            begins = (c, w ++ u, m ++ u, (a, w, u, f, sp, refl), ap (λ (l : List ℕ). l ++ u) w_is ∙ append_assoc s.front m u);
            last = λ b more e (c', w', m', (a', v', u', f', s', w'_is), is').
                ⊎_elim
                (λ (t, v_is). s.last b more e (a', v', t, f', v_is))
                (λ (t, front_is, u_is).
                let there : bytes ≡ v' ++ (t ++ more) = s.split ∙ ap (λ (l : List ℕ). s.front ++ l) e ∙ sym (append_assoc s.front (b ∷ []) more) ∙ ap (λ (l : List ℕ). l ++ more) front_is ∙ append_assoc v' t more in
                let reads_it = ap one there ∙ reads.all a' v' (t ++ more) f' in
                cc (ones, reads_it))
                (fronts v' u' (s.front ++ (b ∷ [])) m' (sym w'_is ∙ is'));
          }
        where
          err_of : List ℕ → Reads A
          err_of l = Err l

  pub Exact-then : Exact (Then first second) (chain one two)
  Exact-then = record { found = then_found; all = then_all; stops = then_stops }

  pub then_some : Some_text first → Some_text (Then first second)
  then_some (a, w, f) = let (c, u, s) = some a w f in (c, w ++ u, (a, w, u, f, s, refl))

-- ---- one value, without bytes

pub Exact-only : {A : Type 0} (value : A) → Exact (Only value) (λ bytes. Ok (value, bytes))
Exact-only {A} value = record {
  found = λ bytes a rest is. let pairs = ok_same is in ([], (sym (ap (λ p. p.0) pairs), refl), ap (λ p. p.1) pairs);
  all = λ a w rest (same, none). ap (λ (x : A). ok_of (x, w ++ rest)) (sym same) ∙ ap (λ (l : List ℕ). ok_of (a, l ++ rest)) none;
  stops = λ bytes rest is. absurd (differ bytes rest is);
}
  where
    differ : (bytes rest : List ℕ) → ok_of {X = A × List ℕ} {Y = List ℕ} (value, bytes) ≡ Err rest → ⊥
    differ bytes rest e = cc

pub only_some : {A : Type 0} (value : A) → Some_text (Only value)
only_some value = (value, [], (refl, refl))

-- ---- the same grammar in other words

pub Exact-same : {A : Type 0} (old new : A → List ℕ → Type 0) (read : List ℕ → Reads A) → ((a : A) (w : List ℕ) → old a w → new a w) → ((a : A) (w : List ℕ) → new a w → old a w) → Exact old read → Exact new read
Exact-same old new read to from reads = record {
  found = λ bytes a rest is. let f = reads.found bytes a rest is in (f.0, to a f.0 f.1, f.2);
  all = λ a w rest spelled. reads.all a w rest (from a w spelled);
  stops = λ bytes rest is.
      let s = reads.stops bytes rest is in
      let (a, w, m, sp, w_is) = s.begins in
      record { front = s.front; split = s.split; begins = (a, w, m, to a w sp, w_is); last = λ b more e (c, v, n, t, is'). s.last b more e (c, v, n, from c v t, is') };
}

-- ---- a value seen through a function

-- the texts of the values that become this one
abbrev pub Mapped : {A B : Type 0} → (A → B) → (A → List ℕ → Type 0) → B → List ℕ → Type 0
Mapped {A} f spells b w = (a : A) × (b ≡ f a) × spells a w

abbrev pub mapped : {A B : Type 0} → (A → B) → (List ℕ → Reads A) → List ℕ → Reads B
mapped f read bytes = read bytes >>= λ x. Ok (f x.0, x.1)

pub Exact-mapped : {A B : Type 0} (f : A → B) (spells : A → List ℕ → Type 0) (read : List ℕ → Reads A) → Exact spells read → Exact (Mapped f spells) (mapped f read)
Exact-mapped {A} {B} f spells read reads =
    Exact-same (Then spells (λ a. Only (f a))) (Mapped f spells) (mapped f read)
    (λ b w (a, v, u, s, (b_is, none), w_is). (a, b_is, subst (spells a) (sym (w_is ∙ ap (λ (l : List ℕ). v ++ l) none ∙ append-nil v)) s))
    (λ b w (a, b_is, s). (a, w, [], s, (b_is, refl), sym (append-nil w)))
    (Exact-then spells (λ a. Only (f a)) read (λ a bytes. Ok (f a, bytes)) reads (λ a w s. Exact-only (f a)) (λ a w s. only_some (f a)))

-- ---- one byte

-- the byte alone, which passes the test
abbrev pub OneByte : (ℕ → Bool) → ℕ → List ℕ → Type 0
OneByte test b w = (test b ≡ true) × (w ≡ b ∷ [])

abbrev byte_by : ℕ → List ℕ → Bool → Reads ℕ
byte_by b bytes t = if t then Ok (b, bytes) else Err (b ∷ bytes)

pub byte_found : (test : ℕ → Bool) (bytes : List ℕ) (a : ℕ) (rest : List ℕ) → byte_if test bytes ≡ Ok (a, rest) → (w : List ℕ) × OneByte test a w × (bytes ≡ w ++ rest)
byte_found test [] a rest is = cc
byte_found test (b ∷ bytes) a rest is = by (test b) refl is
  where
    by : (t : Bool) → test b ≡ t → byte_by b bytes t ≡ Ok (a, rest) → (w : List ℕ) × OneByte test a w × (b ∷ bytes ≡ w ++ rest)
    by true tests is =
        let same = ok_same is in
        let head : b ≡ a = ap (λ p. p.0) same in
        let tail : bytes ≡ rest = ap (λ p. p.1) same in
        (a ∷ [], (subst (λ (x : ℕ). test x ≡ true) head tests, refl), cc)
    by false tests is = cc

byte_stops : (test : ℕ → Bool) (some : ℕ) → test some ≡ true → (bytes rest : List ℕ) → byte_if test bytes ≡ Err rest → Stops (OneByte test) bytes rest
byte_stops test some tests [] rest is = record { front = []; split = cc; begins = (some, some ∷ [], some ∷ [], (tests, refl), refl); last = λ b more e. cc }
byte_stops test some tests (b ∷ bytes) rest is = by (test b) refl is
  where
    by : (t : Bool) → test b ≡ t → byte_by b bytes t ≡ Err rest → Stops (OneByte test) (b ∷ bytes) rest
    by true passes is = cc
    by false fails is = record {
      front = [];
      split = cc;
      begins = (some, some ∷ [], some ∷ [], (tests, refl), refl);
      last = λ c more e (d, w, m, (passes, w_is), split). let same : b ≡ d = cc (e, is, w_is, split) in cc (fails, passes, same);
    }

pub Exact-byte : (test : ℕ → Bool) (some : ℕ) → test some ≡ true → Exact (OneByte test) (byte_if test)
Exact-byte test some tests = record {
  found = byte_found test;
  all = λ a w rest (passes, is). ap (λ (l : List ℕ). byte_if test (l ++ rest)) is ∙ ap (λ (t : Bool). byte_by a rest t) passes;
  stops = byte_stops test some tests;
}

-- ---- so many items

module _ {A : Type 0} (spelling : A → List ℕ) (Fits : A → Type 0) (one : List ℕ → Reads A) (reads : Exact (IsText spelling Fits) one) (some : Some_text (IsText spelling Fits)) where
  -- so many items, each of which fits
  abbrev pub Items : ℕ → List A → List ℕ → Type 0
  Items n xs w = (length xs ≡ n) × AllByRecursion Fits xs × (w ≡ flat_map spelling xs)

  pub items_some : (n : ℕ) → Some_text (Items n)
  items_some zero = ([], [], (refl, tt, refl))
  items_some (suc n) =
      let (x, v, (fits, v_is)) = some in
      let (xs, w, (long, each, w_is)) = items_some n in
      (x ∷ xs, spelling x ++ flat_map spelling xs, (omega (arith, long), (fits, each), refl))

  abbrev Further : ℕ → A → List A → List ℕ → Type 0
  Further n x = Mapped (λ xs. x ∷ xs) (Items n)

  to_items : (n : ℕ) (xs : List A) (w : List ℕ) → Then (IsText spelling Fits) (Further n) xs w → Items (suc n) xs w
  to_items n xs w (x, v, u, (fits, v_is), (ys, xs_is, (long, each, u_is)), w_is) =
      subst (λ (l : List A). Items (suc n) l w) (sym xs_is) (omega (arith, long), (fits, each), w_is ∙ ap (λ (l : List ℕ). l ++ u) v_is ∙ ap (λ (l : List ℕ). spelling x ++ l) u_is)

  from_items : (n : ℕ) (xs : List A) (w : List ℕ) → Items (suc n) xs w → Then (IsText spelling Fits) (Further n) xs w
  from_items n [] w (long, each, w_is) = absurd (omega (arith, long))
  from_items n (x ∷ xs) w (long, (fits, each), w_is) = (x, spelling x, flat_map spelling xs, (fits, refl), (xs, refl, (omega (arith, long), each, refl)), w_is)

  none_items : (xs : List A) (w : List ℕ) → Items 0 xs w → Only [] xs w
  none_items [] w (long, each, w_is) = (refl, w_is)
  none_items (x ∷ xs) w (long, each, w_is) = absurd (omega (arith, long))

  pub Exact-items : (n : ℕ) → Exact (Items n) (items_at one n)
  Exact-items zero = Exact-same (Only []) (Items 0) (items_at one 0) (λ xs w (same, none). subst (λ (l : List A). Items 0 l w) (sym same) (refl, tt, none)) none_items (Exact-only [])
  Exact-items (suc n) =
      Exact-same (Then (IsText spelling Fits) (Further n)) (Items (suc n)) (items_at one (suc n)) (to_items n) (from_items n)
      (Exact-then (IsText spelling Fits) (Further n) one (λ x. mapped (λ xs. x ∷ xs) (items_at one n)) reads
      (λ x w s. Exact-mapped (λ xs. x ∷ xs) (Items n) (items_at one n) (Exact-items n))
      (λ x w s. let (xs, u, t) = items_some n in (x ∷ xs, u, (xs, refl, t))))

-- ---- the code's loop over items

-- what was read before takes an item from what is read
pub front_cons : {A : Type 0} (front : List A) (x : A) (r : Reads (List A)) → with_front front (r >>= λ xs. Ok (x ∷ xs.0, xs.1)) ≡ with_front (front ++ x ∷ []) r
front_cons {A} front x (Ok (xs, rest)) = ap (λ (l : List A). ok_of (l, rest)) (sym (append_assoc front (x ∷ []) xs))
front_cons front x (Err rest) = refl

-- nothing was read before
pub front_none : {A : Type 0} (r : Reads (List A)) → with_front [] r ≡ r
front_none (Ok (xs, rest)) = refl
front_none (Err rest) = refl

-- one item more
pub items_more : {A : Type 0} (one : List ℕ → Reads A) (count place : ℕ) (front : List A) (bytes : List ℕ) (x : A) (rest : List ℕ) → place < count → one bytes ≡ Ok (x, rest)
    → with_front (front ++ x ∷ []) (items_at one (count - (place + 1)) rest) ≡ with_front front (items_at one (count - place) bytes)
items_more {A} one count place front bytes x rest more is =
    let n = count - 1 - place in
    let fewer : count - (place + 1) ≡ count - 1 - place = omega arith in
    let here : count - place ≡ suc (count - 1 - place) = omega (arith, more) in
    ap (λ (k : ℕ). with_front (front ++ x ∷ []) (items_at one k rest)) fewer ∙ sym (front_cons front x (items_at one n rest))
    ∙ sym (ap (λ (k : ℕ). with_front front (items_at one k bytes)) here ∙ ap (λ (r : Reads A). with_front front (r >>= λ y. items_at one n y.1 >>= λ xs. Ok (y.0 ∷ xs.0, xs.1))) is)

-- all items are read
pub items_done : {A : Type 0} (one : List ℕ → Reads A) (count place : ℕ) (front : List A) (bytes : List ℕ) → count ≤ place → with_front front (items_at one (count - place) bytes) ≡ Ok (front, bytes)
items_done {A} one count place front bytes all =
    let none : count - place ≡ 0 = omega (arith, all) in
    ap (λ (k : ℕ). with_front front (items_at one k bytes)) none ∙ ap (λ (l : List A). ok_of (l, bytes)) (append-nil front)

-- no items are read yet
pub items_begun : {A : Type 0} (one : List ℕ → Reads A) (count : ℕ) (bytes : List ℕ) → with_front [] (items_at one (count - 0) bytes) ≡ items_at one count bytes
items_begun {A} one count bytes =
    let whole : count - 0 ≡ count = omega arith in
    ap (λ (k : ℕ). with_front [] (items_at one k bytes)) whole ∙ front_none (items_at one count bytes)

-- ---- exact readers of grammars that are not empty

pub record Sound {A : Type 0} (spells : A → List ℕ → Type 0) (read : List ℕ → Reads A) : Type 0 where
  pub exact : Exact spells read
  pub some : Some_text spells

pub Sound-then : {A C : Type 0} (first : A → List ℕ → Type 0) (second : A → C → List ℕ → Type 0) (one : List ℕ → Reads A) (two : A → List ℕ → Reads C) → Sound first one
    → ((a : A) (w : List ℕ) → first a w → Sound (second a) (two a)) → Sound (Then first second) (chain one two)
Sound-then {A} {C} first second one two begun next = record { exact = Exact-then first second one two begun.exact (λ a w s. (next a w s).exact) (λ a w s. (next a w s).some); some = joined begun.some }
  where
    joined : Some_text first → Some_text (Then first second)
    joined (a, w, s) = let (c, u, t) = (next a w s).some in (c, w ++ u, (a, w, u, s, t, refl))

pub Sound-only : {A : Type 0} (value : A) → Sound (Only value) (λ bytes. Ok (value, bytes))
Sound-only value = record { exact = Exact-only value; some = only_some value }

pub Sound-same : {A : Type 0} (old new : A → List ℕ → Type 0) (read : List ℕ → Reads A) → ((a : A) (w : List ℕ) → old a w → new a w) → ((a : A) (w : List ℕ) → new a w → old a w) → Sound old read → Sound new read
Sound-same old new read to from reads = record { exact = Exact-same old new read to from reads.exact; some = turned reads.some }
  where
    turned : Some_text old → Some_text new
    turned (a, w, s) = (a, w, to a w s)

pub Sound-mapped : {A B : Type 0} (f : A → B) (spells : A → List ℕ → Type 0) (read : List ℕ → Reads A) → Sound spells read → Sound (Mapped f spells) (mapped f read)
Sound-mapped {A} f spells read reads = record { exact = Exact-mapped f spells read reads.exact; some = seen reads.some }
  where
    seen : Some_text spells → Some_text (Mapped f spells)
    seen (a, w, s) = (f a, w, (a, refl, s))

-- ---- a value that a flag announces

-- the value's text where the flag is set, and no bytes where it is not
abbrev pub Announced : {A : Type 0} → Bool → (A → List ℕ → Type 0) → Option A → List ℕ → Type 0
Announced true spells = Mapped (λ a. Some a) spells
Announced false spells = Only None

abbrev pub announced : {A : Type 0} → Bool → (List ℕ → Reads A) → List ℕ → Reads (Option A)
announced present read bytes = if present then mapped (λ a. Some a) read bytes else Ok (None, bytes)

pub Sound-announced : {A : Type 0} (present : Bool) (spells : A → List ℕ → Type 0) (read : List ℕ → Reads A) → Sound spells read → Sound (Announced present spells) (announced present read)
Sound-announced true spells read reads = Sound-mapped (λ a. Some a) spells read reads
Sound-announced false spells read reads = Sound-only None

-- a text of two parts
pub join : {w v u a b : List ℕ} → w ≡ v ++ u → v ≡ a → u ≡ b → w ≡ a ++ b
join {w} {v} {u} {a} {b} is p q = is ∙ ap (λ (l : List ℕ). l ++ u) p ∙ ap (λ (l : List ℕ). a ++ l) q
