-- Readers that look one byte ahead: each reads a text wherever no byte follows with which it may go on, and what it does hangs on no byte behind the one at which it stops.
use Rattle.std.proofs.Common.{◌≡◌, refl, ◌⊎◌, inl, inr, ⊎_elim, ℕ, zero, suc, ◌+◌, ◌-◌, ◌<◌, ◌≤◌, ◌^◌, Bool, true, false, ◌==◌, ◌||◌, if◌then◌else◌, List, [], ◌∷◌, ◌++◌, length, Ok, Err, sym, ◌∙◌, ap, subst, arith, append_assoc, length-append, eqb-true, eq-eqb, decimal, take, flat_map}
use Rattle.std.specs.List.{AllByRecursion}
use Rattle.std.specs.Char.{is_ascii_digit}
use Rattle.std.proofs.lemmas.List.{append-nil, take_at}
use Rattle.std.proofs.lemmas.Bool.Decides.{nat_tests}
use Rattle.gd_grammar.specs.Chain.{◌>>=◌}
use Rattle.gd_grammar.specs.Grammar.{Reads, IsText, IsFaultAt, Spells, text_at, number_at, more_at, ended, with_offset, whole}
use Rattle.gd_grammar.proofs.Scans.{Begins, Ends, Stops, Scans, Then, chain, Only, Says, ok_of, ok_same, fronts, ends_first, ends_head, head_same, longest_at}
use Rattle.gd_grammar.proofs.Exact.{Some_text}
use Rattle.gd_grammar.proofs.Numbers.{Word, Scans-word, word_ends, Number, Scans-number, number_ends}

-- no byte of these comes next
abbrev pub Clear : (ℕ → Bool) → List ℕ → Type 0
Clear test [] = Unit {0}
Clear test (c ∷ cs) = test c ≡ false

-- what is left is a part of the bytes, and those before it begin a text
abbrev pub Begun : {A : Type 0} → (A → List ℕ → Type 0) → List ℕ → List ℕ → Type 0
Begun spells bytes rest = (front : List ℕ) × (bytes ≡ front ++ rest) × Begins spells front

-- the reader reads each text behind which no byte comes with which it may go on; else it tells where no text goes on
pub record Steady {A : Type 0} (spells : A → List ℕ → Type 0) (read : List ℕ → Reads A) (goes_on : ℕ → Bool) : Type 0 where
  pub some : Some_text spells
  pub found : (bytes : List ℕ) (a : A) (rest : List ℕ) → read bytes ≡ Ok (a, rest) → (w : List ℕ) × spells a w × (bytes ≡ w ++ rest)
  pub all : (a : A) (w rest : List ℕ) → spells a w → Clear goes_on rest → read (w ++ rest) ≡ Ok (a, rest)
  pub begun : (bytes rest : List ℕ) → read bytes ≡ Err rest → Begun spells bytes rest
  pub same : (a : A) (w : List ℕ) (b : ℕ) (more m : List ℕ) → read (w ++ (b ∷ more)) ≡ Ok (a, b ∷ more) → read (w ++ (b ∷ m)) ≡ Ok (a, b ∷ m)
  pub fails : (w : List ℕ) (b : ℕ) (more m : List ℕ) → read (w ++ (b ∷ more)) ≡ Err (b ∷ more) → read (w ++ (b ∷ m)) ≡ Err (b ∷ m)

-- ---- small facts

abbrev pub err_of : {A : Type 0} → List ℕ → Reads A
err_of l = Err l

-- lists with one end have one front
pub same_front : (a b c : List ℕ) → a ++ c ≡ b ++ c → a ≡ b
same_front [] [] c e = refl
same_front [] (y ∷ b) c e = let l = ap length e in let k = length-append (y ∷ b) c in absurd (omega (arith, l, k))
same_front (x ∷ a) [] c e = let l = ap length e in let k = length-append (x ∷ a) c in absurd (omega (arith, l, k))
same_front (x ∷ a) (y ∷ b) c e =
    let heads : x ≡ y = cc in
    let tails : a ++ c ≡ b ++ c = cc in
    cc (heads, same_front a b c tails)

-- lists with one front have one end
pub cancel : (l m n : List ℕ) → l ++ m ≡ l ++ n → m ≡ n
cancel [] m n q = q
cancel (x ∷ l) m n q = cancel l m n (cc)

-- an end that is as long as an other one, or longer
pub long_end : (a b c d : List ℕ) → a ++ b ≡ c ++ d → length d ≤ length b → (t : List ℕ) × (c ≡ a ++ t) × (b ≡ t ++ d)
long_end a b c d e short = ⊎_elim (λ (t, a_is). shorter t a_is) (λ f. f) (fronts a b c d e)
  where
    shorter : (t : List ℕ) → a ≡ c ++ t → (t' : List ℕ) × (c ≡ a ++ t') × (b ≡ t' ++ d)
    shorter t a_is =
        let d_is : t ++ b ≡ d = cancel c (t ++ b) d (sym (append_assoc c t b) ∙ ap (λ (l : List ℕ). l ++ b) (sym a_is) ∙ e) in
        none t a_is d_is
      where
        none : (t : List ℕ) → a ≡ c ++ t → t ++ b ≡ d → (t' : List ℕ) × (c ≡ a ++ t') × (b ≡ t' ++ d)
        none [] a_is d_is = ([], (sym (append-nil c) ∙ sym a_is) ∙ sym (append-nil a), d_is)
        none (x ∷ t) a_is d_is = let l = ap length d_is in let k = length-append t b in absurd (omega (arith, l, k, short))

-- ---- readers that take the longest text

module _ {A : Type 0} (spells : A → List ℕ → Type 0) (read : List ℕ → Reads A) (goes_on : ℕ → Bool) (reads : Scans spells read) (some : Some_text spells)
    (ends : (a : A) (w rest : List ℕ) → spells a w → Clear goes_on rest → Ends spells w rest) where
  scans_same : (a : A) (w : List ℕ) (b : ℕ) (more m : List ℕ) → read (w ++ (b ∷ more)) ≡ Ok (a, b ∷ more) → read (w ++ (b ∷ m)) ≡ Ok (a, b ∷ m)
  scans_same a w b more m is =
      let f = reads.found (w ++ (b ∷ more)) a (b ∷ more) is in
      let text_is : w ≡ f.text = same_front w f.text (b ∷ more) f.split in
      reads.all a w (b ∷ m) (subst (spells a) (sym text_is) f.spelled) (ends_first spells w b more m (subst (λ (l : List ℕ). Ends spells l (b ∷ more)) (sym text_is) f.last))

  scans_fails : (w : List ℕ) (b : ℕ) (more m : List ℕ) → read (w ++ (b ∷ more)) ≡ Err (b ∷ more) → read (w ++ (b ∷ m)) ≡ Err (b ∷ m)
  scans_fails w b more m is = by (read (w ++ (b ∷ m))) refl
    where
      s : Stops spells (w ++ (b ∷ more)) (b ∷ more)
      s = reads.stops (w ++ (b ∷ more)) (b ∷ more) is

      front_is : w ≡ s.front
      front_is = same_front w s.front (b ∷ more) s.split

      begins : Begins spells w
      begins = subst (Begins spells) (sym front_is) s.begins

      last : Begins spells (w ++ (b ∷ [])) → ⊥
      last = subst (λ (l : List ℕ). Begins spells (l ++ (b ∷ [])) → ⊥) (sym front_is) (s.last b more refl)

      by : (r : Reads A) → read (w ++ (b ∷ m)) ≡ r → r ≡ Err (b ∷ m)
      by (Ok (a, rest)) e = let f = reads.found (w ++ (b ∷ m)) a rest e in absurd (text a rest f.text f.spelled f.split f.last)
        where
          text : (a : A) (rest v : List ℕ) → spells a v → (w ++ (b ∷ m)) ≡ v ++ rest → Ends spells v rest → ⊥
          text a rest v sp split ends_v = ⊎_elim (λ (t, w_is). short t w_is) (λ (t, v_is, tail). long t v_is tail) (fronts w (b ∷ m) v rest split)
            where
              -- v is a front of w
              short : (t : List ℕ) → w ≡ v ++ t → ⊥
              short t w_is =
                  let rest_is : t ++ (b ∷ m) ≡ rest = cancel v (t ++ (b ∷ m)) rest (sym (append_assoc v t (b ∷ m)) ∙ ap (λ (l : List ℕ). l ++ (b ∷ m)) (sym w_is) ∙ split) in
                  let there = reads.all a v (t ++ (b ∷ more)) sp (ends_head spells v t b m more (subst (Ends spells v) (sym rest_is) ends_v)) in
                  let same = ap read (ap (λ (l : List ℕ). l ++ (b ∷ more)) w_is ∙ append_assoc v t (b ∷ more)) in
                  differ (sym there ∙ sym same ∙ is)
                where
                  differ : ok_of {X = A × List ℕ} {Y = List ℕ} (a, t ++ (b ∷ more)) ≡ Err (b ∷ more) → ⊥
                  differ q = cc

              long : (t : List ℕ) → v ≡ w ++ t → (b ∷ m) ≡ t ++ rest → ⊥
              long [] v_is tail = short [] (sym (append-nil w) ∙ sym v_is ∙ sym (append-nil v))
              long (d ∷ t) v_is tail =
                  let d_is : d ≡ b = sym (head_same tail) in
                  last (a, v, t, sp, v_is ∙ ap (λ (x : ℕ). w ++ (x ∷ t)) d_is ∙ sym (append_assoc w (b ∷ []) t))
      by (Err rest) e = let s' = reads.stops (w ++ (b ∷ m)) rest e in at rest s'.front s'.split s'.begins s'.last
        where
          at : (rest front : List ℕ) → (w ++ (b ∷ m)) ≡ front ++ rest → Begins spells front → Ends spells front rest → err_of {A = A} rest ≡ Err (b ∷ m)
          at rest front split begs ends_f = ⊎_elim (λ (t, w_is). short t w_is) (λ (t, f_is, tail). long t f_is tail) (fronts w (b ∷ m) front rest split)
            where
              short : (t : List ℕ) → w ≡ front ++ t → err_of {A = A} rest ≡ Err (b ∷ m)
              short [] w_is = ap (λ (l : List ℕ). err_of {A = A} l) (cancel w rest (b ∷ m) (ap (λ (l : List ℕ). l ++ rest) (w_is ∙ append-nil front) ∙ sym split))
              short (d ∷ t) w_is =
                  let rest_is : (d ∷ t) ++ (b ∷ m) ≡ rest = cancel front ((d ∷ t) ++ (b ∷ m)) rest (sym (append_assoc front (d ∷ t) (b ∷ m)) ∙ ap (λ (l : List ℕ). l ++ (b ∷ m)) (sym w_is) ∙ split) in
                  let (a, v, n, sp, v_is) = begins in
                  absurd (ends_f d (t ++ (b ∷ m)) (sym rest_is) (a, v, t ++ n, sp, v_is ∙ ap (λ (l : List ℕ). l ++ n) w_is ∙ append_assoc front (d ∷ t) n ∙ sym (append_assoc front (d ∷ []) (t ++ n))))

              long : (t : List ℕ) → front ≡ w ++ t → (b ∷ m) ≡ t ++ rest → err_of {A = A} rest ≡ Err (b ∷ m)
              long [] f_is tail = ap (λ (l : List ℕ). err_of {A = A} l) (sym tail)
              long (d ∷ t) f_is tail =
                  let d_is : d ≡ b = sym (head_same tail) in
                  let (a, v, n, sp, v_is) = begs in
                  absurd (last (a, v, t ++ n, sp, v_is ∙ ap (λ (l : List ℕ). l ++ n) (f_is ∙ ap (λ (x : ℕ). w ++ (x ∷ t)) d_is) ∙ append_assoc w (b ∷ t) n ∙ sym (append_assoc w (b ∷ []) (t ++ n))))

  pub Steady-scans : Steady spells read goes_on
  Steady-scans = record {
    some = some;
    found = λ bytes a rest is. let f = reads.found bytes a rest is in (f.text, f.spelled, f.split);
    all = λ a w rest s clear. reads.all a w rest s (ends a w rest s clear);
    begun = λ bytes rest is. let s = reads.stops bytes rest is in (s.front, s.split, s.begins);
    same = scans_same;
    fails = scans_fails;
  }

-- ---- one thing and then another, which may depend on it

abbrev on : {A C : Type 0} → (A → List ℕ → Reads C) → Reads A → Reads C
on two r = r >>= λ x. two x.0 x.1

module _ {A C : Type 0} (first : A → List ℕ → Type 0) (second : A → C → List ℕ → Type 0) (one : List ℕ → Reads A) (two : A → List ℕ → Reads C) (goes_on after : ℕ → Bool)
    (reads : Steady first one goes_on) (next : (a : A) (w : List ℕ) → first a w → Steady (second a) (two a) after)
    (apart : (a : A) (c : C) (u rest : List ℕ) → second a c u → Clear after rest → Clear goes_on (u ++ rest)) where
  then_found : (bytes : List ℕ) (c : C) (rest : List ℕ) → chain one two bytes ≡ Ok (c, rest) → (w : List ℕ) × Then first second c w × (bytes ≡ w ++ rest)
  then_found bytes c rest is = at_one (one bytes) refl is
    where
      at_one : (r : Reads A) → one bytes ≡ r → on two r ≡ Ok (c, rest) → (w : List ℕ) × Then first second c w × (bytes ≡ w ++ rest)
      at_one (Ok (a, mid)) ones is =
          let f = reads.found bytes a mid ones in
          let s = (next a f.0 f.1).found mid c rest is in
          (f.0 ++ s.0, (a, f.0, s.0, f.1, s.1, refl), f.2 ∙ ap (λ (l : List ℕ). f.0 ++ l) s.2 ∙ sym (append_assoc f.0 s.0 rest))
      at_one (Err end) ones is = cc

  then_all : (c : C) (w rest : List ℕ) → Then first second c w → Clear after rest → chain one two (w ++ rest) ≡ Ok (c, rest)
  then_all c w rest (a, v, u, f, s, is) clear =
      let ones : one (w ++ rest) ≡ Ok (a, u ++ rest) = ap (λ (l : List ℕ). one (l ++ rest)) is ∙ ap one (append_assoc v u rest) ∙ reads.all a v (u ++ rest) f (apart a c u rest s clear) in
      ap (λ (r : Reads A). on two r) ones ∙ (next a v f).all c u rest s clear

  then_begun : (bytes rest : List ℕ) → chain one two bytes ≡ Err rest → Begun (Then first second) bytes rest
  then_begun bytes rest is = at_one (one bytes) refl is
    where
      at_one : (r : Reads A) → one bytes ≡ r → on two r ≡ Err rest → Begun (Then first second) bytes rest
      at_one (Ok (a, mid)) ones is =
          let f = reads.found bytes a mid ones in
          let (front, split, (c, w, m, sp, w_is)) = (next a f.0 f.1).begun mid rest is in
          (f.0 ++ front, f.2 ∙ ap (λ (l : List ℕ). f.0 ++ l) split ∙ sym (append_assoc f.0 front rest), (c, f.0 ++ w, m, (a, f.0, w, f.1, sp, refl), ap (λ (l : List ℕ). f.0 ++ l) w_is ∙ sym (append_assoc f.0 front m)))
      at_one (Err end) ones is =
          let ends_is : end ≡ rest = cc in
          let (front, split, (a, w, m, f, w_is)) = reads.begun bytes rest (ones ∙ ap (λ (l : List ℕ). err_of {A = A} l) ends_is) in
          let (c, u, sp) = (next a w f).some in
          (front, split, (c, w ++ u, m ++ u, (a, w, u, f, sp, refl), ap (λ (l : List ℕ). l ++ u) w_is ∙ append_assoc front m u))

  -- the first reader does the same where only bytes behind the first of an end are others
  moved : (a : A) (v u : List ℕ) (b : ℕ) (more m : List ℕ) → one (v ++ (u ++ (b ∷ more))) ≡ Ok (a, u ++ (b ∷ more)) → one (v ++ (u ++ (b ∷ m))) ≡ Ok (a, u ++ (b ∷ m))
  moved a v [] b more m is = reads.same a v b more m is
  moved a v (d ∷ u) b more m is = reads.same a v d (u ++ (b ∷ more)) (u ++ (b ∷ m)) is

  then_same : (c : C) (w : List ℕ) (b : ℕ) (more m : List ℕ) → chain one two (w ++ (b ∷ more)) ≡ Ok (c, b ∷ more) → chain one two (w ++ (b ∷ m)) ≡ Ok (c, b ∷ m)
  then_same c w b more m is = at_one (one (w ++ (b ∷ more))) refl is
    where
      at_one : (r : Reads A) → one (w ++ (b ∷ more)) ≡ r → on two r ≡ Ok (c, b ∷ more) → chain one two (w ++ (b ∷ m)) ≡ Ok (c, b ∷ m)
      at_one (Ok (a, mid)) ones is =
          let (v, sp, split) = reads.found (w ++ (b ∷ more)) a mid ones in
          let (u, sq, tail) = (next a v sp).found mid c (b ∷ more) is in
          let whole : w ++ (b ∷ more) ≡ (v ++ u) ++ (b ∷ more) = split ∙ ap (λ (l : List ℕ). v ++ l) tail ∙ sym (append_assoc v u (b ∷ more)) in
          let w_is : w ≡ v ++ u = same_front w (v ++ u) (b ∷ more) whole in
          let old : one (v ++ (u ++ (b ∷ more))) ≡ Ok (a, u ++ (b ∷ more)) = ap one (sym (append_assoc v u (b ∷ more)) ∙ sym whole) ∙ ones ∙ ap (λ (l : List ℕ). ok_of (a, l)) tail in
          let new = moved a v u b more m old in
          let twos = (next a v sp).same c u b more m (ap (two a) (sym tail) ∙ is) in
          ap (λ (l : List ℕ). chain one two (l ++ (b ∷ m))) w_is ∙ ap (chain one two) (append_assoc v u (b ∷ m)) ∙ ap (λ (r : Reads A). on two r) new ∙ twos
      at_one (Err end) ones is = cc

  then_fails : (w : List ℕ) (b : ℕ) (more m : List ℕ) → chain one two (w ++ (b ∷ more)) ≡ Err (b ∷ more) → chain one two (w ++ (b ∷ m)) ≡ Err (b ∷ m)
  then_fails w b more m is = at_one (one (w ++ (b ∷ more))) refl is
    where
      at_one : (r : Reads A) → one (w ++ (b ∷ more)) ≡ r → on two r ≡ Err (b ∷ more) → chain one two (w ++ (b ∷ m)) ≡ Err (b ∷ m)
      at_one (Ok (a, mid)) ones is =
          let (v, sp, split) = reads.found (w ++ (b ∷ more)) a mid ones in
          let (u, tail, begs) = (next a v sp).begun mid (b ∷ more) is in
          let whole : w ++ (b ∷ more) ≡ (v ++ u) ++ (b ∷ more) = split ∙ ap (λ (l : List ℕ). v ++ l) tail ∙ sym (append_assoc v u (b ∷ more)) in
          let w_is : w ≡ v ++ u = same_front w (v ++ u) (b ∷ more) whole in
          let old : one (v ++ (u ++ (b ∷ more))) ≡ Ok (a, u ++ (b ∷ more)) = ap one (sym (append_assoc v u (b ∷ more)) ∙ sym whole) ∙ ones ∙ ap (λ (l : List ℕ). ok_of (a, l)) tail in
          let new = moved a v u b more m old in
          let twos = (next a v sp).fails u b more m (ap (two a) (sym tail) ∙ is) in
          ap (λ (l : List ℕ). chain one two (l ++ (b ∷ m))) w_is ∙ ap (chain one two) (append_assoc v u (b ∷ m)) ∙ ap (λ (r : Reads A). on two r) new ∙ twos
      at_one (Err end) ones is =
          let ends_is : end ≡ b ∷ more = cc in
          ap (λ (r : Reads A). on two r) (reads.fails w b more m (ones ∙ ap (λ (l : List ℕ). err_of {A = A} l) ends_is))

  then_some : Some_text (Then first second)
  then_some = let (a, w, f) = reads.some in let (c, u, s) = (next a w f).some in (c, w ++ u, (a, w, u, f, s, refl))

  pub Steady-then : Steady (Then first second) (chain one two) after
  Steady-then = record { some = then_some; found = then_found; all = then_all; begun = then_begun; same = then_same; fails = then_fails }

-- ---- one value, without bytes

pub Steady-only : {A : Type 0} (value : A) (goes_on : ℕ → Bool) → Steady (Only value) (λ bytes. Ok (value, bytes)) goes_on
Steady-only {A} value goes_on = record {
  some = (value, [], (refl, refl));
  found = λ bytes a rest is. let pairs = ok_same is in ([], (sym (ap (λ p. p.0) pairs), refl), ap (λ p. p.1) pairs);
  all = λ a w rest (same, none) clear. ap (λ (x : A). ok_of (x, w ++ rest)) (sym same) ∙ ap (λ (l : List ℕ). ok_of (a, l ++ rest)) none;
  begun = λ bytes rest is. absurd (differ bytes rest is);
  same = λ a w b more m is.
      let pairs = ok_same is in
      let none : w ≡ [] = same_front w [] (b ∷ more) (ap (λ p. p.1) pairs) in
      ap (λ (l : List ℕ). ok_of (value, l ++ (b ∷ m))) none ∙ ap (λ (x : A). ok_of (x, b ∷ m)) (ap (λ p. p.0) pairs);
  fails = λ w b more m is. absurd (differ (w ++ (b ∷ more)) (b ∷ more) is);
}
  where
    differ : (bytes rest : List ℕ) → ok_of {X = A × List ℕ} {Y = List ℕ} (value, bytes) ≡ Err rest → ⊥
    differ bytes rest e = cc

-- ---- the same grammar in other words, with more bytes with which it may go on

pub Steady-same : {A : Type 0} (old new : A → List ℕ → Type 0) (read : List ℕ → Reads A) (goes_on more : ℕ → Bool) → ((a : A) (w : List ℕ) → old a w → new a w) → ((a : A) (w : List ℕ) → new a w → old a w)
    → ((rest : List ℕ) → Clear more rest → Clear goes_on rest) → Steady old read goes_on → Steady new read more
Steady-same old new read goes_on more to from fewer reads = record {
  some = let (a, w, s) = reads.some in (a, w, to a w s);
  found = λ bytes a rest is. let f = reads.found bytes a rest is in (f.0, to a f.0 f.1, f.2);
  all = λ a w rest s clear. reads.all a w rest (from a w s) (fewer rest clear);
  begun = λ bytes rest is. let (front, split, (a, w, m, s, w_is)) = reads.begun bytes rest is in (front, split, (a, w, m, to a w s, w_is));
  same = reads.same;
  fails = reads.fails;
}

-- ---- words and numbers

-- no byte
abbrev pub nothing : ℕ → Bool
nothing c = false

pub Steady-word : (cs : List ℕ) → Steady (Word cs) (text_at cs) nothing
Steady-word cs = Steady-scans (Word cs) (text_at cs) nothing (Scans-word cs) (tt, cs, refl) (λ u w rest is clear. word_ends cs w rest is)

pub Steady-number : (bound : ℕ) → bound < 2 ^ 64 → Steady (Number bound) (number_at bound) is_ascii_digit
Steady-number bound small = Steady-scans (Number bound) (number_at bound) is_ascii_digit (Scans-number bound small) (0, decimal 0, (omega arith, refl)) ends
  where
    no_digit : (b : ℕ) → is_ascii_digit b ≡ false → (48 ≤ b) × (b ≤ 57) → ⊥
    no_digit b e (low, high) = grind (arith, nat_tests, e, low, high)

    ends : (n : ℕ) (w rest : List ℕ) → Number bound n w → Clear is_ascii_digit rest → Ends (Number bound) w rest
    ends n w [] is clear = λ b more e begun. apart b more e
      where
        apart : (b : ℕ) (more : List ℕ) → [] ≡ b ∷ more → ⊥
        apart b more e = cc
    ends n w (b ∷ u) is clear = number_ends bound n b w u small is (no_digit b clear)

-- ---- all of the bytes

module _ {V : Type 0} (spelling : V → List ℕ) (Fits : V → Type 0) (read : List ℕ → Reads V) (goes_on : ℕ → Bool) (reads : Steady (IsText spelling Fits) read goes_on) where
  abbrev T : V → List ℕ → Type 0
  T = IsText spelling Fits

  -- a text is read to its end
  pub steady_all : (v : V) (bytes : List ℕ) → T v bytes → read bytes ≡ Ok (v, [])
  steady_all v bytes s = ap read (sym (append-nil bytes)) ∙ reads.all v bytes [] s tt

  -- with the byte at which reading stops no text goes on
  ends_err : (front rest : List ℕ) → read (front ++ rest) ≡ Err rest → Ends T front rest
  ends_err front rest is b more e (v, w, m, s, w_is) =
      let there = steady_all v w s in
      let stopped = reads.fails front b more m (ap (λ (l : List ℕ). read (front ++ l)) (sym e) ∙ is ∙ ap (λ (l : List ℕ). err_of {A = V} l) e) in
      differ m (sym there ∙ ap read (w_is ∙ append_assoc front (b ∷ []) m) ∙ stopped)
    where
      differ : (m : List ℕ) → ok_of {X = V × List ℕ} {Y = List ℕ} (v, []) ≡ Err (b ∷ m) → ⊥
      differ m q = cc

  ends_ok : (a : V) (front rest : List ℕ) → read (front ++ rest) ≡ Ok (a, rest) → Ends T front rest
  ends_ok a front rest is b more e (v, w, m, s, w_is) =
      let there = steady_all v w s in
      let ended = reads.same a front b more m (ap (λ (l : List ℕ). read (front ++ l)) (sym e) ∙ is ∙ ap (λ (l : List ℕ). ok_of (a, l)) e) in
      let pairs = ok_same (sym there ∙ ap read (w_is ∙ append_assoc front (b ∷ []) m) ∙ ended) in
      let none : [] ≡ b ∷ m = ap (λ p. p.1) pairs in
      cc none

  fault : (bytes front rest : List ℕ) → bytes ≡ front ++ rest → Begins T front → Ends T front rest → (Spells spelling Fits bytes → ⊥) → IsFaultAt spelling Fits bytes (length bytes - length rest)
  fault bytes front rest split (v, w, m, s, w_is) last none =
      let total = ap length split in
      let sum = length-append front rest in
      let long : length bytes - length rest ≡ length front = omega (arith, total, sum) in
      let head : take (length bytes - length rest) bytes ≡ front = ap (λ (l : List ℕ). take (length bytes - length rest) l) split ∙ take_at front rest (length bytes - length rest) (sym long) in
      record {
        none = none;
        within = omega arith;
        begins = (v, m, s.0, sym s.1 ∙ w_is ∙ ap (λ (l : List ℕ). l ++ m) (sym head));
        longest = λ k more fits (v', m', fits', is). longest_at T bytes front rest (length bytes - length rest) split last long k more fits (v', spelling v', m', (fits', refl), is);
      }

  -- reading all of the bytes gives the value that they spell, or how many of them go with the grammar
  pub steady_says : (bytes : List ℕ) → Says spelling Fits bytes (whole read bytes)
  steady_says bytes = by (read bytes) refl
    where
      by : (r : Reads V) → read bytes ≡ r → Says spelling Fits bytes (with_offset bytes (r >>= ended))
      by (Err rest) e =
          let (front, split, begs) = reads.begun bytes rest e in
          fault bytes front rest split begs (ends_err front rest (ap read (sym split) ∙ e)) (λ (v, t). let is = sym e ∙ steady_all v bytes t in cc is)
      by (Ok (v, [])) e = let (w, s, split) = reads.found bytes v [] e in let is : bytes ≡ w = split ∙ append-nil w in (s.0, is ∙ s.1)
      by (Ok (v, c ∷ cs)) e =
          let (w, s, split) = reads.found bytes v (c ∷ cs) e in
          fault bytes w (c ∷ cs) split (v, w, [], s, sym (append-nil w)) (ends_ok v w (c ∷ cs) (ap read (sym split) ∙ e))
          (λ (v', t). let pairs = ok_same (sym e ∙ steady_all v' bytes t) in let ends : c ∷ cs ≡ [] = ap (λ p. p.1) pairs in cc ends)

-- ---- readers that read alike

pub Steady-alike : {A : Type 0} (spells : A → List ℕ → Type 0) (old new : List ℕ → Reads A) (goes_on : ℕ → Bool) → ((bytes : List ℕ) → old bytes ≡ new bytes) → Steady spells old goes_on → Steady spells new goes_on
Steady-alike {A} spells old new goes_on alike reads = subst (λ (r : List ℕ → Reads A). Steady spells r goes_on) (λ i bytes. alike bytes i) reads

-- ---- one thing behind a byte, or else another that does not begin with it

abbrev pub Choice : {A : Type 0} → ℕ → (A → List ℕ → Type 0) → (A → List ℕ → Type 0) → A → List ℕ → Type 0
Choice k first second a w = ((u : List ℕ) × (w ≡ k ∷ u) × first a u) ⊎ second a w

abbrev pub choose : {A : Type 0} → ℕ → (List ℕ → Reads A) → (List ℕ → Reads A) → List ℕ → Reads A
choose k one two [] = two []
choose k one two (c ∷ cs) = if c == k then one cs else two (c ∷ cs)

-- no byte of these but this one
abbrev pub only : ℕ → ℕ → Bool
only k c = c == k

module _ {A : Type 0} (k : ℕ) (first second : A → List ℕ → Type 0) (one two : List ℕ → Reads A) (goes_on : ℕ → Bool) (reads : Steady first one goes_on) (others : Steady second two goes_on)
    (away : (a : A) (w rest : List ℕ) → second a w → Clear goes_on rest → Clear (only k) (w ++ rest)) where
  abbrev by_first : ℕ → List ℕ → Bool → Reads A
  by_first c cs t = if t then one cs else two (c ∷ cs)

  choice_found : (bytes : List ℕ) (a : A) (rest : List ℕ) → choose k one two bytes ≡ Ok (a, rest) → (w : List ℕ) × Choice k first second a w × (bytes ≡ w ++ rest)
  choice_found [] a rest is = let (w, s, split) = others.found [] a rest is in (w, inr s, split)
  choice_found (c ∷ cs) a rest is = by (c == k) refl is
    where
      by : (t : Bool) → (c == k) ≡ t → by_first c cs t ≡ Ok (a, rest) → (w : List ℕ) × Choice k first second a w × (c ∷ cs ≡ w ++ rest)
      by true t e = let (w, s, split) = reads.found cs a rest e in (k ∷ w, inl (w, refl, s), ap (λ (x : ℕ). x ∷ cs) (eqb-true c k t) ∙ ap (λ (l : List ℕ). k ∷ l) split)
      by false f e = let (w, s, split) = others.found (c ∷ cs) a rest e in (w, inr s, split)

  choice_all : (a : A) (w rest : List ℕ) → Choice k first second a w → Clear goes_on rest → choose k one two (w ++ rest) ≡ Ok (a, rest)
  choice_all a w rest (inl (u, w_is, s)) clear = ap (λ (l : List ℕ). choose k one two (l ++ rest)) w_is ∙ ap (λ (t : Bool). by_first k (u ++ rest) t) (eq-eqb k k refl) ∙ reads.all a u rest s clear
  choice_all a w rest (inr s) clear = at (w ++ rest) refl (away a w rest s clear)
    where
      at : (l : List ℕ) → w ++ rest ≡ l → Clear (only k) (w ++ rest) → choose k one two (w ++ rest) ≡ Ok (a, rest)
      at [] e free = ap (choose k one two) e ∙ sym (ap two e) ∙ others.all a w rest s clear
      at (c ∷ cs) e free =
          let f : (c == k) ≡ false = subst (Clear (only k)) e free in
          ap (choose k one two) e ∙ ap (λ (t : Bool). by_first c cs t) f ∙ sym (ap two e) ∙ others.all a w rest s clear

  choice_begun : (bytes rest : List ℕ) → choose k one two bytes ≡ Err rest → Begun (Choice k first second) bytes rest
  choice_begun [] rest is = let (front, split, (a, w, m, s, w_is)) = others.begun [] rest is in (front, split, (a, w, m, inr s, w_is))
  choice_begun (c ∷ cs) rest is = by (c == k) refl is
    where
      by : (t : Bool) → (c == k) ≡ t → by_first c cs t ≡ Err rest → Begun (Choice k first second) (c ∷ cs) rest
      by true t e =
          let (front, split, (a, w, m, s, w_is)) = reads.begun cs rest e in
          (k ∷ front, ap (λ (x : ℕ). x ∷ cs) (eqb-true c k t) ∙ ap (λ (l : List ℕ). k ∷ l) split, (a, k ∷ w, m, inl (w, refl, s), ap (λ (l : List ℕ). k ∷ l) w_is))
      by false f e = let (front, split, (a, w, m, s, w_is)) = others.begun (c ∷ cs) rest e in (front, split, (a, w, m, inr s, w_is))

  -- what is read is no longer than the bytes
  too_long : (front : List ℕ) (b : ℕ) (more : List ℕ) → more ≡ front ++ (b ∷ more) → ⊥
  too_long front b more e = let l = ap length e in let n = length-append front (b ∷ more) in omega (arith, l, n)

  choice_same : (a : A) (w : List ℕ) (b : ℕ) (more m : List ℕ) → choose k one two (w ++ (b ∷ more)) ≡ Ok (a, b ∷ more) → choose k one two (w ++ (b ∷ m)) ≡ Ok (a, b ∷ m)
  choice_same a [] b more m is = by (b == k) refl is
    where
      by : (t : Bool) → (b == k) ≡ t → by_first b more t ≡ Ok (a, b ∷ more) → by_first b m (b == k) ≡ Ok (a, b ∷ m)
      by true t e = let (w, s, split) = reads.found more a (b ∷ more) e in absurd (too_long w b more split)
      by false f e = ap (λ (t : Bool). by_first b m t) f ∙ others.same a [] b more m e
  choice_same a (d ∷ w) b more m is = by (d == k) refl is
    where
      by : (t : Bool) → (d == k) ≡ t → by_first d (w ++ (b ∷ more)) t ≡ Ok (a, b ∷ more) → by_first d (w ++ (b ∷ m)) (d == k) ≡ Ok (a, b ∷ m)
      by true t e = ap (λ (t : Bool). by_first d (w ++ (b ∷ m)) t) t ∙ reads.same a w b more m e
      by false f e = ap (λ (t : Bool). by_first d (w ++ (b ∷ m)) t) f ∙ others.same a (d ∷ w) b more m e

  choice_fails : (w : List ℕ) (b : ℕ) (more m : List ℕ) → choose k one two (w ++ (b ∷ more)) ≡ Err (b ∷ more) → choose k one two (w ++ (b ∷ m)) ≡ Err (b ∷ m)
  choice_fails [] b more m is = by (b == k) refl is
    where
      by : (t : Bool) → (b == k) ≡ t → by_first b more t ≡ Err (b ∷ more) → by_first b m (b == k) ≡ Err (b ∷ m)
      by true t e = let (front, split, begs) = reads.begun more (b ∷ more) e in absurd (too_long front b more split)
      by false f e = ap (λ (t : Bool). by_first b m t) f ∙ others.fails [] b more m e
  choice_fails (d ∷ w) b more m is = by (d == k) refl is
    where
      by : (t : Bool) → (d == k) ≡ t → by_first d (w ++ (b ∷ more)) t ≡ Err (b ∷ more) → by_first d (w ++ (b ∷ m)) (d == k) ≡ Err (b ∷ m)
      by true t e = ap (λ (t : Bool). by_first d (w ++ (b ∷ m)) t) t ∙ reads.fails w b more m e
      by false f e = ap (λ (t : Bool). by_first d (w ++ (b ∷ m)) t) f ∙ others.fails (d ∷ w) b more m e

  pub Steady-choice : Steady (Choice k first second) (choose k one two) goes_on
  Steady-choice = record {
    some = let (a, w, s) = reads.some in (a, k ∷ w, inl (w, refl, s));
    found = choice_found;
    all = choice_all;
    begun = choice_begun;
    same = choice_same;
    fails = choice_fails;
  }

-- ---- items, each behind a mark

-- one of these bytes
abbrev pub either_of : (ℕ → Bool) → (ℕ → Bool) → ℕ → Bool
either_of p q c = p c || q c

pub clear_left : (p q : ℕ → Bool) (rest : List ℕ) → Clear (either_of p q) rest → Clear p rest
clear_left p q [] clear = tt
clear_left p q (c ∷ cs) clear = by (p c) refl clear
  where
    by : (t : Bool) → p c ≡ t → (t || q c) ≡ false → p c ≡ false
    by true t e = cc
    by false f e = f

pub clear_right : (p q : ℕ → Bool) (rest : List ℕ) → Clear (either_of p q) rest → Clear q rest
clear_right p q [] clear = tt
clear_right p q (c ∷ cs) clear = by (p c) refl clear
  where
    by : (t : Bool) → p c ≡ t → (t || q c) ≡ false → q c ≡ false
    by true t e = cc
    by false f e = e

module _ {A : Type 0} (spelling : A → List ℕ) (Fits : A → Type 0) (one : List ℕ → Reads A) (goes_on : ℕ → Bool) (reads : Steady (IsText spelling Fits) one goes_on) (mark : ℕ) (apart : goes_on mark ≡ false) where
  -- the text of items, a mark before each
  abbrev pub marked : List A → List ℕ
  marked xs = flat_map (λ x. mark ∷ spelling x) xs

  -- at most so many items, each of which fits
  pub record Few (n : ℕ) (xs : List A) (w : List ℕ) : Type 0 where
    pub few : length xs ≤ n
    pub each : AllByRecursion Fits xs
    pub is : w ≡ marked xs

  -- items, each of which fits
  pub record Items (xs : List A) (w : List ℕ) : Type 0 where
    pub each : AllByRecursion Fits xs
    pub is : w ≡ marked xs

  -- the bytes with which they may go on
  abbrev pub further : ℕ → Bool
  further = either_of goes_on (only mark)

  -- one, and at most so many behind it
  abbrev Inner : ℕ → List A → List ℕ → Type 0
  Inner n = Then (IsText spelling Fits) (λ x. Then (Few n) (λ xs. Only (x ∷ xs)))

  abbrev inner_at : ℕ → List ℕ → Reads (List A)
  inner_at n = chain one (λ x. chain (more_at n mark one) (λ xs b. Ok (x ∷ xs, b)))

  few_zero : (xs : List A) (w : List ℕ) → Few 0 xs w → Only [] xs w
  few_zero [] w f = (refl, f.is)
  few_zero (x ∷ xs) w f = let few = f.few in absurd (omega (arith, few))

  to_few : (n : ℕ) (xs : List A) (w : List ℕ) → Choice mark (Inner n) (Only []) xs w → Few (suc n) xs w
  to_few n xs w (inl (u, w_is, (x, v, t, (fits, v_is), (ys, s, r, f, (xs_is, none), t_is), u_is))) =
      let few = f.few in
      subst (λ (l : List A). Few (suc n) l w) (sym xs_is) (record {
        few = omega (arith, few);
        each = (fits, f.each);
        is = w_is ∙ ap (λ (l : List ℕ). mark ∷ l) (u_is ∙ ap (λ (l : List ℕ). l ++ t) v_is ∙ ap (λ (l : List ℕ). spelling x ++ l) (t_is ∙ ap (λ (l : List ℕ). s ++ l) none ∙ append-nil s ∙ f.is));
      })
  to_few n xs w (inr (xs_is, none)) = subst (λ (l : List A). Few (suc n) l w) (sym xs_is) (record { few = omega arith; each = tt; is = none })

  from_few : (n : ℕ) (xs : List A) (w : List ℕ) → Few (suc n) xs w → Choice mark (Inner n) (Only []) xs w
  from_few n [] w f = inr (refl, f.is)
  from_few n (x ∷ xs) w f =
      let few = f.few in
      inl (spelling x ++ marked xs, f.is, (x, spelling x, marked xs, (f.each.0, refl), (xs, marked xs, [], record { few = omega (arith, few); each = f.each.1; is = refl }, (refl, refl), sym (append-nil (marked xs))), refl))

  -- behind an item comes a mark, or what may not come behind all of them
  pub behind_item : (n : ℕ) (xs : List A) (u rest : List ℕ) → Few n xs u → Clear further rest → Clear goes_on (u ++ rest)
  behind_item n [] u rest f clear = subst (λ (l : List ℕ). Clear goes_on (l ++ rest)) (sym f.is) (clear_left goes_on (only mark) rest clear)
  behind_item n (x ∷ xs) u rest f clear = subst (λ (l : List ℕ). Clear goes_on (l ++ rest)) (sym f.is) apart

  pub Steady-few : (n : ℕ) → Steady (Few n) (more_at n mark one) further
  Steady-few zero = Steady-same (Only []) (Few 0) (more_at 0 mark one) further further (λ xs w (same, none). subst (λ (l : List A). Few 0 l w) (sym same) (record { few = omega arith; each = tt; is = none })) few_zero (λ rest clear. clear) (Steady-only [] further)
  Steady-few (suc n) =
      Steady-same (Choice mark (Inner n) (Only [])) (Few (suc n)) (more_at (suc n) mark one) further further (to_few n) (from_few n) (λ rest clear. clear)
      (Steady-alike (Choice mark (Inner n) (Only [])) (choose mark (inner_at n) (λ b. Ok ([], b))) (more_at (suc n) mark one) further alike
      (Steady-choice mark (Inner n) (Only []) (inner_at n) (λ b. Ok ([], b)) further
      (Steady-then (IsText spelling Fits) (λ x. Then (Few n) (λ xs. Only (x ∷ xs))) one (λ x. chain (more_at n mark one) (λ xs b. Ok (x ∷ xs, b))) goes_on further reads
      (λ x w s. Steady-then (Few n) (λ xs. Only (x ∷ xs)) (more_at n mark one) (λ xs b. Ok (x ∷ xs, b)) further further (Steady-few n) (λ xs v f. Steady-only (x ∷ xs) further) (λ xs c u rest (same, none) clear. subst (λ (l : List ℕ). Clear further (l ++ rest)) (sym none) clear))
      (λ x c u rest (ys, s, r, f, (c_is, none), u_is) clear. subst (λ (l : List ℕ). Clear goes_on (l ++ rest)) (sym (u_is ∙ ap (λ (l : List ℕ). s ++ l) none ∙ append-nil s)) (behind_item n ys s rest f clear)))
      (Steady-only [] further)
      (λ a w rest (same, none) clear. subst (λ (l : List ℕ). Clear (only mark) (l ++ rest)) (sym none) (clear_right goes_on (only mark) rest clear))))
    where
      alike : (bytes : List ℕ) → choose mark (inner_at n) (λ b. Ok ([], b)) bytes ≡ more_at (suc n) mark one bytes
      alike [] = refl
      alike (c ∷ cs) = refl

  -- ---- as many as there are

  -- reads items as long as a mark comes next
  abbrev pub items_at : List ℕ → Reads (List A)
  items_at bytes = more_at (length bytes) mark one bytes

  -- what is left behind an item is no longer than the bytes
  shorter : (bytes : List ℕ) (x : A) (rest : List ℕ) → one bytes ≡ Ok (x, rest) → length rest ≤ length bytes
  shorter bytes x rest is = let (w, s, split) = reads.found bytes x rest is in let l = ap length split in let n = length-append w rest in omega (arith, l, n)

  -- an item before others
  abbrev joined : A → Reads (List A) → Reads (List A)
  joined x r = r >>= λ xs. Ok (x ∷ xs.0, xs.1)

  -- no more items than bytes are read
  pub enough : (n m : ℕ) (bytes : List ℕ) → length bytes ≤ n → length bytes ≤ m → more_at n mark one bytes ≡ more_at m mark one bytes
  enough zero zero bytes long also = refl
  enough zero (suc m) [] long also = refl
  enough (suc n) zero [] long also = refl
  enough (suc n) (suc m) [] long also = refl
  enough zero (suc m) (c ∷ cs) long also = absurd (omega (arith, long))
  enough (suc n) zero (c ∷ cs) long also = absurd (omega (arith, also))
  enough (suc n) (suc m) (c ∷ cs) long also = ap (λ (r : Reads (List A)). if c == mark then r else Ok ([], c ∷ cs)) (at (λ rest less. enough n m rest (omega (arith, long, less)) (omega (arith, also, less))) (one cs) refl)
    where
      at : ((rest : List ℕ) → length rest ≤ length cs → more_at n mark one rest ≡ more_at m mark one rest) → (r : Reads A) → one cs ≡ r → (r >>= λ x. joined x.0 (more_at n mark one x.1)) ≡ (r >>= λ x. joined x.0 (more_at m mark one x.1))
      at ih (Ok (x, rest)) e = ap (joined x) (ih rest (shorter cs x rest e))
      at ih (Err rest) e = refl

  pub Steady-items : Steady Items items_at further
  Steady-items = record {
    some = ([], [], record { each = tt; is = refl });
    found = λ bytes a rest is. let (w, f, split) = (Steady-few (length bytes)).found bytes a rest is in (w, record { each = f.each; is = f.is }, split);
    all = λ a w rest f clear.
        let n = length a + length (w ++ rest) in
        enough (length (w ++ rest)) n (w ++ rest) (omega arith) (omega arith) ∙ (Steady-few n).all a w rest (record { few = omega arith; each = f.each; is = f.is }) clear;
    begun = λ bytes rest is. let (front, split, (a, w, m, f, w_is)) = (Steady-few (length bytes)).begun bytes rest is in (front, split, (a, w, m, record { each = f.each; is = f.is }, w_is));
    same = λ a w b more m is.
        let x = w ++ (b ∷ more) in
        let y = w ++ (b ∷ m) in
        let n = length x + length y in
        enough (length y) n y (omega arith) (omega arith) ∙ (Steady-few n).same a w b more m (enough n (length x) x (omega arith) (omega arith) ∙ is);
    fails = λ w b more m is.
        let x = w ++ (b ∷ more) in
        let y = w ++ (b ∷ m) in
        let n = length x + length y in
        enough (length y) n y (omega arith) (omega arith) ∙ (Steady-few n).fails w b more m (enough n (length x) x (omega arith) (omega arith) ∙ is);
  }
