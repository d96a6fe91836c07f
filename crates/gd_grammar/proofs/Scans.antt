-- Readers that take the longest text: each is exact for a grammar, and so is what is made of them.
use Rattle.std.proofs.Common.{◌≡◌, refl, ℕ, ◌+◌, ◌-◌, ◌<◌, ◌≤◌, List, [], ◌∷◌, ◌++◌, length, take, drop, Result, Ok, Err, subst, sym, ap, ◌∙◌, ◌⊎◌, inl, inr, ⊎_elim, arith, length-append, append_assoc, ◌==◌, if◌then◌else◌, eqb-true, eq-eqb, ne_eqb, zero, suc, Bool, true, false}
use Rattle.std.proofs.lemmas.List.{append-nil, take_at, take-append-drop, take-take}
use Rattle.gd_grammar.specs.Chain.{◌>>=◌}
use Rattle.gd_grammar.specs.Grammar.{Reads, IsFaultAt, IsText, Spells, more_at, ended, with_offset, whole}

-- these bytes begin some text
abbrev pub Begins : {A : Type 0} → (A → List ℕ → Type 0) → List ℕ → Type 0
Begins {A} spells front = (a : A) × (w : List ℕ) × (more : List ℕ) × spells a w × (w ≡ front ++ more)

-- with the first byte of the rest they do not
abbrev pub Ends : {A : Type 0} → (A → List ℕ → Type 0) → List ℕ → List ℕ → Type 0
Ends spells w rest = (b : ℕ) (more : List ℕ) → rest ≡ b ∷ more → Begins spells (w ++ (b ∷ [])) → ⊥

pub record Stops {A : Type 0} (spells : A → List ℕ → Type 0) (bytes rest : List ℕ) : Type 0 where
  pub front : List ℕ
  pub split : bytes ≡ front ++ rest
  pub begins : Begins spells front
  pub last : Ends spells front rest

pub record Found {A : Type 0} (spells : A → List ℕ → Type 0) (bytes : List ℕ) (a : A) (rest : List ℕ) : Type 0 where
  pub text : List ℕ
  pub spelled : spells a text
  pub split : bytes ≡ text ++ rest
  pub last : Ends spells text rest

-- the reader takes the longest text that the bytes begin with, or tells where no text goes on
pub record Scans {A : Type 0} (spells : A → List ℕ → Type 0) (read : List ℕ → Reads A) : Type 0 where
  pub found : (bytes : List ℕ) (a : A) (rest : List ℕ) → read bytes ≡ Ok (a, rest) → Found spells bytes a rest
  pub all : (a : A) (w rest : List ℕ) → spells a w → Ends spells w rest → read (w ++ rest) ≡ Ok (a, rest)
  pub stops : (bytes rest : List ℕ) → read bytes ≡ Err rest → Stops spells bytes rest

-- ---- small facts

abbrev pub ok_of : {X Y : Type 0} → X → Result X Y
ok_of x = Ok x

pub ok_same : {X Y : Type 0} {p q : X} → ok_of {X = X} {Y = Y} p ≡ ok_of q → p ≡ q
ok_same is = cc

-- of two lists that begin one list, one begins the other
pub fronts : (a b c d : List ℕ) → a ++ b ≡ c ++ d → ((t : List ℕ) × (a ≡ c ++ t)) ⊎ ((t : List ℕ) × (c ≡ a ++ t) × (b ≡ t ++ d))
fronts [] b c d is = inr (c, refl, is)
fronts (x ∷ a) b [] d is = inl (x ∷ a, refl)
fronts (x ∷ a) b (y ∷ c) d is =
    let heads : x ≡ y = cc in
    let tails : a ++ b ≡ c ++ d = cc in
    ⊎_elim (λ (t, e). inl (t, cc (heads, e))) (λ (t, e, f). inr (t, cc (heads, e), f)) (fronts a b c d tails)

-- only the first byte of a rest counts
pub ends_head : {A : Type 0} (spells : A → List ℕ → Type 0) (v u : List ℕ) (b : ℕ) (more m : List ℕ) → Ends spells v (u ++ (b ∷ more)) → Ends spells v (u ++ (b ∷ m))
ends_head spells v [] b more m ends c other is begun = let same : c ≡ b = cc in ends b more refl (subst (λ (x : ℕ). Begins spells (v ++ (x ∷ []))) same begun)
ends_head spells v (d ∷ u) b more m ends c other is begun = let same : c ≡ d = cc in ends d (u ++ (b ∷ more)) refl (subst (λ (x : ℕ). Begins spells (v ++ (x ∷ []))) same begun)

pub ends_first : {A : Type 0} (spells : A → List ℕ → Type 0) (v : List ℕ) (d : ℕ) (u m : List ℕ) → Ends spells v (d ∷ u) → Ends spells v (d ∷ m)
ends_first spells v d u m ends = ends_head spells v [] d u m ends

-- ---- one thing and then another, which may depend on it

abbrev pub Then : {A C : Type 0} → (A → List ℕ → Type 0) → (A → C → List ℕ → Type 0) → C → List ℕ → Type 0
Then {A} first second c w = (a : A) × (v : List ℕ) × (u : List ℕ) × first a v × second a c u × (w ≡ v ++ u)

abbrev pub chain : {A C : Type 0} → (List ℕ → Reads A) → (A → List ℕ → Reads C) → List ℕ → Reads C
chain one two bytes = one bytes >>= λ x. two x.0 x.1

abbrev on : {A C : Type 0} → (A → List ℕ → Reads C) → Reads A → Reads C
on two r = r >>= λ x. two x.0 x.1

module _ {A C : Type 0} (first : A → List ℕ → Type 0) (second : A → C → List ℕ → Type 0) (one : List ℕ → Reads A) (two : A → List ℕ → Reads C)
    (reads : Scans first one) (next : (a : A) (w : List ℕ) → first a w → Scans (second a) (two a)) (some : (a : A) (w : List ℕ) → first a w → (c : C) × (u : List ℕ) × second a c u)
    (apart : (a : A) (v : List ℕ) → first a v → (c : C) (u : List ℕ) → second a c u → Ends first v u) where
  then_last : (bytes : List ℕ) (a : A) (mid : List ℕ) → one bytes ≡ Ok (a, mid) → (f : Found first bytes a mid) → (u rest : List ℕ) → mid ≡ u ++ rest → Ends (second a) u rest → Ends (Then first second) (f.text ++ u) rest
  then_last bytes a mid ones f u rest mid_is ends b more e (c', w', m, (a', v', u', f', s', w_is), is) =
      let x = (u ++ (b ∷ [])) ++ m in
      let x_is : u ++ (b ∷ m) ≡ x = sym (append_assoc u (b ∷ []) m) in
      let regroup : v' ++ u' ≡ f.text ++ x = sym w_is ∙ is ∙ ap (λ (l : List ℕ). l ++ m) (append_assoc f.text u (b ∷ [])) ∙ append_assoc f.text (u ++ (b ∷ [])) m in
      let ends_mid : Ends first f.text (u ++ (b ∷ more)) = subst (Ends first f.text) (mid_is ∙ ap (λ (l : List ℕ). u ++ l) e) f.last in
      let ends_x : Ends first f.text x = subst (Ends first f.text) x_is (ends_head first f.text u b more m ends_mid) in
      let pairs = ok_same (sym (reads.all a f.text x f.spelled ends_x) ∙ ap one (sym regroup) ∙ reads.all a' v' u' f' (apart a' v' f' c' u' s')) in
      let heads : a ≡ a' = ap (λ p. p.0) pairs in
      let tails : x ≡ u' = ap (λ p. p.1) pairs in
      ends b more e (c', u', m, subst (λ (z : A). second z c' u') (sym heads) s', sym tails)

  then_found : (bytes : List ℕ) (c : C) (rest : List ℕ) → chain one two bytes ≡ Ok (c, rest) → Found (Then first second) bytes c rest
  then_found bytes c rest is = at_one (one bytes) refl is
    where
      at_one : (r : Reads A) → one bytes ≡ r → on two r ≡ Ok (c, rest) → Found (Then first second) bytes c rest
      at_one (Ok (a, mid)) ones is =
          let f = reads.found bytes a mid ones in
          let s = (next a f.text f.spelled).found mid c rest is in
          record {
            text = f.text ++ s.text;
            spelled = (a, f.text, s.text, f.spelled, s.spelled, refl);
            split = f.split ∙ ap (λ (l : List ℕ). f.text ++ l) s.split ∙ sym (append_assoc f.text s.text rest);
            last = then_last bytes a mid ones f s.text rest s.split s.last;
          }
      at_one (Err end) ones is = cc

  then_all : (c : C) (w rest : List ℕ) → Then first second c w → Ends (Then first second) w rest → chain one two (w ++ rest) ≡ Ok (c, rest)
  then_all c w rest (a, v, u, f, s, is) ends =
      let ones : one (w ++ rest) ≡ Ok (a, u ++ rest) = ap (λ (l : List ℕ). one (l ++ rest)) is ∙ ap one (append_assoc v u rest) ∙ reads.all a v (u ++ rest) f (ends_v u refl) in
      let twos : two a (u ++ rest) ≡ Ok (c, rest) = (next a v f).all c u rest s ends_u in
      ap (λ (r : Reads A). on two r) ones ∙ twos
    where
      ends_v : (t : List ℕ) → u ≡ t → Ends first v (u ++ rest)
      ends_v [] e = λ b more rest_is (a2, w2, m2, f2, w2_is).
          let (c2, u2, s2) = some a2 w2 f2 in
          let w_is : w ≡ v = is ∙ ap (λ (l : List ℕ). v ++ l) e ∙ append-nil v in
          let at : rest ≡ b ∷ more = sym (ap (λ (l : List ℕ). l ++ rest) e) ∙ rest_is in
          ends b more at (c2, w2 ++ u2, m2 ++ u2, (a2, w2, u2, f2, s2, refl), ap (λ (l : List ℕ). l ++ u2) (w2_is ∙ ap (λ (l : List ℕ). (l ++ (b ∷ [])) ++ m2) (sym w_is)) ∙ append_assoc (w ++ (b ∷ [])) m2 u2)
      ends_v (d ∷ t) e = subst (λ (l : List ℕ). Ends first v (l ++ rest)) (sym e) (ends_first first v d t (t ++ rest) (subst (Ends first v) e (apart a v f c u s)))

      ends_u : Ends (second a) u rest
      ends_u b more e (c2, u2, m2, s2, u2_is) =
          ends b more e (
            c2,
            v ++ u2,
            m2,
            (a, v, u2, f, s2, refl),
            ap (λ (l : List ℕ). v ++ l) u2_is ∙ sym (append_assoc v (u ++ (b ∷ [])) m2) ∙ ap (λ (l : List ℕ). l ++ m2) (sym (append_assoc v u (b ∷ [])) ∙ ap (λ (l : List ℕ). l ++ (b ∷ [])) (sym is)),
          )

  then_stops : (bytes rest : List ℕ) → chain one two bytes ≡ Err rest → Stops (Then first second) bytes rest
  then_stops bytes rest is = at_one (one bytes) refl is
    where
      at_one : (r : Reads A) → one bytes ≡ r → on two r ≡ Err rest → Stops (Then first second) bytes rest
      at_one (Ok (a, mid)) ones is =
          let f = reads.found bytes a mid ones in
          let s = (next a f.text f.spelled).stops mid rest is in
          let (c, w, m, sp, w_is) = s.begins in
          record {
            front = f.text ++ s.front;
            split = f.split ∙ ap (λ (l : List ℕ). f.text ++ l) s.split ∙ sym (append_assoc f.text s.front rest);
            begins = (c, f.text ++ w, m, (a, f.text, w, f.spelled, sp, refl), ap (λ (l : List ℕ). f.text ++ l) w_is ∙ sym (append_assoc f.text s.front m));
            last = then_last bytes a mid ones f s.front rest s.split s.last;
          }
      at_one (Err end) ones is =
          let ends_is : end ≡ rest = cc in
          let s = reads.stops bytes rest (ones ∙ ap (λ (l : List ℕ). err_of l) ends_is) in
          let (a, w, m, f, w_is) = s.begins in
          let (c, u, sp) = some a w f in
          record {
            front = s.front;
            split = s.split;
            begins = (c, w ++ u, m ++ u, (a, w, u, f, sp, refl), ap (λ (l : List ℕ). l ++ u) w_is ∙ append_assoc s.front m u);
            last = λ b more e (c', w', m', (a', v', u', f', s', w'_is), is').
                ⊎_elim
                (λ (t, v_is). s.last b more e (a', v', t, f', v_is))
                (λ (t, front_is, u_is). no_front s b more e a' v' u' f' c' s' m' t front_is u_is (ones ∙ ap (λ (l : List ℕ). err_of l) ends_is))
                (fronts v' u' (s.front ++ (b ∷ [])) m' (sym w'_is ∙ is'));
          }
        where
          err_of : List ℕ → Reads A
          err_of l = Err l

          no_front : (s : Stops first bytes rest) (b : ℕ) (more : List ℕ) → rest ≡ b ∷ more → (a' : A) (v' u' : List ℕ) → first a' v' → (c' : C) → second a' c' u' → (m' t : List ℕ) → s.front ++ (b ∷ []) ≡ v' ++ t → u' ≡ t ++ m' → one bytes ≡ Err rest → ⊥
          no_front s b more e a' v' u' f' c' s' m' [] front_is u_is ones = s.last b more e (a', v', [], f', sym (append-nil v') ∙ sym front_is ∙ sym (append-nil (s.front ++ (b ∷ []))))
          no_front s b more e a' v' u' f' c' s' m' (d ∷ t) front_is u_is ones =
              let there : bytes ≡ v' ++ ((d ∷ t) ++ more) = s.split ∙ ap (λ (l : List ℕ). s.front ++ l) e ∙ sym (append_assoc s.front (b ∷ []) more) ∙ ap (λ (l : List ℕ). l ++ more) front_is ∙ append_assoc v' (d ∷ t) more in
              let ends : Ends first v' (d ∷ (t ++ more)) = ends_first first v' d (t ++ m') (t ++ more) (subst (Ends first v') u_is (apart a' v' f' c' u' s')) in
              let reads_it = ap one there ∙ reads.all a' v' ((d ∷ t) ++ more) f' ends in
              cc (ones, reads_it)

  pub Scans-then : Scans (Then first second) (chain one two)
  Scans-then = record { found = then_found; all = then_all; stops = then_stops }

-- ---- one value, without bytes

abbrev pub Only : {A : Type 0} → A → A → List ℕ → Type 0
Only value a w = (a ≡ value) × (w ≡ [])

pub Scans-only : {A : Type 0} (value : A) → Scans (Only value) (λ bytes. Ok (value, bytes))
Scans-only {A} value = record {
  found = λ bytes a rest is.
      let pairs = ok_same is in
      record { text = []; spelled = (sym (ap (λ p. p.0) pairs), refl); split = ap (λ p. p.1) pairs; last = λ b more e (a', w, m, (same, none), w_is). absurd (apart b m (sym none ∙ w_is)) };
  all = λ a w rest (same, none) ends. pair_is a w rest same none;
  stops = λ bytes rest is. absurd (differ bytes rest is);
}
  where
    apart : (b : ℕ) (m : List ℕ) → [] ≡ b ∷ m → ⊥
    apart b m e = cc

    pair_is : (a : A) (w rest : List ℕ) → a ≡ value → w ≡ [] → ok_of {X = A × List ℕ} {Y = List ℕ} (value, w ++ rest) ≡ Ok (a, rest)
    pair_is a w rest same none = ap (λ (x : A). ok_of (x, w ++ rest)) (sym same) ∙ ap (λ (l : List ℕ). ok_of (a, l ++ rest)) none

    differ : (bytes rest : List ℕ) → ok_of {X = A × List ℕ} {Y = List ℕ} (value, bytes) ≡ Err rest → ⊥
    differ bytes rest e = cc

-- the same grammar in other words
pub Scans-same : {A : Type 0} (old new : A → List ℕ → Type 0) (read : List ℕ → Reads A) → ((a : A) (w : List ℕ) → old a w → new a w) → ((a : A) (w : List ℕ) → new a w → old a w) → Scans old read → Scans new read
Scans-same {A} old new read to from reads = record {
  found = λ bytes a rest is. let f = reads.found bytes a rest is in record { text = f.text; spelled = to a f.text f.spelled; split = f.split; last = turned f.text rest f.last };
  all = λ a w rest spelled ends. reads.all a w rest (from a w spelled) (λ b more e (c, v, m, s, is). ends b more e (c, v, m, to c v s, is));
  stops = λ bytes rest is. let s = reads.stops bytes rest is in let (a, w, m, sp, w_is) = s.begins in record { front = s.front; split = s.split; begins = (a, w, m, to a w sp, w_is); last = turned s.front rest s.last };
}
  where
    turned : (w rest : List ℕ) → Ends old w rest → Ends new w rest
    turned w rest ends b more e (c, v, m, s, is) = ends b more e (c, v, m, from c v s, is)

-- ---- all of the bytes

pub begins_front : {A : Type 0} (spells : A → List ℕ → Type 0) (front more : List ℕ) → Begins spells (front ++ more) → Begins spells front
begins_front spells front more (a, w, m, s, is) = (a, w, more ++ m, s, is ∙ append_assoc front more m)

-- where reading stops is where the longest front ends
pub longest_at : {A : Type 0} (spells : A → List ℕ → Type 0) (bytes front rest : List ℕ) (n : ℕ) → bytes ≡ front ++ rest → Ends spells front rest → n ≡ length front → (m : ℕ) → n < m → m ≤ length bytes → Begins spells (take m bytes) → ⊥
longest_at spells bytes front rest n split last long m more fits begun = further rest refl
  where
    further : (end : List ℕ) → rest ≡ end → ⊥
    further [] e = let total = ap length split in let sum = length-append front rest in let none = ap length e in omega (arith, total, sum, none, long, more, fits)
    further (b ∷ end) e =
        let whole_is : bytes ≡ (front ++ (b ∷ [])) ++ end = split ∙ ap (λ (l : List ℕ). front ++ l) e ∙ sym (append_assoc front (b ∷ []) end) in
        let one_more : length (front ++ (b ∷ [])) ≡ n + 1 = omega (arith, long, length-append front (b ∷ [])) in
        let head : take (n + 1) bytes ≡ front ++ (b ∷ []) = ap (λ (l : List ℕ). take (n + 1) l) whole_is ∙ take_at (front ++ (b ∷ [])) end (n + 1) one_more in
        let parts : take m bytes ≡ (front ++ (b ∷ [])) ++ drop (n + 1) (take m bytes) = sym (take-append-drop (n + 1) (take m bytes)) ∙ ap (λ (l : List ℕ). l ++ drop (n + 1) (take m bytes)) (take-take (n + 1) m bytes (omega (arith, more)) ∙ head) in
        last b end e (begins_front spells (front ++ (b ∷ [])) (drop (n + 1) (take m bytes)) (subst (Begins spells) parts begun))

-- what the reading of all the bytes says
abbrev pub Says : {V : Type 0} → (V → List ℕ) → (V → Type 0) → List ℕ → Result V ℕ → Type 0
Says spelling Fits bytes (Ok v) = IsText spelling Fits v bytes
Says spelling Fits bytes (Err n) = IsFaultAt spelling Fits bytes n

module _ {V : Type 0} (spelling : V → List ℕ) (Fits : V → Type 0) (read : List ℕ → Reads V) (reads : Scans (IsText spelling Fits) read) where
  abbrev T : V → List ℕ → Type 0
  T = IsText spelling Fits

  -- a text is read to its end
  pub read_all : (v : V) (bytes : List ℕ) → T v bytes → read bytes ≡ Ok (v, [])
  read_all v bytes s = ap read (sym (append-nil bytes)) ∙ reads.all v bytes [] s (λ b more e begun. absurd (apart b more e))
    where
      apart : (b : ℕ) (more : List ℕ) → [] ≡ b ∷ more → ⊥
      apart b more e = cc

  pub fault : (bytes front rest : List ℕ) → bytes ≡ front ++ rest → Begins T front → Ends T front rest → (Spells spelling Fits bytes → ⊥) → IsFaultAt spelling Fits bytes (length bytes - length rest)
  fault bytes front rest split (v, w, m, s, w_is) last none =
      let total = ap length split in
      let sum = length-append front rest in
      let long : length bytes - length rest ≡ length front = omega (arith, total, sum) in
      let head : take (length bytes - length rest) bytes ≡ front = ap (λ (l : List ℕ). take (length bytes - length rest) l) split ∙ take_at front rest (length bytes - length rest) (sym long) in
      record {
        none = none;
        within = omega arith;
        begins = (v, m, s.0, sym s.1 ∙ w_is ∙ ap (λ (l : List ℕ). l ++ m) (sym head));
        longest = λ k more fits (v', m', fits', is). longest_at T bytes front rest (length bytes - length rest) split last long k more fits (v', spelling v', m', (fits', refl), is);
      }

  pub whole_says : (bytes : List ℕ) → Says spelling Fits bytes (whole read bytes)
  whole_says bytes = by (read bytes) refl
    where
      by : (r : Reads V) → read bytes ≡ r → Says spelling Fits bytes (with_offset bytes (r >>= ended))
      by (Err rest) e = let s = reads.stops bytes rest e in fault bytes s.front rest s.split s.begins s.last (λ (v, t). let is = sym e ∙ read_all v bytes t in cc is)
      by (Ok (v, [])) e = let f = reads.found bytes v [] e in let is : bytes ≡ f.text = f.split ∙ append-nil f.text in (f.spelled.0, is ∙ f.spelled.1)
      by (Ok (v, c ∷ cs)) e =
          let f = reads.found bytes v (c ∷ cs) e in
          fault bytes f.text (c ∷ cs) f.split (v, f.text, [], f.spelled, sym (append-nil f.text)) f.last (λ (v', t). let pairs = ok_same (sym e ∙ read_all v' bytes t) in let ends : c ∷ cs ≡ [] = ap (λ p. p.1) pairs in cc ends)

pub ends_nil : {A : Type 0} (spells : A → List ℕ → Type 0) (v u : List ℕ) → u ≡ [] → Ends spells v u
ends_nil spells v u none b more e begun = cc

pub not_equal : (c d : ℕ) → (c == d) ≡ false → c ≡ d → ⊥
not_equal c d f e = let t = eq-eqb c d e in cc (t, f)

pub head_same : {x y : ℕ} {xs ys : List ℕ} → x ∷ xs ≡ y ∷ ys → x ≡ y
head_same q = cc

-- ---- at most so many items, each behind a mark

module _ {A : Type 0} (spells : A → List ℕ → Type 0) (one : List ℕ → Reads A) (mark : ℕ) (reads : Scans spells one) (some_item : (a : A) × (w : List ℕ) × spells a w)
    (away : (a : A) (v u : List ℕ) → spells a v → (u ≡ []) ⊎ ((t : List ℕ) × (u ≡ mark ∷ t)) → Ends spells v u) where
  abbrev pub Many : ℕ → List A → List ℕ → Type 0
  Many zero ps w = (ps ≡ []) × (w ≡ [])
  Many (suc n) ps w = ((ps ≡ []) × (w ≡ [])) ⊎ ((p : A) × (qs : List A) × (v : List ℕ) × (u : List ℕ) × spells p v × Many n qs u × (ps ≡ p ∷ qs) × (w ≡ mark ∷ (v ++ u)))

  -- an item and then further ones
  abbrev pub Inner : ℕ → List A → List ℕ → Type 0
  Inner n = Then spells (λ p. Then (Many n) (λ qs. Only (p ∷ qs)))

  abbrev inner_at : ℕ → List ℕ → Reads (List A)
  inner_at n = chain one (λ p. chain (more_at n mark one) (λ qs b. Ok (p ∷ qs, b)))

  -- such texts begin with the mark, or are empty
  pub many_head : (n : ℕ) (ps : List A) (w : List ℕ) → Many n ps w → (w ≡ []) ⊎ ((t : List ℕ) × (w ≡ mark ∷ t))
  many_head zero ps w (a, b) = inl b
  many_head (suc n) ps w (inl (a, b)) = inl b
  many_head (suc n) ps w (inr (p, qs, v, u, place, rest, a, b)) = inr (v ++ u, b)

  pub many_none : (n : ℕ) → Many n [] []
  many_none zero = (refl, refl)
  many_none (suc n) = inl (refl, refl)

  then_head : (n : ℕ) (p : A) (c : List A) (u : List ℕ) → Then (Many n) (λ qs. Only (p ∷ qs)) c u → (u ≡ []) ⊎ ((t : List ℕ) × (u ≡ mark ∷ t))
  then_head n p c u (qs, x, y, many, (c_is, none), u_is) =
      let u_x : u ≡ x = u_is ∙ ap (λ (l : List ℕ). x ++ l) none ∙ append-nil x in
      ⊎_elim (λ e. inl (u_x ∙ e)) (λ (t, e). inr (t, u_x ∙ e)) (many_head n qs x many)

  Scans-inner : (n : ℕ) → Scans (Many n) (more_at n mark one) → Scans (Inner n) (inner_at n)
  Scans-inner n behind = Scans-then spells (λ p. Then (Many n) (λ qs. Only (p ∷ qs))) one (λ p. chain (more_at n mark one) (λ qs b. Ok (p ∷ qs, b))) reads
      (λ p w is. Scans-then (Many n) (λ qs. Only (p ∷ qs)) (more_at n mark one) (λ qs b. Ok (p ∷ qs, b)) behind (λ qs v many. Scans-only (p ∷ qs)) (λ qs v many. (p ∷ qs, [], (refl, refl))) (λ qs v many c u (same, none). ends_nil (Many n) v u none))
      (λ p w is. (p ∷ [], [], ([], [], [], many_none n, (refl, refl), refl)))
      (λ p v is c u s. away p v u is (then_head n p c u s))

  -- a mark and then such a text
  inner_many : (n : ℕ) (c : List A) (w : List ℕ) → Inner n c w → Many (suc n) c (mark ∷ w)
  inner_many n c w (p, v, u, place, (qs, x, y, many, (c_is, none), u_is), w_is) =
      let u_x : u ≡ x = u_is ∙ ap (λ (l : List ℕ). x ++ l) none ∙ append-nil x in
      inr (p, qs, v, x, place, many, c_is, ap (λ (l : List ℕ). mark ∷ l) (w_is ∙ ap (λ (l : List ℕ). v ++ l) u_x))

  tail_of : {x y : ℕ} {xs ys : List ℕ} → x ∷ xs ≡ y ∷ ys → xs ≡ ys
  tail_of q = cc

  many_inner : (n : ℕ) (c : List A) (w t : List ℕ) → Many (suc n) c w → w ≡ mark ∷ t → Inner n c t
  many_inner n c w t (inl (a, b)) e = cc
  many_inner n c w t (inr (p, qs, v, u, place, many, c_is, w_is)) e = (p, v, u, place, (qs, u, [], many, (c_is, refl), sym (append-nil u)), tail_of (sym e ∙ w_is))

  turn_inner : (n : ℕ) (w rest : List ℕ) → Ends (Inner n) w rest → Ends (Many (suc n)) (mark ∷ w) rest
  turn_inner n w rest ends b more e (c, x, m, many, split) = ends b more e (c, (w ++ (b ∷ [])) ++ m, m, many_inner n c x ((w ++ (b ∷ [])) ++ m) many split, refl)

  abbrev more_by : ℕ → ℕ → List ℕ → Bool → Reads (List A)
  more_by n c cs b = if b then inner_at n cs else Ok ([], c ∷ cs)

  many_other : (n c : ℕ) (cs : List ℕ) → (c == mark) ≡ false → Ends (Many (suc n)) [] (c ∷ cs)
  many_other n c cs f b more e (x, w, m, inl (a, none), split) = cc
  many_other n c cs f b more e (x, w, m, inr (p, qs, v, u, place, many, x_is, w_is), split) =
      let b_is : mark ≡ b = head_same (sym w_is ∙ split) in
      not_equal c mark f (head_same e ∙ sym b_is)

  pub Scans-many : (n : ℕ) → Scans (Many n) (more_at n mark one)
  Scans-many zero = Scans-only []
  Scans-many (suc n) = more (Scans-inner n (Scans-many n))
    where
      more : Scans (Inner n) (inner_at n) → Scans (Many (suc n)) (more_at (suc n) mark one)
      more inner = record { found = found; all = all; stops = stops }
        where
          found : (bytes : List ℕ) (c : List A) (rest : List ℕ) → more_at (suc n) mark one bytes ≡ Ok (c, rest) → Found (Many (suc n)) bytes c rest
          found [] c rest is =
              let pairs = ok_same is in
              let c_is : [] ≡ c = ap (λ p. p.0) pairs in
              let tail : [] ≡ rest = ap (λ p. p.1) pairs in
              record { text = []; spelled = inl (sym c_is, refl); split = tail; last = ends_nil (Many (suc n)) [] rest (sym tail) }
          found (d ∷ ds) c rest is = by (d == mark) refl is
            where
              by : (b : Bool) → (d == mark) ≡ b → more_by n d ds b ≡ Ok (c, rest) → Found (Many (suc n)) (d ∷ ds) c rest
              by true t e =
                  let f = inner.found ds c rest e in
                  record { text = mark ∷ f.text; spelled = inner_many n c f.text f.spelled; split = ap (λ (x : ℕ). x ∷ ds) (eqb-true d mark t) ∙ ap (λ (l : List ℕ). mark ∷ l) f.split; last = turn_inner n f.text rest f.last }
              by false t e =
                  let pairs = ok_same e in
                  let c_is : [] ≡ c = ap (λ p. p.0) pairs in
                  let tail : d ∷ ds ≡ rest = ap (λ p. p.1) pairs in
                  record { text = []; spelled = inl (sym c_is, refl); split = tail; last = subst (Ends (Many (suc n)) []) tail (many_other n d ds t) }

          all : (c : List A) (w rest : List ℕ) → Many (suc n) c w → Ends (Many (suc n)) w rest → more_at (suc n) mark one (w ++ rest) ≡ Ok (c, rest)
          all c w rest (inl (c_is, none)) ends = ap (λ (l : List ℕ). more_at (suc n) mark one (l ++ rest)) none ∙ nothing rest refl ∙ ap (λ (x : List A). ok_of (x, rest)) (sym c_is)
            where
              nothing : (r : List ℕ) → rest ≡ r → more_at (suc n) mark one r ≡ ok_of ([], r)
              nothing [] e = refl
              nothing (d ∷ ds) e = ap (λ (b : Bool). more_by n d ds b) (ne_eqb d mark (λ colon. ends d ds e (some_item.0 ∷ [], mark ∷ (some_item.1 ++ []), some_item.1 ++ [], inr (some_item.0, [], some_item.1, [], some_item.2, many_none n, refl, refl), ap (λ (l : List ℕ). (l ++ (mark ∷ [])) ++ (some_item.1 ++ [])) (sym none) ∙ ap (λ (x : ℕ). (w ++ (x ∷ [])) ++ (some_item.1 ++ [])) (sym colon))))
          all c w rest (inr (p, qs, v, u, place, many, c_is, w_is)) ends =
              let inner_text = many_inner n c w (v ++ u) (inr (p, qs, v, u, place, many, c_is, w_is)) w_is in
              ap (λ (l : List ℕ). more_at (suc n) mark one (l ++ rest)) w_is
              ∙ ap (λ (b : Bool). more_by n mark ((v ++ u) ++ rest) b) (eq-eqb mark mark refl) ∙ inner.all c (v ++ u) rest inner_text (λ b m e (x, y, z, s, split). ends b m e (x, mark ∷ y, z, inner_many n x y s, ap (λ (l : List ℕ). mark ∷ l) split ∙ ap (λ (l : List ℕ). (l ++ (b ∷ [])) ++ z) (sym w_is)))

          stops : (bytes rest : List ℕ) → more_at (suc n) mark one bytes ≡ Err rest → Stops (Many (suc n)) bytes rest
          stops [] rest is = cc
          stops (d ∷ ds) rest is = by (d == mark) refl is
            where
              by : (b : Bool) → (d == mark) ≡ b → more_by n d ds b ≡ Err rest → Stops (Many (suc n)) (d ∷ ds) rest
              by true t e =
                  let s = inner.stops ds rest e in
                  let (c, w, m, sp, w_is) = s.begins in
                  record { front = mark ∷ s.front; split = ap (λ (x : ℕ). x ∷ ds) (eqb-true d mark t) ∙ ap (λ (l : List ℕ). mark ∷ l) s.split; begins = (c, mark ∷ w, m, inner_many n c w sp, ap (λ (l : List ℕ). mark ∷ l) w_is); last = turn_inner n s.front rest s.last }
              by false t e = cc
