-- Readers with the byte that ends what they read: behind it no text goes on, so each is exact.
use Rattle.std.proofs.Common.{◌≡◌, refl, ◌⊎◌, inl, inr, ⊎_elim, ℕ, ◌<◌, ◌≤◌, ◌^◌, Bool, true, false, if◌then◌else◌, List, [], ◌∷◌, ◌++◌, decimal, Ok, Err, sym, ◌∙◌, ap, subst, arith, append_assoc}
use Rattle.std.proofs.lemmas.List.{append-nil}
use Rattle.gd_grammar.specs.Grammar.{Reads, text_at, number_at}
use Rattle.gd_grammar.proofs.Scans.{Begins, Ends, Stops, Scans, Then, chain, Scans-then, head_same}
use Rattle.gd_grammar.proofs.Exact.{Exact, Exact-same, Exact-mapped, Some_text, Sound, Mapped, mapped, exact_scans}
use Rattle.gd_grammar.proofs.Numbers.{Word, Scans-word, word_ends, Number, Scans-number, number_ends, true_false}
use Rattle.gd_dump_laws.specs.Reading.{choice, number_to}

-- of two lists that begin one list, one begins the other
pub fronts : (a b c d : List ℕ) → a ++ b ≡ c ++ d → ((t : List ℕ) × (a ≡ c ++ t)) ⊎ ((t : List ℕ) × (c ≡ a ++ t) × (b ≡ t ++ d))
fronts [] b c d is = inr (c, refl, is)
fronts (x ∷ a) b [] d is = inl (x ∷ a, refl)
fronts (x ∷ a) b (y ∷ c) d is =
    let heads : x ≡ y = cc in
    let tails : a ++ b ≡ c ++ d = cc in
    ⊎_elim (λ (t, e). inl (t, cc (heads, e))) (λ (t, e, f). inr (t, cc (heads, e), f)) (fronts a b c d tails)

-- a reader that takes the longest text is exact where no text goes on behind another
pub scans_exact : {A : Type 0} (spells : A → List ℕ → Type 0) (read : List ℕ → Reads A) → Scans spells read → ((a : A) (w : List ℕ) (b : ℕ) → spells a w → Begins spells (w ++ (b ∷ [])) → ⊥) → Exact spells read
scans_exact spells read reads apart = record {
  found = λ bytes a rest is. let f = reads.found bytes a rest is in (f.text, f.spelled, f.split);
  all = λ a w rest s. reads.all a w rest s (λ b more e begun. apart a w b s begun);
  stops = reads.stops;
}

-- ---- these very bytes

pub Exact-word : (cs : List ℕ) → Exact (Word cs) (text_at cs)
Exact-word cs = scans_exact (Word cs) (text_at cs) (Scans-word cs) (λ a w b s begun. word_ends cs w (b ∷ []) s b [] refl begun)

pub Sound-word : (cs : List ℕ) → Sound (Word cs) (text_at cs)
Sound-word cs = record { exact = Exact-word cs; some = (tt, cs, refl) }

-- ---- one of two, by the next byte

-- the texts of the one and of the other
abbrev pub Either : {A : Type 0} → (A → List ℕ → Type 0) → (A → List ℕ → Type 0) → A → List ℕ → Type 0
Either one two a w = one a w ⊎ two a w

-- each text begins with a byte for which the test says so
abbrev pub Heads : {A : Type 0} → (ℕ → Bool) → Bool → (A → List ℕ → Type 0) → Type 0
Heads {A} test says spells = (a : A) (w : List ℕ) → spells a w → (c : ℕ) × (t : List ℕ) × (w ≡ c ∷ t) × (test c ≡ says)

module _ {A : Type 0} (test : ℕ → Bool) (first second : A → List ℕ → Type 0) (one two : List ℕ → Reads A) (reads_one : Exact first one) (reads_two : Exact second two)
    (heads_one : Heads test true first) (heads_two : Heads test false second) where
  abbrev by : Bool → List ℕ → Reads A
  by b bytes = if b then one bytes else two bytes

  choice_found : (bytes : List ℕ) (a : A) (rest : List ℕ) → choice test one two bytes ≡ Ok (a, rest) → (w : List ℕ) × Either first second a w × (bytes ≡ w ++ rest)
  choice_found [] a rest is = cc
  choice_found (c ∷ cs) a rest is = at (test c) is
    where
      at : (b : Bool) → by b (c ∷ cs) ≡ Ok (a, rest) → (w : List ℕ) × Either first second a w × (c ∷ cs ≡ w ++ rest)
      at true e = let f = reads_one.found (c ∷ cs) a rest e in (f.0, inl f.1, f.2)
      at false e = let f = reads_two.found (c ∷ cs) a rest e in (f.0, inr f.1, f.2)

  at_head : (bytes : List ℕ) (c : ℕ) (t rest : List ℕ) (b : Bool) → bytes ≡ c ∷ t → test c ≡ b → choice test one two (bytes ++ rest) ≡ by b (bytes ++ rest)
  at_head bytes c t rest b is says = ap (λ (l : List ℕ). choice test one two (l ++ rest)) is ∙ ap (λ (x : Bool). by x ((c ∷ t) ++ rest)) says ∙ ap (λ (l : List ℕ). by b (l ++ rest)) (sym is)

  choice_all : (a : A) (w rest : List ℕ) → Either first second a w → choice test one two (w ++ rest) ≡ Ok (a, rest)
  choice_all a w rest (inl s) = let (c, t, is, says) = heads_one a w s in at_head w c t rest true is says ∙ reads_one.all a w rest s
  choice_all a w rest (inr s) = let (c, t, is, says) = heads_two a w s in at_head w c t rest false is says ∙ reads_two.all a w rest s

  -- a text that begins with what was read begins with its first byte
  same_head : (c : ℕ) (cs front rest : List ℕ) (b : ℕ) (more m w : List ℕ) → c ∷ cs ≡ front ++ rest → rest ≡ b ∷ more → w ≡ (front ++ (b ∷ [])) ++ m → (t : List ℕ) × (w ≡ c ∷ t)
  same_head c cs [] rest b more m w split e is = (m, is ∙ ap (λ (x : ℕ). x ∷ m) (sym (head_same (split ∙ e))))
  same_head c cs (f ∷ front) rest b more m w split e is = ((front ++ (b ∷ [])) ++ m, is ∙ ap (λ (x : ℕ). x ∷ ((front ++ (b ∷ [])) ++ m)) (sym (head_same split)))

  other_head : (c d : ℕ) (t u w : List ℕ) (b : Bool) → w ≡ c ∷ t → w ≡ d ∷ u → test c ≡ b → test d ≡ b
  other_head c d t u w b p q is = subst (λ (x : ℕ). test x ≡ b) (head_same (sym p ∙ q)) is

  choice_stops : Some_text (Either first second) → (bytes rest : List ℕ) → choice test one two bytes ≡ Err rest → Stops (Either first second) bytes rest
  choice_stops (a, w, s) [] rest is = record { front = []; split = cc; begins = (a, w, w, s, refl); last = λ b more e begun. cc (is, e) }
  choice_stops some (c ∷ cs) rest is = at (test c) refl is
    where
      at : (b : Bool) → test c ≡ b → by b (c ∷ cs) ≡ Err rest → Stops (Either first second) (c ∷ cs) rest
      at true says e =
          let s = reads_one.stops (c ∷ cs) rest e in
          let (a, w, m, t, w_is) = s.begins in
          record {
            front = s.front;
            split = s.split;
            begins = (a, w, m, inl t, w_is);
            last = λ b more rest_is (x, v, n, either, v_is).
                ⊎_elim
                (λ one_text. s.last b more rest_is (x, v, n, one_text, v_is))
                (λ two_text.
                let (u, head) = same_head c cs s.front rest b more n v s.split rest_is v_is in
                let (d, y, v_head, fails) = heads_two x v two_text in
                true_false says (other_head d c y u v false v_head head fails))
                either;
          }
      at false says e =
          let s = reads_two.stops (c ∷ cs) rest e in
          let (a, w, m, t, w_is) = s.begins in
          record {
            front = s.front;
            split = s.split;
            begins = (a, w, m, inr t, w_is);
            last = λ b more rest_is (x, v, n, either, v_is).
                ⊎_elim
                (λ one_text.
                let (u, head) = same_head c cs s.front rest b more n v s.split rest_is v_is in
                let (d, y, v_head, passes) = heads_one x v one_text in
                true_false (other_head d c y u v true v_head head passes) says)
                (λ two_text. s.last b more rest_is (x, v, n, two_text, v_is))
                either;
          }

  pub Exact-choice : Some_text (Either first second) → Exact (Either first second) (choice test one two)
  Exact-choice some = record { found = choice_found; all = choice_all; stops = choice_stops some }

-- ---- a number and a mark

-- a number up to a bound, and a mark behind it
abbrev pub Marked : ℕ → ℕ → ℕ → List ℕ → Type 0
Marked bound mark n w = (n ≤ bound) × (w ≡ decimal n ++ mark ∷ [])

-- the mark is no digit
abbrev pub NoDigit : ℕ → Type 0
NoDigit mark = (48 ≤ mark) × (mark ≤ 57) → ⊥

module _ (bound mark : ℕ) (small : bound < 2 ^ 64) (apart : NoDigit mark) where
  abbrev Behind : ℕ → ℕ → List ℕ → Type 0
  Behind n = Mapped (λ u. n) (Word (mark ∷ []))

  abbrev behind_at : ℕ → List ℕ → Reads ℕ
  behind_at n = mapped (λ u. n) (text_at (mark ∷ []))

  scans_parts : Scans (Then (Number bound) Behind) (chain (number_at bound) behind_at)
  scans_parts = Scans-then (Number bound) Behind (number_at bound) behind_at (Scans-number bound small)
      (λ n w s. exact_scans (Behind n) (behind_at n) (Exact-mapped (λ u. n) (Word (mark ∷ [])) (text_at (mark ∷ [])) (Exact-word (mark ∷ []))))
      (λ n w s. (n, mark ∷ [], (tt, refl, refl)))
      (λ n v s c u (x, c_is, u_is). subst (Ends (Number bound) v) (sym u_is) (number_ends bound n mark v [] small s apart))

  no_further : (n n2 b : ℕ) (m : List ℕ) → n ≤ bound → n2 ≤ bound → decimal n2 ++ mark ∷ [] ≡ (decimal n ++ mark ∷ []) ++ (b ∷ m) → ⊥
  no_further n n2 b m within within2 is = ⊎_elim
      (λ (t, e). ends mark (b ∷ m) refl (n2, decimal n2, t, (within2, refl), e))
      (λ (t, e, f). last t e f)
      (fronts (decimal n2) (mark ∷ []) (decimal n ++ mark ∷ []) (b ∷ m) is)
    where
      ends : Ends (Number bound) (decimal n) (mark ∷ b ∷ m)
      ends = number_ends bound n mark (decimal n) (b ∷ m) small (within, refl) apart

      last : (t : List ℕ) → decimal n ++ mark ∷ [] ≡ decimal n2 ++ t → mark ∷ [] ≡ t ++ (b ∷ m) → ⊥
      last [] e f = ends mark (b ∷ m) refl (n2, decimal n2, [], (within2, refl), sym (append-nil (decimal n2)) ∙ sym e ∙ sym (append-nil (decimal n ++ mark ∷ [])))
      last (x ∷ []) e f = cc
      last (x ∷ y ∷ t) e f = cc

  numbered : (n : ℕ) (w : List ℕ) → Then (Number bound) Behind n w → Marked bound mark n w
  numbered n w (k, v, u, (within, v_is), (x, n_is, u_is), w_is) =
      subst (λ (j : ℕ). Marked bound mark j w) (sym n_is) (within, w_is ∙ ap (λ (l : List ℕ). l ++ u) v_is ∙ ap (λ (l : List ℕ). decimal k ++ l) u_is)

  parted : (n : ℕ) (w : List ℕ) → Marked bound mark n w → Then (Number bound) Behind n w
  parted n w (within, w_is) = (n, decimal n, mark ∷ [], (within, refl), (tt, refl, refl), w_is)

  pub Exact-marked : Exact (Marked bound mark) (number_to bound mark)
  unfolding number_to
  Exact-marked = Exact-same (Then (Number bound) Behind) (Marked bound mark) (chain (number_at bound) behind_at) numbered parted
      (scans_exact (Then (Number bound) Behind) (chain (number_at bound) behind_at) scans_parts
      (λ n w b s (n2, w2, m, s2, is).
      let (within, w_is) = numbered n w s in
      let (within2, w2_is) = numbered n2 w2 s2 in
      no_further n n2 b m within within2 (sym w2_is ∙ is ∙ append_assoc w (b ∷ []) m ∙ ap (λ (l : List ℕ). l ++ (b ∷ m)) w_is)))

  pub marked_some : Some_text (Marked bound mark)
  marked_some = (0, decimal 0 ++ mark ∷ [], (omega arith, refl))

  pub Sound-marked : Sound (Marked bound mark) (number_to bound mark)
  Sound-marked = record { exact = Exact-marked; some = marked_some }
