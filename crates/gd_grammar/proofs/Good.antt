-- Readers that take the longest text, and take all of a text before each byte of a kind: what is made of them is such a reader.
use Rattle.std.proofs.Common.{◌≡◌, refl, ◌^◌, decimal, ◌⊎◌, inl, inr, ⊎_elim, ℕ, zero, suc, ◌<◌, ◌≤◌, Bool, true, false, if◌then◌else◌, List, [], ◌∷◌, ◌++◌, length, flat_map, Ok, Err, sym, ◌∙◌, ap, subst, arith, append_assoc, ne_eqb, eq-eqb}
use Rattle.std.specs.List.{AllByRecursion}
use Rattle.std.proofs.lemmas.List.{append-nil}
use Rattle.gd_grammar.specs.Chain.{◌>>=◌}
use Rattle.gd_grammar.specs.Grammar.{Reads, IsText, text_at, number_at, more_at}
use Rattle.gd_grammar.proofs.Scans.{Begins, Ends, Stops, Found, Scans, Then, chain, Only, ok_of, ok_same, ends_nil, head_same, Scans-then, Scans-only, Scans-same}
use Rattle.gd_grammar.proofs.Numbers.{Word, Number, word_ends, number_ends, Scans-word, Scans-number}
use Rattle.gd_grammar.proofs.Exact.{Exact, Some_text, Mapped, exact_scans}
use Rattle.gd_grammar.proofs.Steady.{same_front}
use Rattle.gd_grammar.specs.Choice.{either_at, seen_at, word_at, behind_at}

pub record Good {A : Type 0} (P : ℕ → Type 0) (spells : A → List ℕ → Type 0) (read : List ℕ → Reads A) : Type 0 where
  pub scans : Scans spells read
  pub some : Some_text spells
  pub before : (a : A) (v : List ℕ) (b : ℕ) (t : List ℕ) → spells a v → P b → Ends spells v (b ∷ t)

-- every byte
abbrev pub Any : ℕ → Type 0
Any b = Unit {0}

-- the bytes begin with one of a kind
abbrev pub Head : (ℕ → Type 0) → List ℕ → Type 0
Head Q u = (b : ℕ) × (t : List ℕ) × (u ≡ b ∷ t) × Q b

-- what is read to its end ends there
pub ends_of : {A : Type 0} (spells : A → List ℕ → Type 0) (read : List ℕ → Reads A) → Scans spells read → (a : A) (w rest : List ℕ) → read (w ++ rest) ≡ Ok (a, rest) → Ends spells w rest
ends_of spells read reads a w rest is =
    let f = reads.found (w ++ rest) a rest is in
    subst (λ (l : List ℕ). Ends spells l rest) (sym (same_front w f.text rest f.split)) f.last

-- where no text goes on behind another, all of one is taken before each byte
pub Good-exact : {A : Type 0} {P : ℕ → Type 0} (spells : A → List ℕ → Type 0) (read : List ℕ → Reads A) → Exact spells read → Some_text spells → Good P spells read
Good-exact spells read reads some = record { scans = exact_scans spells read reads; some = some; before = λ a v b t s p. ends_of spells read (exact_scans spells read reads) a v (b ∷ t) (reads.all a v (b ∷ t) s) }

-- ---- in other words

pub Good-same : {A : Type 0} {P : ℕ → Type 0} (old new : A → List ℕ → Type 0) (read : List ℕ → Reads A) → ((a : A) (w : List ℕ) → old a w → new a w) → ((a : A) (w : List ℕ) → new a w → old a w) → Good P old read → Good P new read
Good-same old new read to from g = record {
  scans = Scans-same old new read to from g.scans;
  some = let (a, w, s) = g.some in (a, w, to a w s);
  before = λ a v b t s p c more e (a', w', m, s', is). g.before a v b t (from a v s) p c more e (a', w', m, from a' w' s', is);
}

pub Good-less : {A : Type 0} {P Q : ℕ → Type 0} (spells : A → List ℕ → Type 0) (read : List ℕ → Reads A) → ((b : ℕ) → Q b → P b) → Good P spells read → Good Q spells read
Good-less spells read less g = record { scans = g.scans; some = g.some; before = λ a v b t s q. g.before a v b t s (less b q) }

-- ---- one thing and then another

module _ {A C : Type 0} (P Q : ℕ → Type 0) (first : A → List ℕ → Type 0) (second : A → C → List ℕ → Type 0) (one : List ℕ → Reads A) (two : A → List ℕ → Reads C)
    (g : Good Q first one) (next : (a : A) (w : List ℕ) → first a w → Good P (second a) (two a))
    (heads : (a : A) (v : List ℕ) (c : C) (u : List ℕ) → first a v → second a c u → ((u ≡ []) × ((b : ℕ) → P b → Q b)) ⊎ Head Q u) where
  apart : (a : A) (v : List ℕ) → first a v → (c : C) (u : List ℕ) → second a c u → Ends first v u
  apart a v f c u s = ⊎_elim (λ (none, less). ends_nil first v u none) (λ (b, t, is, q). subst (Ends first v) (sym is) (g.before a v b t f q)) (heads a v c u f s)

  scans_then : Scans (Then first second) (chain one two)
  scans_then = Scans-then first second one two g.scans (λ a w s. (next a w s).scans) (λ a w s. (next a w s).some) apart

  read_before : (c : C) (w : List ℕ) (b : ℕ) (t : List ℕ) → Then first second c w → P b → chain one two (w ++ (b ∷ t)) ≡ Ok (c, b ∷ t)
  read_before c w b t (a, v, u, f, s, w_is) p =
      let there : w ++ (b ∷ t) ≡ v ++ (u ++ (b ∷ t)) = ap (λ (l : List ℕ). l ++ (b ∷ t)) w_is ∙ append_assoc v u (b ∷ t) in
      let ends : Ends first v (u ++ (b ∷ t)) = ⊎_elim
      (λ (none, less). subst (λ (l : List ℕ). Ends first v (l ++ (b ∷ t))) (sym none) (g.before a v b t f (less b p)))
      (λ (d, x, is, q). subst (λ (l : List ℕ). Ends first v (l ++ (b ∷ t))) (sym is) (g.before a v d (x ++ (b ∷ t)) f q)) (heads a v c u f s) in
      ap (chain one two) there ∙ ap (λ (r : Reads A). r >>= λ x. two x.0 x.1) (g.scans.all a v (u ++ (b ∷ t)) f ends) ∙ (next a v f).scans.all c u (b ∷ t) s ((next a v f).before c u b t s p)

  pub Good-then : Good P (Then first second) (chain one two)
  Good-then = record {
    scans = scans_then;
    some = let (a, w, f) = g.some in let (c, u, s) = (next a w f).some in (c, w ++ u, (a, w, u, f, s, refl));
    before = λ c w b t s p. ends_of (Then first second) (chain one two) scans_then c w (b ∷ t) (read_before c w b t s p);
  }

-- behind what is taken before every byte anything may stand
pub any_heads : (u : List ℕ) {P : ℕ → Type 0} → ((u ≡ []) × ((b : ℕ) → P b → Any b)) ⊎ Head Any u
any_heads [] = inl (refl, λ b p. tt)
any_heads (b ∷ t) = inr (b, t, refl, tt)

pub Good-and : {A C : Type 0} (P : ℕ → Type 0) (first : A → List ℕ → Type 0) (second : A → C → List ℕ → Type 0) (one : List ℕ → Reads A) (two : A → List ℕ → Reads C) → Good Any first one
    → ((a : A) (w : List ℕ) → first a w → Good P (second a) (two a)) → Good P (Then first second) (chain one two)
Good-and P first second one two g next = Good-then P Any first second one two g next (λ a v c u f s. any_heads u)

pub Good-only : {A : Type 0} {P : ℕ → Type 0} (value : A) → Good P (Only value) (λ bytes. Ok (value, bytes))
Good-only value = record { scans = Scans-only value; some = (value, [], (refl, refl)); before = λ a v b t (same, none) p c more e (a', w', m, (same', none'), is). absurd (apart v c m (sym none' ∙ is)) }
  where
    apart : (v : List ℕ) (c : ℕ) (m : List ℕ) → [] ≡ (v ++ (c ∷ [])) ++ m → ⊥
    apart [] c m e = cc
    apart (x ∷ v) c m e = cc

-- ---- a value seen through a function

pub Good-seen : {A B : Type 0} (P : ℕ → Type 0) (f : A → B) (spells : A → List ℕ → Type 0) (read : List ℕ → Reads A) → Good P spells read → Good P (Mapped f spells) (seen_at f read)
Good-seen {A} {B} P f spells read g =
    Good-same (Then spells (λ a. Only (f a))) (Mapped f spells) (seen_at f read)
    (λ b w (a, v, u, s, (b_is, none), w_is). (a, b_is, subst (spells a) (sym (w_is ∙ ap (λ (l : List ℕ). v ++ l) none ∙ append-nil v)) s))
    (λ b w (a, b_is, s). (a, w, [], s, (b_is, refl), sym (append-nil w)))
    (Good-then P P spells (λ a. Only (f a)) read (λ a bytes. Ok (f a, bytes)) g (λ a w s. Good-only (f a)) (λ a v c u s (same, none). inl (none, λ b p. p)))

-- ---- words

pub Good-text : {P : ℕ → Type 0} (word : List ℕ) → Good P (Word word) (text_at word)
Good-text word = record { scans = Scans-word word; some = (tt, word, refl); before = λ a v b t is p. word_ends word v (b ∷ t) is }

-- the word, which stands for a value
abbrev pub Means : {A : Type 0} → List ℕ → A → A → List ℕ → Type 0
Means word value a w = (a ≡ value) × (w ≡ word)

pub Good-word : {A : Type 0} (P : ℕ → Type 0) (word : List ℕ) (value : A) → Good P (Means word value) (word_at word value)
Good-word {A} P word value = Good-same (Mapped (λ (u : Unit {0}). value) (Word word)) (Means word value) (word_at word value) (λ a w (u, a_is, w_is). (a_is, w_is)) (λ a w (a_is, w_is). (tt, a_is, w_is)) (Good-seen P (λ (u : Unit {0}). value) (Word word) (text_at word) (Good-text word))

-- the word, and behind it the text of a value that becomes this one
abbrev pub Behind : {A B : Type 0} → List ℕ → (A → B) → (A → List ℕ → Type 0) → B → List ℕ → Type 0
Behind {A} word f spells b w = (a : A) × (v : List ℕ) × (b ≡ f a) × spells a v × (w ≡ word ++ v)

pub Good-behind : {A B : Type 0} (P : ℕ → Type 0) (word : List ℕ) (f : A → B) (spells : A → List ℕ → Type 0) (read : List ℕ → Reads A) → Good P spells read → Good P (Behind word f spells) (behind_at word f read)
Good-behind {A} {B} P word f spells read g =
    Good-same (Then (Word word) (λ u. Mapped f spells)) (Behind word f spells) (behind_at word f read)
    (λ b w (u, x, v, x_is, (a, b_is, s), w_is). (a, v, b_is, s, w_is ∙ ap (λ (l : List ℕ). l ++ v) x_is))
    (λ b w (a, v, b_is, s, w_is). (tt, word, v, refl, (a, b_is, s), w_is))
    (Good-and P (Word word) (λ u. Mapped f spells) (text_at word) (λ u. seen_at f read) (Good-text word) (λ u w is. Good-seen P f spells read g))

-- ---- one or another, by the next byte

module _ {A : Type 0} (P : ℕ → Type 0) (test : ℕ → Bool) (first second : A → List ℕ → Type 0) (one two : List ℕ → Reads A)
    (g : Good P first one) (h : Good P second two)
    (passing : (a : A) (w : List ℕ) → first a w → Head (λ c. test c ≡ true) w) (failing : (a : A) (w : List ℕ) → second a w → Head (λ c. test c ≡ false) w) where
  abbrev pub Either : A → List ℕ → Type 0
  Either a w = first a w ⊎ second a w

  both : (c : ℕ) → test c ≡ true → test c ≡ false → ⊥
  both c t f = cc

  head_of : (c : ℕ) (cs front rest : List ℕ) (b : ℕ) (more : List ℕ) → c ∷ cs ≡ front ++ rest → rest ≡ b ∷ more → (t : List ℕ) × (front ++ (b ∷ []) ≡ c ∷ t)
  head_of c cs [] rest b more split e = let same : c ≡ b = head_same (split ∙ e) in ([], ap (λ (x : ℕ). x ∷ []) (sym same))
  head_of c cs (x ∷ front) rest b more split e = let same : c ≡ x = head_same split in (front ++ (b ∷ []), ap (λ (y : ℕ). y ∷ (front ++ (b ∷ []))) (sym same))

  -- what begins with such a byte is no text of the other
  no_second : (c : ℕ) (t m : List ℕ) (a : A) (w : List ℕ) → test c ≡ true → second a w → w ≡ (c ∷ t) ++ m → ⊥
  no_second c t m a w passes s is = let (d, x, d_is, fails) = failing a w s in let same : d ≡ c = head_same (sym d_is ∙ is) in both c passes (subst (λ (y : ℕ). test y ≡ false) same fails)

  no_first : (c : ℕ) (t m : List ℕ) (a : A) (w : List ℕ) → test c ≡ false → first a w → w ≡ (c ∷ t) ++ m → ⊥
  no_first c t m a w fails s is = let (d, x, d_is, passes) = passing a w s in let same : d ≡ c = head_same (sym d_is ∙ is) in both c (subst (λ (y : ℕ). test y ≡ true) same passes) fails

  ends_first : (c : ℕ) (cs front rest : List ℕ) → test c ≡ true → c ∷ cs ≡ front ++ rest → Ends first front rest → Ends Either front rest
  ends_first c cs front rest passes split ends b more e (a, w, m, inl s, is) = ends b more e (a, w, m, s, is)
  ends_first c cs front rest passes split ends b more e (a, w, m, inr s, is) =
      let (t, head) = head_of c cs front rest b more split e in
      no_second c t m a w passes s (is ∙ ap (λ (l : List ℕ). l ++ m) head)

  ends_second : (c : ℕ) (cs front rest : List ℕ) → test c ≡ false → c ∷ cs ≡ front ++ rest → Ends second front rest → Ends Either front rest
  ends_second c cs front rest fails split ends b more e (a, w, m, inr s, is) = ends b more e (a, w, m, s, is)
  ends_second c cs front rest fails split ends b more e (a, w, m, inl s, is) =
      let (t, head) = head_of c cs front rest b more split e in
      no_first c t m a w fails s (is ∙ ap (λ (l : List ℕ). l ++ m) head)

  no_rest : (front rest : List ℕ) → [] ≡ front ++ rest → rest ≡ []
  no_rest [] rest e = sym e
  no_rest (x ∷ front) rest e = absurd (cc)

  by_test : ℕ → List ℕ → Bool → Reads A
  by_test c cs t = if t then one (c ∷ cs) else two (c ∷ cs)

  either_found : (bytes : List ℕ) (a : A) (rest : List ℕ) → either_at test one two bytes ≡ Ok (a, rest) → Found Either bytes a rest
  either_found [] a rest is = let f = h.scans.found [] a rest is in record { text = f.text; spelled = inr f.spelled; split = f.split; last = ends_nil Either f.text rest (no_rest f.text rest f.split) }
  either_found (c ∷ cs) a rest is = by (test c) refl is
    where
      by : (t : Bool) → test c ≡ t → (if t then one (c ∷ cs) else two (c ∷ cs)) ≡ Ok (a, rest) → Found Either (c ∷ cs) a rest
      by true e same = let f = g.scans.found (c ∷ cs) a rest same in record { text = f.text; spelled = inl f.spelled; split = f.split; last = ends_first c cs f.text rest e f.split f.last }
      by false e same = let f = h.scans.found (c ∷ cs) a rest same in record { text = f.text; spelled = inr f.spelled; split = f.split; last = ends_second c cs f.text rest e f.split f.last }

  take_first : (w : List ℕ) → Head (λ c. test c ≡ true) w → (rest : List ℕ) → either_at test one two (w ++ rest) ≡ one (w ++ rest)
  take_first w (c, t, is, passes) rest = ap (λ (l : List ℕ). either_at test one two (l ++ rest)) is ∙ ap (λ (x : Bool). if x then one (c ∷ (t ++ rest)) else two (c ∷ (t ++ rest))) passes ∙ ap (λ (l : List ℕ). one (l ++ rest)) (sym is)

  take_second : (w : List ℕ) → Head (λ c. test c ≡ false) w → (rest : List ℕ) → either_at test one two (w ++ rest) ≡ two (w ++ rest)
  take_second w (c, t, is, fails) rest = ap (λ (l : List ℕ). either_at test one two (l ++ rest)) is ∙ ap (λ (x : Bool). if x then one (c ∷ (t ++ rest)) else two (c ∷ (t ++ rest))) fails ∙ ap (λ (l : List ℕ). two (l ++ rest)) (sym is)

  either_all : (a : A) (w rest : List ℕ) → Either a w → Ends Either w rest → either_at test one two (w ++ rest) ≡ Ok (a, rest)
  either_all a w rest (inl s) ends = take_first w (passing a w s) rest ∙ g.scans.all a w rest s (λ b more e (a', w', m, s', is). ends b more e (a', w', m, inl s', is))
  either_all a w rest (inr s) ends = take_second w (failing a w s) rest ∙ h.scans.all a w rest s (λ b more e (a', w', m, s', is). ends b more e (a', w', m, inr s', is))

  either_stops : (bytes rest : List ℕ) → either_at test one two bytes ≡ Err rest → Stops Either bytes rest
  either_stops [] rest is =
      let s = h.scans.stops [] rest is in
      let (a, w, m, t, w_is) = s.begins in
      record { front = s.front; split = s.split; begins = (a, w, m, inr t, w_is); last = ends_nil Either s.front rest (no_rest s.front rest s.split) }
  either_stops (c ∷ cs) rest is = by (test c) refl is
    where
      by : (t : Bool) → test c ≡ t → (if t then one (c ∷ cs) else two (c ∷ cs)) ≡ Err rest → Stops Either (c ∷ cs) rest
      by true e same =
          let s = g.scans.stops (c ∷ cs) rest same in
          let (a, w, m, t, w_is) = s.begins in
          record { front = s.front; split = s.split; begins = (a, w, m, inl t, w_is); last = ends_first c cs s.front rest e s.split s.last }
      by false e same =
          let s = h.scans.stops (c ∷ cs) rest same in
          let (a, w, m, t, w_is) = s.begins in
          record { front = s.front; split = s.split; begins = (a, w, m, inr t, w_is); last = ends_second c cs s.front rest e s.split s.last }

  either_before : (a : A) (v : List ℕ) (b : ℕ) (t : List ℕ) → Either a v → P b → Ends Either v (b ∷ t)
  either_before a v b t (inl s) p =
      let (c, x, is, passes) = passing a v s in
      ends_first c (x ++ (b ∷ t)) v (b ∷ t) passes (ap (λ (l : List ℕ). l ++ (b ∷ t)) (sym is)) (g.before a v b t s p)
  either_before a v b t (inr s) p =
      let (c, x, is, fails) = failing a v s in
      ends_second c (x ++ (b ∷ t)) v (b ∷ t) fails (ap (λ (l : List ℕ). l ++ (b ∷ t)) (sym is)) (h.before a v b t s p)

  pub Good-either : Good P Either (either_at test one two)
  Good-either = record { scans = record { found = either_found; all = either_all; stops = either_stops }; some = let (a, w, s) = g.some in (a, w, inl s); before = either_before }

-- ---- items behind a mark

module _ {A : Type 0} (P Q : ℕ → Type 0) (spelling : A → List ℕ) (Fits : A → Type 0) (one : List ℕ → Reads A) (mark : ℕ) (g : Good Q (IsText spelling Fits) one) (marks : Q mark) (less : (b : ℕ) → P b → Q b) (others : (b : ℕ) → P b → b ≡ mark → ⊥) where
  away : (a : A) (v u : List ℕ) → IsText spelling Fits a v → (u ≡ []) ⊎ ((t : List ℕ) × (u ≡ mark ∷ t)) → Ends (IsText spelling Fits) v u
  away a v u s (inl none) = ends_nil (IsText spelling Fits) v u none
  away a v u s (inr (t, is)) = subst (Ends (IsText spelling Fits) v) (sym is) (g.before a v mark t s marks)

  abbrev Many : ℕ → List A → List ℕ → Type 0
  Many = Rattle.gd_grammar.proofs.Scans.Many (IsText spelling Fits) one mark g.scans g.some away

  abbrev many_head : (n : ℕ) (ps : List A) (w : List ℕ) → Many n ps w → (w ≡ []) ⊎ ((t : List ℕ) × (w ≡ mark ∷ t))
  many_head = Rattle.gd_grammar.proofs.Scans.many_head (IsText spelling Fits) one mark g.scans g.some away

  scans_many : (n : ℕ) → Scans (Many n) (more_at n mark one)
  scans_many = Rattle.gd_grammar.proofs.Scans.Scans-many (IsText spelling Fits) one mark g.scans g.some away

  abbrev more_by : ℕ → ℕ → List ℕ → Bool → Reads (List A)
  more_by n c cs b = if b then (one cs >>= λ x. more_at n mark one x.1 >>= λ xs. Ok (x.0 ∷ xs.0, xs.1)) else Ok ([], c ∷ cs)

  many_read : (n : ℕ) (ps : List A) (w : List ℕ) (b : ℕ) (t : List ℕ) → Many n ps w → P b → more_at n mark one (w ++ (b ∷ t)) ≡ Ok (ps, b ∷ t)
  many_read zero ps w b t (ps_is, w_is) p = ap (λ (l : List ℕ). more_at 0 mark one (l ++ (b ∷ t))) w_is ∙ ap (λ (l : List A). ok_of (l, b ∷ t)) (sym ps_is)
  many_read (suc n) ps w b t (inl (ps_is, w_is)) p = ap (λ (l : List ℕ). more_at (suc n) mark one (l ++ (b ∷ t))) w_is ∙ ap (λ (x : Bool). more_by n b t x) (ne_eqb b mark (others b p)) ∙ ap (λ (l : List A). ok_of (l, b ∷ t)) (sym ps_is)
  many_read (suc n) ps w b t (inr (q, qs, v, u, s, many, ps_is, w_is)) p =
      let ends : Ends (IsText spelling Fits) v (u ++ (b ∷ t)) = ⊎_elim
      (λ none. subst (λ (l : List ℕ). Ends (IsText spelling Fits) v (l ++ (b ∷ t))) (sym none) (g.before q v b t s (less b p)))
      (λ (x, is). subst (λ (l : List ℕ). Ends (IsText spelling Fits) v (l ++ (b ∷ t))) (sym is) (g.before q v mark (x ++ (b ∷ t)) s marks)) (many_head n qs u many) in
      ap (λ (l : List ℕ). more_at (suc n) mark one (l ++ (b ∷ t))) w_is ∙ ap (λ (x : Bool). more_by n mark ((v ++ u) ++ (b ∷ t)) x) (eq-eqb mark mark refl)
      ∙ ap (λ (l : List ℕ). one l >>= λ x. more_at n mark one x.1 >>= λ xs. Ok (x.0 ∷ xs.0, xs.1)) (append_assoc v u (b ∷ t))
      ∙ ap (λ (r : Reads A). r >>= λ x. more_at n mark one x.1 >>= λ xs. Ok (x.0 ∷ xs.0, xs.1)) (g.scans.all q v (u ++ (b ∷ t)) s ends)
      ∙ ap (λ (r : Reads (List A)). r >>= λ xs. Ok (q ∷ xs.0, xs.1)) (many_read n qs u b t many p) ∙ ap (λ (l : List A). ok_of (l, b ∷ t)) (sym ps_is)

  -- at most so many items, each of which fits, behind marks
  abbrev pub More : ℕ → List A → List ℕ → Type 0
  More n xs w = (length xs ≤ n) × AllByRecursion Fits xs × (w ≡ flat_map (λ x. mark ∷ spelling x) xs)

  to_more : (n : ℕ) (xs : List A) (w : List ℕ) → Many n xs w → More n xs w
  to_more zero xs w (xs_is, w_is) = subst (λ (l : List A). More 0 l w) (sym xs_is) (omega arith, tt, w_is)
  to_more (suc n) xs w (inl (xs_is, w_is)) = subst (λ (l : List A). More (suc n) l w) (sym xs_is) (omega arith, tt, w_is)
  to_more (suc n) xs w (inr (p, qs, v, u, (fits, v_is), many, xs_is, w_is)) =
      let (few, each, u_is) = to_more n qs u many in
      subst (λ (l : List A). More (suc n) l w) (sym xs_is) (omega (arith, few), (fits, each), w_is ∙ ap (λ (l : List ℕ). mark ∷ (l ++ u)) v_is ∙ ap (λ (l : List ℕ). mark ∷ (spelling p ++ l)) u_is)

  from_more : (n : ℕ) (xs : List A) (w : List ℕ) → More n xs w → Many n xs w
  from_more zero [] w (few, each, w_is) = (refl, w_is)
  from_more (suc n) [] w (few, each, w_is) = inl (refl, w_is)
  from_more zero (x ∷ xs) w (few, each, w_is) = absurd (omega (arith, few))
  from_more (suc n) (x ∷ xs) w (few, (fits, each), w_is) = inr (x, xs, spelling x, flat_map (λ y. mark ∷ spelling y) xs, (fits, refl), from_more n xs (flat_map (λ y. mark ∷ spelling y) xs) (omega (arith, few), each, refl), refl, w_is)

  pub Good-more : (n : ℕ) → Good P (More n) (more_at n mark one)
  Good-more n = Good-same (Many n) (More n) (more_at n mark one) (to_more n) (from_more n) (record {
    scans = scans_many n;
    some = ([], [], from_more n [] [] (omega arith, tt, refl));
    before = λ ps w b t many p. ends_of (Many n) (more_at n mark one) (scans_many n) ps w (b ∷ t) (many_read n ps w b t many p);
  })

-- ---- numbers

-- a byte that is no digit
abbrev pub NoDigit : ℕ → Type 0
NoDigit b = (48 ≤ b) × (b ≤ 57) → ⊥

pub Good-number : (bound : ℕ) → bound < 2 ^ 64 → Good NoDigit (Number bound) (number_at bound)
Good-number bound small = record { scans = Scans-number bound small; some = (0, decimal 0, (omega arith, refl)); before = λ n v b t s no. number_ends bound n b v t small s no }
