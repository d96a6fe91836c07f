-- The next line of a dump is read exactly, and what it makes of what was read.
use Rattle.std.proofs.Common.{◌≡◌, refl, inl, inr, ℕ, ◌+◌, ◌<◌, ◌≤◌, ◌^◌, Bool, true, false, ◌==◌, nat_le, if◌then◌else◌, List, [], ◌∷◌, ◌++◌, length, flat_map, sym, ◌∙◌, ap, subst, arith, append_assoc, length-append, eqb-true}
use Rattle.std.specs.List.{AllByRecursion}
use Rattle.std.proofs.lemmas.List.{append-nil}
use Rattle.std.proofs.lemmas.Grind.{flat_map-append}
use Rattle.std.proofs.lemmas.Bool.Decides.{nat_tests}
use Rattle.gd_prim.specs.declared.Primitive.{Primitive}
use Rattle.gd_prim.specs.declared.Batch.{Batch}
use Rattle.gd_prim.specs.WellFormed.{max_moment}
use Rattle.gd_grammar.specs.Grammar.{IsText}
use Rattle.gd_grammar.proofs.Exact.{Sound, Sound-mapped, Mapped}
use Rattle.gd_grammar.proofs.Numbers.{Word}
use Rattle.gd_dump_laws.proofs.Marks.{Either, Exact-choice}
use Rattle.gd_dump_laws.proofs.Lines.{Head, Sound-head, Opens, Sound-opens, Sound-end, Sound-prim}
use Rattle.gd_dump_laws.proofs.Batches.{all_joined, made}
use Rattle.gd_dump_laws.specs.Dump.{prim_line, batch_head, batch_text, dump_head, dump_end, PrimitiveFits, BatchFits}
use Rattle.gd_dump_laws.specs.Reading.{head_at, batch_at, end_at, prim_at}
use Rattle.gd_dump_laws.specs.Progress.{Progress, opening, between, within, closed, consumed, opened, added, next_batch_at, last_at, step_at, Read}

-- some line is to come
abbrev pub Open : Progress → Type 0
Open (closed first batches) = ⊥
Open _ = Unit {0}

abbrev NextBatch : ℕ → List Batch → Progress → List ℕ → Type 0
NextBatch first batches = Mapped (λ x. opened first batches x.0 x.1) Opens

abbrev Last : ℕ → List Batch → Progress → List ℕ → Type 0
Last first batches = Mapped (λ u. closed first batches) (Word (dump_end (length batches)))

-- a line that may come, and where reading stands behind it
abbrev pub Line : Progress → Progress → List ℕ → Type 0
Line opening = Mapped (λ f. between f []) Head
Line (between first batches) = Either (NextBatch first batches) (Last first batches)
Line (within first batches moment count prims) = Mapped (λ p. added first batches moment count (prims ++ p ∷ [])) (IsText prim_line (PrimitiveFits moment))
Line (closed first batches) = λ q w. ⊥

sound_next : (first : ℕ) (batches : List Batch) → Sound (NextBatch first batches) (next_batch_at first batches)
unfolding next_batch_at
sound_next first batches = Sound-mapped (λ x. opened first batches x.0 x.1) Opens batch_at Sound-opens

sound_last : (first : ℕ) (batches : List Batch) → Sound (Last first batches) (last_at first batches)
unfolding last_at
sound_last first batches = Sound-mapped (λ u. closed first batches) (Word (dump_end (length batches))) (end_at (length batches)) (Sound-end (length batches))

pub Sound-step : (p : Progress) → Open p → Sound (Line p) (step_at p)
unfolding step_at
Sound-step opening still = Sound-mapped (λ f. between f []) Head head_at Sound-head
Sound-step (between first batches) still =
    let (q, w, s) = (sound_next first batches).some in
    record {
      exact = Exact-choice (λ c. c == 98) (NextBatch first batches) (Last first batches) (next_batch_at first batches) (last_at first batches) (sound_next first batches).exact (sound_last first batches).exact
          (λ q w ((m, n), q_is, (fits, w_is)). (98, _, w_is, refl))
          (λ q w (u, q_is, w_is). (101, _, w_is, refl))
          (q, w, inl s);
      some = (q, w, inl s);
    }
Sound-step (within first batches moment count prims) still = Sound-mapped (λ p. added first batches moment count (prims ++ p ∷ [])) (IsText prim_line (PrimitiveFits moment)) (prim_at moment) (Sound-prim moment)
Sound-step (closed first batches) still = absurd still

-- ---- what was read, with the line

-- What was read goes on by this line.
pub record GoesOn (p q : Progress) (w : List ℕ) : Type 0 where
  pub read : Read q
  pub text : consumed q ≡ consumed p ++ w

-- one batch more
batch_behind : (first : ℕ) (batches : List Batch) (b : Batch) → dump_head first ++ flat_map batch_text (batches ++ b ∷ []) ≡ (dump_head first ++ flat_map batch_text batches) ++ batch_text b
batch_behind first batches b =
    ap (λ (l : List ℕ). dump_head first ++ l) (flat_map-append batch_text batches (b ∷ []) ∙ ap (λ (l : List ℕ). flat_map batch_text batches ++ l) (append-nil (batch_text b)))
    ∙ sym (append_assoc (dump_head first) (flat_map batch_text batches) (batch_text b))

le_of : (a b : ℕ) → nat_le a b ≡ true → a ≤ b
le_of a b is = grind (arith, nat_tests)

lt_of : (a b : ℕ) → nat_le a b ≡ false → b < a
lt_of a b is = grind (arith, nat_tests)

abbrev opened_by : ℕ → List Batch → ℕ → ℕ → Bool → Progress
opened_by first batches m n b = if b then between first (batches ++ made m [] ∷ []) else within first batches m n []

abbrev added_by : ℕ → List Batch → ℕ → ℕ → List Primitive → Bool → Progress
added_by first batches m n ps b = if b then between first (batches ++ made m ps ∷ []) else within first batches m n ps

abbrev front_of : ℕ → List Batch → List ℕ
front_of first batches = dump_head first ++ flat_map batch_text batches

opened_goes : (first : ℕ) (batches : List Batch) (m n : ℕ) (w : List ℕ) → (first < 2 ^ 32) × AllByRecursion BatchFits batches → m ≤ max_moment → n ≤ 4096 → w ≡ batch_head m n → GoesOn (between first batches) (opened first batches m n) w
opened_goes first batches m n w read m_fits n_fits w_is = by (n == 0) refl
  where
    by : (b : Bool) → (n == 0) ≡ b → GoesOn (between first batches) (opened_by first batches m n b) w
    by true e =
        let none : n ≡ 0 = eqb-true n 0 e in
        record {
          read = (read.0, all_joined BatchFits batches (made m [] ∷ []) read.1 (record { moment = m_fits; few = omega arith; each = tt }, tt));
          text = batch_behind first batches (made m []) ∙ ap (λ (l : List ℕ). (dump_head first ++ flat_map batch_text batches) ++ l) (append-nil (batch_head m 0) ∙ ap (λ (k : ℕ). batch_head m k) (sym none) ∙ sym w_is);
        }
    by false e = record {
      read = (read, (m_fits, n_fits, some n e, tt));
      text = append-nil ((dump_head first ++ flat_map batch_text batches) ++ batch_head m n) ∙ ap (λ (l : List ℕ). (dump_head first ++ flat_map batch_text batches) ++ l) (sym w_is);
    }
      where
        some : (n : ℕ) → (n == 0) ≡ false → 0 < n
        some n e = grind (arith, nat_tests)

added_goes : (first : ℕ) (batches : List Batch) (m n : ℕ) (ps : List Primitive) (p : Primitive) (w : List ℕ) → Read (within first batches m n ps) → PrimitiveFits m p → w ≡ prim_line p → GoesOn (within first batches m n ps) (added first batches m n (ps ++ p ∷ [])) w
added_goes first batches m n ps p w (read, (m_fits, n_fits, few, each)) fits w_is = by (nat_le n (length (ps ++ p ∷ []))) refl
  where
    long : length (ps ++ p ∷ []) ≡ length ps + 1
    long = length-append ps (p ∷ [])

    all : AllByRecursion (PrimitiveFits m) (ps ++ p ∷ [])
    all = all_joined (PrimitiveFits m) ps (p ∷ []) each (fits, tt)

    lines : flat_map prim_line (ps ++ p ∷ []) ≡ flat_map prim_line ps ++ w
    lines = flat_map-append prim_line ps (p ∷ []) ∙ ap (λ (l : List ℕ). flat_map prim_line ps ++ l) (append-nil (prim_line p) ∙ sym w_is)

    by : (b : Bool) → nat_le n (length (ps ++ p ∷ [])) ≡ b → GoesOn (within first batches m n ps) (added_by first batches m n (ps ++ p ∷ []) b) w
    by true e =
        let enough = le_of n (length (ps ++ p ∷ [])) e in
        let count : length (ps ++ p ∷ []) ≡ n = omega (arith, enough, long, few) in
        record {
          read = (read.0, all_joined BatchFits batches (made m (ps ++ p ∷ []) ∷ []) read.1 (record { moment = m_fits; few = omega (arith, count, n_fits); each = all }, tt));
          text = batch_behind first batches (made m (ps ++ p ∷ []))
              ∙ ap (λ (l : List ℕ). front_of first batches ++ l) ((λ i. batch_head m (count i) ++ lines i) ∙ sym (append_assoc (batch_head m n) (flat_map prim_line ps) w))
              ∙ sym (append_assoc (front_of first batches) (batch_head m n ++ flat_map prim_line ps) w) ∙ ap (λ (l : List ℕ). l ++ w) (sym (append_assoc (front_of first batches) (batch_head m n) (flat_map prim_line ps)));
        }
    by false e = record {
      read = (read, (m_fits, n_fits, lt_of n (length (ps ++ p ∷ [])) e, all));
      text = ap (λ (l : List ℕ). (front_of first batches ++ batch_head m n) ++ l) lines ∙ sym (append_assoc (front_of first batches ++ batch_head m n) (flat_map prim_line ps) w);
    }

-- Behind a line that may come, what was read goes on by it.
pub goes_on : (p q : Progress) (w : List ℕ) → Read p → Line p q w → GoesOn p q w
goes_on opening q w read (first, q_is, (fits, w_is)) = subst (λ (x : Progress). GoesOn opening x w) (sym q_is) (record { read = (fits, tt); text = append-nil (dump_head first) ∙ sym w_is })
goes_on (between first batches) q w read (inl ((m, n), q_is, ((m_fits, n_fits), w_is))) = subst (λ (x : Progress). GoesOn (between first batches) x w) (sym q_is) (opened_goes first batches m n w read m_fits n_fits w_is)
goes_on (between first batches) q w read (inr (u, q_is, w_is)) =
    subst (λ (x : Progress). GoesOn (between first batches) x w) (sym q_is) (record { read = read; text = ap (λ (l : List ℕ). (dump_head first ++ flat_map batch_text batches) ++ l) (sym w_is) })
goes_on (within first batches m n ps) q w read (p, q_is, (fits, w_is)) = subst (λ (x : Progress). GoesOn (within first batches m n ps) x w) (sym q_is) (added_goes first batches m n ps p w read fits w_is)
goes_on (closed first batches) q w read s = absurd s
