-- Batches of a dump are read exactly, and of two texts of batches that agree the one begins the other.
use Rattle.std.proofs.Common.{◌≡◌, refl, ◌⊎◌, inl, inr, ℕ, ◌≤◌, List, [], ◌∷◌, ◌++◌, length, flat_map, sym, ◌∙◌, ap, subst, arith, append_assoc}
use Rattle.std.specs.List.{AllByRecursion}
use Rattle.gd_prim.specs.declared.Primitive.{Primitive}
use Rattle.gd_prim.specs.declared.Batch.{Batch}
use Rattle.gd_grammar.specs.Grammar.{Reads, IsText}
use Rattle.gd_grammar.specs.Reading.{items_at}
use Rattle.gd_grammar.proofs.Scans.{Then, chain, ok_same}
use Rattle.gd_grammar.proofs.Exact.{Exact, Sound, Sound-then, Sound-same, Sound-mapped, Mapped, mapped, join, Items, Exact-items, items_some}
use Rattle.gd_dump_laws.proofs.Lines.{Sound-prim, Opens, Sound-opens}
use Rattle.gd_dump_laws.specs.Dump.{prim_line, batch_head, batch_text, PrimitiveFits, BatchFits}
use Rattle.gd_dump_laws.specs.Reading.{prim_at, batch_at}

-- ---- a whole batch

-- so many primitives of this moment
abbrev pub Prims : ℕ → ℕ → List Primitive → List ℕ → Type 0
Prims m = Items prim_line (PrimitiveFits m) (prim_at m) (Sound-prim m).exact (Sound-prim m).some

pub sound_prims : (m n : ℕ) → Sound (Prims m n) (items_at (prim_at m) n)
sound_prims m n = record {
  exact = Exact-items prim_line (PrimitiveFits m) (prim_at m) (Sound-prim m).exact (Sound-prim m).some n;
  some = items_some prim_line (PrimitiveFits m) (prim_at m) (Sound-prim m).exact (Sound-prim m).some n;
}

abbrev pub made : ℕ → List Primitive → Batch
made m ps = record { moment = m; prims = ps }

abbrev Parts : Batch → List ℕ → Type 0
Parts = Then Opens (λ x. Mapped (made x.0) (Prims x.0 x.1))

abbrev whole_at : List ℕ → Reads Batch
whole_at = chain batch_at (λ x. mapped (made x.0) (items_at (prim_at x.0) x.1))

to_batch : (b : Batch) (w : List ℕ) → Parts b w → IsText batch_text BatchFits b w
to_batch b w ((m, n), v, u, ((m_fits, n_fits), v_is), (ps, b_is, (long, each, u_is)), w_is) =
    subst (λ (x : Batch). IsText batch_text BatchFits x w) (sym b_is)
    (record { moment = m_fits; few = omega (arith, long, n_fits); each = each }, join w_is (v_is ∙ ap (λ (k : ℕ). batch_head m k) (sym long)) u_is)

from_batch : (b : Batch) (w : List ℕ) → IsText batch_text BatchFits b w → Parts b w
from_batch b w (fits, w_is) = ((b.moment, length b.prims), batch_head b.moment (length b.prims), flat_map prim_line b.prims, ((fits.moment, fits.few), refl), (b.prims, refl, (refl, fits.each, refl)), w_is)

pub Sound-batch : Sound (IsText batch_text BatchFits) whole_at
Sound-batch = Sound-same Parts (IsText batch_text BatchFits) whole_at to_batch from_batch
    (Sound-then Opens (λ x. Mapped (made x.0) (Prims x.0 x.1)) batch_at (λ x. mapped (made x.0) (items_at (prim_at x.0) x.1)) Sound-opens
    (λ x w s. Sound-mapped (made x.0) (Prims x.0 x.1) (items_at (prim_at x.0) x.1) (sound_prims x.0 x.1)))

-- ---- two texts that agree

-- what a reader gives of one text is one
pub one_text : {A : Type 0} (spells : A → List ℕ → Type 0) (read : List ℕ → Reads A) → Exact spells read → (x y : A) (v w a b : List ℕ) → spells x v → spells y w → v ++ a ≡ w ++ b → (x ≡ y) × (a ≡ b)
one_text spells read reads x y v w a b s t is =
    let pairs = ok_same (sym (reads.all x v a s) ∙ ap read is ∙ reads.all y w b t) in
    (ap (λ p. p.0) pairs, ap (λ p. p.1) pairs)

module _ {A : Type 0} (spelling : A → List ℕ) (Fits : A → Type 0) (read : List ℕ → Reads A) (reads : Exact (IsText spelling Fits) read) where
  -- the text goes on with no item
  abbrev pub NoItem : List ℕ → Type 0
  NoItem a = (y : A) (t : List ℕ) → Fits y → a ≡ spelling y ++ t → ⊥

  -- Items and what follows them are items and what follows those: these begin with those, as long as there are as many or no item follows them.
  pub items_front : (ys xs : List A) (a b : List ℕ) → AllByRecursion Fits xs → AllByRecursion Fits ys → (length ys ≤ length xs) ⊎ NoItem a → flat_map spelling xs ++ a ≡ flat_map spelling ys ++ b → (zs : List A) × (xs ≡ ys ++ zs) × (b ≡ flat_map spelling zs ++ a)
  items_front [] xs a b each more enough is = (xs, refl, sym is)
  items_front (y ∷ ys) [] a b each more (inl few) is = absurd (omega (arith, few))
  items_front (y ∷ ys) [] a b each more (inr none) is = absurd (none y (flat_map spelling ys ++ b) more.0 (is ∙ append_assoc (spelling y) (flat_map spelling ys) b))
  items_front (y ∷ ys) (x ∷ xs) a b each more enough is =
      let there : spelling x ++ (flat_map spelling xs ++ a) ≡ spelling y ++ (flat_map spelling ys ++ b) = sym (append_assoc (spelling x) (flat_map spelling xs) a) ∙ is ∙ append_assoc (spelling y) (flat_map spelling ys) b in
      let (head, tail) = one_text (IsText spelling Fits) read reads x y (spelling x) (spelling y) (flat_map spelling xs ++ a) (flat_map spelling ys ++ b) (each.0, refl) (more.0, refl) there in
      let (zs, xs_is, b_is) = items_front ys xs a b each.1 more.1 (fewer enough) tail in
      (zs, (λ i. head i ∷ xs_is i), b_is)
    where
      fewer : (length (y ∷ ys) ≤ length (x ∷ xs)) ⊎ NoItem a → (length ys ≤ length xs) ⊎ NoItem a
      fewer (inl few) = inl (omega (arith, few))
      fewer (inr none) = inr none

-- each of two lists one behind the other
pub all_joined : {A : Type 0} (P : A → Type 0) (xs ys : List A) → AllByRecursion P xs → AllByRecursion P ys → AllByRecursion P (xs ++ ys)
all_joined P [] ys each more = more
all_joined P (x ∷ xs) ys each more = (each.0, all_joined P xs ys each.1 more)

-- each of the second
pub all_behind : {A : Type 0} (P : A → Type 0) (xs ys : List A) → AllByRecursion P (xs ++ ys) → AllByRecursion P ys
all_behind P [] ys each = each
all_behind P (x ∷ xs) ys each = all_behind P xs ys each.1
