-- What the new list under one key means for the list under every key.
use Rattle.std.proofs.Common.{◌≡◌, sym, ◌∙◌, subst, ℕ, List, [], Bool, true, false, cond, Option, Some, refl, ◌&&◌, ◌==◌}
use Rattle.std.specs.Prelude.{unwrap_or}
use Rattle.std.specs.Ordering.{nat_cmp}
use Rattle.std.specs.Cmp.{unsigned_tied}
use Rattle.std.specs.Str.{bytes_eq}
use Rattle.std.specs.Map.{lookup}
use Rattle.std.specs.BTreeMap.{is_at}
use Rattle.std.proofs.lemmas.Bool.{eqb-true}
use Rattle.std.proofs.lemmas.Cmp.{nat_list_eq_equiv}
use Rattle.std.proofs.lemmas.Slice.Eq.{bytes_eq-Decides}
use Rattle.gd_postings.specs.Postings.{Places}
use Rattle.gd_lists.specs.Lists.{text_list, pair_list, nothing}

-- the new entries have this value at the key, and at every other key what the old ones have
abbrev pub Sets : {K X : Type 0} → (K → K → Bool) → List (K × X) → List (K × X) → K → X → Type 0
Sets {K} same old new key w = (q : K) → lookup (same q) new ≡ cond (same key q) (Some w) (lookup (same q) old)

-- what holds at the key, and of a value with itself where the key is another, holds at each key
pub at_each : {K X V : Type 0} (same : K → K → Bool) → ((a b : K) → same a b ≡ true → a ≡ b)
    → (read : Option X → V) (Q : Bool → V → V → Type 0) → ((v : V) → Q false v v)
    → (old new : List (K × X)) (key : K) (w : X) → Sets same old new key w
    → Q true (read (lookup (same key) old)) (read (Some w))
    → (q : K) → Q (same key q) (read (lookup (same q) old)) (read (lookup (same q) new))
at_each {K} {X} {V} same one read Q itself old new key w sets here q =
    subst (λ (o : Option X). Q (same key q) (read (lookup (same q) old)) (read o)) (sym (sets q)) (either (same key q) refl)
  where
    either : (b : Bool) → same key q ≡ b → Q b (read (lookup (same q) old)) (read (cond b (Some w) (lookup (same q) old)))
    either true is = subst (λ (k : K). Q true (read (lookup (same k) old)) (read (Some w))) (one key q is) here
    either false is = itself (read (lookup (same q) old))

-- two identities are the same, as a map in their order tells it
abbrev pub same_id : ℕ → ℕ → Bool
same_id a = is_at (nat_cmp a)

ids_same : (a b : ℕ) → same_id a b ≡ true → a ≡ b
ids_same a b is = eqb-true a b (sym (unsigned_tied a b) ∙ is)

texts_same : (a b : List ℕ) → bytes_eq a b ≡ true → a ≡ b
texts_same a b is = (bytes_eq-Decides a b).0 is

module _ (R : Bool → List ℕ → List ℕ → Type 0) (same : (ids : List ℕ) → R false ids ids) where
  -- lists under texts
  pub each_text : (old new : List (List ℕ × Places)) (key : List ℕ) (w : Places) → Sets bytes_eq old new key w → R true (text_list old key).ids w.ids
      → (t : List ℕ) → R (bytes_eq t key) (text_list old t).ids (text_list new t).ids
  each_text old new key w sets here t =
      subst (λ (b : Bool). R b (text_list old t).ids (text_list new t).ids) (nat_list_eq_equiv.symm key t)
      (at_each bytes_eq texts_same (λ (found : Option Places). unwrap_or found nothing) (λ (b : Bool) (p q : Places). R b p.ids q.ids) (λ p. same p.ids) old new key w sets here t)

  -- lists under pairs
  pub each_pair : (old new : List (ℕ × List (List ℕ × Places))) (id : ℕ) (w : List (List ℕ × Places)) (key : List ℕ) → Sets same_id old new id w
      → ((t : List ℕ) → R (bytes_eq t key) (pair_list old id t).ids (text_list w t).ids)
      → (n : ℕ) (k : List ℕ) → R (id == n && bytes_eq k key) (pair_list old n k).ids (pair_list new n k).ids
  each_pair old new id w key sets here n =
      subst (λ (b : Bool). (k : List ℕ) → R (b && bytes_eq k key) (pair_list old n k).ids (pair_list new n k).ids) (unsigned_tied id n)
      (at_each same_id ids_same (λ (found : Option (List (List ℕ × Places))). unwrap_or found [])
      (λ (b : Bool) (p q : List (List ℕ × Places)). (k : List ℕ) → R (b && bytes_eq k key) (text_list p k).ids (text_list q k).ids) (λ p k. same (text_list p k).ids) old new id w sets here n)
