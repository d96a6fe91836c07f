-- What is found in a cache that is right.
use Rattle.std.proofs.Common.{◌≡◌, ◌⊎◌, inl, inr, sym, subst, refl, ℕ, zero, suc, ◌-◌, List, [], ◌∷◌, length, take, Bool, true, false, cond, Option, Some, None}
use Rattle.std.specs.Prelude.{MatchBool}
use Rattle.std.specs.List.{AllByRecursion}
use Rattle.std.specs.Map.{lookup, lookup_entry, remove_entry}
use Rattle.lru.specs.LruCache.{promoted}
use Rattle.gd_prim.specs.declared.Batch.{Batch}
use Rattle.gd_grammar.proofs.Steps.{some_same, not_some}
use Rattle.gd_cache.specs.declared.key.ReplyKey.{ReplyKey}
use Rattle.gd_cache.specs.declared.key.Kept.{Kept}
use Rattle.gd_cache.specs.Hits.{same_key, fits}
use Rattle.gd_cache.specs.Right.{IsKeptRight, KeepsRight}
use Rattle.gd_cache.specs.Shown.{Shown, has, found, put, put_refused, Counts}
use Rattle.gd_cache.proofs.Counted.{one_key}

among : (batches : List Batch) (key : ReplyKey) (kept : Kept) (ps : List (ReplyKey × Kept)) → AllByRecursion (λ p. IsKeptRight batches p.0 p.1) ps → lookup (same_key key) ps ≡ Some kept → IsKeptRight batches key kept
among batches key kept [] all is = not_some kept is
among batches key kept (p ∷ ps) all is = by (same_key key p.0) refl is (among batches key kept ps all.1)
  where
    by : (b : Bool) → same_key key p.0 ≡ b → cond b (Some p.1) (lookup (same_key key) ps) ≡ Some kept → (lookup (same_key key) ps ≡ Some kept → IsKeptRight batches key kept) → IsKeptRight batches key kept
    by true same is rest = subst (λ k. IsKeptRight batches k kept) (sym (one_key key p.0 same)) (subst (IsKeptRight batches p.0) (some_same p.1 kept is) all.0)
    by false other is rest = rest is

-- what is found under a key is right
pub lookup_right : (batches : List Batch) (s : Shown) (key : ReplyKey) (kept : Kept) → KeepsRight batches s → lookup (same_key key) s.pairs ≡ Some kept → IsKeptRight batches key kept
lookup_right batches s key kept right is = among batches key kept s.pairs right is

-- ---- what becomes of it

module _ (P : ReplyKey × Kept → Type 0) where
  entry_right : (test : ReplyKey → Bool) (ps : List (ReplyKey × Kept)) (p : ReplyKey × Kept) → AllByRecursion P ps → lookup_entry test ps ≡ Some p → P p
  entry_right test [] p all is = not_some p is
  entry_right test (q ∷ ps) p all is = by (test q.0) (entry_right test ps p all.1) is
    where
      by : (b : Bool) → (lookup_entry test ps ≡ Some p → P p) → cond b (Some q) (lookup_entry test ps) ≡ Some p → P p
      by true rest is = subst P (some_same q p is) all.0
      by false rest is = rest is

  removed_right : (test : ReplyKey → Bool) (ps : List (ReplyKey × Kept)) → AllByRecursion P ps → AllByRecursion P (remove_entry test ps)
  removed_right test [] all = tt
  removed_right test (q ∷ ps) all = by (test q.0) (removed_right test ps all.1)
    where
      by : (b : Bool) → AllByRecursion P (remove_entry test ps) → AllByRecursion P (cond b ps (q ∷ remove_entry test ps))
      by true rest = all.1
      by false rest = (all.0, rest)

  promoted_right : (test : ReplyKey → Bool) (ps : List (ReplyKey × Kept)) → AllByRecursion P ps → AllByRecursion P (promoted test ps)
  promoted_right test ps all = by (lookup_entry test ps) refl
    where
      by : (o : Option (ReplyKey × Kept)) → lookup_entry test ps ≡ o → AllByRecursion P (promoted test ps)
      by None is = rw is all
      by (Some p) is = rw is (entry_right test ps p all is, removed_right test ps all)

  taken_right : (n : ℕ) (ps : List (ReplyKey × Kept)) → AllByRecursion P ps → AllByRecursion P (take n ps)
  taken_right zero [] all = tt
  taken_right (suc n) [] all = tt
  taken_right zero (p ∷ ps) all = tt
  taken_right (suc n) (p ∷ ps) all = (all.0, taken_right n ps all.1)

-- LAW: a read that is counted with what is right for it leaves a cache right
pub counts_right : (batches : List Batch) (s : Shown) (key : ReplyKey) (kept : Kept) (now : Shown) → KeepsRight batches s → IsKeptRight batches key kept → Counts s (key, kept) now → KeepsRight batches now
counts_right batches s key kept now all right counts = by (has s key) counts
  where
    P : ReplyKey × Kept → Type 0
    P p = IsKeptRight batches p.0 p.1

    to_front : KeepsRight batches (found s key)
    to_front = promoted_right P (same_key key) s.pairs all

    by_fit : (b : Bool) → MatchBool b ((now ≡ put (found s key) key kept) ⊎ (now ≡ put_refused (found s key))) (now ≡ found s key) → KeepsRight batches now
    by_fit true (inl is) = subst (KeepsRight batches) (sym is) (right, taken_right P (s.most - 1) (found s key).pairs to_front)
    by_fit true (inr is) = subst (KeepsRight batches) (sym is) to_front
    by_fit false is = subst (KeepsRight batches) (sym is) to_front

    by : (b : Bool) → MatchBool b (now ≡ found s key) (MatchBool (fits key (length kept.outcome)) ((now ≡ put (found s key) key kept) ⊎ (now ≡ put_refused (found s key))) (now ≡ found s key)) → KeepsRight batches now
    by true is = subst (KeepsRight batches) (sym is) to_front
    by false rest = by_fit (fits key (length kept.outcome)) rest
