-- What is counted keeps what is kept right.
use Rattle.std.proofs.Common.{◌≡◌, inl, inr, ⊎_elim, sym, ap, subst, refl, ◌∙◌, ℕ, zero, suc, ◌<◌, ◌≤◌, ◌^◌, List, [], ◌∷◌, length, Bool, true, false, ◌&&◌, Option, Some, None, arith}
use Rattle.std.specs.Prelude.{IfSome, MatchBool, nat_eq, slice_get, slice_set, slice_index_or, replicate}
use Rattle.std.specs.Cmp.Lexicographic.{pointwise}
use Rattle.std.proofs.lemmas.Bool.Decides.{nat_tests}
use Rattle.gd_prim.specs.declared.Batch.{Batch}
use Rattle.gd_grammar.proofs.Steps.{some_same, not_some}
use Rattle.gd_runs.specs.Request.{ReadSet, reply_of}
use Rattle.gd_cache.specs.declared.key.Kept.{Kept}
use Rattle.gd_cache.specs.Asked.{IsKeyOf}
use Rattle.gd_cache.specs.Line.{kept_text}
use Rattle.gd_cache.specs.Right.{KeepsRight, is_ok, IsPlainKept, IsAnswered}
use Rattle.gd_cache.specs.Shown.{Shown, empty, Counts}
use Rattle.gd_cache.proofs.Answered.{answers_are_kept, dateline_low}
use Rattle.gd_cache.proofs.Found.{counts_right}
use Rattle.gd_lookup.specs.Keeping.{KeepingValue, AllRight, AreAll, IsCountedAs, CountsAnswer, CountsIn, CountsReply}
use Rattle.gd_lookup.specs.Laws.{first_kept}

-- what is found in a line is all that has this line
pub counted_as : (s : Shown) (key : Option (List ℕ)) (text : List ℕ) (d e : ℕ) (a b : Kept) (now : Shown) → key ≡ Some text → Counts s (record { text = text; dateline = d }, a) now → ◌≡◌ {A = Option (ℕ × Kept)} (Some (d, a)) (Some (e, b)) → IsCountedAs s key e b now
counted_as s key text d e a b now is counts same = inl (text, is, subst (λ (p : ℕ × Kept). Counts s (record { text = text; dateline = p.0 }, p.1) now) (some_same (d, a) (e, b) same) counts)

-- LAW: the reply to a read that is counted under its text leaves a cache right
pub counted_right : (batches : List Batch) (at k : ℕ) (q : ReadSet) (s : Shown) (key : Option (List ℕ)) (reply : List ℕ) (now : Shown) → at ≤ length batches → at < 2 ^ 32 → reply ≡ reply_of batches at k q → IfSome key (λ text. IsKeyOf text q) → is_ok reply ≡ true
    → ((d : ℕ) (kept : Kept) → d < 2 ^ 32 → IsPlainKept kept → reply ≡ kept_text d k kept → IsCountedAs s key d kept now) → KeepsRight batches s → KeepsRight batches now
counted_right batches at k q s key reply now within few is keyed ok counts right =
    let a : IsAnswered batches at k q = answers_are_kept batches at k q within (subst (λ bytes. is_ok bytes ≡ true) is ok) in
    let low = dateline_low at a.dateline q a.has in
    by a (counts a.dateline a.kept (omega (arith, low, few)) a.plain (is ∙ a.is))
  where
    by : (a : IsAnswered batches at k q) → IsCountedAs s key a.dateline a.kept now → KeepsRight batches now
    by a (inl (text, key_is, counts)) =
        counts_right batches s (record { text = text; dateline = a.dateline }) a.kept now right (a.right text (subst (λ (o : Option (List ℕ)). IfSome o (λ t. IsKeyOf t q)) key_is keyed)) counts
    by a (inr refused) = subst (KeepsRight batches) (sym refused) right

-- ---- caches by session

pub right_at : (batches : List Batch) (caches : List Shown) (i : ℕ) (s : Shown) → AllRight batches caches → slice_get caches i ≡ Some s → KeepsRight batches s
right_at batches [] i s all at = not_some s at
right_at batches (c ∷ cs) zero s (one, rest) at = subst (KeepsRight batches) (some_same c s at) one
right_at batches (c ∷ cs) (suc i) s (one, rest) at = right_at batches cs i s rest at

pub right_set : (batches : List Batch) (caches : List Shown) (i : ℕ) (s : Shown) → AllRight batches caches → KeepsRight batches s → AllRight batches (slice_set caches i s)
right_set batches [] i s all right = tt
right_set batches (c ∷ cs) zero s (one, rest) right = (right, rest)
right_set batches (c ∷ cs) (suc i) s (one, rest) right = (one, right_set batches cs i s rest right)

right_index : (batches : List Batch) (caches : List Shown) (i : ℕ) (d : Shown) → i < length caches → AllRight batches caches → KeepsRight batches (slice_index_or caches i d)
right_index batches [] i d less all = absurd (omega (arith, less))
right_index batches (c ∷ cs) zero d less (one, rest) = one
right_index batches (c ∷ cs) (suc i) d less (one, rest) = right_index batches cs i d (omega (arith, less)) rest

-- where the cache of a session stays right, so do all
pub right_changed : (batches : List Batch) (caches : List Shown) (i : ℕ) (d now : Shown) → i < 64 → AreAll caches → AllRight batches caches → (KeepsRight batches (slice_index_or caches i d) → KeepsRight batches now) → AllRight batches (slice_set caches i now)
right_changed batches caches i d now less are all right = ⊎_elim
    (λ none. subst (λ (cs : List Shown). AllRight batches (slice_set cs i now)) (sym none) tt)
    (λ long. right_set batches caches i now all (right (right_index batches caches i d (omega (arith, less, long)) all)))
    are

-- ---- a reply

-- where replies are not kept none is counted
pub counts_off : (old : KeepingValue) (session : ℕ) (key : Option (List ℕ)) (k : ℕ) (reply : List ℕ) → old.caches ≡ [] → CountsReply old session key k reply old
counts_off old session key k reply none = subst (λ (cs : List Shown). CountsIn cs old session key k reply old) (sym none) refl

-- nor is one that is no answer
pub counts_none : (old : KeepingValue) (session : ℕ) (key : Option (List ℕ)) (k : ℕ) (reply : List ℕ) → is_ok reply ≡ false → CountsReply old session key k reply old
counts_none old session key k reply other = by old.caches
  where
    by : (cs : List Shown) → CountsIn cs old session key k reply old
    by [] = refl
    by (c ∷ cs) = subst (λ (b : Bool). MatchBool b (CountsAnswer old session key k reply old) (old ≡ old)) (sym other) refl

-- an answer is
pub counts_answer : (old new : KeepingValue) (session : ℕ) (key : Option (List ℕ)) (k : ℕ) (reply : List ℕ) → (length old.caches ≡ 0 → ⊥) → is_ok reply ≡ true → CountsAnswer old session key k reply new → CountsReply old session key k reply new
counts_answer old new session key k reply some ok counts = by old.caches some
  where
    by : (cs : List Shown) → (length cs ≡ 0 → ⊥) → CountsIn cs old session key k reply new
    by [] some = absurd (some refl)
    by (c ∷ cs) some = subst (λ (b : Bool). MatchBool b (CountsAnswer old session key k reply new) (new ≡ old)) (sym ok) counts

-- and it was, where replies are kept
pub answer_counts : (old new : KeepingValue) (session : ℕ) (key : Option (List ℕ)) (k : ℕ) (reply : List ℕ) → (length old.caches ≡ 0 → ⊥) → is_ok reply ≡ true → CountsReply old session key k reply new → CountsAnswer old session key k reply new
answer_counts old new session key k reply some ok counts = by old.caches some counts
  where
    by : (cs : List Shown) → (length cs ≡ 0 → ⊥) → CountsIn cs old session key k reply new → CountsAnswer old session key k reply new
    by [] some counts = absurd (some refl)
    by (c ∷ cs) some counts = subst (λ (b : Bool). MatchBool b (CountsAnswer old session key k reply new) (new ≡ old)) ok counts

-- what is no answer was not
pub none_counts : (old new : KeepingValue) (session : ℕ) (key : Option (List ℕ)) (k : ℕ) (reply : List ℕ) → is_ok reply ≡ false → CountsReply old session key k reply new → new ≡ old
none_counts old new session key k reply other counts = by old.caches counts
  where
    by : (cs : List Shown) → CountsIn cs old session key k reply new → new ≡ old
    by [] counts = counts
    by (c ∷ cs) counts = subst (λ (b : Bool). MatchBool b (CountsAnswer old session key k reply new) (new ≡ old)) other counts

-- a line begins as one of an answer, in either order
nat_sym : (a b : ℕ) → nat_eq a b ≡ nat_eq b a
nat_sym a b = grind (arith, nat_tests)

pub same_either : (xs ys : List ℕ) → pointwise nat_eq xs ys ≡ pointwise nat_eq ys xs
same_either [] [] = refl
same_either [] (y ∷ ys) = refl
same_either (x ∷ xs) [] = refl
same_either (x ∷ xs) (y ∷ ys) = ap (λ (b : Bool). b && pointwise nat_eq xs ys) (nat_sym x y) ∙ ap (λ (b : Bool). nat_eq y x && b) (same_either xs ys)

-- ---- what is kept at first

none_right : (batches : List Batch) (m n : ℕ) → AllRight batches (replicate m (empty n))
none_right batches zero n = tt
none_right batches (suc m) n = (tt, none_right batches m n)

-- is right
pub first_right : (batches : List Batch) (cache : Option ℕ) → AllRight batches (first_kept cache).caches
first_right batches None = tt
first_right batches (Some n) = none_right batches 64 n
