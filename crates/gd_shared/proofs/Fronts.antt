-- Lists with which one list begins.
use Rattle.std.proofs.Common.{take, drop, ◌≡◌, ◌≤◌, ◌<◌, Bool, true, false, List, [], ◌∷◌, ◌++◌, length, refl, ap, sym, ◌∙◌, arith, append_assoc, append-nil, length-append, MatchBool}
use Rattle.std.proofs.lemmas.List.{take-append-le, take-append-drop}
use Rattle.std.proofs.Math.Seq.{take-length, drop-append_seam}
use Rattle.std.proofs.lemmas.Bool.Decides.{nat_tests}
use mathlib.Core.List.{IsPrefix}
use lib.Dec.{leb}
use Rattle.gd_prim.specs.declared.Batch.{Batch}
use Rattle.gd_shared.specs.History.{batches_of}

module _ {A : Type 0} where
  pub begins_itself : (xs : List A) → IsPrefix xs xs
  begins_itself xs = ([], append-nil xs)

  pub begins_same : (xs ys : List A) → xs ≡ ys → IsPrefix xs ys
  begins_same xs ys same = ([], append-nil xs ∙ same)

  pub begins_longer : (xs ys zs : List A) → IsPrefix xs ys → IsPrefix xs (ys ++ zs)
  begins_longer xs ys zs (more, is) = (more ++ zs, sym (append_assoc xs more zs) ∙ ap (λ l. l ++ zs) is)

  pub begins_then : (xs ys zs : List A) → IsPrefix xs ys → IsPrefix ys zs → IsPrefix xs zs
  begins_then xs ys zs (more, is) (most, goes) = (more ++ most, sym (append_assoc xs more most) ∙ (ap (λ l. l ++ most) is ∙ goes))

  -- what is behind a list that begins another
  pub behind_front : (xs ys : List A) → IsPrefix xs ys → xs ++ drop (length xs) ys ≡ ys
  behind_front xs ys (more, is) = ap (λ l. xs ++ l) (ap (drop (length xs)) (sym is) ∙ drop-append_seam xs more) ∙ is

  taken : (xs zs : List A) → IsPrefix xs zs → take (length xs) zs ≡ xs
  taken xs zs (more, is) = ap (take (length xs)) (sym is) ∙ (take-append-le (length xs) xs more (omega arith) ∙ take-length xs)

  -- of two lists that begin one list, the shorter begins the longer
  pub shorter_begins : (xs ys zs : List A) → IsPrefix xs zs → IsPrefix ys zs → length xs ≤ length ys → IsPrefix xs ys
  shorter_begins xs ys zs p (more, is) few =
      let front : take (length xs) ys ≡ xs = sym (take-append-le (length xs) ys more few) ∙ (ap (take (length xs)) is ∙ taken xs zs p) in
      (drop (length xs) ys, ap (λ l. l ++ drop (length xs) ys) (sym front) ∙ take-append-drop (length xs) ys)

  nothing_behind : (xs ys more : List A) → xs ++ more ≡ ys → length ys ≤ length xs → xs ≡ ys
  nothing_behind xs ys [] is few = sym (append-nil xs) ∙ is
  nothing_behind xs ys (x ∷ more) is few = let long = ap length is in absurd (omega (arith, long, length-append xs (x ∷ more), few))

  -- a list that begins one which is no longer is that one
  pub begins_whole : (xs ys : List A) → IsPrefix xs ys → length ys ≤ length xs → xs ≡ ys
  begins_whole xs ys (more, is) few = nothing_behind xs ys more is few

-- ---- groups

pub batches_append : (gs hs : List (List Batch)) → batches_of (gs ++ hs) ≡ batches_of gs ++ batches_of hs
batches_append [] hs = refl
batches_append (g ∷ gs) hs = ap (λ l. g ++ l) (batches_append gs hs) ∙ sym (append_assoc g (batches_of gs) (batches_of hs))

pub batches_one : (gs : List (List Batch)) (g : List Batch) → batches_of (gs ++ g ∷ []) ≡ batches_of gs ++ g
batches_one gs g = batches_append gs (g ∷ []) ∙ ap (λ l. batches_of gs ++ l) (append-nil g)

begins_groups : (gs hs : List (List Batch)) → IsPrefix gs hs → IsPrefix (batches_of gs) (batches_of hs)
begins_groups gs hs (more, is) = (batches_of more, sym (batches_append gs more) ∙ ap batches_of is)

-- of two fronts of one history the shorter begins the longer
pub one_begins : (gs hs all : List (List Batch)) → IsPrefix gs all → IsPrefix hs all → (b : Bool) → leb (length (batches_of gs)) (length (batches_of hs)) ≡ b
    → MatchBool b (IsPrefix (batches_of gs) (batches_of hs)) (IsPrefix (batches_of hs) (batches_of gs) × (length (batches_of hs) < length (batches_of gs)))
one_begins gs hs all p q true is = shorter_begins (batches_of gs) (batches_of hs) (batches_of all) (begins_groups gs all p) (begins_groups hs all q) (grind (arith, nat_tests))
one_begins gs hs all p q false is =
    let less : length (batches_of hs) < length (batches_of gs) = grind (arith, nat_tests) in
    (shorter_begins (batches_of hs) (batches_of gs) (batches_of all) (begins_groups hs all q) (begins_groups gs all p) (omega (arith, less)), less)
