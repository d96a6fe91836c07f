-- Bytes in their parts.
use Rattle.std.proofs.Common.{◌≡◌, ◌∙◌, sym, ap, ℕ, ◌-◌, List, ◌++◌, true, false, length, take, drop, append_assoc, arith, length-append}
use Rattle.std.specs.Prelude.{nat_eq, codes}
use Rattle.std.specs.Cmp.Lexicographic.{pointwise, same_text, bytes_decides}
use Rattle.std.proofs.lemmas.List.{take-append-drop}
use Rattle.std.proofs.Math.Seq.{take-append_seam, drop-append_seam}

-- bytes whose front is this one
pub stripped : (bytes front rest : List ℕ) → pointwise nat_eq (take (length front) bytes) front ≡ true → rest ≡ drop (length front) bytes → bytes ≡ front ++ rest
stripped bytes front rest same is = sym (take-append-drop (length front) bytes) ∙ ap (λ l. l ++ drop (length front) bytes) (same_text (take (length front) bytes) front (sym same)) ∙ ap (λ l. front ++ l) (sym is)

same_itself : (xs ys : List ℕ) → xs ≡ ys → pointwise nat_eq xs ys ≡ false → ⊥
same_itself xs ys is differ = let yes = (bytes_decides xs ys).1 is in absurd (cc)

-- where it is not, they do not begin with it
pub not_stripped : (bytes front rest : List ℕ) → pointwise nat_eq (take (length front) bytes) front ≡ false → bytes ≡ front ++ rest → ⊥
not_stripped bytes front rest differ is = same_itself (take (length front) bytes) front (ap (take (length front)) is ∙ take-append_seam front rest) differ

-- bytes that end with these
pub ended : (bytes behind front : List ℕ) → pointwise nat_eq (drop (length bytes - length behind) bytes) behind ≡ true → front ≡ take (length bytes - length behind) bytes → bytes ≡ front ++ behind
ended bytes behind front same is =
    let n = length bytes - length behind in
    sym (take-append-drop n bytes) ∙ ap (λ l. take n bytes ++ l) (same_text (drop n bytes) behind (sym same)) ∙ ap (λ l. l ++ behind) (sym is)

pub not_ended : (bytes behind front : List ℕ) → pointwise nat_eq (drop (length bytes - length behind) bytes) behind ≡ false → bytes ≡ front ++ behind → ⊥
not_ended bytes behind front differ is =
    let long = ap length is ∙ length-append front behind in
    let n : length bytes - length behind ≡ length front = omega (arith, long) in
    same_itself (drop (length bytes - length behind) bytes) behind (ap (λ k. drop k bytes) n ∙ ap (drop (length front)) is ∙ drop-append_seam front behind) differ

-- bytes are their front and what is behind it
pub parted : (place : ℕ) (bytes : List ℕ) → bytes ≡ take place bytes ++ drop place bytes
parted place bytes = sym (take-append-drop place bytes)

-- a line of its parts
pub nested : (a c d l r o : List ℕ) → ((((a ++ c) ++ d) ++ l) ++ (r ++ o)) ++ codes "}" ≡ a ++ (c ++ (((d ++ l) ++ r) ++ (o ++ codes "}")))
nested a c d l r o = outer ∙ sym (ap (λ x. a ++ (c ++ x)) inner)
  where
    e : List ℕ
    e = codes "}"

    inner : ((d ++ l) ++ r) ++ (o ++ codes "}") ≡ d ++ (l ++ ((r ++ o) ++ codes "}"))
    inner = append_assoc (d ++ l) r (o ++ codes "}") ∙ append_assoc d l (r ++ (o ++ codes "}")) ∙ ap (λ x. d ++ (l ++ x)) (sym (append_assoc r o (codes "}")))

    outer : ((((a ++ c) ++ d) ++ l) ++ (r ++ o)) ++ codes "}" ≡ a ++ (c ++ (d ++ (l ++ ((r ++ o) ++ codes "}"))))
    outer = append_assoc (((a ++ c) ++ d) ++ l) (r ++ o) (codes "}") ∙ append_assoc ((a ++ c) ++ d) l ((r ++ o) ++ codes "}") ∙ append_assoc (a ++ c) d (l ++ ((r ++ o) ++ codes "}")) ∙ append_assoc a c (d ++ (l ++ ((r ++ o) ++ codes "}")))

pub joined : (bytes a c d l r o one two : List ℕ) → bytes ≡ a ++ one → one ≡ c ++ two → two ≡ ((d ++ l) ++ r) ++ (o ++ codes "}") → bytes ≡ ((((a ++ c) ++ d) ++ l) ++ (r ++ o)) ++ codes "}"
joined bytes a c d l r o one two first second third = first ∙ ap (λ x. a ++ x) (second ∙ ap (λ x. c ++ x) third) ∙ sym (nested a c d l r o)
