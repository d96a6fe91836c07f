-- Names, taken apart.
use Rattle.std.proofs.Common.{◌≡◌, ◌≤◌, ◌<◌, ◌+◌, ℕ, zero, suc, List, [], ◌∷◌, length, drop, get_or, Bool, true, false, not, ◌||◌, Some, None, IsUtf8, refl, ap, sym, ◌∙◌, subst, arith, add-one}
use Rattle.std.specs.Prelude.{if◌then◌else◌, ◌==◌}
use Rattle.std.specs.Str.{IsCharBoundary}
use Rattle.std.specs.List.{prefix_len, list_any}
use Rattle.std.proofs.lemmas.Str.{IsCharBoundary-start, IsCharBoundary-after_ascii}
use Rattle.std.proofs.lemmas.List.Sums.{prefix_len_passes, prefix_len-le-length}
use Rattle.std.proofs.lemmas.List.Folds.{length-prefix_len}
use Rattle.std.proofs.lemmas.Bool.Decides.{nat_tests}
use Rattle.gd_grammar.proofs.Steps.{some_same, not_some}
use Rattle.gd_defs.specs.Ids.{is_key_byte}
use Rattle.gd_defs.specs.Query.Names.{is_colon, label_fits, behind_label, word_front, Operator, operator_of, name_of, may_be_word, behind_mark, is_marked}

none_passes : (p : ℕ → Bool) (xs : List ℕ) → prefix_len (λ x. not (p x)) xs ≡ length xs → list_any p xs ≡ false
none_passes p [] all = refl
none_passes p (x ∷ xs) all = by (p x) refl (λ less. none_passes p xs less)
  where
    past : 0 ≡ suc (length xs) → ⊥
    past e = omega arith

    fewer : 1 + prefix_len (λ x. not (p x)) xs ≡ suc (length xs) → prefix_len (λ x. not (p x)) xs ≡ length xs
    fewer e = omega arith

    by : (b : Bool) → p x ≡ b → (prefix_len (λ x. not (p x)) xs ≡ length xs → list_any p xs ≡ false) → list_any p (x ∷ xs) ≡ false
    by true is rest = absurd (past (rw is at all))
    by false is rest = rw is (rest (fewer (rw is at all)))

-- a name without a colon has no label
pub unlabelled : (name : List ℕ) → prefix_len (λ b. not (b == 58)) name ≡ length name → Some name ≡ (if label_fits name then Some (behind_label name) else None)
unlabelled name all = let none : list_any is_colon name ≡ false = none_passes is_colon name all in rw none refl

-- the bytes of words are ASCII
word_byte_small : (c : ℕ) → (is_key_byte c || c == 47 || c == 42) ≡ true → c < 128
word_byte_small c is = grind (arith, nat_tests)

abbrev is_word_byte : ℕ → Bool
is_word_byte c = is_key_byte c || c == 47 || c == 42

-- a text may be cut behind the front of a word
pub word_cut : (text : List ℕ) (n : ℕ) → IsUtf8 text → n ≡ length (word_front text) → IsCharBoundary text n
word_cut text n utf8 is = by n (is ∙ length-prefix_len is_word_byte text)
  where
    by : (n : ℕ) → n ≡ prefix_len is_word_byte text → IsCharBoundary text n
    by zero is = IsCharBoundary-start text utf8
    by (suc m) is =
        let bound : prefix_len is_word_byte text ≤ length text = prefix_len-le-length is_word_byte text in
        let small : get_or text m 0 < 128 = word_byte_small (get_or text m 0) (prefix_len_passes is_word_byte text m 0 (omega arith)) in
        subst (IsCharBoundary text) (add-one m) (IsCharBoundary-after_ascii text m utf8 (omega arith) small)

-- what a text with a well-formed label spells
well_labelled : (text : List ℕ) (o : Operator) (b : Bool) → label_fits text ≡ true
    → operator_of (drop (length (word_front (behind_mark (behind_label text)))) (behind_mark (behind_label text))) ≡ Some o
    → may_be_word (is_marked (behind_label text)) (word_front (behind_mark (behind_label text))) ≡ b
    → (if b then Some (record { spelled = text; reversed = is_marked (behind_label text); word = word_front (behind_mark (behind_label text)); operator = o }) else None) ≡ name_of text
well_labelled text o true fits operator may = rw (operator, fits, may) refl
well_labelled text o false fits operator may = rw (operator, fits, may) refl

-- a name, from its parts
pub named : (text behind rest word end : List ℕ) (marked : Bool) (o : Operator) (b : Bool) → Some behind ≡ (if label_fits text then Some (behind_label text) else None)
    → marked ≡ is_marked behind → rest ≡ behind_mark behind → word ≡ word_front rest → end ≡ drop (length (word_front rest)) rest → Some o ≡ operator_of end → may_be_word marked word ≡ b
    → (if b then Some (record { spelled = text; reversed = marked; word = word; operator = o }) else None) ≡ name_of text
named text behind rest word end marked o b label marks unmarked front back operator may = by (label_fits text) refl label
  where
    by : (f : Bool) → label_fits text ≡ f → Some behind ≡ (if f then Some (behind_label text) else None)
        → (if b then Some (record { spelled = text; reversed = marked; word = word; operator = o }) else None) ≡ name_of text
    by false off label = not_some behind (sym label)
    by true fits label =
        let body : behind ≡ behind_label text = some_same behind (behind_label text) label in
        let rest_is : rest ≡ behind_mark (behind_label text) = unmarked ∙ ap behind_mark body in
        let word_is : word ≡ word_front (behind_mark (behind_label text)) = front ∙ ap word_front rest_is in
        let marked_is : marked ≡ is_marked (behind_label text) = marks ∙ ap is_marked body in
        let end_is : end ≡ drop (length (word_front (behind_mark (behind_label text)))) (behind_mark (behind_label text)) = back ∙ ap (λ r. drop (length (word_front r)) r) rest_is in
        let may_be : may_be_word (is_marked (behind_label text)) (word_front (behind_mark (behind_label text))) ≡ b = ap (λ m. may_be_word m (word_front (behind_mark (behind_label text)))) (sym marked_is) ∙ (ap (λ w. may_be_word marked w) (sym word_is) ∙ may) in
        rw (marked_is, word_is) (well_labelled text o b fits (ap operator_of (sym end_is) ∙ sym operator) may_be)
