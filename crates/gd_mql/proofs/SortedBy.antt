-- The sort words of a clause, one by one.
use Rattle.std.proofs.Common.{◌≡◌, ◌<◌, ℕ, zero, suc, List, [], ◌∷◌, Bool, true, false, Option, Some, None, is_some, refl, sym, ap, ◌∙◌, arith}
use Rattle.std.specs.Prelude.{option_map, option_and_then, unwrap_or, if◌then◌else◌, slice_get}
use Rattle.std.specs.Int.{is_in_range}
use Rattle.gd_grammar.proofs.Steps.{some_same}
use Rattle.gd_tree.specs.Json.{Json, null, boolean, number, text, list, object, Items, no_items, item}
use Rattle.gd_tree.specs.Look.{at, item_of, text_of, items_len}
use Rattle.gd_defs.specs.Query.{SortWord, sort_of}
use Rattle.gd_defs.specs.Query.Directive.{sort_word, sort_words}

-- the word that an item is
abbrev pub word_of : Json → Option SortWord
word_of j = option_and_then sort_word (text_of j)

-- words of a list, one in front of the others
cons_words : (j : Json) (js : Items) (ws : List SortWord) → sort_words (item j js) ≡ Some ws → (w : SortWord) × (vs : List SortWord) × (word_of j ≡ Some w) × (sort_words js ≡ Some vs) × (ws ≡ w ∷ vs)
cons_words null js ws is = cc
cons_words (boolean b) js ws is = cc
cons_words (number n) js ws is = cc
cons_words (list is) js ws e = cc
cons_words (object ms) js ws is = cc
cons_words (text t) js ws is = by (sort_word t) (sort_words js) refl refl is
  where
    by : (o : Option SortWord) (p : Option (List SortWord)) → sort_word t ≡ o → sort_words js ≡ p → option_and_then (λ w. option_map (λ ws. w ∷ ws) p) o ≡ Some ws
        → (w : SortWord) × (vs : List SortWord) × (sort_word t ≡ Some w) × (sort_words js ≡ Some vs) × (ws ≡ w ∷ vs)
    by (Some w) (Some vs) o_is p_is is = (w, vs, o_is, p_is, sym (some_same (w ∷ vs) ws is))
    by (Some w) None o_is p_is is = cc
    by None p o_is p_is is = cc

words_at : (js : Items) (ws : List SortWord) (i : ℕ) → sort_words js ≡ Some ws → slice_get ws i ≡ option_and_then word_of (at i js)
words_at no_items ws i is = ap (λ (ws : List SortWord). slice_get ws i) (sym (some_same [] ws is))
words_at (item j js) ws zero is = let parts = cons_words j js ws is in ap (λ (ws : List SortWord). slice_get ws zero) parts.4 ∙ sym parts.2
words_at (item j js) ws (suc i) is = let parts = cons_words j js ws is in ap (λ (ws : List SortWord). slice_get ws (suc i)) parts.4 ∙ words_at js parts.1 i parts.3

unwrapped : (o : Option (List SortWord)) → is_some o ≡ true → o ≡ Some (unwrap_or o [])
unwrapped (Some ws) is = refl
unwrapped None is = cc

in_list : (b : Bool) (o : Option (List SortWord)) (ws : List SortWord) → (if b then o else None) ≡ Some ws → o ≡ Some ws
in_list true o ws is = is
in_list false o ws is = cc

-- a text is the only word
pub text_word : (j : Json) (t : List ℕ) → is_some (sort_of j) ≡ true → Some t ≡ text_of j → sort_word t ≡ slice_get (unwrap_or (sort_of j) []) 0
text_word null t is there = cc
text_word (boolean b) t is there = cc
text_word (number n) t is there = cc
text_word (list js) t is there = cc
text_word (object ms) t is there = cc
text_word (text u) t is there = ap sort_word (some_same t u there) ∙ by (sort_word u) is
  where
    by : (o : Option SortWord) → is_some (option_map (λ w. w ∷ []) o) ≡ true → o ≡ slice_get (unwrap_or (option_map (λ w. w ∷ []) o) []) 0
    by (Some w) is = refl
    by None is = cc

pub text_end : (j : Json) (t : List ℕ) (i : ℕ) → is_some (sort_of j) ≡ true → Some t ≡ text_of j → 0 < i → None ≡ slice_get (unwrap_or (sort_of j) []) i
text_end null t i is there past = cc
text_end (boolean b) t i is there past = cc
text_end (number n) t i is there past = cc
text_end (list js) t i is there past = cc
text_end (object ms) t i is there past = cc
text_end (text u) t zero is there past = absurd (omega arith)
text_end (text u) t (suc i) is there past = by (sort_word u) is
  where
    by : (o : Option SortWord) → is_some (option_map (λ w. w ∷ []) o) ≡ true → None ≡ slice_get (unwrap_or (option_map (λ w. w ∷ []) o) []) (suc i)
    by (Some w) is = refl
    by None is = cc

-- the words of a list are those of its items
pub item_word : (j : Json) (i : ℕ) → is_some (sort_of j) ≡ true → None ≡ text_of j → option_and_then word_of (item_of i j) ≡ slice_get (unwrap_or (sort_of j) []) i
item_word null i is none = cc
item_word (boolean b) i is none = cc
item_word (number n) i is none = cc
item_word (text t) i is none = cc
item_word (object ms) i is none = cc
item_word (list js) i is none =
    sym (words_at js (unwrap_or (sort_of (list js)) []) i (in_list (is_in_range 1 4 (items_len js)) (sort_words js) (unwrap_or (sort_of (list js)) []) (unwrapped (sort_of (list js)) is)))
