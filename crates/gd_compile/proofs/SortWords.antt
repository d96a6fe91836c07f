-- The sort words of a clause, one by one: four at most.
use Rattle.std.proofs.Common.{◌≡◌, ◌≤◌, ◌<◌, ℕ, zero, suc, ◌+◌, List, [], ◌∷◌, ◌++◌, drop, length, Bool, true, false, Option, Some, None, Result, Ok, Err, refl, sym, ap, ◌∙◌, add-one, drop-cons, append_assoc, arith}
use Rattle.std.specs.Prelude.{option_map, unwrap_or, slice_get, if◌then◌else◌}
use Rattle.std.specs.Int.{is_in_range}
use Rattle.std.proofs.lemmas.List.{drop_all, append-nil}
use Rattle.std.proofs.lemmas.Option.{slice_get_within, get_or_from_slice_get}
use Rattle.gd_grammar.specs.Maybe.{◌>>=◌ as ◌>>?◌}
use Rattle.gd_grammar.specs.Chain.{◌>>=◌}
use Rattle.gd_prim.specs.declared.Primitive.{Primitive}
use Rattle.gd_tree.specs.Json.{Json, null, boolean, number, text, list, object, Items, no_items, item}
use Rattle.gd_tree.specs.Look.{items_len}
use Rattle.gd_defs.specs.Query.{SortWord, sort_of}
use Rattle.gd_defs.specs.Query.Directive.{sort_word, sort_words}
use Rattle.gd_defs.specs.Asked as defs
use Rattle.gd_json.specs.View.{view}
use Rattle.gd_mql.specs.declared.clause.SortWords.{SortWords}
use Rattle.gd_mql.specs.Clauses.{sort_view}

-- no more words than items
word_few : (o : Option SortWord) (ws : Option (List SortWord)) (n : ℕ) → length (unwrap_or ws []) ≤ n → length (unwrap_or (o >>? λ w. option_map (λ more. w ∷ more) ws) []) ≤ suc n
word_few None ws n few = omega arith
word_few (Some w) None n few = omega arith
word_few (Some w) (Some ws) n few = omega (arith, few)

words_few : (js : Items) → length (unwrap_or (sort_words js) []) ≤ items_len js
words_few no_items = omega arith
words_few (item (text t) js) = word_few (sort_word t) (sort_words js) (items_len js) (words_few js)
words_few (item null js) = omega arith
words_few (item (boolean b) js) = omega arith
words_few (item (number m) js) = omega arith
words_few (item (list is) js) = omega arith
words_few (item (object ms) js) = omega arith

one_few : (o : Option SortWord) → length (unwrap_or (option_map (λ w. w ∷ []) o) []) ≤ 4
one_few None = omega arith
one_few (Some w) = omega arith

list_few : (js : Items) (b : Bool) → is_in_range 1 4 (items_len js) ≡ b → length (unwrap_or (if b then sort_words js else None) []) ≤ 4
list_few js true is = let few = words_few js in grind arith
list_few js false is = omega arith

sort_few : (j : Json) → length (unwrap_or (sort_of j) []) ≤ 4
sort_few null = omega arith
sort_few (boolean b) = omega arith
sort_few (number m) = omega arith
sort_few (text t) = one_few (sort_word t)
sort_few (list js) = list_few js (is_in_range 1 4 (items_len js)) refl
sort_few (object ms) = omega arith

pub few_words : (w : SortWords) → length (sort_view w) ≤ 4
few_words w = sort_few (view w.spelled.now)

-- a word stands before those behind it
pub word_there : (ws : List SortWord) (i : ℕ) (w : SortWord) → Some w ≡ slice_get ws i → drop i ws ≡ w ∷ drop (i + 1) ws
word_there ws i w is =
    let within : i < length ws = slice_get_within ws i w (sym is) in
    rw (add-one, drop-cons ws i w) (ap (λ y. y ∷ drop (suc i) ws) (get_or_from_slice_get ws i w w (sym is)))

-- past the last word there is none
pub none_left : (ws : List SortWord) (i : ℕ) → None ≡ slice_get ws i → drop i ws ≡ []
none_left [] i is = drop_all i [] (omega arith)
none_left (w ∷ ws) zero is = cc
none_left (w ∷ ws) (suc i) is = none_left ws i is

-- a key behind those before it
keys_more : (r : Result (List defs.SortKey) defs.Unknown) (before : List defs.SortKey) (k : defs.SortKey)
    → ((r >>= λ ks. Ok (k ∷ ks)) >>= λ ks. Ok (before ++ ks)) ≡ (r >>= λ ks. Ok ((before ++ k ∷ []) ++ ks))
keys_more (Err e) before k = refl
keys_more (Ok ks) before k = ap Ok (sym (append_assoc before (k ∷ []) ks))

-- the keys of the words from an index on, behind those before it: one word more, or none more
pub key_taken : (prims : List Primitive) (context : Option ℕ) (path : List (List ℕ)) (ws : List SortWord) (i : ℕ) (w : SortWord) (before after : List defs.SortKey) (k : defs.SortKey) (all : Result (List defs.SortKey) defs.Unknown)
    → all ≡ (defs.sort_keys prims context path (drop i ws) >>= λ ks. Ok (before ++ ks)) → Some w ≡ slice_get ws i → defs.sort_key prims context path w ≡ Ok k → after ≡ before ++ k ∷ []
    → all ≡ (defs.sort_keys prims context path (drop (i + 1) ws) >>= λ ks. Ok (after ++ ks))
key_taken prims context path ws i w before after k all left is found grown =
    left ∙ (ap (λ (more : List SortWord). defs.sort_keys prims context path more >>= λ ks. Ok (before ++ ks)) (word_there ws i w is)
    ∙ (ap (λ (key : Result defs.SortKey defs.Unknown). (key >>= λ k. defs.sort_keys prims context path (drop (i + 1) ws) >>= λ ks. Ok (k ∷ ks)) >>= λ ks. Ok (before ++ ks)) found
    ∙ (keys_more (defs.sort_keys prims context path (drop (i + 1) ws)) before k
    ∙ ap (λ (front : List defs.SortKey). defs.sort_keys prims context path (drop (i + 1) ws) >>= λ ks. Ok (front ++ ks)) (sym grown))))

pub key_refused : (prims : List Primitive) (context : Option ℕ) (path : List (List ℕ)) (ws : List SortWord) (i : ℕ) (w : SortWord) (before : List defs.SortKey) (e : defs.Unknown) (all : Result (List defs.SortKey) defs.Unknown)
    → all ≡ (defs.sort_keys prims context path (drop i ws) >>= λ ks. Ok (before ++ ks)) → Some w ≡ slice_get ws i → defs.sort_key prims context path w ≡ Err e
    → all ≡ Err e
key_refused prims context path ws i w before e all left is found =
    left ∙ (ap (λ (more : List SortWord). defs.sort_keys prims context path more >>= λ ks. Ok (before ++ ks)) (word_there ws i w is)
    ∙ ap (λ (key : Result defs.SortKey defs.Unknown). (key >>= λ k. defs.sort_keys prims context path (drop (i + 1) ws) >>= λ ks. Ok (k ∷ ks)) >>= λ ks. Ok (before ++ ks)) found)

pub keys_end : (prims : List Primitive) (context : Option ℕ) (path : List (List ℕ)) (ws : List SortWord) (i : ℕ) (before : List defs.SortKey) (all : Result (List defs.SortKey) defs.Unknown)
    → all ≡ (defs.sort_keys prims context path (drop i ws) >>= λ ks. Ok (before ++ ks)) → None ≡ slice_get ws i → all ≡ Ok before
keys_end prims context path ws i before all left is =
    left ∙ (ap (λ (more : List SortWord). defs.sort_keys prims context path more >>= λ ks. Ok (before ++ ks)) (none_left ws i is) ∙ ap Ok (append-nil before))
