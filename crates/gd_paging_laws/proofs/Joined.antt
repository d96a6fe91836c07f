-- Items that are joined print what their parts print.
use Rattle.std.proofs.Common.{◌≡◌, ℕ, List, [], ◌∷◌, ◌++◌, Result, Ok, Err, codes, refl, sym, ap, append_assoc, ◌∙◌}
use Rattle.std.proofs.lemmas.List.{append_cancel_right}
use Rattle.gd_grammar.specs.Chain.{◌>>=◌}
use Rattle.gd_grammar.proofs.Steps.{ok_same}
use Rattle.gd_tree.specs.Json.{Json, list, Items, no_items, item, compact, more_items}
use Rattle.gd_defs.specs.Rows.{Row}
use Rattle.gd_defs.specs.Reply.{Path, each_row}
use Rattle.gd_paging_laws.specs.Paged.{append}
use Rattle.gd_paging_laws.proofs.Bytes.{tail_same}
use Rattle.gd_paging_laws.proofs.Told.{compact_first}

-- the text of items between the brackets of their list
abbrev pub inner : Items → List ℕ
inner no_items = []
inner (item j js) = compact j ++ more_items js

list_text : (js : Items) → compact (list js) ≡ 91 ∷ (inner js ++ 93 ∷ [])
list_text no_items = refl
list_text (item j js) = refl

pub inner_same : (js ks : Items) → compact (list js) ≡ compact (list ks) → inner js ≡ inner ks
inner_same js ks same = append_cancel_right (inner js) (inner ks) (93 ∷ []) (tail_same (sym (list_text js) ∙ same ∙ list_text ks))

pub list_same : (js ks : Items) → inner js ≡ inner ks → compact (list js) ≡ compact (list ks)
list_same js ks same = list_text js ∙ ap (λ l. 91 ∷ (l ++ 93 ∷ [])) same ∙ sym (list_text ks)

-- further items print a comma and then what they print
more_same : (js ks : Items) → inner js ≡ inner ks → more_items js ≡ more_items ks
more_same no_items no_items same = refl
more_same no_items (item k ks) same = let first = compact_first k in let none : [] ≡ first.0 ∷ (first.1 ++ more_items ks) = same ∙ ap (λ l. l ++ more_items ks) first.2 in absurd (cc)
more_same (item j js) no_items same = let first = compact_first j in let none : first.0 ∷ (first.1 ++ more_items js) ≡ [] = sym (ap (λ l. l ++ more_items js) first.2) ∙ same in absurd (cc)
more_same (item j js) (item k ks) same =
    append_assoc (codes ",") (compact j) (more_items js) ∙ ap (λ l. 44 ∷ l) same ∙ sym (append_assoc (codes ",") (compact k) (more_items ks))

more_append : (js ks : Items) → more_items (append js ks) ≡ more_items js ++ more_items ks
more_append no_items ks = refl
more_append (item j js) ks = ap (λ l. codes "," ++ compact j ++ l) (more_append js ks) ∙ sym (append_assoc (codes "," ++ compact j) (more_items js) (more_items ks))

-- what items and then others print is told by what each print
pub append_same : (a b c d : Items) → inner a ≡ inner c → inner b ≡ inner d → inner (append a b) ≡ inner (append c d)
append_same no_items b no_items d one two = two
append_same no_items b (item k ks) d one two = let first = compact_first k in let none : [] ≡ first.0 ∷ (first.1 ++ more_items ks) = one ∙ ap (λ l. l ++ more_items ks) first.2 in absurd (cc)
append_same (item j js) b no_items d one two = let first = compact_first j in let none : first.0 ∷ (first.1 ++ more_items js) ≡ [] = sym (ap (λ l. l ++ more_items js) first.2) ∙ one in absurd (cc)
append_same (item j js) b (item k ks) d one two =
    let left : inner (append (item j js) b) ≡ inner (item j js) ++ more_items b = ap (λ l. compact j ++ l) (more_append js b) ∙ sym (append_assoc (compact j) (more_items js) (more_items b)) in
    let right : inner (append (item k ks) d) ≡ inner (item k ks) ++ more_items d = ap (λ l. compact k ++ l) (more_append ks d) ∙ sym (append_assoc (compact k) (more_items ks) (more_items d)) in
    left ∙ ap (λ l. l ++ more_items b) one ∙ ap (λ l. inner (item k ks) ++ l) (more_same b d two) ∙ sym right

pub append_none : (js : Items) → append js no_items ≡ js
append_none no_items = refl
append_none (item j js) = ap (item j) (append_none js)

-- rows print what their parts print
pub rows_append : (f : Row → Result Json Path) (rs ss : List Row) (js ks : Items) → each_row f rs ≡ Ok js → each_row f ss ≡ Ok ks → each_row f (rs ++ ss) ≡ Ok (append js ks)
rows_append f [] ss js ks one two = two ∙ ap (λ (l : Items). Ok (append l ks)) (ok_same no_items js one)
rows_append f (r ∷ rs) ss js ks one two = by (f r) (each_row f rs) (λ more is. rows_append f rs ss more ks is two) refl refl one
  where
    by : (x : Result Json Path) (xs : Result Items Path) → ((more : Items) → each_row f rs ≡ Ok more → each_row f (rs ++ ss) ≡ Ok (append more ks)) → f r ≡ x → each_row f rs ≡ xs → (x >>= λ j. xs >>= λ js. Ok (item j js)) ≡ Ok js → each_row f (r ∷ rs ++ ss) ≡ Ok (append js ks)
    by (Ok j) (Ok more) later here rest is =
        ap (λ x. x >>= λ j. each_row f (rs ++ ss) >>= λ js. Ok (item j js)) here ∙ ap (λ (xs : Result Items Path). xs >>= λ js. Ok (item j js)) (later more rest)
        ∙ ap (λ (l : Items). Ok (append l ks)) (ok_same (item j more) js is)
    by (Ok j) (Err path) later here rest is = absurd (cc)
    by (Err path) xs later here rest is = absurd (cc)
