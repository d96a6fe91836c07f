-- What the crate json writes for a tree is the tree's compact text.
use Rattle.std.proofs.Common.{◌≡◌, ℕ, List, [], ◌∷◌, ◌++◌, Bool, true, false, flat_map, refl, sym, ap, ap₂, ◌∙◌, append_assoc, append-nil, arith}
use Rattle.std.proofs.lemmas.Bool.Decides.{nat_tests}
use Rattle.json.specs.Token.{Token}
use Rattle.json.specs.Print as print
use Rattle.json.specs.Print.{print_from, escape_byte, escape}
use Rattle.gd_tree.specs.Json.{Json, null, boolean, number, text, list, object, Items, no_items, item, Members, no_members, member, escaped, quoted, compact, more_items, more_members}
use Rattle.gd_json.specs.Tokens.{tokens_of, items_tokens, members_tokens}

escape_byte_is : (c : ℕ) → escape_byte c ≡ escaped c
unfolding escape_byte
escape_byte_is c = grind (arith, nat_tests)

escape_is : (s : List ℕ) → escape s ≡ flat_map escaped s
escape_is [] = refl
escape_is (c ∷ s) = ap₂ (λ x y. x ++ y) (escape_byte_is c) (escape_is s)

quoted_is : (s : List ℕ) → print.quoted s ≡ quoted s
quoted_is s = ap (λ x. 34 ∷ (x ++ 34 ∷ [])) (escape_is s)

-- a comma, where a value stands before
comma_if : Bool → List ℕ
comma_if true = 44 ∷ []
comma_if false = []

closed : (a b : List ℕ) (c : ℕ) (r : List ℕ) → a ++ (b ++ c ∷ r) ≡ ((a ++ b) ++ c ∷ []) ++ r
closed a b c r = simp append_assoc

named : (k a b : List ℕ) (r : List ℕ) → (k ++ 58 ∷ []) ++ (a ++ (b ++ r)) ≡ (((k ++ 58 ∷ []) ++ a) ++ b) ++ r
named k a b r = simp append_assoc

-- a member and those behind it, with the closing bracket
print_member : (k : List ℕ) (j : Json) (ms : Members) (ts : List Token)
    → print_from false (tokens_of j ++ (members_tokens ms ++ ts)) ≡ compact j ++ print_from true (members_tokens ms ++ ts)
    → print_from true (members_tokens ms ++ ts) ≡ more_members ms ++ 125 ∷ print_from true ts
    → print_from false (members_tokens (member k j ms) ++ ts) ≡ (((quoted k ++ 58 ∷ []) ++ compact j) ++ more_members ms) ++ 125 ∷ print_from true ts
unfolding print_from
print_member k j ms ts value more =
    ap₂ (λ s t. (s ++ 58 ∷ []) ++ t) (quoted_is k)
    (ap (print_from false) (append_assoc (tokens_of j) (members_tokens ms) ts) ∙ value ∙ ap (λ s. compact j ++ s) more)
    ∙ named (quoted k) (compact j) (more_members ms) (125 ∷ print_from true ts)

mutual
  unfolding print_from comma_if

  print_value : (later : Bool) (j : Json) (ts : List Token) → print_from later (tokens_of j ++ ts) ≡ comma_if later ++ (compact j ++ print_from true ts)
  print_value true null ts = refl
  print_value false null ts = refl
  print_value true (boolean true) ts = refl
  print_value false (boolean true) ts = refl
  print_value true (boolean false) ts = refl
  print_value false (boolean false) ts = refl
  print_value true (number n) ts = refl
  print_value false (number n) ts = refl
  print_value true (text t) ts = ap (λ s. 44 ∷ (s ++ print_from true ts)) (quoted_is t)
  print_value false (text t) ts = ap (λ s. s ++ print_from true ts) (quoted_is t)
  print_value true (list js) ts = ap (λ s. 44 ∷ s) (print_list js ts)
  print_value false (list js) ts = print_list js ts
  print_value true (object ms) ts = ap (λ s. 44 ∷ s) (print_object ms ts)
  print_value false (object ms) ts = print_object ms ts

  print_list : (js : Items) (ts : List Token) → 91 ∷ print_from false (items_tokens js ++ ts) ≡ compact (list js) ++ print_from true ts
  print_list no_items ts = refl
  print_list (item j js) ts =
      ap (λ s. 91 ∷ s) (ap (print_from false) (append_assoc (tokens_of j) (items_tokens js) ts) ∙ print_value false j (items_tokens js ++ ts)
      ∙ ap (λ s. compact j ++ s) (print_more_items js ts) ∙ closed (compact j) (more_items js) 93 (print_from true ts))

  print_object : (ms : Members) (ts : List Token) → 123 ∷ print_from false (members_tokens ms ++ ts) ≡ compact (object ms) ++ print_from true ts
  print_object no_members ts = refl
  print_object (member k j ms) ts =
      ap (λ s. 123 ∷ s) (print_member k j ms ts (print_value false j (members_tokens ms ++ ts)) (print_more_members ms ts)
      ∙ sym (append_assoc (((quoted k ++ 58 ∷ []) ++ compact j) ++ more_members ms) (125 ∷ []) (print_from true ts)))

  -- the items behind the first, with the closing bracket
  print_more_items : (js : Items) (ts : List Token) → print_from true (items_tokens js ++ ts) ≡ more_items js ++ 93 ∷ print_from true ts
  print_more_items no_items ts = refl
  print_more_items (item j js) ts =
      ap (print_from true) (append_assoc (tokens_of j) (items_tokens js) ts) ∙ print_value true j (items_tokens js ++ ts)
      ∙ ap (λ s. 44 ∷ (compact j ++ s)) (print_more_items js ts) ∙ ap (λ s. 44 ∷ s) (sym (append_assoc (compact j) (more_items js) (93 ∷ print_from true ts)))

  -- the members behind the first, with the closing bracket
  print_more_members : (ms : Members) (ts : List Token) → print_from true (members_tokens ms ++ ts) ≡ more_members ms ++ 125 ∷ print_from true ts
  print_more_members no_members ts = refl
  print_more_members (member k j ms) ts = ap (λ s. 44 ∷ s) (print_member k j ms ts (print_value false j (members_tokens ms ++ ts)) (print_more_members ms ts))

pub print-tokens_of : (j : Json) → print.print (tokens_of j) ≡ compact j
unfolding print_from comma_if
print-tokens_of j = ap print.print (sym (append-nil (tokens_of j))) ∙ print_value false j [] ∙ append-nil (compact j)
