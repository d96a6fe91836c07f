-- Values that print alike are one, where their numbers have 64 bits.
use Rattle.std.proofs.Common.{◌≡◌, ◌∙◌, sym, ap, ap₂, subst, refl, ℕ, ◌<◌, ◌^◌, List, [], ◌∷◌, ◌++◌, Bool, arith, rules, append_assoc, append-nil, ℤ, pos, negsuc}
use Rattle.std.specs.Prelude.{FitsSigned}
use Rattle.std.specs.Int.{w64}
use Rattle.std.specs.Int.Signed.{mag}
use Rattle.std.specs.Fmt.{decimal, signed_decimal}
use Rattle.std.proofs.lemmas.Fmt.{signed_decimal_injective}
use Rattle.json.specs.Token as token
use Rattle.json.specs.Token.{Token}
use Rattle.json.specs.Lex.{tokens}
use Rattle.json.specs.Print.{IsNumber, IsPrintable, ArePrintable}
use Rattle.json.proofs.Printed.Decimals.{IsNumber-signed_decimal}
use Rattle.json.proofs.Printed.Tokens.{tokens-print}
use Rattle.gd_tree.specs.Json.{Json, null, boolean, number, text, list, object, Items, no_items, item, Members, no_members, member, number_text, compact}
use Rattle.gd_tree.specs.Bounds.{IsPlain, ArePlain, MembersPlain}
use Rattle.gd_json.specs.Tokens.{tokens_of, items_tokens, members_tokens}
use Rattle.gd_json.proofs.Printing.{print-tokens_of}

-- ---- numbers

small : (n : ℤ) → FitsSigned w64 n → mag n < 2 ^ 63
small (pos n) fits = search rules
small (negsuc n) fits = search rules

number_signed : (n : ℤ) → number_text n ≡ signed_decimal n
number_signed (pos n) = refl
number_signed (negsuc n) = ap (λ m. 45 ∷ decimal m) (omega arith)

number_told : (m n : ℤ) → FitsSigned w64 m → FitsSigned w64 n → number_text m ≡ number_text n → m ≡ n
number_told m n one other same = signed_decimal_injective m n (small m one) (small n other) (sym (number_signed m) ∙ same ∙ number_signed n)

-- ---- tokens that can be written

none_printable : ArePrintable []
unfolding ArePrintable
none_printable = tt

more_printable : (t : Token) (ts : List Token) → IsPrintable t → ArePrintable ts → ArePrintable (t ∷ ts)
unfolding ArePrintable
more_printable t ts one rest = (one, rest)

module _ (T : List ℕ → Bool) where
  mutual
    printable : (j : Json) (ts : List Token) → IsPlain T j → ArePrintable ts → ArePrintable (tokens_of j ++ ts)
    printable null ts plain rest = more_printable token.null ts tt rest
    printable (boolean b) ts plain rest = more_printable (token.boolean b) ts tt rest
    printable (number n) ts plain rest = more_printable (token.number (number_text n)) ts (subst IsNumber (sym (number_signed n)) (IsNumber-signed_decimal n (small n plain))) rest
    printable (text t) ts plain rest = more_printable (token.string t) ts tt rest
    printable (list js) ts plain rest = more_printable token.begin_array (items_tokens js ++ ts) tt (items_printable js ts plain rest)
    printable (object ms) ts plain rest = more_printable token.begin_object (members_tokens ms ++ ts) tt (members_printable ms ts plain rest)

    items_printable : (js : Items) (ts : List Token) → ArePlain T js → ArePrintable ts → ArePrintable (items_tokens js ++ ts)
    items_printable no_items ts plain rest = more_printable token.end_array ts tt rest
    items_printable (item j js) ts plain rest =
        subst ArePrintable (sym (append_assoc (tokens_of j) (items_tokens js) ts)) (printable j (items_tokens js ++ ts) plain.0 (items_printable js ts plain.1 rest))

    members_printable : (ms : Members) (ts : List Token) → MembersPlain T ms → ArePrintable ts → ArePrintable (members_tokens ms ++ ts)
    members_printable no_members ts plain rest = more_printable token.end_object ts tt rest
    members_printable (member k j ms) ts plain rest =
        more_printable (token.key k) ((tokens_of j ++ members_tokens ms) ++ ts) tt
        (subst ArePrintable (sym (append_assoc (tokens_of j) (members_tokens ms) ts)) (printable j (members_tokens ms ++ ts) plain.0 (members_printable ms ts plain.1 rest)))

  -- the tokens of a value are read back from its text
  read_back : (j : Json) → IsPlain T j → tokens (compact j) ≡ tokens_of j
  read_back j plain =
      ap tokens (sym (print-tokens_of j)) ∙ tokens-print (tokens_of j) (subst ArePrintable (append-nil (tokens_of j)) (printable j [] plain none_printable))

  -- ---- and tell it

  head_told : {s t : Token} {x y : List Token} → s ∷ x ≡ t ∷ y → s ≡ t
  head_told is = cc

  rest_told : {s t : Token} {x y : List Token} → s ∷ x ≡ t ∷ y → x ≡ y
  rest_told is = cc

  number_same : {s t : List ℕ} → token.number s ≡ token.number t → s ≡ t
  number_same is = cc

  text_same : {s t : List ℕ} → token.string s ≡ token.string t → s ≡ t
  text_same is = cc

  boolean_same : {b c : Bool} → token.boolean b ≡ token.boolean c → b ≡ c
  boolean_same is = cc

  key_same : {s t : List ℕ} → token.key s ≡ token.key t → s ≡ t
  key_same is = cc

  -- no value begins with the end of a list or of an object
  no_end : (j : Json) (x y : List Token) → token.end_array ∷ x ≡ tokens_of j ++ y → ⊥
  no_end null x y is = cc
  no_end (boolean b) x y is = cc
  no_end (number n) x y is = cc
  no_end (text t) x y is = cc
  no_end (list js) x y is = cc
  no_end (object ms) x y is = cc

  mutual
    told : (a b : Json) (x y : List Token) → IsPlain T a → IsPlain T b → tokens_of a ++ x ≡ tokens_of b ++ y → (a ≡ b) × (x ≡ y)
    told null null x y p q is = (refl, rest_told is)
    told null (boolean b) x y p q is = absurd (cc)
    told null (number n) x y p q is = absurd (cc)
    told null (text t) x y p q is = absurd (cc)
    told null (list js) x y p q is = absurd (cc)
    told null (object ms) x y p q is = absurd (cc)
    told (boolean b) null x y p q is = absurd (cc)
    told (boolean b) (boolean c) x y p q is = (ap boolean (boolean_same (head_told is)), rest_told is)
    told (boolean b) (number n) x y p q is = absurd (cc)
    told (boolean b) (text t) x y p q is = absurd (cc)
    told (boolean b) (list js) x y p q is = absurd (cc)
    told (boolean b) (object ms) x y p q is = absurd (cc)
    told (number m) null x y p q is = absurd (cc)
    told (number m) (boolean c) x y p q is = absurd (cc)
    told (number m) (number n) x y p q is = (ap number (number_told m n p q (number_same (head_told is))), rest_told is)
    told (number m) (text t) x y p q is = absurd (cc)
    told (number m) (list js) x y p q is = absurd (cc)
    told (number m) (object ms) x y p q is = absurd (cc)
    told (text s) null x y p q is = absurd (cc)
    told (text s) (boolean c) x y p q is = absurd (cc)
    told (text s) (number n) x y p q is = absurd (cc)
    told (text s) (text t) x y p q is = (ap text (text_same (head_told is)), rest_told is)
    told (text s) (list js) x y p q is = absurd (cc)
    told (text s) (object ms) x y p q is = absurd (cc)
    told (list js) null x y p q is = absurd (cc)
    told (list js) (boolean c) x y p q is = absurd (cc)
    told (list js) (number n) x y p q is = absurd (cc)
    told (list js) (text t) x y p q is = absurd (cc)
    told (list js) (list ks) x y p q is = let both = items_told js ks x y p q (rest_told is) in (ap list both.0, both.1)
    told (list js) (object ms) x y p q is = absurd (cc)
    told (object ms) null x y p q is = absurd (cc)
    told (object ms) (boolean c) x y p q is = absurd (cc)
    told (object ms) (number n) x y p q is = absurd (cc)
    told (object ms) (text t) x y p q is = absurd (cc)
    told (object ms) (list ks) x y p q is = absurd (cc)
    told (object ms) (object ns) x y p q is = let both = members_told ms ns x y p q (rest_told is) in (ap object both.0, both.1)

    items_told : (js ks : Items) (x y : List Token) → ArePlain T js → ArePlain T ks → items_tokens js ++ x ≡ items_tokens ks ++ y → (js ≡ ks) × (x ≡ y)
    items_told no_items no_items x y p q is = (refl, rest_told is)
    items_told no_items (item k ks) x y p q is = absurd (no_end k x (items_tokens ks ++ y) (is ∙ append_assoc (tokens_of k) (items_tokens ks) y))
    items_told (item j js) no_items x y p q is = absurd (no_end j y (items_tokens js ++ x) (sym is ∙ append_assoc (tokens_of j) (items_tokens js) x))
    items_told (item j js) (item k ks) x y p q is =
        let one = told j k (items_tokens js ++ x) (items_tokens ks ++ y) p.0 q.0 (sym (append_assoc (tokens_of j) (items_tokens js) x) ∙ is ∙ append_assoc (tokens_of k) (items_tokens ks) y) in
        let rest = items_told js ks x y p.1 q.1 one.1 in
        (ap₂ item one.0 rest.0, rest.1)

    members_told : (ms ns : Members) (x y : List Token) → MembersPlain T ms → MembersPlain T ns → members_tokens ms ++ x ≡ members_tokens ns ++ y → (ms ≡ ns) × (x ≡ y)
    members_told no_members no_members x y p q is = (refl, rest_told is)
    members_told no_members (member l k ns) x y p q is = absurd (cc)
    members_told (member k j ms) no_members x y p q is = absurd (cc)
    members_told (member k j ms) (member l i ns) x y p q is =
        let one = told j i (members_tokens ms ++ x) (members_tokens ns ++ y) p.0 q.0 (sym (append_assoc (tokens_of j) (members_tokens ms) x) ∙ rest_told is ∙ append_assoc (tokens_of i) (members_tokens ns) y) in
        let rest = members_told ms ns x y p.1 q.1 one.1 in
        let names : k ≡ l = key_same (head_told is) in
        let values : j ≡ i = one.0 in
        let others : ms ≡ ns = rest.0 in
        (cc (names, values, others), rest.1)

  -- values that print alike are one
  pub printed_same : (a b : Json) → IsPlain T a → IsPlain T b → compact a ≡ compact b → a ≡ b
  printed_same a b p q same =
      (told a b [] [] p q (append-nil (tokens_of a) ∙ sym (read_back a p) ∙ ap tokens same ∙ read_back b q ∙ sym (append-nil (tokens_of b)))).0
