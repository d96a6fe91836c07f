-- The strings and keys of the JSON that a text in UTF-8 is are UTF-8.
use Rattle.std.proofs.Common.{◌≡◌, ℕ, zero, suc, List, [], ◌∷◌, length, true, Option, Some, None, refl, subst}
use Rattle.std.specs.Prelude.{option_and_then}
use Rattle.std.specs.Str.{is_utf8, IsUtf8}
use Rattle.std.proofs.lemmas.Str.{is_utf8-from_IsUtf8}
use Rattle.json.specs.Token as token
use Rattle.json.specs.Token.{Token}
use Rattle.json.specs.Lex.{tokens}
use Rattle.json.specs.Json.{Json, null, boolean, number, string, array, object, Items, no_items, item, Members, no_members, member, Parse, parse_map, after_end_array, read_key, members_step, items, members, value_with, value, if_last}
use Rattle.gd_grammar.proofs.Steps.{some_same, not_some, maybe, mapped}
use Rattle.gd_json.proofs.Tokens.{TokensFit, tokens-fit}

abbrev mutual
  -- each string of a value is UTF-8, and each key
  pub TextsFit : Json → Type 0
  TextsFit null = Unit {0}
  TextsFit (boolean b) = Unit {0}
  TextsFit (number s) = Unit {0}
  TextsFit (string s) = is_utf8 s ≡ true
  TextsFit (array js) = ItemTextsFit js
  TextsFit (object ms) = MemberTextsFit ms

  pub ItemTextsFit : Items → Type 0
  ItemTextsFit no_items = Unit {0}
  ItemTextsFit (item j js) = TextsFit j × ItemTextsFit js

  pub MemberTextsFit : Members → Type 0
  MemberTextsFit no_members = Unit {0}
  MemberTextsFit (member k j ms) = (is_utf8 k ≡ true) × TextsFit j × MemberTextsFit ms

-- what was read fits, and what is left does
record Left {A : Type 0} (F : A → Type 0) (r : A × List Token) : Type 0 where
  read : F r.0
  rest : TokensFit r.1

-- a parser of what fits
abbrev Fitting : {A : Type 0} → (A → Type 0) → Parse A → Type 0
Fitting {A} F p = (ts : List Token) (r : A × List Token) → TokensFit ts → p ts ≡ Some r → Left F r

mapped_left : {A B : Type 0} (F : A → Type 0) (G : B → Type 0) (f : A → B) (o : Option (A × List Token)) (r : B × List Token) → ((x : A) → F x → G (f x))
    → ((q : A × List Token) → o ≡ Some q → Left F q) → parse_map f o ≡ Some r → Left G r
mapped_left F G f o r makes left is =
    let q = mapped o (λ p. (f p.0, p.1)) r is in
    let l = left q.value q.gave in
    subst (Left G) q.is (record { read = makes q.value.0 l.read; rest = l.rest })

after_end-fits : (ts rest : List Token) → TokensFit ts → after_end_array ts ≡ Some rest → TokensFit rest
after_end-fits (token.end_array ∷ ts) rest fits is = subst TokensFit (some_same ts rest is) fits.1
after_end-fits _ rest fits is = not_some rest is

-- a key that is there is UTF-8
abbrev KeyFits : Option (List ℕ) → Type 0
KeyFits None = Unit {0}
KeyFits (Some k) = is_utf8 k ≡ true

key-fits : Fitting KeyFits read_key
key-fits (token.end_object ∷ ts) r fits is = subst (Left KeyFits) (some_same (None, ts) r is) (record { read = tt; rest = fits.1 })
key-fits (token.key s ∷ ts) r fits is = subst (Left KeyFits) (some_same (Some s, ts) r is) (record { read = is_utf8-from_IsUtf8 s fits.0; rest = fits.1 })
key-fits _ r fits is = not_some r is

items-parsed : (v : Parse Json) → Fitting TextsFit v → (n : ℕ) → Fitting ItemTextsFit (items v n)
unfolding items
items-parsed v fit zero ts r fits is = not_some r is
items-parsed v fit (suc n) ts r fits is = by (after_end_array ts) refl (items-parsed v fit n)
  where
    by : (o : Option (List Token)) → after_end_array ts ≡ o → Fitting ItemTextsFit (items v n) → Left ItemTextsFit r
    by (Some rest) o_is more = let given = rw o_is at is in subst (Left ItemTextsFit) (some_same (no_items, rest) r given) (record { read = tt; rest = after_end-fits ts rest fits o_is })
    by None o_is more = let given = rw o_is at is in
        let j = maybe (v ts) (λ p. parse_map (item p.0) (items v n p.1)) r given in
        let here = fit ts j.value fits j.gave in
        mapped_left ItemTextsFit ItemTextsFit (item j.value.0) (items v n j.value.1) r (λ js are. (here.read, are)) (λ q q_is. more j.value.1 q here.rest q_is) j.then_gave

members-parsed : (v : Parse Json) → Fitting TextsFit v → (n : ℕ) → Fitting MemberTextsFit (members v n)
unfolding members
members-parsed v fit zero ts r fits is = not_some r is
members-parsed v fit (suc n) ts r fits is =
    let k = maybe (read_key ts) (λ p. members_step v (members v n) p.0 p.1) r is in
    let left = key-fits ts k.value fits k.gave in
    by k.value.0 k.value.1 left.read left.rest (members-parsed v fit n) k.then_gave
  where
    by : (k : Option (List ℕ)) (ts : List Token) → KeyFits k → TokensFit ts → Fitting MemberTextsFit (members v n) → members_step v (members v n) k ts ≡ Some r → Left MemberTextsFit r
    by None ts named fits more is = subst (Left MemberTextsFit) (some_same (no_members, ts) r is) (record { read = tt; rest = fits })
    by (Some k) ts named fits more is =
        let j = maybe (v ts) (λ p. parse_map (member k p.0) (members v n p.1)) r is in
        let here = fit ts j.value fits j.gave in
        mapped_left MemberTextsFit MemberTextsFit (member k j.value.0) (members v n j.value.1) r (λ ms are. (named, here.read, are)) (λ q q_is. more j.value.1 q here.rest q_is) j.then_gave

with-parsed : (a : Parse Items) (o : Parse Members) → Fitting ItemTextsFit a → Fitting MemberTextsFit o → Fitting TextsFit (value_with a o)
with-parsed a o fit_a fit_o (token.begin_object ∷ ts) r fits is = mapped_left MemberTextsFit TextsFit object (o ts) r (λ ms are. are) (λ q q_is. fit_o ts q fits.1 q_is) is
with-parsed a o fit_a fit_o (token.begin_array ∷ ts) r fits is = mapped_left ItemTextsFit TextsFit array (a ts) r (λ js are. are) (λ q q_is. fit_a ts q fits.1 q_is) is
with-parsed a o fit_a fit_o (token.string s ∷ ts) r fits is = subst (Left TextsFit) (some_same (string s, ts) r is) (record { read = is_utf8-from_IsUtf8 s fits.0; rest = fits.1 })
with-parsed a o fit_a fit_o (token.number s ∷ ts) r fits is = subst (Left TextsFit) (some_same (number s, ts) r is) (record { read = tt; rest = fits.1 })
with-parsed a o fit_a fit_o (token.boolean b ∷ ts) r fits is = subst (Left TextsFit) (some_same (boolean b, ts) r is) (record { read = tt; rest = fits.1 })
with-parsed a o fit_a fit_o (token.null ∷ ts) r fits is = subst (Left TextsFit) (some_same (null, ts) r is) (record { read = tt; rest = fits.1 })
with-parsed a o fit_a fit_o _ r fits is = not_some r is

none-parsed : {A : Type 0} (F : A → Type 0) → Fitting F (λ ts. None)
none-parsed F ts r fits is = not_some r is

value-parsed : (depth : ℕ) → Fitting TextsFit (value depth)
unfolding value
value-parsed zero = with-parsed (λ ts. None) (λ ts. None) (none-parsed ItemTextsFit) (none-parsed MemberTextsFit)
value-parsed (suc depth) = with-parsed (λ ts. items (value depth) (length ts) ts) (λ ts. members (value depth) (length ts) ts)
    (λ ts r fits is. items-parsed (value depth) (value-parsed depth) (length ts) ts r fits is)
    (λ ts r fits is. members-parsed (value depth) (value-parsed depth) (length ts) ts r fits is)

last-is : (j : Json) (ts : List Token) (k : Json) → if_last j ts ≡ Some k → j ≡ k
last-is j [] k is = some_same j k is
last-is j (t ∷ ts) k is = not_some k is

-- the JSON that a text is
pub parsed-fits : (depth : ℕ) (text : List ℕ) (j : Json) → IsUtf8 text → option_and_then (λ p. if_last p.0 p.1) (value depth (tokens text)) ≡ Some j → TextsFit j
parsed-fits depth text j utf8 is =
    let p = maybe (value depth (tokens text)) (λ p. if_last p.0 p.1) j is in
    subst TextsFit (last-is p.value.0 p.value.1 j p.then_gave) (value-parsed depth (tokens text) p.value (tokens-fit text utf8) p.gave).read
