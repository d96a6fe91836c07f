-- The whole numbers that JSON texts in UTF-8 spell have 64 bits with a sign, and their texts and names are UTF-8.
use Rattle.std.proofs.Common.{◌≡◌, ◌≤◌, ◌^◌, ◌∙◌, ℕ, zero, suc, List, [], ◌∷◌, drop, Bool, true, false, ◌&&◌, Some, None, refl, ap, subst, arith}
use Rattle.std.specs.Prelude.{ℤ, pos, nat_lt, nat_le, slice_index, nat_eq, option_map, option_and_then, FitsSigned}
use Rattle.std.specs.Int.{w64}
use Rattle.std.specs.Ordering.{nat_cmp, match_ordering, ordering_reverse}
use Rattle.std.specs.List.{AllByRecursion}
use Rattle.std.specs.Cmp.Lexicographic.{slice_cmp}
use Rattle.std.specs.declared.cmp.Ordering.{Ordering}
use Rattle.std.specs.declared.cmp.Ordering.TheVariants.{Less, Equal, Greater}
use Rattle.std.specs.Float.{binary64, float_is_finite}
use Rattle.std.proofs.lemmas.Bool.{and_parts, ltb-true, leb-true}
use Rattle.std.proofs.lemmas.Cmp.{nat_list_cmp_total}
use Rattle.fast_float.specs.Text.{minus, Parts, scan, digits_of, nearest, with_sign}
use Rattle.json.specs.Lex.{tokens}
use Rattle.json.specs.Json as json
use Rattle.serde_json.specs.Data as data_of
use Rattle.serde_json.specs.Data.{Num, unsigned, negative, float, Data, put}
use Rattle.serde_json.specs.Find.{as_i64}
use Rattle.serde_json.specs.Read.{is_integer, float_of, number_from, number_of, of_json, of_items, of_members, read}
use Rattle.std.specs.Str.{is_utf8, IsUtf8}
use Rattle.gd_json.specs.Bounded.{AreRising}
use Rattle.gd_json.proofs.Parsed.{TextsFit, ItemTextsFit, MemberTextsFit, parsed-fits}
use Rattle.gd_grammar.proofs.Steps.{some_same, not_some, maybe, mapped, either}

-- a number below 0 has 64 bits
abbrev pub NumFits : Num → Type 0
NumFits (unsigned n) = Unit {0}
NumFits (negative z) = FitsSigned w64 z
NumFits (float x) = Unit {0}

-- the names of members, in their order
abbrev pub keys_of : data_of.Members → List (List ℕ)
keys_of data_of.no_members = []
keys_of (data_of.member k d ms) = k ∷ keys_of ms

abbrev mutual
  -- so has each of a value, each text and name is UTF-8, and the names of an object rise
  pub DataFits : Data → Type 0
  DataFits data_of.null = Unit {0}
  DataFits (data_of.boolean b) = Unit {0}
  DataFits (data_of.number n) = NumFits n
  DataFits (data_of.string s) = is_utf8 s ≡ true
  DataFits (data_of.array ds) = ItemsFit ds
  DataFits (data_of.object ms) = MembersFit ms × AreRising (keys_of ms)

  pub ItemsFit : data_of.Items → Type 0
  ItemsFit data_of.no_items = Unit {0}
  ItemsFit (data_of.item d ds) = DataFits d × ItemsFit ds

  pub MembersFit : data_of.Members → Type 0
  MembersFit data_of.no_members = Unit {0}
  MembersFit (data_of.member k d ms) = (is_utf8 k ≡ true) × DataFits d × MembersFit ms

float-fits : (sign : Bool) (p : Parts) (n : Num) → float_of sign p ≡ Some n → NumFits n
float-fits sign p n is = either (float_is_finite (nearest binary64 sign p)) (Some (float (nearest binary64 sign p))) None (Some n)
    (λ b same. subst NumFits (some_same (float (nearest binary64 sign p)) n same) tt) (λ b none. not_some n none) is

below-zero : (n : ℕ) → n ≤ 2 ^ 63 → FitsSigned w64 (with_sign true n)
below-zero zero most = record { sfits = omega arith }
below-zero (suc n) most = record { sfits = omega arith }

number-fits : (sign : Bool) (p : Parts) (n : Num) → number_from sign p ≡ Some n → NumFits n
number-fits false p n is = either (is_integer p && nat_lt (digits_of p) (2 ^ 64)) (Some (unsigned (digits_of p))) (float_of false p) (Some n)
    (λ b same. subst NumFits (some_same (unsigned (digits_of p)) n same) tt) (λ b other. float-fits false p n other) is
number-fits true p n is = either (is_integer p && nat_lt 0 (digits_of p) && nat_le (digits_of p) (2 ^ 63)) (Some (negative (with_sign true (digits_of p)))) (float_of true p) (Some n)
    (λ b same. subst NumFits (some_same (negative (with_sign true (digits_of p))) n same)
    (below-zero (digits_of p) (leb-true (digits_of p) (2 ^ 63) (and_parts (is_integer p && nat_lt 0 (digits_of p)) (nat_le (digits_of p) (2 ^ 63)) b).1)))
    (λ b other. float-fits true p n other) is

number_of-fits : (s : List ℕ) (n : Num) → number_of s ≡ Some n → NumFits n
unfolding number_of
number_of-fits s n is = either (nat_eq (slice_index s 0) minus) (number_from true (scan (drop 1 s))) (number_from false (scan s)) (Some n)
    (λ b below. number-fits true (scan (drop 1 s)) n below) (λ b other. number-fits false (scan s) n other) is

put-fits : (k : List ℕ) (d : Data) (ms : data_of.Members) → is_utf8 k ≡ true → DataFits d → MembersFit ms → MembersFit (put k d ms)
put-fits k d data_of.no_members named fits are = (named, fits, tt)
put-fits k d (data_of.member l e ms) named fits are = by (slice_cmp nat_cmp k l) (put-fits k d ms named fits are.2)
  where
    by : (o : Ordering) → MembersFit (put k d ms) → MembersFit (match_ordering o (data_of.member k d (data_of.member l e ms)) (data_of.member l d ms) (data_of.member l e (put k d ms)))
    by Less rest = (named, fits, are)
    by Equal rest = (are.0, fits, are.2)
    by Greater rest = (are.0, are.1, rest)

above_all : (k l : List ℕ) (ms : List (List ℕ)) → slice_cmp nat_cmp k l ≡ Less → AllByRecursion (λ m. slice_cmp nat_cmp l m ≡ Less) ms → AllByRecursion (λ m. slice_cmp nat_cmp k m ≡ Less) ms
above_all k l [] below above = tt
above_all k l (m ∷ ms) below above = (nat_list_cmp_total.trans k l m below above.0, above_all k l ms below above.1)

-- what is below a name and all others is below the names that there are then
put-above : (l k : List ℕ) (d : Data) (ms : data_of.Members) → slice_cmp nat_cmp l k ≡ Less → AllByRecursion (λ m. slice_cmp nat_cmp l m ≡ Less) (keys_of ms)
    → AllByRecursion (λ m. slice_cmp nat_cmp l m ≡ Less) (keys_of (put k d ms))
put-above l k d data_of.no_members below above = (below, tt)
put-above l k d (data_of.member m e ms) below above = by (slice_cmp nat_cmp k m) (put-above l k d ms below above.1)
  where
    by : (o : Ordering) → AllByRecursion (λ m. slice_cmp nat_cmp l m ≡ Less) (keys_of (put k d ms))
        → AllByRecursion (λ m. slice_cmp nat_cmp l m ≡ Less) (keys_of (match_ordering o (data_of.member k d (data_of.member m e ms)) (data_of.member m d ms) (data_of.member m e (put k d ms))))
    by Less rest = (below, above)
    by Equal rest = above
    by Greater rest = (above.0, rest)

put-rises : (k : List ℕ) (d : Data) (ms : data_of.Members) → AreRising (keys_of ms) → AreRising (keys_of (put k d ms))
put-rises k d data_of.no_members rising = (tt, tt)
put-rises k d (data_of.member l e ms) rising = by (slice_cmp nat_cmp k l) refl (put-rises k d ms rising.1)
  where
    by : (o : Ordering) → slice_cmp nat_cmp k l ≡ o → AreRising (keys_of (put k d ms))
        → AreRising (keys_of (match_ordering o (data_of.member k d (data_of.member l e ms)) (data_of.member l d ms) (data_of.member l e (put k d ms))))
    by Less is rest = ((is, above_all k l (keys_of ms) is rising.0), rising)
    by Equal is rest = rising
    by Greater is rest = (put-above l k d ms (nat_list_cmp_total.antisymm l k ∙ ap ordering_reverse is) rising.0, rest)

-- the members that were found, one after another
members-rise : (ms : json.Members) (found ds : data_of.Members) → AreRising (keys_of found) → of_members ms found ≡ Some ds → AreRising (keys_of ds)
members-rise json.no_members found ds rising is = subst (λ ds. AreRising (keys_of ds)) (some_same found ds is) rising
members-rise (json.member k j ms) found ds rising is =
    let d = maybe (of_json j) (λ d. of_members ms (put k d found)) ds is in
    members-rise ms (put k d.value found) ds (put-rises k d.value found rising) d.then_gave

mutual
  value-fits : (j : json.Json) (d : Data) → TextsFit j → of_json j ≡ Some d → DataFits d
  value-fits json.null d texts is = subst DataFits (some_same data_of.null d is) tt
  value-fits (json.boolean b) d texts is = subst DataFits (some_same (data_of.boolean b) d is) tt
  value-fits (json.number s) d texts is = let n = mapped (number_of s) data_of.number d is in subst DataFits n.is (number_of-fits s n.value n.gave)
  value-fits (json.string s) d texts is = subst DataFits (some_same (data_of.string s) d is) texts
  value-fits (json.array js) d texts is = let ds = mapped (of_items js) data_of.array d is in subst DataFits ds.is (items-fit js ds.value texts ds.gave)
  value-fits (json.object ms) d texts is = let ds = mapped (of_members ms data_of.no_members) data_of.object d is in subst DataFits ds.is (members-fit ms data_of.no_members ds.value texts tt ds.gave, members-rise ms data_of.no_members ds.value tt ds.gave)

  items-fit : (js : json.Items) (ds : data_of.Items) → ItemTextsFit js → of_items js ≡ Some ds → ItemsFit ds
  items-fit json.no_items ds texts is = subst ItemsFit (some_same data_of.no_items ds is) tt
  items-fit (json.item j js) ds texts is =
      let d = maybe (of_json j) (λ d. option_map (data_of.item d) (of_items js)) ds is in
      let rest = mapped (of_items js) (data_of.item d.value) ds d.then_gave in
      subst ItemsFit rest.is (value-fits j d.value texts.0 d.gave, items-fit js rest.value texts.1 rest.gave)

  members-fit : (ms : json.Members) (found ds : data_of.Members) → MemberTextsFit ms → MembersFit found → of_members ms found ≡ Some ds → MembersFit ds
  members-fit json.no_members found ds texts are is = subst MembersFit (some_same found ds is) are
  members-fit (json.member k j ms) found ds texts are is =
      let d = maybe (of_json j) (λ d. of_members ms (put k d found)) ds is in
      members-fit ms (put k d.value found) ds texts.2 (put-fits k d.value found texts.0 (value-fits j d.value texts.1 d.gave) are) d.then_gave

pub read-fits : (text : List ℕ) (d : Data) → IsUtf8 text → read text ≡ Some d → DataFits d
read-fits text d utf8 is =
    let j = maybe (option_and_then (λ p. json.if_last p.0 p.1) (json.value 127 (tokens text))) of_json d is in value-fits j.value d (parsed-fits 127 text j.value utf8 j.gave) j.then_gave

pub as_i64-fits : (n : Num) (z : ℤ) → NumFits n → as_i64 n ≡ Some z → FitsSigned w64 z
as_i64-fits (unsigned n) z fits is = either (nat_lt n (2 ^ 63)) (Some (pos n)) None (Some z)
    (λ b same. let small = ltb-true n (2 ^ 63) b in subst (FitsSigned w64) (some_same (pos n) z same) (record { sfits = omega (arith, small) })) (λ b none. not_some z none) is
as_i64-fits (negative y) z fits is = subst (FitsSigned w64) (some_same y z is) fits
as_i64-fits (float x) z fits is = not_some z is
