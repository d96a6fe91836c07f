-- A clause with its words looked up is asked as laws want it.
use Rattle.std.proofs.Common.{◌≡◌, ℕ, List, [], ◌∷◌, Bool, true, false, Option, Some, None, Result, Ok, codes, refl, ap, sym, subst, inl, inr, ◌∙◌}
use Rattle.std.specs.Prelude.{if◌then◌else◌, unwrap_or, not}
use Rattle.std.proofs.lemmas.Bool.{false≢true}
use Rattle.gd_prim.specs.declared.Primitive.{Primitive}
use Rattle.gd_grammar.specs.Chain.{◌>>=◌}
use Rattle.gd_tree.specs.Json.{Json}
use Rattle.gd_defs.specs.Data.{Kind, of_text, Test, anything, equals, differs, is_one_of, is_below, is_above, matches_words}
use Rattle.gd_defs.specs.Query.{Directives, SortWord, required, bad_sort, is_word}
use Rattle.gd_defs.specs.Property.{Property, Expects, a_value, a_key, an_object_of_system, a_plain_object, expects_of, property, holds_values}
use Rattle.gd_defs.specs.Asked.{by_guid, by_timestamp, by_property, SortKey, as_operand, as_clause, Asking, Members, no_members, asks, Clause, Unknown, bad, asked, sort_key, sort_keys}
use Rattle.gd_defs.specs.Asked.Forms.{bare_asking, style_of, own_clause, counts, operand_form, clause_form, name_test, mode_of, asks_single, spoken}
use Rattle.gd_defs.specs.Plan.{answers_of}
use Rattle.gd_template_laws.specs.Fits.{FitsObject, FitsOne, IsEquals, ValueMembers, IsSortKey, AreSortKeys, IsAsked, AreAsked}
use Rattle.gd_grammar.proofs.Steps.{steps, ok_same}
use Rattle.gd_template_laws.proofs.Operands.{Fits}
use Rattle.gd_template_laws.proofs.AskedMembers.{HoldsObjectsBackwards}

-- ---- sort keys

-- the key of a value property that is asked forward
abbrev value_key : List (List ℕ) → Bool → Property → Expects → Result SortKey Unknown
value_key path descending p (a_value k) = if p.reversed then bad bad_sort path else Ok (record { key = by_property p; descending = descending })
value_key path descending p _ = bad bad_sort path

sort_key-is : (prims : List Primitive) (context : Option ℕ) (path : List (List ℕ)) (w : SortWord) (k : SortKey) → sort_key prims context path w ≡ Ok k → IsSortKey k.key
sort_key-is prims context path w k is = by (is_word (codes "id") w.word) refl (is_word (codes "guid") w.word) refl (is_word (codes "timestamp") w.word) refl (property prims context false w.word) refl is
  where
    key : (t : SortKey) → IsSortKey t.key → ◌≡◌ {A = Result SortKey Unknown} (Ok t) (Ok k) → IsSortKey k.key
    key t fits same = subst (λ (s : SortKey). IsSortKey s.key) (ok_same t k same) fits

    forward : (p : Property) (v : Kind) (b : Bool) → p.reversed ≡ b → expects_of p.expected ≡ a_value v → (if b then bad bad_sort path else Ok (record { key = by_property p; descending = w.descending })) ≡ Ok k → IsSortKey k.key
    forward p v true turned expected is = absurd (cc)
    forward p v false turned expected is = key (record { key = by_property p; descending = w.descending }) (turned, (v, expected)) is

    expected : (p : Property) (e : Expects) → expects_of p.expected ≡ e → value_key path w.descending p e ≡ Ok k → IsSortKey k.key
    expected p (a_value v) here is = forward p v p.reversed refl here is
    expected p a_key here is = absurd (cc)
    expected p an_object_of_system here is = absurd (cc)
    expected p a_plain_object here is = absurd (cc)

    found : (o : Option Property) → property prims context false w.word ≡ o → is_word (codes "id") w.word ≡ false → is_word (codes "guid") w.word ≡ false → is_word (codes "timestamp") w.word ≡ false → sort_key prims context path w ≡ Ok k → IsSortKey k.key
    found None here b1 b2 b3 is = let bad_one = rw (b1, b2, b3, here) at is in absurd (cc)
    found (Some p) here b1 b2 b3 is = at_kind (expects_of p.expected) refl
      where
        at_kind : (e : Expects) → expects_of p.expected ≡ e → IsSortKey k.key
        at_kind (a_value v) kind = expected p (a_value v) kind (rw (b1, b2, b3, here, kind) at is)
        at_kind a_key kind = expected p a_key kind (rw (b1, b2, b3, here, kind) at is)
        at_kind an_object_of_system kind = expected p an_object_of_system kind (rw (b1, b2, b3, here, kind) at is)
        at_kind a_plain_object kind = expected p a_plain_object kind (rw (b1, b2, b3, here, kind) at is)

    by : (b1 : Bool) → is_word (codes "id") w.word ≡ b1 → (b2 : Bool) → is_word (codes "guid") w.word ≡ b2 → (b3 : Bool) → is_word (codes "timestamp") w.word ≡ b3 → (o : Option Property) → property prims context false w.word ≡ o
        → sort_key prims context path w ≡ Ok k → IsSortKey k.key
    by true e1 b2 e2 b3 e3 o here is = let refused = rw e1 at is in absurd (cc)
    by false e1 true e2 b3 e3 o here is = key (record { key = by_guid; descending = w.descending }) tt (rw (e1, e2) at is)
    by false e1 false e2 true e3 o here is = key (record { key = by_timestamp; descending = w.descending }) tt (rw (e1, e2, e3) at is)
    by false e1 false e2 false e3 o here is = found o here e1 e2 e3 is

pub sort_keys-are : (prims : List Primitive) (context : Option ℕ) (path : List (List ℕ)) (ws : List SortWord) (ks : List SortKey) → sort_keys prims context path ws ≡ Ok ks → AreSortKeys ks
sort_keys-are prims context path [] ks is = subst AreSortKeys (ok_same [] ks is) tt
sort_keys-are prims context path (w ∷ ws) ks is =
    let one = steps (sort_key prims context path w) (λ k. sort_keys prims context path ws >>= λ ks. Ok (k ∷ ks)) ks is in
    let more = steps (sort_keys prims context path ws) (λ ks. Ok (one.value ∷ ks)) ks one.then_gave in
    subst AreSortKeys (ok_same (one.value ∷ more.value) ks more.then_gave) (sort_key-is prims context path w one.value one.gave, sort_keys-are prims context path ws more.value more.gave)

-- ---- forms

-- backwards the answers are objects, forward what is expected
pub asked-in_direction : (p : Property) (a : Asking) (c : Members) (X : Type 0) → HoldsObjectsBackwards p → IsAsked (expects_of p.expected) a c X → IsAsked (answers_of p) a c X
asked-in_direction p a c X backwards asked = by p.reversed refl (expects_of p.expected) refl asked
  where
    by : (b : Bool) → p.reversed ≡ b → (e : Expects) → expects_of p.expected ≡ e → IsAsked e a c X → IsAsked (answers_of p) a c X
    by false turned e here asked = subst (λ e. IsAsked e a c X) (sym here ∙ ap (λ b. if b then a_plain_object else expects_of p.expected) (sym turned)) asked
    by true turned (a_value k) here asked = absurd (false≢true (sym (backwards turned) ∙ ap holds_values here))
    by true turned a_key here asked = absurd (false≢true (sym (backwards turned) ∙ ap holds_values here))
    by true turned an_object_of_system here asked = subst (λ e. IsAsked e a c X) (ap (λ b. if b then a_plain_object else expects_of p.expected) (sym turned)) asked
    by true turned a_plain_object here asked = subst (λ e. IsAsked e a c X) (ap (λ b. if b then a_plain_object else expects_of p.expected) (sym turned)) asked

-- what null and [] ask
pub asks-ask : (p : Property) (listed : Bool) (e : Expects)
    → IsAsked e (record (bare_asking p (style_of e)) { counted = counts e; listed = listed; single = not listed }) (own_clause e) (AreAsked (own_clause e))
asks-ask p listed (a_value k) = record { test = tt; clause = tt; counted = refl; given = λ is. absurd (false≢true is); sort = refl; unnamed = λ is. cc }
asks-ask p listed a_key = record { test = tt; clause = tt; counted = refl; given = λ is. absurd (false≢true is); sort = refl; unnamed = λ is. cc }
asks-ask p listed an_object_of_system = record { test = tt; clause = tt; sort = tt; counted = λ is. inr (refl, refl); given = λ is. absurd (false≢true is); given_counted = λ is. absurd (false≢true is); named = λ is. absurd (cc) }
asks-ask p listed a_plain_object = record {
  test = tt;
  clause = (record { test = tt; clause = tt; counted = refl; given = λ is. absurd (false≢true is); sort = refl; unnamed = λ is. cc }, tt);
  sort = tt;
  counted = λ is. absurd (false≢true is);
  given = λ is. absurd (false≢true is);
  given_counted = λ is. absurd (false≢true is);
  named = λ is. refl;
}

one_object : (t : Test) → FitsObject t → IsEquals t → FitsOne t
one_object (equals v) fits is = fits
one_object anything fits is = tt
one_object (differs v) fits is = absurd is
one_object (is_one_of vs) fits is = absurd is
one_object (is_below v e) fits is = absurd is
one_object (is_above v e) fits is = absurd is
one_object (matches_words p) fits is = absurd is

-- what a literal or an operand asks
pub front-operand : (name : List ℕ) (p : Property) (e : Expects) (literal : Bool) (j : Json) (t : Test) (rest : Members) → HoldsObjectsBackwards p → expects_of p.expected ≡ e → Fits e t → (literal ≡ true → IsEquals t)
    → AreAsked rest → AreAsked (operand_form name p e literal j t rest)
front-operand name p e literal j t rest backwards expected fits given are = by e expected fits
  where
    asking : Asking
    asking = record (bare_asking p (as_operand j)) { test = t; mode = required; given = literal }

    whole : (e : Expects) → expects_of p.expected ≡ e → IsAsked e asking no_members (Unit {0}) → AreAsked (asks name asking no_members rest)
    whole e expected asked = (asked-in_direction p asking no_members (Unit {0}) backwards (subst (λ e. IsAsked e asking no_members (Unit {0})) (sym expected) asked), are)

    by : (e : Expects) → expects_of p.expected ≡ e → Fits e t → AreAsked (operand_form name p e literal j t rest)
    by (a_value k) expected fits = whole (a_value k) expected (record { test = fits; clause = tt; counted = refl; given = λ is. (refl, (given is, refl)); sort = refl; unnamed = λ is. cc })
    by a_key expected fits = whole a_key expected (record { test = fits; clause = tt; counted = refl; given = λ is. (refl, (given is, refl)); sort = refl; unnamed = λ is. cc })
    by an_object_of_system expected fits = whole an_object_of_system expected
        (record { test = fits; clause = tt; sort = tt; counted = λ is. inr (refl, refl); given = λ is. (refl, (one_object t fits (given is), (tt, refl))); given_counted = λ is. refl; named = λ is. absurd (cc) })
    by a_plain_object expected fits =
        let here = record (bare_asking p (as_operand j)) { mode = required; given = literal; counted = literal } in
        let tested : AreAsked (name_test required literal t) = (record { test = fits; clause = tt; counted = refl; given = λ is. (refl, (given is, refl)); sort = refl; unnamed = λ is. cc }, tt) in (
          asked-in_direction p here (name_test required literal t) (AreAsked (name_test required literal t)) backwards
              (subst (λ e. IsAsked e here (name_test required literal t) (AreAsked (name_test required literal t))) (sym expected)
              (record { test = tt; clause = tested; sort = tt; counted = λ is. inl is; given = λ is. (refl, (tt, ((is, tt), refl))); given_counted = λ is. is; named = λ is. absurd (cc) })),
          are,
        )

-- what stands below a property: the members of a form on values, or a clause on objects
abbrev pub IsBelow : Expects → Clause → Type 0
IsBelow (a_value k) c = ValueMembers k false c.0 × (c.1 ≡ [])
IsBelow a_key c = ValueMembers of_text true c.0 × (c.1 ≡ [])
IsBelow an_object_of_system c = AreAsked c.0 × AreSortKeys c.1
IsBelow a_plain_object c = AreAsked c.0 × AreSortKeys c.1

-- what {..} and [{..}] ask
pub front-clause : (name : List ℕ) (p : Property) (d : Directives) (listed : Bool) (c : Clause) (rest : Members) → HoldsObjectsBackwards p → IsBelow (expects_of p.expected) c → AreAsked rest → AreAsked (clause_form name p d listed c rest)
front-clause name p d listed c rest backwards below are = (asked-in_direction p (asking (expects_of p.expected)) c.0 (AreAsked c.0) backwards (by (expects_of p.expected) below), are)
  where
    asking : Expects → Asking
    asking e = record (bare_asking (spoken p c.0) as_clause) { mode = mode_of d; counted = holds_values e; listed = listed; single = asks_single listed d; sort = c.1; limit = unwrap_or d.limit 100 }

    by : (e : Expects) → IsBelow e c → IsAsked e (asking e) c.0 (AreAsked c.0)
    by (a_value k) below = record { test = tt; clause = below.0; counted = refl; given = λ is. absurd (false≢true is); sort = below.1; unnamed = λ is. cc }
    by a_key below = record { test = tt; clause = below.0; counted = refl; given = λ is. absurd (false≢true is); sort = below.1; unnamed = λ is. cc }
    by an_object_of_system below = record { test = tt; clause = below.0; sort = below.1; counted = λ is. absurd (false≢true is); given = λ is. absurd (false≢true is); given_counted = λ is. absurd (false≢true is); named = λ is. absurd (cc) }
    by a_plain_object below = record { test = tt; clause = below.0; sort = below.1; counted = λ is. absurd (false≢true is); given = λ is. absurd (false≢true is); given_counted = λ is. absurd (false≢true is); named = λ is. absurd (cc) }
