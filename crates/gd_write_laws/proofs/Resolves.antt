-- A write with its words looked up names places of the list alone, and its values are as V asks where those are that it spells.
use Rattle.std.proofs.Common.{◌≡◌, ◌<◌, ℕ, List, [], ◌∷◌, ◌++◌, length, Bool, true, false, Option, Some, None, not, Ok, codes, sym, subst, inl}
use Rattle.std.specs.Prelude.{option_map, if◌then◌else◌, nat_le}
use Rattle.std.specs.Option.{ok_or}
use Rattle.gd_base.specs.declared.datum.Datum.{Datum}
use Rattle.gd_base.specs.declared.datum.Datum.TheVariants as datum
use Rattle.gd_prim.specs.declared.Primitive.{Primitive}
use Rattle.gd_grammar.specs.Chain.{◌>>=◌}
use Rattle.gd_tree.specs.Json.{Json, null, boolean, number, text, object}
use Rattle.gd_prim.specs.WellFormed.{is_number}
use Rattle.gd_defs.specs.Ids.{is_id}
use Rattle.gd_defs.specs.Moment.{moment_of}
use Rattle.gd_defs.specs.Data.{Kind, of_text, of_int, of_boolean, of_datetime, datum_from, key_from}
use Rattle.gd_defs.specs.Query.{Name, bad_value, bad_lang, is_word, is_computed}
use Rattle.gd_defs.specs.Property.{Property, Expects, a_value, a_key, an_object_of_system, a_plain_object, expects_of, holds_values, is_language}
use Rattle.gd_defs.specs.Asked.{bad_query, bad, place_named, operand_datum, context_of, member_property, has_lang}
use Rattle.gd_defs.specs.Change as change
use Rattle.gd_defs.specs.Write.Parts.{Target, to_object, to_key, Item, as_spelled, its_id, its_guid, fact, connect, nested, several, ManyItems, no_more, and_then, Members, no_members, member, created, datum_target, literal_target, new_target, target_of, in_language_of, has_fact, type_text, fact_item, identity_item, resolved, resolved_item, resolved_items}
use Rattle.gd_write_laws.specs.Sound.{IsSound}
use Rattle.gd_write_laws.specs.Fits.{Spells, TargetSpells, MembersSpell, ItemSpells, ItemsSpell, PropertyFits, TargetFits, MembersFit, ItemFits, ItemsFit}
use Rattle.gd_grammar.proofs.Steps.{steps, ok_same, not_ok, some_given, some_same, not_some, mapped, either}
use Rattle.gd_write_laws.proofs.Named.{named-within, member_property-within}

-- ---- targets

-- a datum of a kind is no object
datum-fits : (V : Datum → Type 0) (n : ℕ) (k : Kind) (j : Json) (d : Datum) → datum_from k j ≡ Some d → V d → TargetFits V n (datum_target d)
datum-fits V n of_text (text t) d is v = either (nat_le (length t) 4096) (Some (datum.Text t)) None (Some d)
    (λ b same. let e = some_same (datum.Text t) d same in subst (λ d. TargetFits V n (datum_target d)) e (subst V (sym e) v))
    (λ b none. not_some d none) is
datum-fits V n of_int (number m) d is v = either (is_number m) (Some (datum.Int m)) None (Some d)
    (λ b same. let e = some_same (datum.Int m) d same in subst (λ d. TargetFits V n (datum_target d)) e (subst V (sym e) v))
    (λ b none. not_some d none) is
datum-fits V n of_boolean (boolean b) d is v = let e = some_same (datum.Bool b) d is in subst (λ d. TargetFits V n (datum_target d)) e (subst V (sym e) v)
datum-fits V n of_datetime (text t) d is v =
    let m = mapped (moment_of t) (λ m. datum.Moment m.0 m.1) d is in subst (λ d. TargetFits V n (datum_target d)) m.is (subst V (sym m.is) v)
datum-fits V n _ _ d is v = not_some d is

-- an object as an operand
object-fits : (V : Datum → Type 0) (prims : List Primitive) (t : List ℕ) (d : Datum) → 0 < length prims → (place_named prims t >>= λ o. Ok (datum.Object o)) ≡ Ok d → TargetFits V (length prims) (datum_target d)
object-fits V prims t d some is =
    let o = steps (place_named prims t) (λ o. Ok (datum.Object o)) d is in
    subst (λ d. TargetFits V (length prims) (datum_target d)) (ok_same (datum.Object o.value) d o.then_gave) (named-within prims t o.value some o.gave)

operand-fits : (V : Datum → Type 0) (prims : List Primitive) (e : Expects) (path : List (List ℕ)) (j : Json) (d : Datum) → 0 < length prims → Spells V j
    → operand_datum prims e path j ≡ Ok d → TargetFits V (length prims) (datum_target d)
operand-fits V prims (a_value k) path j d some spells is =
    let given = some_given (datum_from k j) (bad_query bad_value path) d is in datum-fits V (length prims) k j d given (spells.value k d given)
operand-fits V prims a_key path j d some spells is =
    let key = mapped (key_from j) datum.Text d (some_given (option_map datum.Text (key_from j)) (bad_query bad_value path) d is) in
    subst (λ d. TargetFits V (length prims) (datum_target d)) key.is (spells.key key.value key.gave)
operand-fits V prims an_object_of_system path (text t) d some spells is = object-fits V prims t d some is
operand-fits V prims a_plain_object path (text t) d some spells is = object-fits V prims t d some is
operand-fits V prims _ path _ d some spells is = not_ok _ d is

-- an operand as a target
as_target : (V : Datum → Type 0) (prims : List Primitive) (e : Expects) (path : List (List ℕ)) (j : Json) (t : Target) → 0 < length prims → Spells V j
    → (operand_datum prims e path j >>= λ d. Ok (datum_target d)) ≡ Ok t → TargetFits V (length prims) t
as_target V prims e path j t some spells is =
    let d = steps (operand_datum prims e path j) (λ d. Ok (datum_target d)) t is in
    subst (TargetFits V (length prims)) (ok_same (datum_target d.value) t d.then_gave) (operand-fits V prims e path j d.value some spells d.gave)

named-fits : (V : Datum → Type 0) (prims : List Primitive) (id : List ℕ) (t : Target) → 0 < length prims → (place_named prims id >>= λ o. Ok (to_object o)) ≡ Ok t → TargetFits V (length prims) t
named-fits V prims id t some is =
    let o = steps (place_named prims id) (λ o. Ok (to_object o)) t is in
    subst (TargetFits V (length prims)) (ok_same (to_object o.value) t o.then_gave) (named-within prims id o.value some o.gave)

literal-fits : (V : Datum → Type 0) (prims : List Primitive) (path : List (List ℕ)) (e : Expects) (j : Json) (t : Target) → 0 < length prims → Spells V j
    → literal_target prims path e j ≡ Ok t → TargetFits V (length prims) t
literal-fits V prims path a_plain_object j t some spells is = not_ok _ t is
literal-fits V prims path an_object_of_system (text id) t some spells is =
    either (is_id id) (place_named prims id >>= λ o. Ok (to_object o)) _ (Ok t) (λ b named. named-fits V prims id t some named) (λ b err. not_ok _ t err) is
literal-fits V prims path (a_value k) j t some spells is = as_target V prims (a_value k) path j t some spells is
literal-fits V prims path a_key j t some spells is = as_target V prims a_key path j t some spells is
literal-fits V prims path an_object_of_system _ t some spells is = not_ok _ t is

new-fits : (V : Datum → Type 0) (prims : List Primitive) (path : List (List ℕ)) (e : Expects) (j : Json) (t : Target) → 0 < length prims → Spells V j
    → new_target prims path e j ≡ Ok t → TargetFits V (length prims) t
new-fits V prims path a_key j t some spells is = not_ok _ t is
new-fits V prims path (a_value k) j t some spells is = literal-fits V prims path (a_value k) j t some spells is
new-fits V prims path an_object_of_system j t some spells is = literal-fits V prims path an_object_of_system j t some spells is
new-fits V prims path a_plain_object j t some spells is = literal-fits V prims path a_plain_object j t some spells is

target-fits : (V : Datum → Type 0) (prims : List Primitive) (path : List (List ℕ)) (e : Expects) (c : change.Target) (t : Target) → 0 < length prims → TargetSpells V c
    → target_of prims path e c ≡ Ok t → TargetFits V (length prims) t
target-fits V prims path a_key (change.to_key namespace j) t some spells is =
    let o = steps (place_named prims namespace) (λ o. ok_or (option_map (to_key o) (key_from j)) (bad_query bad_value (path ++ codes "value" ∷ []))) t is in
    let key = mapped (key_from j) (to_key o.value) t (some_given (option_map (to_key o.value) (key_from j)) (bad_query bad_value (path ++ codes "value" ∷ [])) t o.then_gave) in
    subst (TargetFits V (length prims)) key.is (named-within prims namespace o.value some o.gave, spells.key key.value key.gave)
target-fits V prims path (a_value k) (change.to_key namespace j) t some spells is = not_ok _ t is
target-fits V prims path an_object_of_system (change.to_key namespace j) t some spells is = not_ok _ t is
target-fits V prims path a_plain_object (change.to_key namespace j) t some spells is = not_ok _ t is
target-fits V prims path e (change.to_literal j) t some spells is = new-fits V prims (path ++ codes "value" ∷ []) e j t some spells is
target-fits V prims path e (change.to_text lang j) t some spells is = new-fits V prims (path ++ codes "value" ∷ []) e j t some spells is
target-fits V prims path e (change.to_id id) t some spells is =
    either (holds_values e) _ (place_named prims id >>= λ o. Ok (to_object o)) (Ok t) (λ b err. not_ok _ t err) (λ b named. named-fits V prims id t some named) is

-- the property in the language of a target
in_language-fits : (prims : List Primitive) (path : List (List ℕ)) (p : Property) (c : change.Target) (q : Property) → 0 < length prims → PropertyFits (length prims) p
    → in_language_of prims path p c ≡ Ok q → PropertyFits (length prims) q
in_language-fits prims path p (change.to_text t j) q some fits is =
    either (not (has_lang (expects_of p.expected))) _ (place_named prims t >>= λ l. if is_language prims l then Ok (record p { language = Some l }) else bad bad_lang (path ++ codes "lang" ∷ [])) (Ok q)
    (λ b err. not_ok _ q err)
    (λ b rest. let l = steps (place_named prims t) (λ l. if is_language prims l then Ok (record p { language = Some l }) else bad bad_lang (path ++ codes "lang" ∷ [])) q rest in
    either (is_language prims l.value) (Ok (record p { language = Some l.value })) _ (Ok q)
    (λ b same. subst (PropertyFits (length prims)) (ok_same (record p { language = Some l.value }) q same) (fits.0, inl (named-within prims t l.value some l.gave)))
    (λ b err. not_ok _ q err) l.then_gave) is
in_language-fits prims path p (change.to_id t) q some fits is = subst (PropertyFits (length prims)) (ok_same p q is) fits
in_language-fits prims path p (change.to_literal j) q some fits is = subst (PropertyFits (length prims)) (ok_same p q is) fits
in_language-fits prims path p (change.to_key t j) q some fits is = subst (PropertyFits (length prims)) (ok_same p q is) fits

-- ---- members

fact-fits : (V : Datum → Type 0) (prims : List Primitive) (path : List (List ℕ)) (on : Option ℕ) (p : Property) (j : Json) (i : Item) → 0 < length prims → Spells V j → PropertyFits (length prims) p
    → fact_item prims path on p j ≡ Ok i → ItemFits V (length prims) i
fact-fits V prims path None p j i some spells stored is =
    let t = steps (new_target prims path (expects_of p.expected) j) (λ t. Ok (fact p t j)) i is in
    subst (ItemFits V (length prims)) (ok_same (fact p t.value j) i t.then_gave) (stored, new-fits V prims path (expects_of p.expected) j t.value some spells t.gave)
fact-fits V prims path (Some o) p j i some spells stored is =
    let t = steps (literal_target prims path (expects_of p.expected) j) (λ t. if has_fact prims p o t then Ok (as_spelled j) else _) i is in
    either (has_fact prims p o t.value) (Ok (as_spelled j)) _ (Ok i) (λ b same. subst (ItemFits V (length prims)) (ok_same (as_spelled j) i same) tt) (λ b err. not_ok _ i err) t.then_gave

identity-fits : (V : Datum → Type 0) (n : ℕ) (name : Name) (i : change.Item) → ItemFits V n (identity_item name i)
identity-fits V n name (change.plain j) = tt
identity-fits V n name _ = own (is_word (codes "id") name.word)
  where
    own : (b : Bool) → ItemFits V n (if b then its_id else its_guid)
    own true = tt
    own false = tt

mutual
  pub members-fit : (V : Datum → Type 0) (prims : List Primitive) (on context : Option ℕ) (path : List (List ℕ)) (c : change.Members) (ms : Members)
      → IsSound V prims → 0 < length prims → MembersSpell V c → resolved prims on context path c ≡ Ok ms → MembersFit V (length prims) ms
  members-fit V prims on context path change.no_members ms sound some spells is = subst (MembersFit V (length prims)) (ok_same no_members ms is) tt
  members-fit V prims on context path (change.created w c) ms sound some spells is =
      let rest = steps (resolved prims on context path c) (λ rest. Ok (created rest)) ms is in
      subst (MembersFit V (length prims)) (ok_same (created rest.value) ms rest.then_gave) (members-fit V prims on context path c rest.value sound some spells rest.gave)
  members-fit V prims on context path (change.member n i c) ms sound some spells is =
      let one = steps (if is_computed n.word then Ok (identity_item n i)
      else (member_property prims context (path ++ n.spelled ∷ []) n >>= λ p. resolved_item prims on (path ++ n.spelled ∷ []) p i))
      (λ r. resolved prims on context path c >>= λ rest. Ok (member n.spelled r rest)) ms is in
      let rest = steps (resolved prims on context path c) (λ rest. Ok (member n.spelled one.value rest)) ms one.then_gave in
      let first : ItemFits V (length prims) one.value = either (is_computed n.word) (Ok (identity_item n i))
      (member_property prims context (path ++ n.spelled ∷ []) n >>= λ p. resolved_item prims on (path ++ n.spelled ∷ []) p i) (Ok one.value)
      (λ b own. subst (ItemFits V (length prims)) (ok_same (identity_item n i) one.value own) (identity-fits V (length prims) n i))
      (λ b other. let p = steps (member_property prims context (path ++ n.spelled ∷ []) n) (λ p. resolved_item prims on (path ++ n.spelled ∷ []) p i) one.value other in
      item-fits V prims on (path ++ n.spelled ∷ []) p.value i one.value sound some spells.0 (member_property-within V prims context (path ++ n.spelled ∷ []) n p.value sound p.gave) p.then_gave)
      one.gave in
      subst (MembersFit V (length prims)) (ok_same (member n.spelled one.value rest.value) ms rest.then_gave)
      (first, members-fit V prims on context path c rest.value sound some spells.1 rest.gave)

  item-fits : (V : Datum → Type 0) (prims : List Primitive) (on : Option ℕ) (path : List (List ℕ)) (p : Property) (c : change.Item) (i : Item)
      → IsSound V prims → 0 < length prims → ItemSpells V c → PropertyFits (length prims) p → resolved_item prims on path p c ≡ Ok i → ItemFits V (length prims) i
  item-fits V prims on path p change.blank i sound some spells stored is = subst (ItemFits V (length prims)) (ok_same (as_spelled null) i is) tt
  item-fits V prims on path p (change.plain j) i sound some spells stored is = fact-fits V prims path on p j i some spells stored is
  item-fits V prims on path p (change.fact t ms) i sound some spells stored is =
      let q = steps (in_language_of prims path p t) (λ q. target_of prims path (expects_of p.expected) t >>= λ r. Ok (fact q r (object ms))) i is in
      let r = steps (target_of prims path (expects_of p.expected) t) (λ r. Ok (fact q.value r (object ms))) i q.then_gave in
      subst (ItemFits V (length prims)) (ok_same (fact q.value r.value (object ms)) i r.then_gave) (in_language-fits prims path p t q.value some stored q.gave, target-fits V prims path (expects_of p.expected) t r.value some spells r.gave)
  item-fits V prims on path p (change.connect w t previous ms) i sound some spells stored is =
      let q = steps (in_language_of prims path p t) (λ q. target_of prims path (expects_of p.expected) t >>= λ r. Ok (connect q w r previous ms)) i is in
      let r = steps (target_of prims path (expects_of p.expected) t) (λ r. Ok (connect q.value w r previous ms)) i q.then_gave in
      subst (ItemFits V (length prims)) (ok_same (connect q.value w r.value previous ms) i r.then_gave) (in_language-fits prims path p t q.value some stored q.gave, target-fits V prims path (expects_of p.expected) t r.value some spells r.gave)
  item-fits V prims on path p (change.nested w c) i sound some spells stored is =
      either (holds_values (expects_of p.expected)) _ (context_of prims p.expected (type_text c) >>= λ x. resolved prims None x path c >>= λ r. Ok (nested p w r)) (Ok i)
      (λ b err. not_ok _ i err)
      (λ b below. let x = steps (context_of prims p.expected (type_text c)) (λ x. resolved prims None x path c >>= λ r. Ok (nested p w r)) i below in
      let r = steps (resolved prims None x.value path c) (λ r. Ok (nested p w r)) i x.then_gave in
      subst (ItemFits V (length prims)) (ok_same (nested p w r.value) i r.then_gave) (stored, members-fit V prims None x.value path c r.value sound some spells r.gave)) is
  item-fits V prims on path p (change.several c) i sound some spells stored is =
      let r = steps (resolved_items prims on path p c) (λ rs. Ok (several rs)) i is in
      subst (ItemFits V (length prims)) (ok_same (several r.value) i r.then_gave) (items-fit V prims on path p c r.value sound some spells stored r.gave)

  items-fit : (V : Datum → Type 0) (prims : List Primitive) (on : Option ℕ) (path : List (List ℕ)) (p : Property) (c : change.ManyItems) (is : ManyItems)
      → IsSound V prims → 0 < length prims → ItemsSpell V c → PropertyFits (length prims) p → resolved_items prims on path p c ≡ Ok is → ItemsFit V (length prims) is
  items-fit V prims on path p change.no_more xs sound some spells stored is = subst (ItemsFit V (length prims)) (ok_same no_more xs is) tt
  items-fit V prims on path p (change.and_then c cs) xs sound some spells stored is =
      let one = steps (resolved_item prims on path p c) (λ r. resolved_items prims on path p cs >>= λ rs. Ok (and_then r rs)) xs is in
      let rest = steps (resolved_items prims on path p cs) (λ rs. Ok (and_then one.value rs)) xs one.then_gave in
      subst (ItemsFit V (length prims)) (ok_same (and_then one.value rest.value) xs rest.then_gave)
      (item-fits V prims on path p c one.value sound some spells.0 stored one.gave, items-fit V prims on path p cs rest.value sound some spells.1 stored rest.gave)
