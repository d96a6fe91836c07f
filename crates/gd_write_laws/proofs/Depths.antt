-- The result of a write is no deeper than the JSON value that spells it.
use Rattle.std.proofs.Common.{◌≡◌, ◌≤◌, ℕ, ◌+◌, List, [], ◌∷◌, ◌++◌, length, Bool, true, false, ◌&&◌, ◌||◌, not, Option, Some, None, Result, Ok, codes, refl, ap, subst, arith}
use Rattle.std.specs.Prelude.{max, if◌then◌else◌, bytes_eq, drop}
use Rattle.gd_prim.specs.declared.Primitive.{Primitive}
use Rattle.gd_prim.specs.declared.Batch.{Batch}
use Rattle.gd_grammar.specs.Chain.{◌>>=◌, map_err}
use Rattle.gd_tree.specs.Look.{get}
use Rattle.gd_tree.specs.Json.{Json, null, boolean, number, text, list, object, Items, no_items, item, Members as JsonMembers, no_members as no_json_members, member as json_member}
use Rattle.gd_defs.specs.Ids.{id_text, guid}
use Rattle.gd_defs.specs.Query.{Name, Fault, bad_create, bad_connect, or_fault, is_word, is_computed, is_identity, is_literal, is_id_text, all_items}
use Rattle.gd_defs.specs.Property.{Property, expects_of, holds_values}
use Rattle.gd_defs.specs.Asked.{place_named, context_of, member_property}
use Rattle.gd_defs.specs.Change.{Change, Setting, create_word, connect_word, guid_member, target_in, setting_of, write_name, create_in, is_connect_form, is_fact_form, is_form, by_name, members_of, item_of, items_of, object_item, list_item, change_of}
use Rattle.gd_defs.specs.Change as spelled
use Rattle.gd_defs.specs.Write.{WriteSet, one_change, changes, WriteRequest, numbered, changes_of, unknown, scope_of, resolved_root, Resolved, resolved_all, root_subject, carried_root, carried_all, result_of, fitting, exec}
use Rattle.gd_write_laws.specs.Laws.{SpellEach, SpellsSet}
use Rattle.gd_defs.specs.Write.Parts.{to_object, Item, as_spelled, its_id, its_guid, fact, connect, nested, several, ManyItems, no_more, and_then, Members, no_members, member, created, literal_target, new_target, target_of, in_language_of, has_fact, type_text, fact_item, identity_item, resolved, resolved_item, resolved_items}
use Rattle.gd_defs.specs.Write.Links.{Stamp, inserted, connected}
use Rattle.gd_defs.specs.Write.Carried.{answered, Made, Subject, subject_of, created_text, carried, carried_item, carried_items}
use Rattle.gd_tree.specs.Bounds.{json_depth, items_depth, members_depth}
use Rattle.gd_grammar.proofs.Steps.{steps, ok_same, not_ok, either}
use Rattle.gd_write_laws.proofs.Spelled.{within_ok, change_spelled}
use Rattle.gd_write_laws.proofs.Follows.{mapped_ok, fitted}

json-one : (j : Json) → 1 ≤ json_depth j
json-one null = omega arith
json-one (boolean b) = omega arith
json-one (number n) = omega arith
json-one (text t) = omega arith
json-one (list js) = omega arith
json-one (object ms) = omega arith

-- ---- what a change prints

abbrev mutual
  -- how deep what the members of a change print is at most
  change_depth : spelled.Members → ℕ
  change_depth spelled.no_members = 0
  change_depth (spelled.member n i ms) = max (item_depth i) (change_depth ms)
  change_depth (spelled.created w ms) = max 1 (change_depth ms)

  item_depth : spelled.Item → ℕ
  item_depth spelled.blank = 1
  item_depth (spelled.plain j) = json_depth j
  item_depth (spelled.fact t ms) = 1 + members_depth ms
  item_depth (spelled.connect w t previous ms) = 1 + members_depth ms
  item_depth (spelled.nested w ms) = 1 + change_depth ms
  item_depth (spelled.several is) = 1 + many_depth is

  many_depth : spelled.ManyItems → ℕ
  many_depth spelled.no_more = 0
  many_depth (spelled.and_then i is) = max (item_depth i) (many_depth is)

item-one : (i : spelled.Item) → 1 ≤ item_depth i
item-one spelled.blank = omega arith
item-one (spelled.plain j) = json-one j
item-one (spelled.fact t ms) = omega arith
item-one (spelled.connect w t previous ms) = omega arith
item-one (spelled.nested w ms) = omega arith
item-one (spelled.several is) = omega arith

identity-depth : (s : Setting) (n : Name) (j : Json) (i : spelled.Item) → spelled.identity_item s n j ≡ Ok i → item_depth i ≤ json_depth j
identity-depth s n null i is = either (s.creates || (s.has_id && is_word (codes "guid") n.word)) (Ok spelled.blank) _ (Ok i)
    (λ b same. omega (arith, ap item_depth (ok_same spelled.blank i same))) (λ b err. not_ok _ i err) is
identity-depth s n j i is = either (s.creates || not (bytes_eq n.spelled (if s.has_id then codes "id" else codes "guid"))) _ _ (Ok i) (λ b err. not_ok _ i err)
    (λ b rest. either (is_id_text j) (Ok (spelled.plain j)) _ (Ok i) (λ b same. omega (arith, ap item_depth (ok_same (spelled.plain j) i same))) (λ b err. not_ok _ i err) rest) is

object-depth : (s : Setting) (n : Name) (ms : JsonMembers) (below : Result spelled.Members Fault) (i : spelled.Item)
    → ((c : spelled.Members) → below ≡ Ok c → change_depth c ≤ members_depth ms) → object_item s n ms below ≡ Ok i → item_depth i ≤ 1 + members_depth ms
object-depth s n ms below i deep is = by (get (codes "connect") ms) (get (codes "create") ms) refl refl
  where
    by : (a b : Option Json) → get (codes "connect") ms ≡ a → get (codes "create") ms ≡ b → item_depth i ≤ 1 + members_depth ms
    by (Some j) b a_is b_is = let given = rw a_is at is in
        either (not (is_connect_form ms)) _ (target_in n.spelled ms >>= λ t. or_fault bad_connect n.spelled (connect_word j) >>= λ w. Ok (spelled.connect w t (guid_member (codes "previous") ms) ms)) (Ok i)
        (λ b err. not_ok _ i err)
        (λ b rest. let t = steps (target_in n.spelled ms) (λ t. or_fault bad_connect n.spelled (connect_word j) >>= λ w. Ok (spelled.connect w t (guid_member (codes "previous") ms) ms)) i rest in
        let w = steps (or_fault bad_connect n.spelled (connect_word j)) (λ w. Ok (spelled.connect w t.value (guid_member (codes "previous") ms) ms)) i t.then_gave in
        omega (arith, ap item_depth (ok_same (spelled.connect w.value t.value (guid_member (codes "previous") ms) ms) i w.then_gave))) given
    by None (Some j) a_is b_is = let given = rw (a_is, b_is) at is in
        let inside = within_ok n.spelled (below >>= λ c. or_fault bad_create (codes "create") (create_word j) >>= λ w. Ok (spelled.nested w c)) i given in
        let c = steps below (λ c. or_fault bad_create (codes "create") (create_word j) >>= λ w. Ok (spelled.nested w c)) i inside in
        let w = steps (or_fault bad_create (codes "create") (create_word j)) (λ w. Ok (spelled.nested w c.value)) i c.then_gave in
        omega (arith, ap item_depth (ok_same (spelled.nested w.value c.value) i w.then_gave), deep c.value c.gave)
    by None None a_is b_is = let given = rw (a_is, b_is) at is in
        either (s.creates && is_fact_form ms) (target_in n.spelled ms >>= λ t. Ok (spelled.fact t ms)) _ (Ok i)
        (λ b rest. let t = steps (target_in n.spelled ms) (λ t. Ok (spelled.fact t ms)) i rest in omega (arith, ap item_depth (ok_same (spelled.fact t.value ms) i t.then_gave)))
        (λ b err. not_ok _ i err) given

list-depth : (s : Setting) (n : Name) (js : Items) (below : Result spelled.ManyItems Fault) (i : spelled.Item)
    → ((is : spelled.ManyItems) → below ≡ Ok is → many_depth is ≤ items_depth js) → list_item s n js below ≡ Ok i → item_depth i ≤ 1 + items_depth js
list-depth s n no_items below i deep is = not_ok _ i is
list-depth s n (item j js) below i deep is =
    either (all_items is_form (item j js) || (s.creates && all_items is_literal (item j js))) (below >>= λ i. Ok (spelled.several i)) _ (Ok i)
    (λ b rest. let x = steps below (λ i. Ok (spelled.several i)) i rest in omega (arith, ap item_depth (ok_same (spelled.several x.value) i x.then_gave), deep x.value x.gave))
    (λ b rest. either (all_items is_literal (item j js)) _ _ (Ok i) (λ b err. not_ok _ i err) (λ b err. not_ok _ i err) rest) is

mutual
  spelled-depth : (s : Setting) (ms : JsonMembers) (c : spelled.Members) → members_of s ms ≡ Ok c → change_depth c ≤ members_depth ms
  spelled-depth s no_json_members c is = omega (arith, ap change_depth (ok_same spelled.no_members c is))
  spelled-depth s (json_member k j ms) c is =
      either (bytes_eq k (codes "create")) (create_in s j >>= λ w. members_of s ms >>= λ rest. Ok (spelled.created w rest))
      (write_name s.at_root k >>= λ n. by_name s n j (item_of s n j) >>= λ i. members_of s ms >>= λ rest. Ok (spelled.member n i rest)) (Ok c)
      (λ b here. let w = steps (create_in s j) (λ w. members_of s ms >>= λ rest. Ok (spelled.created w rest)) c here in
      let rest = steps (members_of s ms) (λ rest. Ok (spelled.created w.value rest)) c w.then_gave in
      omega (arith, ap change_depth (ok_same (spelled.created w.value rest.value) c rest.then_gave), json-one j, spelled-depth s ms rest.value rest.gave))
      (λ b here. let n = steps (write_name s.at_root k) (λ n. by_name s n j (item_of s n j) >>= λ i. members_of s ms >>= λ rest. Ok (spelled.member n i rest)) c here in
      let i = steps (by_name s n.value j (item_of s n.value j)) (λ i. members_of s ms >>= λ rest. Ok (spelled.member n.value i rest)) c n.then_gave in
      let rest = steps (members_of s ms) (λ rest. Ok (spelled.member n.value i.value rest)) c i.then_gave in
      let first : item_depth i.value ≤ json_depth j = either (is_identity n.value.word) (spelled.identity_item s n.value j) (item_of s n.value j) (Ok i.value)
      (λ b own. identity-depth s n.value j i.value own) (λ b other. spelled_item-depth s n.value j i.value other) i.gave in
      omega (arith, ap change_depth (ok_same (spelled.member n.value i.value rest.value) c rest.then_gave), first, spelled-depth s ms rest.value rest.gave)) is

  spelled_item-depth : (s : Setting) (n : Name) (j : Json) (i : spelled.Item) → item_of s n j ≡ Ok i → item_depth i ≤ json_depth j
  spelled_item-depth s n null i is = not_ok _ i is
  spelled_item-depth s n (boolean b) i is = omega (arith, ap item_depth (ok_same (spelled.plain (boolean b)) i is))
  spelled_item-depth s n (number m) i is = omega (arith, ap item_depth (ok_same (spelled.plain (number m)) i is))
  spelled_item-depth s n (text t) i is = omega (arith, ap item_depth (ok_same (spelled.plain (text t)) i is))
  spelled_item-depth s n (object ms) i is = object-depth s n ms (members_of (setting_of false ms) ms) i (λ c gave. spelled-depth (setting_of false ms) ms c gave) is
  spelled_item-depth s n (list js) i is = list-depth s n js (items_of s n js) i (λ xs gave. spelled_items-depth s n js xs gave) is

  spelled_items-depth : (s : Setting) (n : Name) (js : Items) (is : spelled.ManyItems) → items_of s n js ≡ Ok is → many_depth is ≤ items_depth js
  spelled_items-depth s n no_items xs is = omega (arith, ap many_depth (ok_same spelled.no_more xs is))
  spelled_items-depth s n (item j js) xs is =
      let one = steps (item_of s n j) (λ i. items_of s n js >>= λ is. Ok (spelled.and_then i is)) xs is in
      let rest = steps (items_of s n js) (λ is. Ok (spelled.and_then one.value is)) xs one.then_gave in
      omega (arith, ap many_depth (ok_same (spelled.and_then one.value rest.value) xs rest.then_gave), spelled_item-depth s n j one.value one.gave, spelled_items-depth s n js rest.value rest.gave)

-- ---- what it prints with its words looked up

abbrev mutual
  printed_depth : Members → ℕ
  printed_depth no_members = 0
  printed_depth (member name i ms) = max (printed_item i) (printed_depth ms)
  printed_depth (created ms) = max 1 (printed_depth ms)

  printed_item : Item → ℕ
  printed_item (as_spelled j) = json_depth j
  printed_item its_id = 1
  printed_item its_guid = 1
  printed_item (fact p t j) = json_depth j
  printed_item (connect p w t previous ms) = 1 + members_depth ms
  printed_item (nested p w ms) = 1 + printed_depth ms
  printed_item (several is) = 1 + printed_items is

  printed_items : ManyItems → ℕ
  printed_items no_more = 0
  printed_items (and_then i is) = max (printed_item i) (printed_items is)

fact-depth : (prims : List Primitive) (path : List (List ℕ)) (on : Option ℕ) (p : Property) (j : Json) (i : Item) → fact_item prims path on p j ≡ Ok i → printed_item i ≤ json_depth j
fact-depth prims path None p j i is =
    let t = steps (new_target prims path (expects_of p.expected) j) (λ t. Ok (fact p t j)) i is in omega (arith, ap printed_item (ok_same (fact p t.value j) i t.then_gave))
fact-depth prims path (Some o) p j i is =
    let t = steps (literal_target prims path (expects_of p.expected) j) (λ t. if has_fact prims p o t then Ok (as_spelled j) else _) i is in
    either (has_fact prims p o t.value) (Ok (as_spelled j)) _ (Ok i) (λ b same. omega (arith, ap printed_item (ok_same (as_spelled j) i same))) (λ b err. not_ok _ i err) t.then_gave

own_depth : (n : Name) (i : spelled.Item) → printed_item (identity_item n i) ≤ item_depth i
own_depth n (spelled.plain j) = omega arith
own_depth n i = own (is_word (codes "id") n.word) (item-one i)
  where
    own : (b : Bool) → 1 ≤ item_depth i → printed_item (if b then its_id else its_guid) ≤ item_depth i
    own true one = one
    own false one = one

mutual
  resolved-depth : (prims : List Primitive) (on context : Option ℕ) (path : List (List ℕ)) (c : spelled.Members) (ms : Members) → resolved prims on context path c ≡ Ok ms → printed_depth ms ≤ change_depth c
  resolved-depth prims on context path spelled.no_members ms is = omega (arith, ap printed_depth (ok_same no_members ms is))
  resolved-depth prims on context path (spelled.created w c) ms is =
      let rest = steps (resolved prims on context path c) (λ rest. Ok (created rest)) ms is in
      omega (arith, ap printed_depth (ok_same (created rest.value) ms rest.then_gave), resolved-depth prims on context path c rest.value rest.gave)
  resolved-depth prims on context path (spelled.member n i c) ms is =
      let one = steps (if is_computed n.word then Ok (identity_item n i)
      else (member_property prims context (path ++ n.spelled ∷ []) n >>= λ p. resolved_item prims on (path ++ n.spelled ∷ []) p i))
      (λ r. resolved prims on context path c >>= λ rest. Ok (member n.spelled r rest)) ms is in
      let rest = steps (resolved prims on context path c) (λ rest. Ok (member n.spelled one.value rest)) ms one.then_gave in
      let first : printed_item one.value ≤ item_depth i = either (is_computed n.word) (Ok (identity_item n i))
      (member_property prims context (path ++ n.spelled ∷ []) n >>= λ p. resolved_item prims on (path ++ n.spelled ∷ []) p i) (Ok one.value)
      (λ b own. subst (λ x. printed_item x ≤ item_depth i) (ok_same (identity_item n i) one.value own) (own_depth n i))
      (λ b other. let p = steps (member_property prims context (path ++ n.spelled ∷ []) n) (λ p. resolved_item prims on (path ++ n.spelled ∷ []) p i) one.value other in
      resolved_item-depth prims on (path ++ n.spelled ∷ []) p.value i one.value p.then_gave)
      one.gave in
      omega (arith, ap printed_depth (ok_same (member n.spelled one.value rest.value) ms rest.then_gave), first, resolved-depth prims on context path c rest.value rest.gave)

  resolved_item-depth : (prims : List Primitive) (on : Option ℕ) (path : List (List ℕ)) (p : Property) (c : spelled.Item) (i : Item) → resolved_item prims on path p c ≡ Ok i → printed_item i ≤ item_depth c
  resolved_item-depth prims on path p spelled.blank i is = omega (arith, ap printed_item (ok_same (as_spelled null) i is))
  resolved_item-depth prims on path p (spelled.plain j) i is = fact-depth prims path on p j i is
  resolved_item-depth prims on path p (spelled.fact t ms) i is =
      let q = steps (in_language_of prims path p t) (λ q. target_of prims path (expects_of p.expected) t >>= λ r. Ok (fact q r (object ms))) i is in
      let r = steps (target_of prims path (expects_of p.expected) t) (λ r. Ok (fact q.value r (object ms))) i q.then_gave in omega (arith, ap printed_item (ok_same (fact q.value r.value (object ms)) i r.then_gave))
  resolved_item-depth prims on path p (spelled.connect w t previous ms) i is =
      let q = steps (in_language_of prims path p t) (λ q. target_of prims path (expects_of p.expected) t >>= λ r. Ok (connect q w r previous ms)) i is in
      let r = steps (target_of prims path (expects_of p.expected) t) (λ r. Ok (connect q.value w r previous ms)) i q.then_gave in omega (arith, ap printed_item (ok_same (connect q.value w r.value previous ms) i r.then_gave))
  resolved_item-depth prims on path p (spelled.nested w c) i is =
      either (holds_values (expects_of p.expected)) _ (context_of prims p.expected (type_text c) >>= λ x. resolved prims None x path c >>= λ r. Ok (nested p w r)) (Ok i)
      (λ b err. not_ok _ i err)
      (λ b below. let x = steps (context_of prims p.expected (type_text c)) (λ x. resolved prims None x path c >>= λ r. Ok (nested p w r)) i below in
      let r = steps (resolved prims None x.value path c) (λ r. Ok (nested p w r)) i x.then_gave in
      omega (arith, ap printed_item (ok_same (nested p w r.value) i r.then_gave), resolved-depth prims None x.value path c r.value r.gave)) is
  resolved_item-depth prims on path p (spelled.several c) i is =
      let r = steps (resolved_items prims on path p c) (λ rs. Ok (several rs)) i is in
      omega (arith, ap printed_item (ok_same (several r.value) i r.then_gave), resolved_items-depth prims on path p c r.value r.gave)

  resolved_items-depth : (prims : List Primitive) (on : Option ℕ) (path : List (List ℕ)) (p : Property) (c : spelled.ManyItems) (is : ManyItems) → resolved_items prims on path p c ≡ Ok is → printed_items is ≤ many_depth c
  resolved_items-depth prims on path p spelled.no_more xs is = omega (arith, ap printed_items (ok_same no_more xs is))
  resolved_items-depth prims on path p (spelled.and_then c cs) xs is =
      let one = steps (resolved_item prims on path p c) (λ r. resolved_items prims on path p cs >>= λ rs. Ok (and_then r rs)) xs is in
      let rest = steps (resolved_items prims on path p cs) (λ rs. Ok (and_then one.value rs)) xs one.then_gave in
      omega (arith, ap printed_items (ok_same (and_then one.value rest.value) xs rest.then_gave), resolved_item-depth prims on path p c one.value one.gave, resolved_items-depth prims on path p cs rest.value rest.gave)

-- ---- what is printed

answered-depth : (answer : List ℕ) (ms : JsonMembers) → members_depth (answered answer ms) ≤ members_depth ms
answered-depth answer no_json_members = omega arith
answered-depth answer (json_member k j ms) = let rest = answered-depth answer ms in let one = json-one j in by (bytes_eq k (codes "connect")) one rest
  where
    by : (b : Bool) → 1 ≤ json_depth j → members_depth (answered answer ms) ≤ members_depth ms
        → members_depth (if b then json_member k (text answer) ms else json_member k j (answered answer ms)) ≤ max (json_depth j) (members_depth ms)
    by true one rest = omega arith
    by false one rest = omega arith

mutual
  carried-depth : (s : Stamp) (path : List (List ℕ)) (prims : List Primitive) (o : Subject) (ms : Members) (m : Made JsonMembers) → carried s path prims o ms ≡ Ok m
      → (final : List Primitive) → members_depth (m.1 final) ≤ printed_depth ms
  carried-depth s path prims o no_members m is final = omega (arith, ap (λ (m : Made JsonMembers). members_depth (m.1 final)) (ok_same (prims, λ final. no_json_members) m is))
  carried-depth s path prims o (created ms) m is final =
      let r = steps (carried s path prims o ms) (λ r. Ok (r.0, λ final. json_member (codes "create") (created_text o.existed) (r.1 final))) m is in
      omega (
        arith,
        ap (λ (m : Made JsonMembers). members_depth (m.1 final)) (ok_same (r.value.0, λ final. json_member (codes "create") (created_text o.existed) (r.value.1 final)) m r.then_gave),
        carried-depth s path prims o ms r.value r.gave final,
      )
  carried-depth s path prims o (member name i ms) m is final =
      let one = steps (carried_item s (path ++ name ∷ []) prims o i) (λ m. carried s path m.0 o ms >>= λ r. Ok (r.0, λ final. json_member name (m.1 final) (r.1 final))) m is in
      let rest = steps (carried s path one.value.0 o ms) (λ r. Ok (r.0, λ final. json_member name (one.value.1 final) (r.1 final))) m one.then_gave in
      omega (
        arith,
        ap (λ (m : Made JsonMembers). members_depth (m.1 final)) (ok_same (rest.value.0, λ final. json_member name (one.value.1 final) (rest.value.1 final)) m rest.then_gave),
        carried_item-depth s (path ++ name ∷ []) prims o i one.value one.gave final,
        carried-depth s path one.value.0 o ms rest.value rest.gave final,
      )

  carried_item-depth : (s : Stamp) (path : List (List ℕ)) (prims : List Primitive) (o : Subject) (i : Item) (m : Made Json) → carried_item s path prims o i ≡ Ok m
      → (final : List Primitive) → json_depth (m.1 final) ≤ printed_item i
  carried_item-depth s path prims o (as_spelled j) m is final = omega (arith, ap (λ (m : Made Json). json_depth (m.1 final)) (ok_same (prims, λ final. j) m is))
  carried_item-depth s path prims o its_id m is final = omega (arith, ap (λ (m : Made Json). json_depth (m.1 final)) (ok_same (prims, λ final. text (id_text final o.object)) m is))
  carried_item-depth s path prims o its_guid m is final = omega (arith, ap (λ (m : Made Json). json_depth (m.1 final)) (ok_same (prims, λ final. text (guid o.object)) m is))
  carried_item-depth s path prims o (fact p t j) m is final =
      either o.existed (Ok (prims, λ final. j)) (inserted s path prims p o.object t >>= λ d. Ok (d.0, λ final. j)) (Ok m)
      (λ b same. omega (arith, ap (λ (m : Made Json). json_depth (m.1 final)) (ok_same (prims, λ final. j) m same)))
      (λ b made. let d = steps (inserted s path prims p o.object t) (λ d. Ok (d.0, λ final. j)) m made in
      omega (arith, ap (λ (m : Made Json). json_depth (m.1 final)) (ok_same (d.value.0, λ final. j) m d.then_gave))) is
  carried_item-depth s path prims o (connect p w t previous ms) m is final =
      let d = steps (connected s path prims p o.object w t previous) (λ d. Ok (d.0, λ final. object (answered d.1 ms))) m is in
      omega (arith, ap (λ (m : Made Json). json_depth (m.1 final)) (ok_same (d.value.0, λ final. object (answered d.value.1 ms)) m d.then_gave), answered-depth d.value.1 ms)
  carried_item-depth s path prims o (nested p w ms) m is final =
      let x = steps (subject_of s path prims w ms) (λ x. carried s path x.prims x ms >>= λ r. inserted s path r.0 p o.object (to_object x.object) >>= λ d. Ok (d.0, λ final. object (r.1 final))) m is in
      let r = steps (carried s path x.value.prims x.value ms) (λ r. inserted s path r.0 p o.object (to_object x.value.object) >>= λ d. Ok (d.0, λ final. object (r.1 final))) m x.then_gave in
      let d = steps (inserted s path r.value.0 p o.object (to_object x.value.object)) (λ d. Ok (d.0, λ final. object (r.value.1 final))) m r.then_gave in
      omega (arith, ap (λ (m : Made Json). json_depth (m.1 final)) (ok_same (d.value.0, λ final. object (r.value.1 final)) m d.then_gave), carried-depth s path x.value.prims x.value ms r.value r.gave final)
  carried_item-depth s path prims o (several is) m given final =
      let r = steps (carried_items s path prims o is) (λ r. Ok (r.0, λ final. list (r.1 final))) m given in
      omega (arith, ap (λ (m : Made Json). json_depth (m.1 final)) (ok_same (r.value.0, λ final. list (r.value.1 final)) m r.then_gave), carried_items-depth s path prims o is r.value r.gave final)

  carried_items-depth : (s : Stamp) (path : List (List ℕ)) (prims : List Primitive) (o : Subject) (is : ManyItems) (m : Made Items) → carried_items s path prims o is ≡ Ok m
      → (final : List Primitive) → items_depth (m.1 final) ≤ printed_items is
  carried_items-depth s path prims o no_more m given final = omega (arith, ap (λ (m : Made Items). items_depth (m.1 final)) (ok_same (prims, λ final. no_items) m given))
  carried_items-depth s path prims o (and_then i is) m given final =
      let one = steps (carried_item s path prims o i) (λ m. carried_items s path m.0 o is >>= λ r. Ok (r.0, λ final. item (m.1 final) (r.1 final))) m given in
      let rest = steps (carried_items s path one.value.0 o is) (λ r. Ok (r.0, λ final. item (one.value.1 final) (r.1 final))) m one.then_gave in
      omega (
        arith,
        ap (λ (m : Made Items). items_depth (m.1 final)) (ok_same (rest.value.0, λ final. item (one.value.1 final) (rest.value.1 final)) m rest.then_gave),
        carried_item-depth s path prims o i one.value one.gave final,
        carried_items-depth s path one.value.0 o is rest.value rest.gave final,
      )

-- ---- a write

root-depth : (prims : List Primitive) (path : List (List ℕ)) (c : Change) (r : Option ℕ × Members) → resolved_root prims path c ≡ Ok r → printed_depth r.1 ≤ change_depth c.members
root-depth prims path c r is = by c.root refl
  where
    by : (root : spelled.Root) → c.root ≡ root → printed_depth r.1 ≤ change_depth c.members
    by (spelled.to_create w) root = let given = rw root at is in
        let t = steps (context_of prims None (type_text c.members)) (λ t. resolved prims None t path c.members >>= λ ms. Ok (None, ms)) r given in
        let ms = steps (resolved prims None t.value path c.members) (λ ms. Ok (None, ms)) r t.then_gave in
        omega (arith, ap (λ (r : Option ℕ × Members). printed_depth r.1) (ok_same (None, ms.value) r ms.then_gave), resolved-depth prims None t.value path c.members ms.value ms.gave)
    by (spelled.existing_object id) root = let given = rw root at is in
        let o = steps (place_named prims id) (λ o. context_of prims None (type_text c.members) >>= λ x. resolved prims (Some o) x path c.members >>= λ ms. Ok (Some o, ms)) r given in
        let x = steps (context_of prims None (type_text c.members)) (λ x. resolved prims (Some o.value) x path c.members >>= λ ms. Ok (Some o.value, ms)) r o.then_gave in
        let ms = steps (resolved prims (Some o.value) x.value path c.members) (λ ms. Ok (Some o.value, ms)) r x.then_gave in
        omega (arith, ap (λ (r : Option ℕ × Members). printed_depth r.1) (ok_same (Some o.value, ms.value) r ms.then_gave), resolved-depth prims (Some o.value) x.value path c.members ms.value ms.gave)

-- how deep changes are at most
abbrev changes_depth : List (List (List ℕ) × Change) → ℕ
changes_depth [] = 0
changes_depth (c ∷ cs) = max (1 + change_depth c.1.members) (changes_depth cs)

-- how deep what they print is at most
abbrev roots_depth : List Resolved → ℕ
roots_depth [] = 0
roots_depth (r ∷ rs) = max (1 + printed_depth r.members) (roots_depth rs)

all-depth : (prims : List Primitive) (cs : List (List (List ℕ) × Change)) (rs : List Resolved) → resolved_all prims cs ≡ Ok rs → roots_depth rs ≤ changes_depth cs
all-depth prims [] rs is = omega (arith, ap roots_depth (ok_same [] rs is))
all-depth prims (c ∷ cs) rs is =
    let r = steps (resolved_root prims c.0 c.1) (λ r. resolved_all prims cs >>= λ rs. Ok (record { path = c.0; root = c.1.root; on = r.0; members = r.1 } ∷ rs)) rs is in
    let more = steps (resolved_all prims cs) (λ rs. Ok (record { path = c.0; root = c.1.root; on = r.value.0; members = r.value.1 } ∷ rs)) rs r.then_gave in
    omega (arith, ap roots_depth (ok_same (record { path = c.0; root = c.1.root; on = r.value.0; members = r.value.1 } ∷ more.value) rs more.then_gave), root-depth prims c.0 c.1 r.value r.gave, all-depth prims cs more.value more.gave)

made-depth : (s : Stamp) (prims : List Primitive) (rs : List Resolved) (m : Made Items) → carried_all s prims rs ≡ Ok m → (final : List Primitive) → items_depth (m.1 final) ≤ roots_depth rs
made-depth s prims [] m is final = omega (arith, ap (λ (m : Made Items). items_depth (m.1 final)) (ok_same (prims, λ final. no_items) m is))
made-depth s prims (r ∷ rs) m is final =
    let one = steps (carried_root s prims r) (λ m. carried_all s m.0 rs >>= λ ms. Ok (ms.0, λ final. item (object (m.1 final)) (ms.1 final))) m is in
    let rest = steps (carried_all s one.value.0 rs) (λ ms. Ok (ms.0, λ final. item (object (one.value.1 final)) (ms.1 final))) m one.then_gave in
    let o = steps (root_subject s r.path prims r.root r.on r.members) (λ o. carried s r.path o.prims o r.members) one.value one.gave in
    omega (
      arith,
      ap (λ (m : Made Items). items_depth (m.1 final)) (ok_same (rest.value.0, λ final. item (object (one.value.1 final)) (rest.value.1 final)) m rest.then_gave),
      carried-depth s r.path o.value.prims o.value r.members one.value o.then_gave final,
      made-depth s one.value.0 rs rest.value rest.gave final,
    )

-- how deep the result is at most
abbrev result_depth : WriteSet → ℕ → ℕ
result_depth (one_change c) n = max 1 n
result_depth (changes cs) n = 1 + n

result_of-depth : (a : WriteSet) (js : Items) (n : ℕ) → items_depth js ≤ n → json_depth (result_of a js) ≤ result_depth a n
result_of-depth (one_change c) no_items n deep = omega arith
result_of-depth (one_change c) (item j js) n deep = omega arith
result_of-depth (changes cs) js n deep = omega arith

exec-depth : (prims : List Primitive) (requests : ℕ) (w : WriteRequest) (moment : ℕ) (b : Batch) (j : Json) → exec prims requests w moment ≡ Ok (b, j) → json_depth j ≤ result_depth w.asks (changes_depth (changes_of w.asks))
exec-depth prims requests w moment b j is =
    let scope = steps (map_err unknown (scope_of prims w.scope)) (λ scope. map_err unknown (resolved_all prims (changes_of w.asks)) >>= λ rs.
    carried_all (record { scope = scope; moment = moment }) prims rs >>= λ m.
    fitting prims requests (record { moment = moment; prims = drop (length prims) m.0 }) (result_of w.asks (m.1 m.0))) (b, j) is in
    let r = steps (map_err unknown (resolved_all prims (changes_of w.asks))) (λ rs.
    carried_all (record { scope = scope.value; moment = moment }) prims rs >>= λ m.
    fitting prims requests (record { moment = moment; prims = drop (length prims) m.0 }) (result_of w.asks (m.1 m.0))) (b, j) scope.then_gave in
    let m = steps (carried_all (record { scope = scope.value; moment = moment }) prims r.value) (λ m.
    fitting prims requests (record { moment = moment; prims = drop (length prims) m.0 }) (result_of w.asks (m.1 m.0))) (b, j) r.then_gave in
    let fits = fitted prims requests (record { moment = moment; prims = drop (length prims) m.value.0 }) (result_of w.asks (m.value.1 m.value.0)) b j m.then_gave in
    let roots = all-depth prims (changes_of w.asks) r.value (mapped_ok unknown (resolved_all prims (changes_of w.asks)) r.value r.gave) in
    let made = made-depth (record { scope = scope.value; moment = moment }) prims r.value m.value m.gave m.value.0 in
    subst (λ j. json_depth j ≤ result_depth w.asks (changes_depth (changes_of w.asks))) fits.result
    (result_of-depth w.asks (m.value.1 m.value.0) (changes_depth (changes_of w.asks)) (omega arith))

-- a change is no deeper than the value that spells it
change-depth : (query : Json) (c : Change) → change_of query ≡ Ok c → 1 + change_depth c.members ≤ json_depth query
change-depth (object ms) c spells = omega (arith, spelled-depth (setting_of true ms) ms c.members (change_spelled ms c spells).members)
change-depth _ c spells = not_ok _ c spells

each-depth : (n : ℕ) (js : Items) (cs : List Change) → SpellEach js cs → changes_depth (numbered n cs) ≤ items_depth js
each-depth n no_items [] spells = omega arith
each-depth n (item j js) (c ∷ cs) spells = omega (arith, change-depth j c spells.0, each-depth (n + 1) js cs spells.1)
each-depth n no_items (c ∷ cs) spells = absurd spells
each-depth n (item j js) [] spells = absurd spells

set-depth : (query : Json) (a : WriteSet) → SpellsSet query a → result_depth a (changes_depth (changes_of a)) ≤ json_depth query
set-depth query (one_change c) spells = omega (arith, change-depth query c spells)
set-depth query (changes cs) spells = omega (arith, ap json_depth spells.1, each-depth 0 spells.0 cs spells.2)

pub result-depth : (prims : List Primitive) (requests : ℕ) (query : Json) (w : WriteRequest) (moment : ℕ) (b : Batch) (j : Json) → SpellsSet query w.asks → exec prims requests w moment ≡ Ok (b, j)
    → json_depth j ≤ json_depth query
result-depth prims requests query w moment b j spells is = omega (arith, exec-depth prims requests w moment b j is, set-depth query w.asks spells)
