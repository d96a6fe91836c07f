-- Forms of a write nest no deeper than the JSON that spells them.
use Rattle.std.proofs.Common.{◌≡◌, ◌≤◌, ℕ, ◌+◌, List, true, false, ◌||◌, not, Option, Some, None, Result, Ok, Err, codes, refl, ap, arith}
use Rattle.std.specs.Prelude.{if◌then◌else◌, bytes_eq, ◌&&◌}
use Rattle.std.specs.Option.{option_or}
use Rattle.gd_grammar.specs.Chain.{◌>>=◌}
use Rattle.gd_grammar.proofs.Steps.{steps, ok_same, not_ok, either}
use Rattle.gd_tree.specs.Json.{Json, null, boolean, number, text, list, object, Items, no_items, item, Members as JsonMembers, no_members as no_json_members, member as json_member}
use Rattle.gd_tree.specs.Look.{get}
use Rattle.gd_tree.specs.Bounds.{json_depth, items_depth, members_depth}
use Rattle.gd_defs.specs.Query.{Name, Fault, bad_create, bad_connect, or_fault, within, is_word, is_identity, is_literal, is_id_text, all_items}
use Rattle.gd_defs.specs.Change as change
use Rattle.gd_defs.specs.Change.{Change, Setting, create_word, connect_word, guid_member, text_member, target_in, setting_of, write_name, create_in, is_connect_form, is_fact_form, is_form, by_name, members_of, item_of, items_of, object_item, list_item, change_of}
use Rattle.gd_form_laws.specs.SpelledChange.{item_depth, many_depth, entries_depth, change_or, spelled_change}

within_ok : {A : Type 0} (k : List ℕ) (r : Result A Fault) (x : A) → within k r ≡ Ok x → r ≡ Ok x
within_ok k (Ok y) x is = is
within_ok k (Err f) x is = not_ok _ x is

identity-within : (s : Setting) (n : Name) (j : Json) (i : change.Item) → change.identity_item s n j ≡ Ok i → item_depth i ≤ json_depth j
identity-within s n null i is = either (s.creates || (s.has_id && is_word (codes "guid") n.word)) (Ok change.blank) _ (Ok i)
    (λ b same. omega (arith, ap item_depth (ok_same change.blank i same))) (λ b err. not_ok _ i err) is
identity-within s n j i is = either (s.creates || not (bytes_eq n.spelled (if s.has_id then codes "id" else codes "guid"))) _ _ (Ok i) (λ b err. not_ok _ i err)
    (λ b rest. either (is_id_text j) (Ok (change.plain j)) _ (Ok i) (λ b same. omega (arith, ap item_depth (ok_same (change.plain j) i same))) (λ b err. not_ok _ i err) rest) is

object-within : (s : Setting) (n : Name) (ms : JsonMembers) (below : Result change.Members Fault) (i : change.Item)
    → ((c : change.Members) → below ≡ Ok c → entries_depth c ≤ members_depth ms) → object_item s n ms below ≡ Ok i → item_depth i ≤ 1 + members_depth ms
object-within s n ms below i deep is = by (get (codes "connect") ms) (get (codes "create") ms) refl refl
  where
    by : (a b : Option Json) → get (codes "connect") ms ≡ a → get (codes "create") ms ≡ b → item_depth i ≤ 1 + members_depth ms
    by (Some j) b a_is b_is = let given = rw a_is at is in
        either (not (is_connect_form ms)) _ (target_in n.spelled ms >>= λ t. or_fault bad_connect n.spelled (connect_word j) >>= λ w. Ok (change.connect w t (guid_member (codes "previous") ms) ms)) (Ok i)
        (λ b err. not_ok _ i err)
        (λ b rest. let t = steps (target_in n.spelled ms) (λ t. or_fault bad_connect n.spelled (connect_word j) >>= λ w. Ok (change.connect w t (guid_member (codes "previous") ms) ms)) i rest in
        let w = steps (or_fault bad_connect n.spelled (connect_word j)) (λ w. Ok (change.connect w t.value (guid_member (codes "previous") ms) ms)) i t.then_gave in
        omega (arith, ap item_depth (ok_same (change.connect w.value t.value (guid_member (codes "previous") ms) ms) i w.then_gave))) given
    by None (Some j) a_is b_is = let given = rw (a_is, b_is) at is in
        let inside = within_ok n.spelled (below >>= λ c. or_fault bad_create (codes "create") (create_word j) >>= λ w. Ok (change.nested w c)) i given in
        let c = steps below (λ c. or_fault bad_create (codes "create") (create_word j) >>= λ w. Ok (change.nested w c)) i inside in
        let w = steps (or_fault bad_create (codes "create") (create_word j)) (λ w. Ok (change.nested w c.value)) i c.then_gave in
        omega (arith, ap item_depth (ok_same (change.nested w.value c.value) i w.then_gave), deep c.value c.gave)
    by None None a_is b_is = let given = rw (a_is, b_is) at is in
        either (s.creates && is_fact_form ms) (target_in n.spelled ms >>= λ t. Ok (change.fact t ms)) _ (Ok i)
        (λ b rest. let t = steps (target_in n.spelled ms) (λ t. Ok (change.fact t ms)) i rest in omega (arith, ap item_depth (ok_same (change.fact t.value ms) i t.then_gave)))
        (λ b err. not_ok _ i err) given

list-within : (s : Setting) (n : Name) (js : Items) (below : Result change.ManyItems Fault) (i : change.Item)
    → ((is : change.ManyItems) → below ≡ Ok is → many_depth is ≤ items_depth js) → list_item s n js below ≡ Ok i → item_depth i ≤ 1 + items_depth js
list-within s n no_items below i deep is = not_ok _ i is
list-within s n (item j js) below i deep is =
    either (all_items is_form (item j js) || (s.creates && all_items is_literal (item j js))) (below >>= λ i. Ok (change.several i)) _ (Ok i)
    (λ b rest. let x = steps below (λ i. Ok (change.several i)) i rest in omega (arith, ap item_depth (ok_same (change.several x.value) i x.then_gave), deep x.value x.gave))
    (λ b rest. either (all_items is_literal (item j js)) _ _ (Ok i) (λ b err. not_ok _ i err) (λ b err. not_ok _ i err) rest) is

mutual
  entries-within : (s : Setting) (ms : JsonMembers) (c : change.Members) → members_of s ms ≡ Ok c → entries_depth c ≤ members_depth ms
  entries-within s no_json_members c is = omega (arith, ap entries_depth (ok_same change.no_members c is))
  entries-within s (json_member k j ms) c is =
      either (bytes_eq k (codes "create")) (create_in s j >>= λ w. members_of s ms >>= λ rest. Ok (change.created w rest))
      (write_name s.at_root k >>= λ n. by_name s n j (item_of s n j) >>= λ i. members_of s ms >>= λ rest. Ok (change.member n i rest)) (Ok c)
      (λ b here. let w = steps (create_in s j) (λ w. members_of s ms >>= λ rest. Ok (change.created w rest)) c here in
      let rest = steps (members_of s ms) (λ rest. Ok (change.created w.value rest)) c w.then_gave in
      omega (arith, ap entries_depth (ok_same (change.created w.value rest.value) c rest.then_gave), entries-within s ms rest.value rest.gave))
      (λ b here. let n = steps (write_name s.at_root k) (λ n. by_name s n j (item_of s n j) >>= λ i. members_of s ms >>= λ rest. Ok (change.member n i rest)) c here in
      let i = steps (by_name s n.value j (item_of s n.value j)) (λ i. members_of s ms >>= λ rest. Ok (change.member n.value i rest)) c n.then_gave in
      let rest = steps (members_of s ms) (λ rest. Ok (change.member n.value i.value rest)) c i.then_gave in
      let first : item_depth i.value ≤ json_depth j = either (is_identity n.value.word) (change.identity_item s n.value j) (item_of s n.value j) (Ok i.value)
      (λ b own. identity-within s n.value j i.value own) (λ b other. item-within s n.value j i.value other) i.gave in
      omega (arith, ap entries_depth (ok_same (change.member n.value i.value rest.value) c rest.then_gave), first, entries-within s ms rest.value rest.gave)) is

  item-within : (s : Setting) (n : Name) (j : Json) (i : change.Item) → item_of s n j ≡ Ok i → item_depth i ≤ json_depth j
  item-within s n null i is = not_ok _ i is
  item-within s n (boolean b) i is = omega (arith, ap item_depth (ok_same (change.plain (boolean b)) i is))
  item-within s n (number m) i is = omega (arith, ap item_depth (ok_same (change.plain (number m)) i is))
  item-within s n (text t) i is = omega (arith, ap item_depth (ok_same (change.plain (text t)) i is))
  item-within s n (object ms) i is = object-within s n ms (members_of (setting_of false ms) ms) i (λ c gave. entries-within (setting_of false ms) ms c gave) is
  item-within s n (list js) i is = list-within s n js (items_of s n js) i (λ xs gave. items-within s n js xs gave) is

  items-within : (s : Setting) (n : Name) (js : Items) (is : change.ManyItems) → items_of s n js ≡ Ok is → many_depth is ≤ items_depth js
  items-within s n no_items xs is = omega (arith, ap many_depth (ok_same change.no_more xs is))
  items-within s n (item j js) xs is =
      let one = steps (item_of s n j) (λ i. items_of s n js >>= λ is. Ok (change.and_then i is)) xs is in
      let rest = steps (items_of s n js) (λ is. Ok (change.and_then one.value is)) xs one.then_gave in
      omega (arith, ap many_depth (ok_same (change.and_then one.value rest.value) xs rest.then_gave), item-within s n j one.value one.gave, items-within s n js rest.value rest.gave)

create_within : (r : Result change.Members Fault) (o : Option change.CreateWord) (m : ℕ) → ((c : change.Members) → r ≡ Ok c → entries_depth c ≤ m)
    → entries_depth (change_or (r >>= λ c. or_fault bad_create (codes "create") o >>= λ w. Ok (record { root = change.to_create w; members = c }))).members ≤ m
create_within (Ok c) (Some w) m within = within c refl
create_within (Ok c) None m within = omega arith
create_within (Err f) o m within = omega arith

named_within : (r : Result change.Members Fault) (t : List ℕ) (m : ℕ) → ((c : change.Members) → r ≡ Ok c → entries_depth c ≤ m)
    → entries_depth (change_or (r >>= λ c. Ok (record { root = change.existing_object t; members = c }))).members ≤ m
named_within (Ok c) t m within = within c refl
named_within (Err f) t m within = omega arith

object_change : (ms : JsonMembers) → entries_depth (change_or (change_of (object ms))).members ≤ members_depth ms
object_change ms = by (get (codes "create") ms) (option_or (text_member (codes "id") ms) (text_member (codes "guid") ms)) refl refl
  where
    by : (o : Option Json) (t : Option (List ℕ)) → get (codes "create") ms ≡ o → option_or (text_member (codes "id") ms) (text_member (codes "guid") ms) ≡ t → entries_depth (change_or (change_of (object ms))).members ≤ members_depth ms
    by (Some j) t there named = rw there (create_within (members_of (setting_of true ms) ms) (create_word j) (members_depth ms) (λ c gave. entries-within (setting_of true ms) ms c gave))
    by None (Some t) away named = rw (away, named) (named_within (members_of (setting_of true ms) ms) t (members_depth ms) (λ c gave. entries-within (setting_of true ms) ms c gave))
    by None None away named = rw (away, named) (omega arith)

-- forms nest no deeper than the JSON of a write, the root among them
pub change-depth : (j : Json) → 1 + entries_depth (spelled_change j).members ≤ json_depth j
unfolding spelled_change
change-depth null = omega arith
change-depth (boolean b) = omega arith
change-depth (number n) = omega arith
change-depth (text t) = omega arith
change-depth (list js) = omega arith
change-depth (object ms) = let h : entries_depth (change_or (change_of (object ms))).members ≤ members_depth ms = object_change ms in omega arith
