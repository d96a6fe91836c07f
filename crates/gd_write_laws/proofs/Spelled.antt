-- The change that a JSON value spells has the values of that value alone.
use Rattle.std.proofs.Common.{◌≡◌, ℕ, ◌+◌, List, [], ◌∷◌, Bool, true, false, ◌&&◌, ◌||◌, not, Option, Some, None, Result, Ok, Err, codes, refl, ap, subst, ◌∙◌}
use Rattle.std.specs.Prelude.{if◌then◌else◌, bytes_eq}
use Rattle.std.specs.Option.{option_or}
use Rattle.gd_base.specs.declared.datum.Datum.{Datum}
use Rattle.gd_grammar.specs.Chain.{◌>>=◌}
use Rattle.gd_tree.specs.Look.{get}
use Rattle.gd_tree.specs.Json.{Json, null, boolean, number, text, list, object, Items, no_items, item, Members as JsonMembers, no_members as no_json_members, member as json_member}
use Rattle.gd_defs.specs.Query.{Name, Fault, bad_create, bad_connect, within, or_fault, is_identity, is_word, is_literal, is_id_text, all_items}
use Rattle.gd_defs.specs.Change as change
use Rattle.gd_defs.specs.Change.{CreateWord, ConnectWord, Setting, Change, blank, plain, fact, connect, nested, several, no_more, and_then, no_members, member, created, to_id, to_literal, to_text, to_key, create_word, connect_word, text_member, guid_member, first_code, part_code, target_of, target_in, setting_of, write_name, create_in, identity_item, is_connect_form, is_fact_form, object_item, is_form, list_item, by_name, members_of, item_of, items_of, change_of}
use Rattle.gd_defs.specs.Write.{WriteSet, one_change, changes, numbered, changes_of}
use Rattle.gd_write_laws.specs.Laws.{SpellEach, SpellsSet}
use Rattle.gd_write_laws.specs.Fits.{Spells, TargetSpells, MembersSpell, ItemSpells, ItemsSpell, ChangesSpell}
use Rattle.gd_tree.specs.Bounds.{IsPlain, ArePlain, MembersPlain}
use Rattle.gd_write_laws.specs.Values.{MayHold, IsTyped}
use Rattle.gd_grammar.proofs.Steps.{steps, ok_same, not_ok, some_given, some_same, not_some, either}
use Rattle.gd_write_laws.proofs.Values.{Spells-held, Spells-typed}

-- ---- each value

target-spells : (V : Datum → Type 0) → ((j : Json) → Spells V j) → (t : change.Target) → TargetSpells V t
target-spells V spells (to_id t) = tt
target-spells V spells (to_literal j) = spells j
target-spells V spells (to_text t j) = spells j
target-spells V spells (to_key t j) = spells j

mutual
  members-spell : (V : Datum → Type 0) → ((j : Json) → Spells V j) → (c : change.Members) → MembersSpell V c
  members-spell V spells no_members = tt
  members-spell V spells (member n i ms) = (item-spells V spells i, members-spell V spells ms)
  members-spell V spells (created w ms) = members-spell V spells ms

  item-spells : (V : Datum → Type 0) → ((j : Json) → Spells V j) → (i : change.Item) → ItemSpells V i
  item-spells V spells blank = tt
  item-spells V spells (plain j) = spells j
  item-spells V spells (fact t ms) = target-spells V spells t
  item-spells V spells (connect w t previous ms) = target-spells V spells t
  item-spells V spells (nested w ms) = members-spell V spells ms
  item-spells V spells (several is) = items-spell V spells is

  items-spell : (V : Datum → Type 0) → ((j : Json) → Spells V j) → (is : change.ManyItems) → ItemsSpell V is
  items-spell V spells no_more = tt
  items-spell V spells (and_then i is) = (item-spells V spells i, items-spell V spells is)

-- a primitive may hold whatever a write spells
pub held_by_all : (cs : List (List (List ℕ) × Change)) → ChangesSpell MayHold cs
held_by_all [] = tt
held_by_all (c ∷ cs) = (members-spell MayHold Spells-held c.1.members, held_by_all cs)

-- ---- the values of a JSON value

get-plain : (T : List ℕ → Bool) (k : List ℕ) (ms : JsonMembers) (j : Json) → MembersPlain T ms → get k ms ≡ Some j → IsPlain T j
get-plain T k no_json_members j are is = not_some j is
get-plain T k (json_member l x ms) j are is = either (bytes_eq k l) (Some x) (get k ms) (Some j)
    (λ b same. subst (IsPlain T) (some_same x j same) are.0) (λ b later. get-plain T k ms j are.1 later) is

target-plain : (T : List ℕ → Bool) (ms : JsonMembers) (t : change.Target) → MembersPlain T ms → target_of ms ≡ Some t → TargetSpells (IsTyped T) t
target-plain T ms t are is = by (text_member (codes "id") ms) (text_member (codes "namespace") ms) (text_member (codes "lang") ms) (get (codes "value") ms) refl refl refl refl
  where
    by : (a b l : Option (List ℕ)) (c : Option Json) → text_member (codes "id") ms ≡ a → text_member (codes "namespace") ms ≡ b → text_member (codes "lang") ms ≡ l → get (codes "value") ms ≡ c → TargetSpells (IsTyped T) t
    by (Some i) b l c a_is b_is l_is c_is = let given = rw a_is at is in subst (TargetSpells (IsTyped T)) (some_same (to_id i) t given) tt
    by None (Some n) l (Some j) a_is b_is l_is c_is = let given = rw (a_is, b_is, c_is) at is in
        subst (TargetSpells (IsTyped T)) (some_same (to_key n j) t given) (Spells-typed T j (get-plain T (codes "value") ms j are c_is))
    by None None (Some n) (Some j) a_is b_is l_is c_is = let given = rw (a_is, b_is, l_is, c_is) at is in
        subst (TargetSpells (IsTyped T)) (some_same (to_text n j) t given) (Spells-typed T j (get-plain T (codes "value") ms j are c_is))
    by None None None (Some j) a_is b_is l_is c_is = let given = rw (a_is, b_is, l_is, c_is) at is in
        subst (TargetSpells (IsTyped T)) (some_same (to_literal j) t given) (Spells-typed T j (get-plain T (codes "value") ms j are c_is))
    by None (Some n) l None a_is b_is l_is c_is = let given = rw (a_is, b_is, c_is) at is in not_some t given
    by None None (Some n) None a_is b_is l_is c_is = let given = rw (a_is, b_is, l_is, c_is) at is in not_some t given
    by None None None None a_is b_is l_is c_is = let given = rw (a_is, b_is, l_is, c_is) at is in not_some t given

pub within_ok : {A : Type 0} (name : List ℕ) (r : Result A Fault) (x : A) → within name r ≡ Ok x → r ≡ Ok x
within_ok name (Ok y) x is = ap Ok (ok_same y x is)
within_ok name (Err f) x is = not_ok _ x is

target_in-plain : (T : List ℕ → Bool) (name : List ℕ) (ms : JsonMembers) (t : change.Target) → MembersPlain T ms → target_in name ms ≡ Ok t → TargetSpells (IsTyped T) t
target_in-plain T name ms t are is = by (first_code (part_code ms) ms) refl
  where
    by : (o : Option Fault) → first_code (part_code ms) ms ≡ o → TargetSpells (IsTyped T) t
    by None o_is = let given = rw o_is at is in target-plain T ms t are (some_given (target_of ms) _ t given)
    by (Some f) o_is = let given = rw o_is at is in not_ok _ t given

identity-plain : (T : List ℕ → Bool) (s : Setting) (n : Name) (j : Json) (i : change.Item) → IsPlain T j → identity_item s n j ≡ Ok i → ItemSpells (IsTyped T) i
identity-plain T s n null i are is = either (s.creates || (s.has_id && is_word (codes "guid") n.word)) (Ok blank) _ (Ok i)
    (λ b same. subst (ItemSpells (IsTyped T)) (ok_same blank i same) tt) (λ b err. not_ok _ i err) is
identity-plain T s n j i are is = either (s.creates || not (bytes_eq n.spelled (if s.has_id then codes "id" else codes "guid"))) _ _ (Ok i) (λ b err. not_ok _ i err)
    (λ b rest. either (is_id_text j) (Ok (plain j)) _ (Ok i) (λ b same. subst (ItemSpells (IsTyped T)) (ok_same (plain j) i same) (Spells-typed T j are)) (λ b err. not_ok _ i err) rest) is

object-plain : (T : List ℕ → Bool) (s : Setting) (n : Name) (ms : JsonMembers) (below : Result change.Members Fault) (i : change.Item) → MembersPlain T ms
    → ((c : change.Members) → below ≡ Ok c → MembersSpell (IsTyped T) c) → object_item s n ms below ≡ Ok i → ItemSpells (IsTyped T) i
object-plain T s n ms below i are nested_are is = by (get (codes "connect") ms) (get (codes "create") ms) refl refl
  where
    by : (a b : Option Json) → get (codes "connect") ms ≡ a → get (codes "create") ms ≡ b → ItemSpells (IsTyped T) i
    by (Some j) b a_is b_is = let given = rw a_is at is in
        either (not (is_connect_form ms)) _ (target_in n.spelled ms >>= λ t. or_fault bad_connect n.spelled (connect_word j) >>= λ w. Ok (connect w t (guid_member (codes "previous") ms) ms)) (Ok i)
        (λ b err. not_ok _ i err)
        (λ b rest. let t = steps (target_in n.spelled ms) (λ t. or_fault bad_connect n.spelled (connect_word j) >>= λ w. Ok (connect w t (guid_member (codes "previous") ms) ms)) i rest in
        let w = steps (or_fault bad_connect n.spelled (connect_word j)) (λ w. Ok (connect w t.value (guid_member (codes "previous") ms) ms)) i t.then_gave in
        subst (ItemSpells (IsTyped T)) (ok_same (connect w.value t.value (guid_member (codes "previous") ms) ms) i w.then_gave) (target_in-plain T n.spelled ms t.value are t.gave)) given
    by None (Some j) a_is b_is = let given = rw (a_is, b_is) at is in
        let inside = within_ok n.spelled (below >>= λ c. or_fault bad_create (codes "create") (create_word j) >>= λ w. Ok (nested w c)) i given in
        let c = steps below (λ c. or_fault bad_create (codes "create") (create_word j) >>= λ w. Ok (nested w c)) i inside in
        let w = steps (or_fault bad_create (codes "create") (create_word j)) (λ w. Ok (nested w c.value)) i c.then_gave in
        subst (ItemSpells (IsTyped T)) (ok_same (nested w.value c.value) i w.then_gave) (nested_are c.value c.gave)
    by None None a_is b_is = let given = rw (a_is, b_is) at is in
        either (s.creates && is_fact_form ms) (target_in n.spelled ms >>= λ t. Ok (fact t ms)) _ (Ok i)
        (λ b rest. let t = steps (target_in n.spelled ms) (λ t. Ok (fact t ms)) i rest in
        subst (ItemSpells (IsTyped T)) (ok_same (fact t.value ms) i t.then_gave) (target_in-plain T n.spelled ms t.value are t.gave))
        (λ b err. not_ok _ i err) given

list-plain : (T : List ℕ → Bool) (s : Setting) (n : Name) (js : Items) (below : Result change.ManyItems Fault) (i : change.Item)
    → ((is : change.ManyItems) → below ≡ Ok is → ItemsSpell (IsTyped T) is) → list_item s n js below ≡ Ok i → ItemSpells (IsTyped T) i
list-plain T s n no_items below i below_are is = not_ok _ i is
list-plain T s n (item j js) below i below_are is =
    either (all_items is_form (item j js) || (s.creates && all_items is_literal (item j js))) (below >>= λ i. Ok (several i)) _ (Ok i)
    (λ b rest. let x = steps below (λ i. Ok (several i)) i rest in subst (ItemSpells (IsTyped T)) (ok_same (several x.value) i x.then_gave) (below_are x.value x.gave))
    (λ b rest. either (all_items is_literal (item j js)) _ _ (Ok i) (λ b err. not_ok _ i err) (λ b err. not_ok _ i err) rest) is

mutual
  pub members-plain : (T : List ℕ → Bool) (s : Setting) (ms : JsonMembers) (c : change.Members) → MembersPlain T ms → members_of s ms ≡ Ok c → MembersSpell (IsTyped T) c
  members-plain T s no_json_members c are is = subst (MembersSpell (IsTyped T)) (ok_same no_members c is) tt
  members-plain T s (json_member k j ms) c are is =
      either (bytes_eq k (codes "create")) (create_in s j >>= λ w. members_of s ms >>= λ rest. Ok (created w rest))
      (write_name s.at_root k >>= λ n. by_name s n j (item_of s n j) >>= λ i. members_of s ms >>= λ rest. Ok (member n i rest)) (Ok c)
      (λ b here. let w = steps (create_in s j) (λ w. members_of s ms >>= λ rest. Ok (created w rest)) c here in
      let rest = steps (members_of s ms) (λ rest. Ok (created w.value rest)) c w.then_gave in
      subst (MembersSpell (IsTyped T)) (ok_same (created w.value rest.value) c rest.then_gave) (members-plain T s ms rest.value are.1 rest.gave))
      (λ b here. let n = steps (write_name s.at_root k) (λ n. by_name s n j (item_of s n j) >>= λ i. members_of s ms >>= λ rest. Ok (member n i rest)) c here in
      let i = steps (by_name s n.value j (item_of s n.value j)) (λ i. members_of s ms >>= λ rest. Ok (member n.value i rest)) c n.then_gave in
      let rest = steps (members_of s ms) (λ rest. Ok (member n.value i.value rest)) c i.then_gave in
      let first : ItemSpells (IsTyped T) i.value = either (is_identity n.value.word) (identity_item s n.value j) (item_of s n.value j) (Ok i.value)
      (λ b own. identity-plain T s n.value j i.value are.0 own) (λ b other. item-plain T s n.value j i.value are.0 other) i.gave in
      subst (MembersSpell (IsTyped T)) (ok_same (member n.value i.value rest.value) c rest.then_gave) (first, members-plain T s ms rest.value are.1 rest.gave)) is

  item-plain : (T : List ℕ → Bool) (s : Setting) (n : Name) (j : Json) (i : change.Item) → IsPlain T j → item_of s n j ≡ Ok i → ItemSpells (IsTyped T) i
  item-plain T s n null i are is = not_ok _ i is
  item-plain T s n (boolean b) i are is = subst (ItemSpells (IsTyped T)) (ok_same (plain (boolean b)) i is) (Spells-typed T (boolean b) are)
  item-plain T s n (number m) i are is = subst (ItemSpells (IsTyped T)) (ok_same (plain (number m)) i is) (Spells-typed T (number m) are)
  item-plain T s n (text t) i are is = subst (ItemSpells (IsTyped T)) (ok_same (plain (text t)) i is) (Spells-typed T (text t) are)
  item-plain T s n (object ms) i are is = object-plain T s n ms (members_of (setting_of false ms) ms) i are (λ c gave. members-plain T (setting_of false ms) ms c are gave) is
  item-plain T s n (list js) i are is = list-plain T s n js (items_of s n js) i (λ xs gave. items-plain T s n js xs are gave) is

  items-plain : (T : List ℕ → Bool) (s : Setting) (n : Name) (js : Items) (is : change.ManyItems) → ArePlain T js → items_of s n js ≡ Ok is → ItemsSpell (IsTyped T) is
  items-plain T s n no_items xs are is = subst (ItemsSpell (IsTyped T)) (ok_same no_more xs is) tt
  items-plain T s n (item j js) xs are is =
      let one = steps (item_of s n j) (λ i. items_of s n js >>= λ is. Ok (and_then i is)) xs is in
      let rest = steps (items_of s n js) (λ is. Ok (and_then one.value is)) xs one.then_gave in
      subst (ItemsSpell (IsTyped T)) (ok_same (and_then one.value rest.value) xs rest.then_gave) (item-plain T s n j one.value are.0 one.gave, items-plain T s n js rest.value are.1 rest.gave)

-- the change that an object spells is the change that its members spell
pub record Spelled (ms : JsonMembers) (c : Change) : Type 0 where
  pub members : members_of (setting_of true ms) ms ≡ Ok c.members

pub change_spelled : (ms : JsonMembers) (c : Change) → change_of (object ms) ≡ Ok c → Spelled ms c
change_spelled ms c is = by (get (codes "create") ms) (option_or (text_member (codes "id") ms) (text_member (codes "guid") ms)) refl refl
  where
    by : (a : Option Json) (b : Option (List ℕ)) → get (codes "create") ms ≡ a → option_or (text_member (codes "id") ms) (text_member (codes "guid") ms) ≡ b → Spelled ms c
    by (Some j) b a_is b_is = let given = rw a_is at is in
        let x = steps (members_of (setting_of true ms) ms) (λ x. or_fault bad_create (codes "create") (create_word j) >>= λ w. Ok (record { root = change.to_create w; members = x })) c given in
        let w = steps (or_fault bad_create (codes "create") (create_word j)) (λ w. Ok (record { root = change.to_create w; members = x.value })) c x.then_gave in
        record { members = x.gave ∙ ap (λ (c : Change). Ok c.members) (ok_same (record { root = change.to_create w.value; members = x.value }) c w.then_gave) }
    by None (Some t) a_is b_is = let given = rw (a_is, b_is) at is in
        let x = steps (members_of (setting_of true ms) ms) (λ x. Ok (record { root = change.existing_object t; members = x })) c given in
        record { members = x.gave ∙ ap (λ (c : Change). Ok c.members) (ok_same (record { root = change.existing_object t; members = x.value }) c x.then_gave) }
    by None None a_is b_is = let given = rw (a_is, b_is) at is in not_ok _ c given

pub typed_by_plain : (T : List ℕ → Bool) (j : Json) (c : Change) → IsPlain T j → change_of j ≡ Ok c → MembersSpell (IsTyped T) c.members
typed_by_plain T (object ms) c are is = members-plain T (setting_of true ms) ms c.members are (change_spelled ms c is).members
typed_by_plain T _ c are is = not_ok _ c is

each_typed : (T : List ℕ → Bool) (n : ℕ) (js : Items) (cs : List Change) → ArePlain T js → SpellEach js cs → ChangesSpell (IsTyped T) (numbered n cs)
each_typed T n no_items [] are spells = tt
each_typed T n (item j js) (c ∷ cs) are spells = (typed_by_plain T j c are.0 spells.0, each_typed T (n + 1) js cs are.1 spells.1)
each_typed T n no_items (c ∷ cs) are spells = absurd spells
each_typed T n (item j js) [] are spells = absurd spells

pub set_typed_by_plain : (T : List ℕ → Bool) (j : Json) (a : WriteSet) → IsPlain T j → SpellsSet j a → ChangesSpell (IsTyped T) (changes_of a)
set_typed_by_plain T j (one_change c) are spells = (typed_by_plain T j c are spells, tt)
set_typed_by_plain T j (changes cs) are spells = each_typed T 0 spells.0 cs (subst (IsPlain T) spells.1 are) spells.2
