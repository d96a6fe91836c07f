-- No limit is asked while a write is carried out.
use Rattle.std.proofs.Common.{◌≡◌, ℕ, List, [], ◌∷◌, ◌++◌, length, Bool, true, false, not, ◌&&◌, Option, Some, None, Result, Ok, Err, codes, refl}
use Rattle.std.specs.Prelude.{if◌then◌else◌, nat_lt, filter, map}
use Rattle.gd_grammar.specs.Chain.{◌>>=◌, map_err}
use Rattle.gd_prim.specs.declared.Primitive.{Primitive}
use Rattle.gd_prim.specs.Live.{objects, successor}
use Rattle.gd_tree.specs.Json as tree
use Rattle.gd_defs.specs.Asked.{Unknown}
use Rattle.gd_defs.specs.Property.{Property, answers}
use Rattle.gd_defs.specs.Query.{bad_connect, bad_previous}
use Rattle.gd_defs.specs.Change as change
use Rattle.gd_defs.specs.Change.{CreateWord, unless_exists, unconditional, ConnectWord, insert, delete, update}
use Rattle.gd_defs.specs.Write.{Resolved, carried_all, carried_root, root_subject}
use Rattle.gd_defs.specs.Write.Parts.{Target, to_object, to_value, to_key, has_fact, is_target, equal_links, Item, as_spelled, its_id, its_guid, fact, connect, nested, several, ManyItems, no_more, and_then, Members, no_members, member, created}
use Rattle.gd_defs.specs.Write.Links.{ChangeFault, unknown, not_unique, stale_version, full, Stamp, Done, deletion, new_link, other_holder, unless_taken, refused, inserted, deleted, updated, is_link_of, target_language, updated_from, connected}
use Rattle.gd_defs.specs.Write.Carried.{answered, has_own, Subject, subject_of, created_text, fact_made, carried, carried_item, carried_items}

-- the refusal tells of no limit
abbrev pub IsLimitless : ChangeFault → Type 0
IsLimitless (full what count) = ⊥
IsLimitless _ = Unit {0}

-- what is given, or a refusal that tells of no limit
abbrev pub Spares : {A : Type 0} → Result A ChangeFault → Type 0
Spares (Ok a) = Unit {0}
Spares (Err f) = IsLimitless f

pub chain : {A B : Type 0} (r : Result A ChangeFault) (k : A → Result B ChangeFault) → Spares r → ((a : A) → Spares (k a)) → Spares (r >>= k)
chain (Ok a) k first rest = rest a
chain (Err f) k first rest = first

either : {A : Type 0} (b : Bool) (x y : Result A ChangeFault) → Spares x → Spares y → Spares (if b then x else y)
either true x y this other = this
either false x y this other = other

-- ---- links

taken : (h : Option ℕ) (t : Target) (r : Result Done ChangeFault) → Spares r → Spares (unless_taken h t r)
taken None t r spares = spares
taken (Some h) (to_object x) r spares = spares
taken (Some h) (to_value d) r spares = spares
taken (Some h) (to_key namespace key) r spares = tt

inserted-spares : (s : Stamp) (path : List (List ℕ)) (prims : List Primitive) (p : Property) (o : ℕ) (t : Target) → Spares (inserted s path prims p o t)
inserted-spares s path prims p o t =
    let done : Result Done ChangeFault = Ok (prims ++ new_link s p o t None ∷ [], codes "inserted") in
    either (has_fact prims p o t) (Ok (prims, codes "present")) _ tt
    (either (p.unique && nat_lt 0 (length (answers prims p o))) (Err (not_unique path)) _ tt (taken (other_holder prims o t) t done tt))

deleted-spares : (s : Stamp) (prims : List Primitive) (p : Property) (o : ℕ) (t : Target) → Spares (deleted s prims p o t)
deleted-spares s prims p o t = either (has_fact prims p o t) (Ok (prims ++ map (deletion s prims) (equal_links prims p o t), codes "deleted")) (Ok (prims, codes "absent")) tt tt

-- three ways
of_three : (b c : Bool) (x y z : Result Done ChangeFault) → Spares x → Spares y → Spares z → Spares (if b then x else if c then y else z)
of_three true c x y z first second third = first
of_three false true x y z first second third = second
of_three false false x y z first second third = third

updated-spares : (s : Stamp) (path : List (List ℕ)) (prims : List Primitive) (p : Property) (o : ℕ) (t : Target) → Spares (updated s path prims p o t)
updated-spares s path prims p o t = by (answers prims p o) refl
  where
    by : (ks : List ℕ) → answers prims p o ≡ ks → Spares (updated s path prims p o t)
    by [] are = rw are (of_three (not p.unique) (nat_lt 0 (length (filter (is_target prims p t) []))) (refused bad_connect (path ++ codes "connect" ∷ [])) (Ok (prims, codes "present")) (Ok (prims ++ new_link s p o t None ∷ [], codes "inserted")) tt tt tt)
    by (k ∷ []) are = rw are (of_three (not p.unique) (nat_lt 0 (length (filter (is_target prims p t) (k ∷ [])))) (refused bad_connect (path ++ codes "connect" ∷ [])) (Ok (prims, codes "present")) (Ok (prims ++ new_link s p o t (Some k) ∷ [], codes "updated")) tt tt tt)
    by (k ∷ l ∷ ks) are = rw are (of_three (not p.unique) (nat_lt 0 (length (filter (is_target prims p t) (k ∷ l ∷ ks)))) (refused bad_connect (path ++ codes "connect" ∷ [])) (Ok (prims, codes "present")) (Err (not_unique path)) tt tt tt)

updated_from-spares : (s : Stamp) (path : List (List ℕ)) (prims : List Primitive) (p : Property) (o : ℕ) (t : Target) (k : ℕ) → Spares (updated_from s path prims p o t k)
updated_from-spares s path prims p o t k = by (successor prims k) refl
  where
    by : (n : Option ℕ) → successor prims k ≡ n → Spares (updated_from s path prims p o t k)
    by (Some n) succeeds = rw succeeds (either (not (is_link_of prims p o (target_language p t) k)) (refused bad_previous (path ++ codes "previous" ∷ [])) (Err (stale_version k n)) tt tt)
    by None succeeds = rw succeeds (of_three (not (is_link_of prims p o (target_language p t) k)) (is_target prims p t k) (refused bad_previous (path ++ codes "previous" ∷ [])) (Ok (prims, codes "present")) (Ok (prims ++ new_link s p o t (Some k) ∷ [], codes "updated")) tt tt tt)

connected-spares : (s : Stamp) (path : List (List ℕ)) (prims : List Primitive) (p : Property) (o : ℕ) (w : ConnectWord) (t : Target) (previous : Option ℕ) → Spares (connected s path prims p o w t previous)
connected-spares s path prims p o insert t previous = inserted-spares s path prims p o t
connected-spares s path prims p o delete t previous = deleted-spares s prims p o t
connected-spares s path prims p o update (to_key namespace key) previous = tt
connected-spares s path prims p o update (to_object x) None = updated-spares s path prims p o (to_object x)
connected-spares s path prims p o update (to_object x) (Some k) = updated_from-spares s path prims p o (to_object x) k
connected-spares s path prims p o update (to_value v) None = updated-spares s path prims p o (to_value v)
connected-spares s path prims p o update (to_value v) (Some k) = updated_from-spares s path prims p o (to_value v) k

-- ---- members

subject_of-spares : (s : Stamp) (path : List (List ℕ)) (prims : List Primitive) (w : CreateWord) (ms : Members) → Spares (subject_of s path prims w ms)
subject_of-spares s path prims unconditional ms = tt
subject_of-spares s path prims unless_exists ms = by (filter (has_own prims ms) (objects prims)) refl
  where
    by : (os : List ℕ) → filter (has_own prims ms) (objects prims) ≡ os → Spares (subject_of s path prims unless_exists ms)
    by [] are = rw are tt
    by (x ∷ []) are = rw are tt
    by (x ∷ y ∷ os) are = rw are tt

fact-spares : (s : Stamp) (path : List (List ℕ)) (prims : List Primitive) (p : Property) (o : Subject) (t : Target) (j : tree.Json) → Spares (fact_made s path prims p o t j)
fact-spares s path prims p o t j =
    either o.existed (Ok (prims, λ final. j)) _ tt (chain (inserted s path prims p o.object t) (λ d. Ok (d.0, λ final. j)) (inserted-spares s path prims p o.object t) (λ d. tt))

mutual
  members-spare : (s : Stamp) (path : List (List ℕ)) (prims : List Primitive) (o : Subject) (ms : Members) → Spares (carried s path prims o ms)
  members-spare s path prims o no_members = tt
  members-spare s path prims o (created ms) =
      chain (carried s path prims o ms) (λ r. Ok (r.0, λ final. tree.member (codes "create") (created_text o.existed) (r.1 final))) (members-spare s path prims o ms) (λ r. tt)
  members-spare s path prims o (member name i ms) =
      chain (carried_item s (path ++ name ∷ []) prims o i) (λ m. carried s path m.0 o ms >>= λ r. Ok (r.0, λ final. tree.member name (m.1 final) (r.1 final))) (item-spares s (path ++ name ∷ []) prims o i)
      (λ m. chain (carried s path m.0 o ms) (λ r. Ok (r.0, λ final. tree.member name (m.1 final) (r.1 final))) (members-spare s path m.0 o ms) (λ r. tt))

  item-spares : (s : Stamp) (path : List (List ℕ)) (prims : List Primitive) (o : Subject) (i : Item) → Spares (carried_item s path prims o i)
  item-spares s path prims o (as_spelled j) = tt
  item-spares s path prims o its_id = tt
  item-spares s path prims o its_guid = tt
  item-spares s path prims o (fact p t j) = fact-spares s path prims p o t j
  item-spares s path prims o (connect p w t previous ms) =
      chain (connected s path prims p o.object w t previous) (λ d. Ok (d.0, λ final. tree.object (answered d.1 ms))) (connected-spares s path prims p o.object w t previous) (λ d. tt)
  item-spares s path prims o (nested p w ms) =
      chain (subject_of s path prims w ms) (λ n. carried s path n.prims n ms >>= λ r. inserted s path r.0 p o.object (to_object n.object) >>= λ d. Ok (d.0, λ final. tree.object (r.1 final)))
      (subject_of-spares s path prims w ms)
      (λ n. chain (carried s path n.prims n ms) (λ r. inserted s path r.0 p o.object (to_object n.object) >>= λ d. Ok (d.0, λ final. tree.object (r.1 final))) (members-spare s path n.prims n ms)
      (λ r. chain (inserted s path r.0 p o.object (to_object n.object)) (λ d. Ok (d.0, λ final. tree.object (r.1 final))) (inserted-spares s path r.0 p o.object (to_object n.object)) (λ d. tt)))
  item-spares s path prims o (several is) = chain (carried_items s path prims o is) (λ r. Ok (r.0, λ final. tree.list (r.1 final))) (items-spare s path prims o is) (λ r. tt)

  items-spare : (s : Stamp) (path : List (List ℕ)) (prims : List Primitive) (o : Subject) (is : ManyItems) → Spares (carried_items s path prims o is)
  items-spare s path prims o no_more = tt
  items-spare s path prims o (and_then i is) =
      chain (carried_item s path prims o i) (λ m. carried_items s path m.0 o is >>= λ r. Ok (r.0, λ final. tree.item (m.1 final) (r.1 final))) (item-spares s path prims o i)
      (λ m. chain (carried_items s path m.0 o is) (λ r. Ok (r.0, λ final. tree.item (m.1 final) (r.1 final))) (items-spare s path m.0 o is) (λ r. tt))

-- ---- the changes

root-subject-spares : (s : Stamp) (path : List (List ℕ)) (prims : List Primitive) (root : change.Root) (on : Option ℕ) (ms : Members) → Spares (root_subject s path prims root on ms)
root-subject-spares s path prims (change.to_create w) on ms = subject_of-spares s path prims w ms
root-subject-spares s path prims (change.existing_object t) on ms = tt

root-spares : (s : Stamp) (prims : List Primitive) (r : Resolved) → Spares (carried_root s prims r)
root-spares s prims r = chain (root_subject s r.path prims r.root r.on r.members) (λ o. carried s r.path o.prims o r.members) (root-subject-spares s r.path prims r.root r.on r.members) (λ o. members-spare s r.path o.prims o r.members)

pub all-spare : (s : Stamp) (prims : List Primitive) (rs : List Resolved) → Spares (carried_all s prims rs)
all-spare s prims [] = tt
all-spare s prims (r ∷ rs) =
    chain (carried_root s prims r) (λ m. carried_all s m.0 rs >>= λ ms. Ok (ms.0, λ final. tree.item (tree.object (m.1 final)) (ms.1 final))) (root-spares s prims r)
    (λ m. chain (carried_all s m.0 rs) (λ ms. Ok (ms.0, λ final. tree.item (tree.object (m.1 final)) (ms.1 final))) (all-spare s m.0 rs) (λ ms. tt))

-- what has no meaning tells of no limit
pub meaning-spares : {A : Type 0} (r : Result A Unknown) → Spares (map_err unknown r)
meaning-spares (Ok a) = tt
meaning-spares (Err u) = tt
