-- A nested create.
use Rattle.std.proofs.Common.{rules, ◌≡◌, ℕ, List, [], ◌∷◌, ◌++◌, Bool, Vec, Global, Result, Ok, Err, refl, ap, ◌∙◌, codes}
use Rattle.gd_grammar.specs.Chain.{◌>>=◌}
use Rattle.gd_prim.specs.declared.Primitive.{Primitive}
use Rattle.gd_tree.specs.Json as tree
use Rattle.gd_mql.specs.Changes.{create_view}
use Rattle.gd_mql.specs.declared.write_parts.CreateWord.{CreateWord}
use Rattle.gd_defs.specs.Property.{Property}
use Rattle.gd_defs.specs.Write.Links.{ChangeFault, Stamp}
use Rattle.gd_defs.specs.Write.Parts as parts
use Rattle.gd_defs.specs.Write.Carried as defined
use Rattle.gd_defs.specs.Write.Carried.{Made, created_text}
use Rattle.gd_intent.specs.Seen.{item_view, members_view}
use Rattle.gd_intent.specs.declared.intent.Entry.{Entry}
use Rattle.gd_intent.specs.declared.intent.Item.{Item, Nested, the_lemmas}

-- one level
pub nested_view : (p : Property) (w : CreateWord) (v : Vec (Entry Item) Global) → item_view (Nested p w v) ≡ parts.nested p (create_view w) (members_view v.items)
nested_view p w v = search (rules, the_lemmas)

-- what comes behind is the same
behind : {A B C : Type 0} (f g : List Primitive → Result (Made A) ChangeFault) (k : Made C → Made A → Made B) (w : Result (Made C) ChangeFault) → ((q : List Primitive) → f q ≡ g q)
    → (w >>= λ m. f m.0 >>= λ r. Ok (k m r)) ≡ (w >>= λ m. g m.0 >>= λ r. Ok (k m r))
behind f g k (Err e) same = refl
behind f g k (Ok m) same = ap (λ v. v >>= λ r. Ok (k m r)) (same m.0)

-- a subject, with what stood before it
abbrev pub on : ℕ → Bool → List Primitive → defined.Subject
on o e x = record { object = o; existed = e; prims = x }

mutual
  -- what stood before its subject does not matter to what is carried out
  pub same_members : (s : Stamp) (path : List (List ℕ)) (prims x y : List Primitive) (o : ℕ) (e : Bool) (ms : parts.Members) → defined.carried s path prims (on o e x) ms ≡ defined.carried s path prims (on o e y) ms
  same_members s path prims x y o e parts.no_members = refl
  same_members s path prims x y o e (parts.created ms) = ap (λ (w : Result (Made tree.Members) ChangeFault). w >>= λ r. Ok (r.0, λ final. tree.member (codes "create") (created_text e) (r.1 final))) (same_members s path prims x y o e ms)
  same_members s path prims x y o e (parts.member name i ms) =
      ap (λ (w : Result (Made tree.Json) ChangeFault). w >>= λ m. defined.carried s path m.0 (on o e x) ms >>= λ r. Ok (r.0, λ final. tree.member name (m.1 final) (r.1 final))) (same_item s (path ++ name ∷ []) prims x y o e i)
      ∙ behind (λ q. defined.carried s path q (on o e x) ms) (λ q. defined.carried s path q (on o e y) ms) (λ m r. (r.0, λ final. tree.member name (m.1 final) (r.1 final))) (defined.carried_item s (path ++ name ∷ []) prims (on o e y) i) (λ q. same_members s path q x y o e ms)

  same_item : (s : Stamp) (path : List (List ℕ)) (prims x y : List Primitive) (o : ℕ) (e : Bool) (i : parts.Item) → defined.carried_item s path prims (on o e x) i ≡ defined.carried_item s path prims (on o e y) i
  same_item s path prims x y o e (parts.as_spelled j) = refl
  same_item s path prims x y o e parts.its_id = refl
  same_item s path prims x y o e parts.its_guid = refl
  same_item s path prims x y o e (parts.fact p t j) = refl
  same_item s path prims x y o e (parts.connect p w t previous ms) = refl
  same_item s path prims x y o e (parts.nested p w ms) = refl
  same_item s path prims x y o e (parts.several is) = ap (λ (w : Result (Made tree.Items) ChangeFault). w >>= λ r. Ok (r.0, λ final. tree.list (r.1 final))) (same_items s path prims x y o e is)

  same_items : (s : Stamp) (path : List (List ℕ)) (prims x y : List Primitive) (o : ℕ) (e : Bool) (is : parts.ManyItems) → defined.carried_items s path prims (on o e x) is ≡ defined.carried_items s path prims (on o e y) is
  same_items s path prims x y o e parts.no_more = refl
  same_items s path prims x y o e (parts.and_then i is) =
      ap (λ (w : Result (Made tree.Json) ChangeFault). w >>= λ m. defined.carried_items s path m.0 (on o e x) is >>= λ r. Ok (r.0, λ final. tree.item (m.1 final) (r.1 final))) (same_item s path prims x y o e i)
      ∙ behind (λ q. defined.carried_items s path q (on o e x) is) (λ q. defined.carried_items s path q (on o e y) is) (λ m r. (r.0, λ final. tree.item (m.1 final) (r.1 final))) (defined.carried_item s path prims (on o e y) i) (λ q. same_items s path q x y o e is)
