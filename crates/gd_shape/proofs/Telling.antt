-- Pages print the same with walks that spell their ids alike.
use Rattle.std.proofs.Common.{◌≡◌, ℕ, List, [], ◌∷◌, ◌++◌, drop, Bool, true, false, Option, Some, None, Ok, Err, length, refl, ap, subst, ◌∙◌, append_assoc}
use Rattle.std.specs.Prelude.{if◌then◌else◌}
use Rattle.gd_base.specs.declared.datum.Datum.{Datum}
use Rattle.gd_base.specs.declared.datum.Datum.TheVariants as datum
use Rattle.gd_prim.specs.declared.Primitive.{Primitive}
use Rattle.gd_grammar.specs.Chain.{◌>>=◌}
use Rattle.gd_tree.specs.Json.{Json, text, list, object, Items, item, Members as JsonMembers, member as json_member}
use Rattle.gd_tree.specs.Trees.{Tree, tree, TreeLists, first_list, rest_lists}
use Rattle.gd_defs.specs.Property.{answer_datum}
use Rattle.gd_defs.specs.Asked.{Own, its_id, its_guid, its_timestamp, its_link, its_value, its_namespace, its_lang, Style, as_operand, as_value, as_name, as_id, as_clause, Asking, Members, no_members, own, asks, Asked}
use Rattle.gd_defs.specs.Rows.{own_datum}
use Rattle.gd_defs.specs.Reply.{under, is_ambiguous, is_clause, first_item}
use Rattle.gd_bytes.specs.Frozen.{Walk}
use Rattle.gd_runs.specs.Shape.{Printed, id_json, own_shape, plain_shape, each_shape, list_shape, answers_shape, object_shape, rows_shape, page_shape}
use Rattle.gd_runs.specs.Shape.Answers.{Ranked, cut}
use Rattle.gd_match_laws.specs.Walks.{id_of, own_listed, where_id, unless_operand, each_listed, object_listed, rows_listed, Tell}
use Rattle.gd_shape.specs.Telling.{spelled, behind, SpellAlike, AlikePrint, MorePrint}

module _ (prims : List Primitive) where
  -- the same is printed, and the walks that are left spell the ids that are left alike
  abbrev Alike : {A : Type 0} → List ℕ → Printed A → Printed A → Type 0
  Alike rest (Ok x) (Ok y) = (x.0 ≡ y.0) × SpellAlike prims rest x.1 y.1
  Alike rest (Err p) (Err r) = p ≡ r
  Alike rest (Ok x) (Err r) = ⊥
  Alike rest (Err p) (Ok y) = ⊥

  -- the same step by step
  alike-then : {A B : Type 0} (mid rest : List ℕ) (r s : Printed A) (f g : A × List Walk → Printed B) → Alike mid r s → ((x y : A × List Walk) → x.0 ≡ y.0 → SpellAlike prims mid x.1 y.1 → Alike rest (f x) (g y)) → Alike rest (r >>= f) (s >>= g)
  alike-then mid rest (Ok x) (Ok y) f g same next = next x y same.0 same.1
  alike-then mid rest (Err p) (Err r) f g same next = same
  alike-then mid rest (Ok x) (Err r) f g same next = absurd same
  alike-then mid rest (Err p) (Ok y) f g same next = absurd same

  alike-under : {A : Type 0} (rest : List ℕ) (name : List ℕ) (r s : Printed A) → Alike rest r s → Alike rest (under name r) (under name s)
  alike-under rest name (Ok x) (Ok y) same = same
  alike-under rest name (Err p) (Err r) same = ap (λ path. name ∷ path) same
  alike-under rest name (Ok x) (Err r) same = absurd same
  alike-under rest name (Err p) (Ok y) same = absurd same

  abbrev AlikePair : List ℕ → Json × List Walk → Json × List Walk → Type 0
  AlikePair rest x y = (x.0 ≡ y.0) × SpellAlike prims rest x.1 y.1

  id-alike : (d : Datum) (rest : List ℕ) (ws vs : List Walk) → SpellAlike prims (id_of d ++ rest) ws vs → AlikePair rest (id_json prims d ws) (id_json prims d vs)
  id-alike (datum.Object o) rest [] [] same = (ap text same.0, same.1)
  id-alike (datum.Object o) rest [] (v ∷ vs) same = (ap text same.0, same.1)
  id-alike (datum.Object o) rest (w ∷ ws) [] same = (ap text same.0, same.1)
  id-alike (datum.Object o) rest (w ∷ ws) (v ∷ vs) same = (ap text same.0, same.1)
  id-alike (datum.Int n) rest ws vs same = (refl, same)
  id-alike (datum.Moment n c) rest ws vs same = (refl, same)
  id-alike (datum.Bool b) rest ws vs same = (refl, same)
  id-alike (datum.Text t) rest ws vs same = (refl, same)
  id-alike datum.Empty rest ws vs same = (refl, same)

  own-alike : (w : Own) (operand : Option Json) (link o : ℕ) (rest : List ℕ) (ws vs : List Walk) → SpellAlike prims (own_listed prims w operand link o ++ rest) ws vs → AlikePair rest (own_shape prims w operand link o ws) (own_shape prims w operand link o vs)
  own-alike w (Some j) link o rest ws vs same = (refl, same)
  own-alike its_id None link o rest ws vs same = id-alike (own_datum prims its_id link o) rest ws vs same
  own-alike its_namespace None link o rest ws vs same = id-alike (own_datum prims its_namespace link o) rest ws vs same
  own-alike its_lang None link o rest ws vs same = id-alike (own_datum prims its_lang link o) rest ws vs same
  own-alike its_guid None link o rest ws vs same = (refl, same)
  own-alike its_timestamp None link o rest ws vs same = (refl, same)
  own-alike its_link None link o rest ws vs same = (refl, same)
  own-alike its_value None link o rest ws vs same = (refl, same)

  plain-alike : (a : Asking) (r : Ranked) (rest : List ℕ) (ws vs : List Walk) → SpellAlike prims (where_id a.style (id_of (answer_datum prims a.property r.0.link)) ++ rest) ws vs → AlikePair rest (plain_shape prims a r ws) (plain_shape prims a r vs)
  plain-alike a r rest ws vs same = by a.style refl
    where
      told : (s : Style) → a.style ≡ s → SpellAlike prims (where_id s (id_of (answer_datum prims a.property r.0.link)) ++ rest) ws vs
      told s is = subst (λ s. SpellAlike prims (where_id s (id_of (answer_datum prims a.property r.0.link)) ++ rest) ws vs) is same

      by : (s : Style) → a.style ≡ s → AlikePair rest (plain_shape prims a r ws) (plain_shape prims a r vs)
      by (as_operand j) is = let t = told (as_operand j) is in rw is (refl, t)
      by as_value is = let t = told as_value is in rw is (refl, t)
      by as_name is = let t = told as_name is in rw is (refl, t)
      by as_id is = let t = id-alike (answer_datum prims a.property r.0.link) rest ws vs (told as_id is) in rw is t
      by as_clause is = let t = told as_clause is in rw is (refl, t)

  -- each answer prints alike
  abbrev EachAlike : (Ranked → List Walk → Printed Json) → (Ranked → List ℕ) → Type 0
  EachAlike f g = (r : Ranked) (rest : List ℕ) (ws vs : List Walk) → SpellAlike prims (g r ++ rest) ws vs → Alike rest (f r ws) (f r vs)

  each-alike : (f : Ranked → List Walk → Printed Json) (g : Ranked → List ℕ) → EachAlike f g → (rs : List Ranked) (rest : List ℕ) (ws vs : List Walk) → SpellAlike prims (each_listed g rs ++ rest) ws vs → Alike rest (each_shape f rs ws) (each_shape f rs vs)
  each-alike f g each [] rest ws vs same = (refl, same)
  each-alike f g each (r ∷ rs) rest ws vs same =
      alike-then (each_listed g rs ++ rest) rest (f r ws) (f r vs) (λ j. each_shape f rs j.1 >>= λ js. Ok (item j.0 js.0, js.1)) (λ j. each_shape f rs j.1 >>= λ js. Ok (item j.0 js.0, js.1))
      (each r (each_listed g rs ++ rest) ws vs (subst (λ os. SpellAlike prims os ws vs) (append_assoc (g r) (each_listed g rs) rest) same))
      (λ x y first left. alike-then rest rest (each_shape f rs x.1) (each_shape f rs y.1) (λ js. Ok (item x.0 js.0, js.1)) (λ js. Ok (item y.0 js.0, js.1))
      (each-alike f g each rs rest x.1 y.1 left)
      (λ u v alike end. (ap (λ j. item j u.0) first ∙ ap (item y.0) alike, end)))

  list-alike : (b : Bool) (rest : List ℕ) (r s : Printed Items) → Alike rest r s → Alike rest (list_shape b r) (list_shape b s)
  list-alike true rest r s same = alike-then rest rest r s (λ js. Ok (list js.0, js.1)) (λ js. Ok (list js.0, js.1)) same (λ x y alike left. (ap list alike, left))
  list-alike false rest r s same = alike-then rest rest r s (λ js. Ok (first_item js.0, js.1)) (λ js. Ok (first_item js.0, js.1)) same (λ x y alike left. (ap first_item alike, left))

  answers-alike : (a : Asking) (f : Ranked → List Walk → Printed Json) (g : Ranked → List ℕ) → EachAlike f g → (found : ℕ) (rs : List Ranked) (rest : List ℕ) (ws vs : List Walk) → SpellAlike prims (unless_operand a.style (each_listed g rs) ++ rest) ws vs
      → Alike rest (answers_shape a f found rs ws) (answers_shape a f found rs vs)
  answers-alike a f g each found rs rest ws vs same = by a.style refl
    where
      told : (s : Style) → a.style ≡ s → SpellAlike prims (unless_operand s (each_listed g rs) ++ rest) ws vs
      told s is = subst (λ s. SpellAlike prims (unless_operand s (each_listed g rs) ++ rest) ws vs) is same

      one : (b : Bool) → SpellAlike prims (each_listed g rs ++ rest) ws vs → Alike {A = Json} rest (if b then Err [] else list_shape a.listed (each_shape f rs ws)) (if b then Err [] else list_shape a.listed (each_shape f rs vs))
      one true t = refl
      one false t = list-alike a.listed rest (each_shape f rs ws) (each_shape f rs vs) (each-alike f g each rs rest ws vs t)

      by : (s : Style) → a.style ≡ s → Alike rest (answers_shape a f found rs ws) (answers_shape a f found rs vs)
      by (as_operand j) is = let t = told (as_operand j) is in rw is (refl, t)
      by as_value is = let t = one (is_ambiguous a.single found) (told as_value is) in rw is t
      by as_name is = let t = one (is_ambiguous a.single found) (told as_name is) in rw is t
      by as_id is = let t = one (is_ambiguous a.single found) (told as_id is) in rw is t
      by as_clause is = let t = one (is_ambiguous a.single found) (told as_clause is) in rw is t

  -- an answer by its clause, or plainly
  either-alike : (b : Bool) (a : Asking) (r : Ranked) (os : List ℕ) (shape : List Walk → Printed JsonMembers) (rest : List ℕ) (ws vs : List Walk)
      → (SpellAlike prims (os ++ rest) ws vs → Alike rest (shape ws) (shape vs)) → SpellAlike prims ((if b then os else where_id a.style (id_of (answer_datum prims a.property r.0.link))) ++ rest) ws vs
      → Alike {A = Json} rest (if b then (shape ws >>= λ m. Ok (object m.0, m.1)) else Ok (plain_shape prims a r ws)) (if b then (shape vs >>= λ m. Ok (object m.0, m.1)) else Ok (plain_shape prims a r vs))
  either-alike true a r os shape rest ws vs inner same = alike-then rest rest (shape ws) (shape vs) (λ m. Ok (object m.0, m.1)) (λ m. Ok (object m.0, m.1)) (inner same) (λ x y alike left. (ap object alike, left))
  either-alike false a r os shape rest ws vs inner same = plain-alike a r rest ws vs same

  -- a member in front of others
  front-alike : (name : List ℕ) (rest : List ℕ) (f : List Walk → Printed JsonMembers) (x y : Json × List Walk) → x.0 ≡ y.0 → Alike rest (f x.1) (f y.1)
      → Alike rest (f x.1 >>= λ m. Ok (json_member name x.0 m.0, m.1)) (f y.1 >>= λ m. Ok (json_member name y.0 m.0, m.1))
  front-alike name rest f x y first more =
      alike-then rest rest (f x.1) (f y.1) (λ m. Ok (json_member name x.0 m.0, m.1)) (λ m. Ok (json_member name y.0 m.0, m.1)) more
      (λ u v alike end. (ap (λ j. json_member name j u.0) first ∙ ap (json_member name y.0) alike, end))

  object-alike : (ms : Members) (link o : ℕ) (ls : TreeLists) (rest : List ℕ) (ws vs : List Walk) → SpellAlike prims (object_listed prims ms link o ls ++ rest) ws vs → Alike rest (object_shape prims ms link o ls ws) (object_shape prims ms link o ls vs)
  object-alike no_members link o ls rest ws vs same = (refl, same)
  object-alike (own name w t operand ms) link o ls rest ws vs same =
      let first = own-alike w operand link o (object_listed prims ms link o ls ++ rest) ws vs (subst (λ os. SpellAlike prims os ws vs) (append_assoc (own_listed prims w operand link o) (object_listed prims ms link o ls) rest) same) in
      front-alike name rest (object_shape prims ms link o ls) (own_shape prims w operand link o ws) (own_shape prims w operand link o vs) first.0
      (object-alike ms link o ls rest (own_shape prims w operand link o ws).1 (own_shape prims w operand link o vs).1 first.1)
  object-alike (asks name a c ms) link o ls rest ws vs same =
      alike-then (object_listed prims ms link o (rest_lists ls) ++ rest) rest _ _ _ _
      (alike-under (object_listed prims ms link o (rest_lists ls) ++ rest) name _ _
      (answers-alike a _ _ (λ r os us xs t. either-alike (is_clause a.style) a r (object_listed prims c r.0.link r.0.object r.1) (object_shape prims c r.0.link r.0.object r.1) os us xs (object-alike c r.0.link r.0.object r.1 os us xs) t)
      (length (first_list ls)) (cut prims a c ls) (object_listed prims ms link o (rest_lists ls) ++ rest) ws vs (subst (λ os. SpellAlike prims os ws vs) (append_assoc _ (object_listed prims ms link o (rest_lists ls)) rest) same)))
      (λ x y first left. front-alike name rest (object_shape prims ms link o (rest_lists ls)) x y first (object-alike ms link o (rest_lists ls) rest x.1 y.1 left))

  rows-alike : (ms : Members) (ts : List Tree) (ws vs : List Walk) → SpellAlike prims (rows_listed prims ms ts) ws vs → Alike [] (rows_shape prims ms ts ws) (rows_shape prims ms ts vs)
  rows-alike ms [] ws vs same = (refl, tt)
  rows-alike ms (tree o ls ∷ ts) ws vs same =
      alike-then (rows_listed prims ms ts) [] (object_shape prims ms 0 o ls ws) (object_shape prims ms 0 o ls vs) _ _ (object-alike ms 0 o ls (rows_listed prims ms ts) ws vs same)
      (λ x y first left. alike-then [] [] (rows_shape prims ms ts x.1) (rows_shape prims ms ts y.1) (λ js. Ok (item (object x.0) js.0, js.1)) (λ js. Ok (item (object y.0) js.0, js.1))
      (rows-alike ms ts x.1 y.1 left)
      (λ u v alike end. (ap (λ j. item (object j) u.0) first ∙ ap (item (object y.0)) alike, end)))

  page-alike : (q : Asked) (ts : List Tree) (ws vs : List Walk) → SpellAlike prims (rows_listed prims q.members ts) ws vs → page_shape prims q ts ws ≡ page_shape prims q ts vs
  page-alike q ts ws vs same = by (list_shape q.listed (rows_shape prims q.members ts ws)) (list_shape q.listed (rows_shape prims q.members ts vs)) (list-alike q.listed [] (rows_shape prims q.members ts ws) (rows_shape prims q.members ts vs) (rows-alike q.members ts ws vs same))
    where
      by : (r s : Printed Json) → Alike [] r s → (r >>= λ j. Ok j.0) ≡ (s >>= λ j. Ok j.0)
      by (Ok x) (Ok y) alike = ap Ok alike.0
      by (Err p) (Err r) alike = ap Err alike
      by (Ok x) (Err r) alike = absurd alike
      by (Err p) (Ok y) alike = absurd alike

  -- walks that tell ids as they are found spell them as none do
  told-alike : (os : List ℕ) (vs : List Walk) → Tell prims vs os → SpellAlike prims os vs []
  told-alike [] vs tell = tt
  told-alike (o ∷ os) [] tell = (refl, told-alike os [] (none os))
    where
      none : (xs : List ℕ) → Tell prims [] xs
      none xs = tt
  told-alike (o ∷ os) (v ∷ vs) tell = (tell.0, told-alike os vs tell.1)

  more-alike : (os : List ℕ) (ws vs : List Walk) → Tell prims vs (drop (length ws) os) → SpellAlike prims os (ws ++ vs) ws
  more-alike os [] vs tell = told-alike os vs tell
  more-alike [] (w ∷ ws) vs tell = tt
  more-alike (o ∷ os) (w ∷ ws) vs tell = (refl, more-alike os ws vs tell)

-- LAW: pages print the same with walks that spell their ids alike
pub alike_print : AlikePrint
alike_print prims q ts ws vs same = page-alike prims q ts ws vs same

-- LAW: behind any walks, walks that tell the next ids leave what a page prints
pub more_print : MorePrint
more_print prims q ts ws vs tell = page-alike prims q ts (ws ++ vs) ws (more-alike prims (rows_listed prims q.members ts) ws vs tell)
