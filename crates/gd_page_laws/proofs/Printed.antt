-- What is printed from trees, with no walks told, is what is printed of rows.
use Rattle.std.proofs.Common.{◌≡◌, ℕ, List, [], ◌∷◌, map, Bool, true, false, Option, Some, None, Result, Ok, Err, refl, ap, sym, ◌∙◌}
use Rattle.std.specs.Prelude.{unwrap_or, if◌then◌else◌}
use Rattle.gd_base.specs.declared.datum.Datum.{Datum}
use Rattle.gd_base.specs.declared.datum.Datum.TheVariants as datum
use Rattle.gd_prim.specs.declared.Primitive.{Primitive}
use Rattle.gd_prim.specs.Live.{language_at, end_at, object_datum}
use Rattle.gd_grammar.specs.Chain.{◌>>=◌}
use Rattle.gd_tree.specs.Json.{Json, object, Items, item, Members as JsonMembers, member as json_member}
use Rattle.gd_tree.specs.Trees.{TreeLists}
use Rattle.gd_bytes.specs.Frozen.{Walk}
use Rattle.gd_defs.specs.Data.{Kind, datum_json}
use Rattle.gd_defs.specs.Property.{answer_datum}
use Rattle.gd_defs.specs.Asked.{Own, its_id, its_guid, its_timestamp, its_link, its_value, its_namespace, its_lang, Style, as_operand, as_value, as_name, as_id, as_clause, Asking, Members, no_members, own, asks}
use Rattle.gd_defs.specs.Rows.{Row}
use Rattle.gd_defs.specs.Reply as reply
use Rattle.gd_defs.specs.Reply.{Path, under, is_ambiguous, operand_of, is_clause, first_item, each_row, as_list, answers_json, answer_json, own_json, object_json}
use Rattle.gd_template_laws.specs.Fits.{ValueMembers}
use Rattle.gd_runs.specs.Shape as shape
use Rattle.gd_runs.specs.Shape.{Printed, own_shape, name_shape, plain_shape, each_shape, list_shape, answers_shape, object_shape, rows_shape, page_shape}
use Rattle.gd_runs.specs.Shape.Answers.{Ranked}

-- what is printed where no walks are told, and none are left
abbrev pub untold : {A : Type 0} → Result A Path → Printed A
untold r = r >>= λ x. Ok (x, [])

-- ---- what is computed

pub id_json-untold : (prims : List Primitive) (d : Datum) → shape.id_json prims d [] ≡ (reply.id_json prims d, [])
id_json-untold prims (datum.Object o) = refl
id_json-untold prims (datum.Bool b) = refl
id_json-untold prims (datum.Int n) = refl
id_json-untold prims (datum.Moment ms precision) = refl
id_json-untold prims (datum.Text t) = refl
id_json-untold prims datum.Empty = refl

pub own-untold : (prims : List Primitive) (w : Own) (operand : Option Json) (link o : ℕ) → own_shape prims w operand link o [] ≡ (unwrap_or operand (own_json prims w link o), [])
own-untold prims w (Some j) link o = refl
own-untold prims its_id None link o = refl
own-untold prims its_guid None link o = refl
own-untold prims its_timestamp None link o = refl
own-untold prims its_link None link o = refl
own-untold prims its_value None link o = refl
own-untold prims its_namespace None link o = id_json-untold prims (object_datum (end_at (λ p. p.right) prims link))
own-untold prims its_lang None link o = id_json-untold prims (object_datum (language_at prims link))

-- ---- lists of answers

-- where each row prints the same, rows one after another do
pub each-untold : {R : Type 0} (f : Ranked → List Walk → Printed Json) (g : Row → Result Json Path) (rank : R → Ranked) (row : R → Row) (rs : List R) → ((r : R) → f (rank r) [] ≡ untold (g (row r)))
    → each_shape f (map rank rs) [] ≡ untold (each_row g (map row rs))
each-untold f g rank row [] same = refl
each-untold f g rank row (r ∷ rs) same = ap (λ x. x >>= λ j. each_shape f (map rank rs) j.1 >>= λ js. Ok (item j.0 js.0, js.1)) (same r) ∙ by (g (row r)) (each-untold f g rank row rs same)
  where
    last : (j : Json) (t : Result Items Path) → (untold t >>= λ js. Ok (item j js.0, js.1)) ≡ untold (t >>= λ js. Ok (item j js))
    last j (Ok js) = refl
    last j (Err e) = refl

    by : (h : Result Json Path) → each_shape f (map rank rs) [] ≡ untold (each_row g (map row rs))
        → (untold h >>= λ j. each_shape f (map rank rs) j.1 >>= λ js. Ok (item j.0 js.0, js.1)) ≡ untold (h >>= λ j. each_row g (map row rs) >>= λ js. Ok (item j js))
    by (Err e) rest = refl
    by (Ok j) rest = ap (λ x. x >>= λ js. Ok (item j js.0, js.1)) rest ∙ last j (each_row g (map row rs))

pub list-untold : (listed : Bool) (r : Result Items Path) → list_shape listed (untold r) ≡ untold (as_list listed r)
list-untold true (Ok js) = refl
list-untold true (Err e) = refl
list-untold false (Ok js) = refl
list-untold false (Err e) = refl

-- a member that prints its answers, or its operand
pub answers-untold : (a : Asking) (f : Ranked → List Walk → Printed Json) (g : Row → Result Json Path) (found : ℕ) (ranks : List Ranked) (rs : List Row) → each_shape f ranks [] ≡ untold (each_row g rs)
    → answers_shape a f found ranks [] ≡ untold (answers_json a g found rs)
answers-untold a f g found ranks rs same = by a.style refl
  where
    told : (b : Bool) → ◌≡◌ {A = Printed Json} (if b then Err [] else list_shape a.listed (each_shape f ranks [])) (untold (if b then Err [] else as_list a.listed (each_row g rs)))
    told true = refl
    told false = ap (list_shape a.listed) same ∙ list-untold a.listed (each_row g rs)

    by : (s : Style) → a.style ≡ s → answers_shape a f found ranks [] ≡ untold (answers_json a g found rs)
    by (as_operand j) is = rw is refl
    by as_value is = rw is (told (is_ambiguous a.single found))
    by as_name is = rw is (told (is_ambiguous a.single found))
    by as_id is = rw is (told (is_ambiguous a.single found))
    by as_clause is = rw is (told (is_ambiguous a.single found))

-- a member in front of the rest
pub front-untold : (name : List ℕ) (x : Printed Json) (y : Result Json Path) (f : List Walk → Printed JsonMembers) (z : Result JsonMembers Path) → x ≡ untold y → f [] ≡ untold z
    → (under name x >>= λ j. f j.1 >>= λ rest. Ok (json_member name j.0 rest.0, rest.1)) ≡ untold (under name y >>= λ j. z >>= λ rest. Ok (json_member name j rest))
front-untold name x y f z here rest = ap (λ x. under name x >>= λ j. f j.1 >>= λ rest. Ok (json_member name j.0 rest.0, rest.1)) here ∙ by y
  where
    last : (j : Json) (z : Result JsonMembers Path) → (untold z >>= λ rest. Ok (json_member name j rest.0, rest.1)) ≡ untold (z >>= λ rest. Ok (json_member name j rest))
    last j (Ok ms) = refl
    last j (Err e) = refl

    by : (y : Result Json Path) → (under name (untold y) >>= λ j. f j.1 >>= λ rest. Ok (json_member name j.0 rest.0, rest.1)) ≡ untold (under name y >>= λ j. z >>= λ rest. Ok (json_member name j rest))
    by (Err e) = refl
    by (Ok j) = ap (λ x. x >>= λ rest. Ok (json_member name j rest.0, rest.1)) rest ∙ last j z

-- a computed member in front of the rest
pub own-front : (prims : List Primitive) (name : List ℕ) (w : Own) (operand : Option Json) (link o : ℕ) (f : List Walk → Printed JsonMembers) (j : Json) (z : Result JsonMembers Path) → own_shape prims w operand link o [] ≡ (j, []) → f [] ≡ untold z
    → (f (own_shape prims w operand link o []).1 >>= λ rest. Ok (json_member name (own_shape prims w operand link o []).0 rest.0, rest.1)) ≡ untold (z >>= λ rest. Ok (json_member name j rest))
own-front prims name w operand link o f j z here rest =
    ap (λ (p : Json × List Walk). f p.1 >>= λ rest. Ok (json_member name p.0 rest.0, rest.1)) here ∙ ap (λ x. x >>= λ rest. Ok (json_member name j rest.0, rest.1)) rest ∙ last z
  where
    last : (z : Result JsonMembers Path) → (untold z >>= λ rest. Ok (json_member name j rest.0, rest.1)) ≡ untold (z >>= λ rest. Ok (json_member name j rest))
    last (Ok ms) = refl
    last (Err e) = refl

-- ---- members of forms on values and keys

pub value-untold : (prims : List Primitive) (k : Kind) (keys : Bool) (c : Members) → ValueMembers k keys c → (link y z : ℕ) (ls : TreeLists) → object_shape prims c link y ls [] ≡ untold (object_json prims c link z)
value-untold prims k keys no_members are link y z ls = refl
value-untold prims k keys (own name its_link t j ms) are link y z ls = own-front prims name its_link j link y (object_shape prims ms link y ls) (unwrap_or j (own_json prims its_link link z)) (object_json prims ms link z) (own-untold prims its_link j link y) (value-untold prims k keys ms are.1 link y z ls)
value-untold prims k keys (own name its_value t j ms) are link y z ls = own-front prims name its_value j link y (object_shape prims ms link y ls) (unwrap_or j (own_json prims its_value link z)) (object_json prims ms link z) (own-untold prims its_value j link y) (value-untold prims k keys ms are.1 link y z ls)
value-untold prims k keys (own name its_namespace t j ms) are link y z ls = own-front prims name its_namespace j link y (object_shape prims ms link y ls) (unwrap_or j (own_json prims its_namespace link z)) (object_json prims ms link z) (own-untold prims its_namespace j link y) (value-untold prims k keys ms are.2 link y z ls)
value-untold prims k keys (own name its_lang t j ms) are link y z ls = own-front prims name its_lang j link y (object_shape prims ms link y ls) (unwrap_or j (own_json prims its_lang link z)) (object_json prims ms link z) (own-untold prims its_lang j link y) (value-untold prims k keys ms are.1 link y z ls)
value-untold prims k keys (own name its_id t j ms) are link y z ls = absurd are
value-untold prims k keys (own name its_guid t j ms) are link y z ls = absurd are
value-untold prims k keys (own name its_timestamp t j ms) are link y z ls = absurd are
value-untold prims k keys (asks name a c ms) are link y z ls = absurd are

-- what each answer of a member prints, from its tree and as a row
abbrev pub each_ranked : List Primitive → Asking → Members → Ranked → List Walk → Printed Json
each_ranked prims a c r vs = if is_clause a.style then (object_shape prims c r.0.link r.0.object r.1 vs >>= λ m. Ok (object m.0, m.1)) else Ok (plain_shape prims a r vs)

abbrev pub each_answer : List Primitive → Asking → Members → Row → Result Json Path
each_answer prims a c r = if is_clause a.style then (object_json prims c r.link r.object >>= λ m. Ok (object m)) else Ok (answer_json prims a r)

-- an object of printed members
pub as_object-untold : (x : Printed JsonMembers) (y : Result JsonMembers Path) → x ≡ untold y → (x >>= λ m. Ok (object m.0, m.1)) ≡ untold (y >>= λ m. Ok (object m))
as_object-untold x y is = ap (λ x. x >>= λ m. Ok (object m.0, m.1)) is ∙ by y
  where
    by : (y : Result JsonMembers Path) → (untold y >>= λ m. Ok (object m.0, m.1)) ≡ untold (y >>= λ m. Ok (object m))
    by (Ok m) = refl
    by (Err e) = refl

-- an answer prints the same where its clause does, and its name
pub one-untold : (prims : List Primitive) (a : Asking) (c : Members) (r : Ranked) (row : Row) → row.link ≡ r.0.link
    → object_shape prims c r.0.link r.0.object r.1 [] ≡ untold (object_json prims c row.link row.object)
    → (a.style ≡ as_name → name_shape prims r.1 ≡ reply.first_name prims row.object)
    → each_ranked prims a c r [] ≡ untold (each_answer prims a c row)
one-untold prims a c r row link clause name = by a.style refl
  where
    datum_here : answer_datum prims a.property r.0.link ≡ answer_datum prims a.property row.link
    datum_here = ap (answer_datum prims a.property) (sym link)

    by : (s : Style) → a.style ≡ s → each_ranked prims a c r [] ≡ untold (each_answer prims a c row)
    by (as_operand j) is = rw is refl
    by as_value is = rw is (ap (λ d. Ok (datum_json d, [])) datum_here)
    by as_name is = rw is (ap (λ j. Ok (j, [])) (name is))
    by as_id is = rw is (ap (λ p. Ok p) (id_json-untold prims (answer_datum prims a.property r.0.link)) ∙ ap (λ d. Ok (reply.id_json prims d, [])) datum_here)
    by as_clause is = rw is (as_object-untold _ _ clause)
