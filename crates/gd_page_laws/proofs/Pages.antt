-- What a page prints from the trees of its rows is what the reply prints of the rows.
use Rattle.std.proofs.Common.{◌≡◌, ℕ, suc, List, [], ◌∷◌, map, take, length, Bool, true, false, Option, Some, None, Result, Ok, Err, refl, ap, sym, inl, inr, ◌∙◌}
use Rattle.std.specs.Prelude.{filter}
use Rattle.std.proofs.lemmas.Bool.{false≢true}
use Rattle.std.proofs.lemmas.List.{take-map}
use Rattle.gd_prim.specs.declared.Primitive.{Primitive}
use Rattle.gd_prim.specs.Live.{value_at}
use Rattle.gd_grammar.specs.Chain.{◌>>=◌}
use Rattle.gd_tree.specs.Json.{Json, object, Items, item, no_items}
use Rattle.gd_tree.specs.Trees.{Tree, TreeLists, and_list, first_list, trees_of, place_of}
use Rattle.gd_defs.specs.Data.{Kind, of_text, anything, passes}
use Rattle.gd_defs.specs.Property.{Expects, a_value, a_key, an_object_of_system, a_plain_object, answers, first}
use Rattle.gd_defs.specs.Asked.{its_id, its_guid, its_timestamp, its_link, its_value, its_namespace, its_lang, SortKey, as_value, Asking, Members, no_members, own, asks, Asked, name_property}
use Rattle.gd_defs.specs.Asked.Forms.{bare_asking, name_clause}
use Rattle.gd_defs.specs.Rows.{Row, row_of, row_cmp, met, far, in_order, printed}
use Rattle.gd_defs.specs.Reply as reply
use Rattle.gd_defs.specs.Reply.{Path, each_row, as_list, answers_json, own_json, object_json}
use Rattle.gd_defs.specs.Plan.{answers_of, asked_end, link_template, clauses_of, template_of}
use Rattle.gd_defs.specs.Template.{links_by, led_to, is_answer, clause_answers, tree_of, clause_lists}
use Rattle.gd_template_laws.specs.Fits.{IsTyped, AreSortKeys, AsksValues, AsksObjects, IsAsked, AreAsked}
use Rattle.gd_template_laws.proofs.Answers.{member-met}
use Rattle.gd_runs.specs.Shape.{name_shape, each_shape, list_shape, object_shape, rows_shape, page_shape}
use Rattle.gd_runs.specs.Shape.Answers.{answer_of, Ranked, ranked, in_rank, cut}
use Rattle.gd_page_laws.proofs.Sorts.{sorted-carried}
use Rattle.gd_page_laws.proofs.TreeRows.{list_of-trees_of, carried, AnswersObjects, ranked-object, answer_of-link, place_of-tree}
use Rattle.gd_page_laws.proofs.Printed.{untold, own-untold, each-untold, list-untold, answers-untold, front-untold, own-front, value-untold, each_ranked, each_answer, one-untold}

-- ---- lists

map-map : {A B C : Type 0} (f : B → C) (g : A → B) (xs : List A) → map f (map g xs) ≡ map (λ x. f (g x)) xs
map-map f g [] = refl
map-map f g (x ∷ xs) = ap (λ ys. f (g x) ∷ ys) (map-map f g xs)

map-id : (rs : List Row) → map (λ r. r) rs ≡ rs
map-id [] = refl
map-id (r ∷ rs) = ap (λ ys. r ∷ ys) (map-id rs)

-- functions that agree on what is kept
map-kept : {B : Type 0} (p : ℕ → Bool) (f g : ℕ → B) (xs : List ℕ) → ((x : ℕ) → p x ≡ true → f x ≡ g x) → map f (filter p xs) ≡ map g (filter p xs)
map-kept p f g [] same = refl
map-kept p f g (x ∷ xs) same = by (p x) refl (map-kept p f g xs same)
  where
    by : (b : Bool) → p x ≡ b → map f (filter p xs) ≡ map g (filter p xs) → map f (filter p (x ∷ xs)) ≡ map g (filter p (x ∷ xs))
    by true here rest = let one = same x here in rw here (ap (λ y. y ∷ map f (filter p xs)) one ∙ ap (λ ys. g x ∷ ys) rest)
    by false here rest = rw here rest

keep-all : (xs : List ℕ) → filter (λ x. true) xs ≡ xs
keep-all [] = refl
keep-all (x ∷ xs) = ap (λ ys. x ∷ ys) (keep-all xs)

-- ---- the answers of a member

-- the trees of the links that a member finds
abbrev pub found_lists : List Primitive → Asking → Members → ℕ → TreeLists → TreeLists
found_lists prims a c o rest = and_list (trees_of (map (tree_of prims (link_template a c (clauses_of a.sort c))) (clause_answers prims (links_by (asked_end a.property)) (link_template a c (clauses_of a.sort c)) o))) rest

found-list : (prims : List Primitive) (a : Asking) (c : Members) → IsTyped prims → IsAsked (answers_of a.property) a c (AreAsked c) → (o : ℕ) (rest : TreeLists)
    → first_list (found_lists prims a c o rest) ≡ map (tree_of prims (link_template a c (clauses_of a.sort c))) (met prims a c o)
found-list prims a c typed asked o rest = list_of-trees_of _ ∙ ap (map (tree_of prims (link_template a c (clauses_of a.sort c)))) (member-met prims a c typed asked o)

mapped-length : (f : ℕ → Tree) (xs : List ℕ) → length (map f xs) ≡ length xs
mapped-length f [] = refl
mapped-length f (x ∷ xs) = ap suc (mapped-length f xs)

found-length : (prims : List Primitive) (a : Asking) (c : Members) → IsTyped prims → IsAsked (answers_of a.property) a c (AreAsked c) → (o : ℕ) (rest : TreeLists) → length (first_list (found_lists prims a c o rest)) ≡ length (met prims a c o)
found-length prims a c typed asked o rest = ap length (found-list prims a c typed asked o rest) ∙ mapped-length (tree_of prims (link_template a c (clauses_of a.sort c))) (met prims a c o)

-- rows that carry something are in the order of the rows
ranked-order : (prims : List Primitive) (sort : List SortKey) (h : Row → Ranked) (rs : List Row) → ((r : Row) → (h r).0 ≡ r) → in_rank prims sort (map h rs) ≡ map h (in_order prims sort rs)
ranked-order prims [] h rs back = refl
ranked-order prims (s ∷ ss) h rs back = sorted-carried (row_cmp prims (s ∷ ss)) (λ (b : Ranked). b.0) h back [] rs

-- objects that are cut from those found are the rows that are printed, with their lists
pub cut-objects : (prims : List Primitive) (a : Asking) (c : Members) → IsTyped prims → IsAsked (answers_of a.property) a c (AreAsked c) → AreSortKeys a.sort → AnswersObjects a.property → (o : ℕ) (rest : TreeLists)
    → cut prims a c (found_lists prims a c o rest) ≡ map (carried prims a c) (printed prims a c o)
cut-objects prims a c typed asked keys objects o rest =
    let t = link_template a c (clauses_of a.sort c) in
    let answered = clause_answers prims (links_by (asked_end a.property)) t o in
    ap (λ ts. take a.limit (in_rank prims a.sort (map (λ t. ranked a c (answer_of a t)) ts))) (list_of-trees_of (map (tree_of prims t) answered))
    ∙ ap (λ rs. take a.limit (in_rank prims a.sort rs))
    (map-map (λ t. ranked a c (answer_of a t)) (tree_of prims t) answered
    ∙ map-kept (is_answer prims t) (λ x. ranked a c (answer_of a (tree_of prims t x))) (λ x. carried prims a c (row_of prims a.sort x (far prims a.property x))) (led_to prims (links_by (asked_end a.property)) o)
    (λ x found. ranked-object prims typed a c keys objects x found)
    ∙ ap (map (λ x. carried prims a c (row_of prims a.sort x (far prims a.property x)))) (member-met prims a c typed asked o)
    ∙ sym (map-map (carried prims a c) (λ x. row_of prims a.sort x (far prims a.property x)) (met prims a c o)))
    ∙ ap (take a.limit) (ranked-order prims a.sort (carried prims a c) (map (λ x. row_of prims a.sort x (far prims a.property x)) (met prims a c o)) (λ r. refl))
    ∙ take-map (carried prims a c) a.limit (in_order prims a.sort (map (λ x. row_of prims a.sort x (far prims a.property x)) (met prims a c o)))

-- values that are cut from those found, as rows of their links
pub cut-values : (prims : List Primitive) (a : Asking) (c : Members) → IsTyped prims → IsAsked (answers_of a.property) a c (AreAsked c) → a.sort ≡ [] → (o : ℕ) (rest : TreeLists)
    → cut prims a c (found_lists prims a c o rest) ≡ map (λ x. ranked a c (answer_of a (tree_of prims (link_template a c (clauses_of a.sort c)) x))) (take a.limit (met prims a c o))
cut-values prims a c typed asked unsorted o rest =
    let t = link_template a c (clauses_of a.sort c) in
    ap (λ ts. take a.limit (in_rank prims a.sort (map (λ t. ranked a c (answer_of a t)) ts))) (found-list prims a c typed asked o rest)
    ∙ ap (λ s. take a.limit (in_rank prims s (map (λ t. ranked a c (answer_of a t)) (map (tree_of prims t) (met prims a c o))))) unsorted
    ∙ ap (take a.limit) (map-map (λ t. ranked a c (answer_of a t)) (tree_of prims t) (met prims a c o))
    ∙ take-map (λ x. ranked a c (answer_of a (tree_of prims t x))) a.limit (met prims a c o)

pub printed-values : (prims : List Primitive) (a : Asking) (c : Members) → a.sort ≡ [] → (o : ℕ) → map (λ x. row_of prims a.sort x (far prims a.property x)) (take a.limit (met prims a c o)) ≡ printed prims a c o
printed-values prims a c unsorted o = sym (ap (λ s. take a.limit (in_order prims s (map (λ k. row_of prims a.sort k (far prims a.property k)) (met prims a c o)))) unsorted ∙ take-map (λ x. row_of prims a.sort x (far prims a.property x)) a.limit (met prims a c o))

-- ---- names

abbrev name_asking : Asking
name_asking = bare_asking name_property as_value

-- the lists of an object whose name alone is asked begin with its names
name-untold : (prims : List Primitive) → IsTyped prims → (sort : List SortKey) (o : ℕ) → name_shape prims (clause_lists prims (clauses_of sort name_clause) o) ≡ reply.first_name prims o
name-untold prims typed sort o =
    ap (λ ts. named (first ts)) (list_of-trees_of _ ∙ ap (map (tree_of prims (link_template name_asking no_members (clauses_of [] no_members)))) (member-met prims name_asking no_members typed asked o ∙ keep-all (answers prims name_property o)))
    ∙ by (answers prims name_property o)
  where
    asked : AsksValues of_text false name_asking no_members
    asked = record { test = tt; clause = tt; counted = refl; given = λ is. absurd (false≢true is); sort = refl; unnamed = λ is. cc }

    named : Option Tree → Json
    named None = Rattle.gd_tree.specs.Json.null
    named (Some t) = Rattle.gd_defs.specs.Data.datum_json (value_at prims (place_of t))

    by : (xs : List ℕ) → named (first (map (tree_of prims (link_template name_asking no_members (clauses_of [] no_members))) xs)) ≡ Rattle.std.specs.Option.option_map_or (λ k. Rattle.gd_defs.specs.Data.datum_json (value_at prims k)) (first xs) Rattle.gd_tree.specs.Json.null
    by [] = refl
    by (x ∷ xs) = ap (λ k. Rattle.gd_defs.specs.Data.datum_json (value_at prims k)) (place_of-tree prims (link_template name_asking no_members (clauses_of [] no_members)) x)

-- ---- one member

-- a member prints from the trees of what it finds what it prints of its rows, where its clause does
member-untold : (prims : List Primitive) (a : Asking) (c : Members) → IsTyped prims → IsAsked (answers_of a.property) a c (AreAsked c)
    → (AreAsked c → AreSortKeys a.sort → (link o : ℕ) → object_shape prims c link o (clause_lists prims (clauses_of a.sort c) o) [] ≡ untold (object_json prims c link o))
    → (o : ℕ) (rest : TreeLists)
    → each_shape (each_ranked prims a c) (cut prims a c (found_lists prims a c o rest)) [] ≡ untold (each_row (each_answer prims a c) (printed prims a c o))
member-untold prims a c typed asked inner o rest = by (answers_of a.property) refl asked
  where
    objects : AsksObjects a c (AreAsked c) → AnswersObjects a.property → each_shape (each_ranked prims a c) (cut prims a c (found_lists prims a c o rest)) [] ≡ untold (each_row (each_answer prims a c) (printed prims a c o))
    objects here are =
        ap (λ rs. each_shape (each_ranked prims a c) rs []) (cut-objects prims a c typed asked here.sort are o rest)
        ∙ each-untold (each_ranked prims a c) (each_answer prims a c) (carried prims a c) (λ r. r) (printed prims a c o)
        (λ r. one-untold prims a c (carried prims a c r) r refl (inner here.clause here.sort r.link r.object)
        (λ style. ap (λ c. name_shape prims (clause_lists prims (clauses_of a.sort c) r.object)) (here.named style) ∙ name-untold prims typed a.sort r.object))
        ∙ ap (λ rs. untold (each_row (each_answer prims a c) rs)) (map-id (printed prims a c o))

    values : (k : Kind) (keys : Bool) → AsksValues k keys a c → each_shape (each_ranked prims a c) (cut prims a c (found_lists prims a c o rest)) [] ≡ untold (each_row (each_answer prims a c) (printed prims a c o))
    values k keys here =
        let t = link_template a c (clauses_of a.sort c) in
        ap (λ rs. each_shape (each_ranked prims a c) rs []) (cut-values prims a c typed asked here.sort o rest)
        ∙ each-untold (each_ranked prims a c) (each_answer prims a c) (λ x. ranked a c (answer_of a (tree_of prims t x))) (λ x. row_of prims a.sort x (far prims a.property x)) (take a.limit (met prims a c o))
        (λ x. let link = answer_of-link a (tree_of prims t x) ∙ place_of-tree prims t x in
        one-untold prims a c (ranked a c (answer_of a (tree_of prims t x))) (row_of prims a.sort x (far prims a.property x)) (sym link)
        (value-untold prims k keys c here.clause (answer_of a (tree_of prims t x)).link (answer_of a (tree_of prims t x)).object (far prims a.property x) (answer_of a (tree_of prims t x)).lists
        ∙ ap (λ l. untold (object_json prims c l (far prims a.property x))) link)
        (λ style. absurd (here.unnamed style)))
        ∙ ap (λ rs. untold (each_row (each_answer prims a c) rs)) (printed-values prims a c here.sort o)

    by : (e : Expects) → answers_of a.property ≡ e → IsAsked e a c (AreAsked c) → each_shape (each_ranked prims a c) (cut prims a c (found_lists prims a c o rest)) [] ≡ untold (each_row (each_answer prims a c) (printed prims a c o))
    by (a_value k) is here = values k false here
    by a_key is here = values of_text true here
    by an_object_of_system is here = objects here (inl is)
    by a_plain_object is here = objects here (inr is)

-- ---- a clause

-- what is printed of an object from the lists of its clauses is what the reply prints of it
pub clause-untold : (prims : List Primitive) → IsTyped prims → (c : Members) → AreAsked c → (sort : List SortKey) → (link o : ℕ) → object_shape prims c link o (clause_lists prims (clauses_of sort c) o) [] ≡ untold (object_json prims c link o)
clause-untold prims typed no_members are sort link o = refl
clause-untold prims typed (own name its_id t j ms) are sort link o = own-front prims name its_id j link o (object_shape prims ms link o (clause_lists prims (clauses_of sort ms) o)) _ (object_json prims ms link o) (own-untold prims its_id j link o) (clause-untold prims typed ms are.1 sort link o)
clause-untold prims typed (own name its_guid t j ms) are sort link o = own-front prims name its_guid j link o (object_shape prims ms link o (clause_lists prims (clauses_of sort ms) o)) _ (object_json prims ms link o) (own-untold prims its_guid j link o) (clause-untold prims typed ms are.1 sort link o)
clause-untold prims typed (own name its_timestamp t j ms) are sort link o = own-front prims name its_timestamp j link o (object_shape prims ms link o (clause_lists prims (clauses_of sort ms) o)) _ (object_json prims ms link o) (own-untold prims its_timestamp j link o) (clause-untold prims typed ms are.1 sort link o)
clause-untold prims typed (own name its_link t j ms) are sort link o = own-front prims name its_link j link o (object_shape prims ms link o (clause_lists prims (clauses_of sort ms) o)) _ (object_json prims ms link o) (own-untold prims its_link j link o) (clause-untold prims typed ms are.1 sort link o)
clause-untold prims typed (own name its_value t j ms) are sort link o = absurd are
clause-untold prims typed (own name its_namespace t j ms) are sort link o = absurd are
clause-untold prims typed (own name its_lang t j ms) are sort link o = absurd are
clause-untold prims typed (asks name a c ms) are sort link o =
    let rest = clause_lists prims (clauses_of sort ms) o in
    front-untold name _ (answers_json a (each_answer prims a c) (length (met prims a c o)) (printed prims a c o)) (object_shape prims ms link o rest) (object_json prims ms link o)
    (answers-untold a (each_ranked prims a c) (each_answer prims a c) _ (cut prims a c (found_lists prims a c o rest)) (printed prims a c o)
    (member-untold prims a c typed are.0 (λ asked keys link o. clause-untold prims typed c asked a.sort link o) o rest)
    ∙ ap (λ n. untold (answers_json a (each_answer prims a c) n (printed prims a c o))) (found-length prims a c typed are.0 o rest))
    (clause-untold prims typed ms are.1 sort link o)

-- ---- a page

rows-untold : (prims : List Primitive) → IsTyped prims → (q : Asked) → AreAsked q.members → (page : List Row)
    → rows_shape prims q.members (map (λ (r : Row). tree_of prims (template_of q) r.object) page) [] ≡ untold (each_row (λ r. object_json prims q.members 0 r.object >>= λ m. Ok (object m)) page)
rows-untold prims typed q are [] = refl
rows-untold prims typed q are (r ∷ rs) =
    ap (λ x. x >>= λ m. rows_shape prims q.members (map (λ (r : Row). tree_of prims (template_of q) r.object) rs) m.1 >>= λ js. Ok (item (object m.0) js.0, js.1)) (clause-untold prims typed q.members are q.sort 0 r.object)
    ∙ by (object_json prims q.members 0 r.object) (rows-untold prims typed q are rs)
  where
    more : Result Items Path
    more = each_row (λ r. object_json prims q.members 0 r.object >>= λ m. Ok (object m)) rs

    last : (j : Json) (t : Result Items Path) → (untold t >>= λ js. Ok (item j js.0, js.1)) ≡ untold (t >>= λ js. Ok (item j js))
    last j (Ok js) = refl
    last j (Err e) = refl

    by : (h : Result Rattle.gd_tree.specs.Json.Members Path) → rows_shape prims q.members (map (λ (r : Row). tree_of prims (template_of q) r.object) rs) [] ≡ untold more
        → (untold h >>= λ m. rows_shape prims q.members (map (λ (r : Row). tree_of prims (template_of q) r.object) rs) m.1 >>= λ js. Ok (item (object m.0) js.0, js.1)) ≡ untold ((h >>= λ m. Ok (object m)) >>= λ j. more >>= λ js. Ok (item j js))
    by (Err e) rest = refl
    by (Ok m) rest = ap (λ x. x >>= λ js. Ok (item (object m) js.0, js.1)) rest ∙ last (object m) more

-- THE LAW: what a page prints from the trees of its rows, with no walks told, is what the reply prints of the rows
pub page-prints : (prims : List Primitive) → IsTyped prims → (q : Asked) → AreAsked q.members → (page : List Row)
    → page_shape prims q (map (λ (r : Row). tree_of prims (template_of q) r.object) page) [] ≡ as_list q.listed (each_row (λ r. object_json prims q.members 0 r.object >>= λ m. Ok (object m)) page)
page-prints prims typed q are page = ap (λ x. list_shape q.listed x >>= λ j. Ok j.0) (rows-untold prims typed q are page) ∙ ap (λ x. x >>= λ j. Ok j.0) (list-untold q.listed _) ∙ last (as_list q.listed (each_row (λ r. object_json prims q.members 0 r.object >>= λ m. Ok (object m)) page))
  where
    last : (r : Result Json Path) → (untold r >>= λ j. Ok j.0) ≡ r
    last (Ok j) = refl
    last (Err e) = refl
