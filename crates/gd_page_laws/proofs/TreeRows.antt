-- The rows that the trees of a member's links stand for.
use Rattle.std.proofs.Common.{◌≡◌, ℕ, List, [], ◌∷◌, ◌++◌, map, Bool, true, false, Option, Some, None, refl, ap, subst, inl, inr, ◌⊎◌, ◌∙◌}
use Rattle.std.specs.Prelude.{option_map}
use Rattle.gd_prim.specs.declared.Primitive.{Primitive}
use Rattle.gd_tree.specs.Trees.{Tree, tree, no_trees, and_tree, TreeLists, no_lists, and_list, place_of, list_of, trees_of, first_list}
use Rattle.gd_defs.specs.Property.{Property, Expects, a_value, a_key, an_object_of_system, a_plain_object, answers, first}
use Rattle.gd_defs.specs.Asked.{Key, by_guid, by_timestamp, by_property, SortKey, Asking, Members, no_members, own, asks}
use Rattle.gd_defs.specs.Rows as rows
use Rattle.gd_defs.specs.Rows.{row_of, far, Row}
use Rattle.gd_defs.specs.Plan.{property_tests, answers_of, answer_end, asked_end, link_template, clauses_of, sort_clauses, unless_literal, of_kind}
use Rattle.gd_defs.specs.Query.{optional}
use Rattle.gd_defs.specs.Template.{Template, template, Clauses, no_clauses, clause, end_here, links_by, end_is, is_answer, clause_answers, tree_of, clause_lists}
use Rattle.gd_template_laws.specs.Fits.{IsTyped, IsSortKey, AreSortKeys}
use Rattle.gd_template_laws.specs.Laws.{far_template, HasFar}
use Rattle.gd_template_laws.proofs.Shapes.{shaped, link_template-shaped}
use Rattle.gd_template_laws.proofs.Weights.{sort-answers}
use Rattle.gd_template_laws.proofs.Means.{member-far}
use Rattle.gd_runs.specs.Shape.Answers.{own_lists, far_answer, answer_of, sort_lists, key_places, Ranked, ranked}

pub list_of-trees_of : (ts : List Tree) → list_of (trees_of ts) ≡ ts
list_of-trees_of [] = refl
list_of-trees_of (t ∷ ts) = ap (λ us. t ∷ us) (list_of-trees_of ts)

-- ---- keys

-- behind the lists of the members stand those of the sort keys
pub sort_lists-behind : (prims : List Primitive) (c : Members) (sort : List SortKey) (o : ℕ) → sort_lists c (clause_lists prims (clauses_of sort c) o) ≡ clause_lists prims (sort_clauses sort) o
sort_lists-behind prims no_members sort o = refl
sort_lists-behind prims (own name w t j ms) sort o = sort_lists-behind prims ms sort o
sort_lists-behind prims (asks name a c ms) sort o = sort_lists-behind prims ms sort o

first-place : (prims : List Primitive) (cs : List Rattle.gd_defs.specs.Template.Constraint) (xs : List ℕ) → option_map place_of (first (map (tree_of prims (template cs no_clauses)) xs)) ≡ first xs
first-place prims cs [] = refl
first-place prims cs (x ∷ xs) = refl

pub key_places-are : (prims : List Primitive) → IsTyped prims → (sort : List SortKey) → AreSortKeys sort → (o : ℕ) → key_places sort o (clause_lists prims (sort_clauses sort) o) ≡ map (rows.key_place prims o) sort
key_places-are prims typed [] are o = refl
key_places-are prims typed (s ∷ ss) are o = by s.key refl are.0 (key_places-are prims typed ss are.1 o)
  where
    by : (key : Key) → s.key ≡ key → IsSortKey key → key_places ss o (clause_lists prims (sort_clauses ss) o) ≡ map (rows.key_place prims o) ss
        → key_places (s ∷ ss) o (clause_lists prims (sort_clauses (s ∷ ss)) o) ≡ map (rows.key_place prims o) (s ∷ ss)
    by by_guid key fits rest = rw key (ap (λ ks. Some o ∷ ks) rest)
    by by_timestamp key fits rest = rw key (ap (λ ks. Some o ∷ ks) rest)
    by (by_property p) key fits rest =
        let cs = property_tests p ++ of_kind fits.1.0 ∷ [] in
        let clauses : sort_clauses (s ∷ ss) ≡ clause optional (links_by (asked_end p)) (template cs no_clauses) (sort_clauses ss) = let expected = fits.1.1 in rw (key, expected) refl in
        let here : key_places (s ∷ ss) o (and_list (trees_of (map (tree_of prims (template cs no_clauses)) (answers prims p o))) (clause_lists prims (sort_clauses ss) o)) ≡ first (answers prims p o) ∷ key_places ss o (clause_lists prims (sort_clauses ss) o) =
        rw key (ap (λ k. k ∷ key_places ss o (clause_lists prims (sort_clauses ss) o)) (ap (λ ts. option_map place_of (first ts)) (list_of-trees_of (map (tree_of prims (template cs no_clauses)) (answers prims p o))) ∙ first-place prims cs (answers prims p o))) in
        let told : first (answers prims p o) ∷ map (rows.key_place prims o) ss ≡ map (rows.key_place prims o) (s ∷ ss) = rw key refl in
        ap (λ cls. key_places (s ∷ ss) o (clause_lists prims cls o)) clauses
        ∙ ap (λ xs. key_places (s ∷ ss) o (and_list (trees_of (map (tree_of prims (template cs no_clauses)) xs)) (clause_lists prims (sort_clauses ss) o))) (sort-answers prims typed p fits.1.0 fits.0 fits.1.1 o)
        ∙ here
        ∙ ap (λ ks. first (answers prims p o) ∷ ks) rest
        ∙ told

-- ---- answers that are objects

own_lists-are : (prims : List Primitive) (given : Bool) (nested : Clauses) (y : ℕ) → own_lists given (clause_lists prims (unless_literal given nested) y) ≡ clause_lists prims nested y
own_lists-are prims true nested y = refl
own_lists-are prims false nested y = refl

-- a row with the lists of its object
abbrev pub carried : List Primitive → Asking → Members → Row → Ranked
carried prims a c r = (r, clause_lists prims (clauses_of a.sort c) r.object)

-- the tree of a link stands for its row, with the lists of the object at its other end
pub ranked-row : (prims : List Primitive) → IsTyped prims → (a : Asking) (c : Members) → AreSortKeys a.sort → (e : Expects) → answers_of a.property ≡ e
    → link_template a c (clauses_of a.sort c) ≡ shaped an_object_of_system a c (clauses_of a.sort c)
    → ((t : ℕ) (ls : TreeLists) → answer_of a (tree t ls) ≡ far_answer t a.given (first (first_list ls)))
    → (x : ℕ) → clause_answers prims (end_here (answer_end a.property)) (far_template a c) x ≡ far prims a.property x ∷ []
    → ranked a c (answer_of a (tree_of prims (link_template a c (clauses_of a.sort c)) x)) ≡ carried prims a c (row_of prims a.sort x (far prims a.property x))
ranked-row prims typed a c keys e is shape opened x stands =
    ap (λ t. ranked a c (answer_of a (tree_of prims t x))) shape
    ∙ ap (λ ys. ranked a c (answer_of a (tree x (and_list (trees_of (map (tree_of prims (far_template a c)) ys)) no_lists)))) stands
    ∙ ap (ranked a c) (opened x (and_list (and_tree (tree_of prims (far_template a c) (far prims a.property x)) no_trees) no_lists))
    ∙ ap (λ ls. ranked a c (record { link = x; object = far prims a.property x; lists = ls })) (own_lists-are prims a.given (clauses_of a.sort c) (far prims a.property x))
    ∙ ap (λ ks. (record { object = far prims a.property x; link = x; keys = ks }, clause_lists prims (clauses_of a.sort c) (far prims a.property x)))
    (ap (key_places a.sort (far prims a.property x)) (sort_lists-behind prims c a.sort (far prims a.property x)) ∙ key_places-are prims typed a.sort keys (far prims a.property x))

-- the answers of a property are objects
abbrev pub AnswersObjects : Property → Type 0
AnswersObjects p = (answers_of p ≡ an_object_of_system) ⊎ (answers_of p ≡ a_plain_object)

-- of an answer of a member that asks objects
pub ranked-object : (prims : List Primitive) → IsTyped prims → (a : Asking) (c : Members) → AreSortKeys a.sort → AnswersObjects a.property
    → (x : ℕ) → is_answer prims (link_template a c (clauses_of a.sort c)) x ≡ true
    → ranked a c (answer_of a (tree_of prims (link_template a c (clauses_of a.sort c)) x)) ≡ carried prims a c (row_of prims a.sort x (far prims a.property x))
ranked-object prims typed a c keys (inl is) x found = ranked-row prims typed a c keys an_object_of_system is (link_template-shaped a c (clauses_of a.sort c) an_object_of_system is)
    (λ t ls. rw is refl) x (subst (λ e. HasFar prims e a c x) is (member-far prims a c x found))
ranked-object prims typed a c keys (inr is) x found = ranked-row prims typed a c keys a_plain_object is (link_template-shaped a c (clauses_of a.sort c) a_plain_object is)
    (λ t ls. rw is refl) x (subst (λ e. HasFar prims e a c x) is (member-far prims a c x found))

-- ---- answers that are values or keys

-- the answer that the tree of a link stands for has that link
pub answer_of-link : (a : Asking) (t : Tree) → (answer_of a t).link ≡ place_of t
answer_of-link a (tree k ls) = by (answers_of a.property) refl
  where
    far : (given : Bool) (o : Option Tree) → (far_answer k given o).link ≡ k
    far given None = refl
    far given (Some t) = refl

    by : (e : Expects) → answers_of a.property ≡ e → (answer_of a (tree k ls)).link ≡ k
    by (a_value v) is = rw is refl
    by a_key is = rw is (far true (first (first_list (own_lists a.given ls))))
    by an_object_of_system is = rw is (far a.given (first (first_list ls)))
    by a_plain_object is = rw is (far a.given (first (first_list ls)))

pub place_of-tree : (prims : List Primitive) (t : Template) (x : ℕ) → place_of (tree_of prims t x) ≡ x
place_of-tree prims (template cs inner) x = refl
