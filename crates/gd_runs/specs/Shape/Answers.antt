-- The answers of a member from the trees of their links, in the member's order.
use Rattle.std.specs.Prelude.{ℕ, List, [], ◌∷◌, map, take, Bool, true, Option, Some, None, option_map, if◌then◌else◌}
use Rattle.gd_prim.specs.declared.Primitive.{Primitive}
use Rattle.gd_tree.specs.Trees.{Tree, tree, TreeLists, no_lists, place_of, lists_of, first_list, rest_lists}
use Rattle.gd_defs.specs.Property.{Expects, a_value, a_key, first}
use Rattle.gd_defs.specs.Asked.{Key, by_property, SortKey, Asking, Members, no_members, own, asks}
use Rattle.gd_defs.specs.Plan.{answers_of}
use Rattle.gd_defs.specs.Rows.{Row, row_cmp, sorted_onto}

-- the lists of a member's clauses: where it is no literal, behind one that stays empty
abbrev pub own_lists : Bool → TreeLists → TreeLists
own_lists given ls = if given then ls else rest_lists ls

-- an answer: its link, the object at the other end, and the lists of that object's clauses
pub record Answer : Type 0 where
  pub link : ℕ
  pub object : ℕ
  pub lists : TreeLists

-- the answer of a link, with the tree of the object at its other end
abbrev pub far_answer : ℕ → Bool → Option Tree → Answer
far_answer k given None = record { link = k; object = 0; lists = no_lists }
far_answer k given (Some t) = record { link = k; object = place_of t; lists = own_lists given (lists_of t) }

-- the answer that the tree of a link stands for
abbrev pub answer_of : Asking → Tree → Answer
answer_of a (tree k ls) = by (answers_of a.property)
  where
    by : Expects → Answer
    by (a_value v) = record { link = k; object = 0; lists = no_lists }
    by a_key = far_answer k true (first (first_list (own_lists a.given ls)))
    by _ = far_answer k a.given (first (first_list ls))

-- the lists of the sort keys, which stand behind those of the members
abbrev pub sort_lists : Members → TreeLists → TreeLists
sort_lists no_members ls = ls
sort_lists (own name w t j ms) ls = sort_lists ms ls
sort_lists (asks name a c ms) ls = sort_lists ms (rest_lists ls)

-- the place at which a sort key of an object stands, by the tree of its first answer
abbrev pub key_place : Key → ℕ → TreeLists → Option ℕ
key_place (by_property p) o ls = option_map place_of (first (first_list ls))
key_place _ o ls = Some o

-- the lists behind that of a sort key, if it has one
abbrev pub behind_key : Key → TreeLists → TreeLists
behind_key (by_property p) ls = rest_lists ls
behind_key _ ls = ls

-- the places at which the sort keys of an object stand
abbrev pub key_places : List SortKey → ℕ → TreeLists → List (Option ℕ)
key_places [] o ls = []
key_places (s ∷ ss) o ls = key_place s.key o ls ∷ key_places ss o (behind_key s.key ls)

-- an answer as a row, by which it is sorted, with its lists
abbrev pub Ranked : Type 0
Ranked = Row × TreeLists

-- the row of an answer with its lists
abbrev pub ranked : Asking → Members → Answer → Ranked
ranked a c x = (record { object = x.object; link = x.link; keys = key_places a.sort x.object (sort_lists c x.lists) }, x.lists)

-- answers in the order of sort keys; without keys as they stand
abbrev pub in_rank : List Primitive → List SortKey → List Ranked → List Ranked
in_rank prims [] rs = rs
in_rank prims (s ∷ ss) rs = sorted_onto (λ a b. row_cmp prims (s ∷ ss) a.0 b.0) [] rs

-- the answers of a member that are printed: those of its list, in its order and up to its limit
abbrev pub cut : List Primitive → Asking → Members → TreeLists → List Ranked
cut prims a c ls = take a.limit (in_rank prims a.sort (map (λ t. ranked a c (answer_of a t)) (first_list ls)))
