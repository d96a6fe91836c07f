-- The objects whose ids are printed, of one answer, member or list of trees at a time.
use Rattle.std.specs.Prelude.{ℕ, List, [], Bool, true, false, if◌then◌else◌}
use Rattle.gd_prim.specs.declared.Primitive.{Primitive}
use Rattle.gd_tree.specs.Trees.{Tree, TreeLists, first_list}
use Rattle.gd_defs.specs.Property.{answer_datum}
use Rattle.gd_defs.specs.Asked.{Style, as_id, Asking, Members, no_members, own, asks}
use Rattle.gd_defs.specs.Reply.{is_clause}
use Rattle.gd_order_laws.specs.Window.{In}
use Rattle.gd_runs.specs.Shape.Answers.{Ranked}
use Rattle.gd_match_laws.specs.Walks.{id_of, own_listed, where_id, unless_operand, each_listed, object_listed}
use Rattle.gd_shape.specs.Printed.{cut_of}

-- each of these stands among all
abbrev pub AreAmong : List ℕ → List ℕ → Type 0
AreAmong os all = (o : ℕ) → In o os → In o all

-- an answer of this style prints its id
abbrev pub is_id : Style → Bool
is_id as_id = true
is_id _ = false

-- those of an answer of a member
abbrev pub answer_listed : List Primitive → Asking → Members → Ranked → List ℕ
answer_listed prims a c r = if is_clause a.style then object_listed prims c r.0.link r.0.object r.1 else where_id a.style (id_of (answer_datum prims a.property r.0.link))

-- those of a member that asks a property, from the trees of its links
abbrev pub asks_listed : List Primitive → Asking → Members → List Tree → List ℕ
asks_listed prims a c ts = unless_operand a.style (each_listed (answer_listed prims a c) (cut_of prims a c ts))

-- those of the first member
abbrev pub first_listed : List Primitive → Members → ℕ → ℕ → TreeLists → List ℕ
first_listed prims no_members link o ls = []
first_listed prims (own name w t operand ms) link o ls = own_listed prims w operand link o
first_listed prims (asks name a c ms) link o ls = asks_listed prims a c (first_list ls)
