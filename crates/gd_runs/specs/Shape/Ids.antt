-- How many ids a page prints, from the trees of its rows.
use Rattle.std.specs.Prelude.{ℕ, ◌+◌, List, take, sum_by, Option, None, if◌then◌else◌}
use Rattle.gd_base.specs.declared.datum.Datum.{Datum}
use Rattle.gd_base.specs.declared.datum.Datum.TheVariants as datum
use Rattle.gd_prim.specs.declared.Primitive.{Primitive}
use Rattle.gd_tree.specs.Json.{Json}
use Rattle.gd_tree.specs.Trees.{Tree, TreeLists, place_of, lists_of, rest_lists}
use Rattle.gd_defs.specs.Property.{answer_datum}
use Rattle.gd_defs.specs.Asked.{Own, its_id, its_namespace, its_lang, Style, as_id, Asking, Members, no_members, own, asks, Asked}
use Rattle.gd_defs.specs.Rows.{own_datum}
use Rattle.gd_defs.specs.Reply.{is_clause}
use Rattle.gd_runs.specs.Shape.Answers.{cut}

-- how many ids a datum prints: one where it is an object
abbrev pub id_count : Datum → ℕ
id_count (datum.Object o) = 1
id_count d = 0

-- how many ids a computed member prints
abbrev pub own_ids : List Primitive → Own → Option Json → ℕ → ℕ → ℕ
own_ids prims its_id None link o = id_count (own_datum prims its_id link o)
own_ids prims its_namespace None link o = id_count (own_datum prims its_namespace link o)
own_ids prims its_lang None link o = id_count (own_datum prims its_lang link o)
own_ids prims _ _ link o = 0

-- how many ids an answer prints that no clause of its own prints
abbrev pub style_ids : List Primitive → Asking → ℕ → ℕ
style_ids prims a link = by a.style
  where
    by : Style → ℕ
    by as_id = id_count (answer_datum prims a.property link)
    by _ = 0

-- how many ids a clause prints of an object, from the lists of its clauses
abbrev pub object_ids : List Primitive → Members → ℕ → ℕ → TreeLists → ℕ
object_ids prims no_members link o ls = 0
object_ids prims (own name w t operand ms) link o ls = own_ids prims w operand link o + object_ids prims ms link o ls
object_ids prims (asks name a c ms) link o ls =
    sum_by (λ r. style_ids prims a r.0.link + (if is_clause a.style then object_ids prims c r.0.link r.0.object r.1 else 0)) (cut prims a c ls)
    + object_ids prims ms link o (rest_lists ls)

-- how many ids a page prints from the trees of its rows; an object form prints the first row alone
abbrev pub page_ids : List Primitive → Asked → List Tree → ℕ
page_ids prims q ts = sum_by (λ t. object_ids prims q.members 0 (place_of t) (lists_of t)) (if q.listed then ts else take 1 ts)
