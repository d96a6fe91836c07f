-- A page prints as many ids as objects are listed.
use Rattle.std.proofs.Common.{◌≡◌, ◌∙◌, ℕ, ◌+◌, List, [], ◌∷◌, ◌++◌, length, map, take, Bool, true, false, Option, Some, None, refl, sym, ap, arith, length-append}
use Rattle.std.specs.Prelude.{sum_by, if◌then◌else◌}
use Rattle.std.proofs.lemmas.List.Sums.{sum_by-cons}
use Rattle.gd_base.specs.declared.datum.Datum.{Datum}
use Rattle.gd_base.specs.declared.datum.Datum.TheVariants as datum
use Rattle.gd_prim.specs.declared.Primitive.{Primitive}
use Rattle.gd_tree.specs.Json.{Json}
use Rattle.gd_tree.specs.Trees as trees
use Rattle.gd_tree.specs.Trees.{TreeLists, rest_lists, place_of, lists_of}
use Rattle.gd_defs.specs.Asked.{Own, its_id, its_guid, its_timestamp, its_link, its_value, its_namespace, its_lang, Style, as_operand, as_value, as_name, as_id, as_clause, Asking, Members, no_members, own, asks, Asked}
use Rattle.gd_defs.specs.Property.{answer_datum}
use Rattle.gd_defs.specs.Reply.{is_clause}
use Rattle.gd_defs.specs.Rows.{own_datum}
use Rattle.gd_runs.specs.Shape.Answers.{Ranked, cut}
use Rattle.gd_runs.specs.Shape.Ids.{id_count, own_ids, style_ids, object_ids, page_ids}
use Rattle.gd_match_laws.specs.Walks.{id_of, own_listed, where_id, unless_operand, each_listed, object_listed, rows_listed}
use Rattle.gd_trees.specs.View.{view as tree_view}
use Rattle.gd_trees.specs.declared.tree.Tree.{Tree}

-- ---- single ids

id_counted : (d : Datum) → length (id_of d) ≡ id_count d
id_counted (datum.Object o) = refl
id_counted (datum.Bool b) = refl
id_counted (datum.Int n) = refl
id_counted (datum.Moment n p) = refl
id_counted (datum.Text t) = refl
id_counted datum.Empty = refl

own_counted : (prims : List Primitive) (w : Own) (j : Option Json) (link o : ℕ) → length (own_listed prims w j link o) ≡ own_ids prims w j link o
own_counted prims its_id (Some j) link o = refl
own_counted prims its_guid (Some j) link o = refl
own_counted prims its_timestamp (Some j) link o = refl
own_counted prims its_link (Some j) link o = refl
own_counted prims its_value (Some j) link o = refl
own_counted prims its_namespace (Some j) link o = refl
own_counted prims its_lang (Some j) link o = refl
own_counted prims its_id None link o = id_counted (own_datum prims its_id link o)
own_counted prims its_guid None link o = refl
own_counted prims its_timestamp None link o = refl
own_counted prims its_link None link o = refl
own_counted prims its_value None link o = refl
own_counted prims its_namespace None link o = id_counted (own_datum prims its_namespace link o)
own_counted prims its_lang None link o = id_counted (own_datum prims its_lang link o)

-- ---- answers, one after another

nothing_listed : (g : Ranked → List ℕ) (rs : List Ranked) → ((r : Ranked) → g r ≡ []) → each_listed g rs ≡ []
nothing_listed g [] none = refl
nothing_listed g (r ∷ rs) none = ap (λ l. l ++ each_listed g rs) (none r) ∙ nothing_listed g rs none

each_counted : (g : Ranked → List ℕ) (f : Ranked → ℕ) (rs : List Ranked) → ((r : Ranked) → length (g r) ≡ f r) → length (each_listed g rs) ≡ sum_by f rs
each_counted g f [] one = refl
each_counted g f (r ∷ rs) one =
    length-append (g r) (each_listed g rs)
    ∙ ap (λ n. n + length (each_listed g rs)) (one r)
    ∙ ap (λ n. f r + n) (each_counted g f rs one)
    ∙ sym (sum_by-cons f r rs)

module _ (prims : List Primitive) (a : Asking) (c : Members) where
  -- the objects that an answer lists, and how many ids it prints
  abbrev answer_lists : Ranked → List ℕ
  answer_lists r = if is_clause a.style then object_listed prims c r.0.link r.0.object r.1 else where_id a.style (id_of (answer_datum prims a.property r.0.link))

  abbrev answer_ids : Ranked → ℕ
  answer_ids r = style_ids prims a r.0.link + (if is_clause a.style then object_ids prims c r.0.link r.0.object r.1 else 0)

  no_more : (n m : ℕ) → n ≡ m → n ≡ m + 0
  no_more n m same = omega (arith, same)

  none_before : (n m : ℕ) → n ≡ m → n ≡ 0 + m
  none_before n m same = omega (arith, same)

  answer_counted : (r : Ranked) → length (object_listed prims c r.0.link r.0.object r.1) ≡ object_ids prims c r.0.link r.0.object r.1 → length (answer_lists r) ≡ answer_ids r
  answer_counted r within = by a.style refl
    where
      by : (s : Style) → a.style ≡ s → length (answer_lists r) ≡ answer_ids r
      by (as_operand j) is = rw is refl
      by as_value is = rw is refl
      by as_name is = rw is refl
      by as_id is = rw is (no_more _ _ (id_counted (answer_datum prims a.property r.0.link)))
      by as_clause is = rw is (none_before _ _ within)

  -- an operand that is printed prints no id
  unless_counted : (rs : List Ranked) → length (unless_operand a.style (each_listed answer_lists rs)) ≡ length (each_listed answer_lists rs)
  unless_counted rs = by a.style refl
    where
      nothing : (j : Json) → a.style ≡ as_operand j → (r : Ranked) → answer_lists r ≡ []
      nothing j is r = rw is refl

      by : (s : Style) → a.style ≡ s → length (unless_operand a.style (each_listed answer_lists rs)) ≡ length (each_listed answer_lists rs)
      by (as_operand j) is = ap (λ s. length (unless_operand s (each_listed answer_lists rs))) is ∙ sym (ap length (nothing_listed answer_lists rs (nothing j is)))
      by as_value is = ap (λ s. length (unless_operand s (each_listed answer_lists rs))) is
      by as_name is = ap (λ s. length (unless_operand s (each_listed answer_lists rs))) is
      by as_id is = ap (λ s. length (unless_operand s (each_listed answer_lists rs))) is
      by as_clause is = ap (λ s. length (unless_operand s (each_listed answer_lists rs))) is

  answers_counted : (rs : List Ranked) → ((r : Ranked) → length (object_listed prims c r.0.link r.0.object r.1) ≡ object_ids prims c r.0.link r.0.object r.1)
      → length (unless_operand a.style (each_listed answer_lists rs)) ≡ sum_by answer_ids rs
  answers_counted rs within = unless_counted rs ∙ each_counted answer_lists answer_ids rs (λ r. answer_counted r (within r))

-- ---- objects, rows and pages

object_counted : (prims : List Primitive) (ms : Members) (link o : ℕ) (ls : TreeLists) → length (object_listed prims ms link o ls) ≡ object_ids prims ms link o ls
object_counted prims no_members link o ls = refl
object_counted prims (own name w t operand ms) link o ls =
    length-append (own_listed prims w operand link o) (object_listed prims ms link o ls)
    ∙ ap (λ n. n + length (object_listed prims ms link o ls)) (own_counted prims w operand link o)
    ∙ ap (λ n. own_ids prims w operand link o + n) (object_counted prims ms link o ls)
object_counted prims (asks name a c ms) link o ls =
    length-append (unless_operand a.style (each_listed (answer_lists prims a c) (cut prims a c ls))) (object_listed prims ms link o (rest_lists ls))
    ∙ ap (λ n. n + length (object_listed prims ms link o (rest_lists ls))) (answers_counted prims a c (cut prims a c ls) (λ r. object_counted prims c r.0.link r.0.object r.1))
    ∙ ap (λ n. sum_by (answer_ids prims a c) (cut prims a c ls) + n) (object_counted prims ms link o (rest_lists ls))

rows_counted : (prims : List Primitive) (ms : Members) (ts : List trees.Tree) → length (rows_listed prims ms ts) ≡ sum_by (λ t. object_ids prims ms 0 (place_of t) (lists_of t)) ts
rows_counted prims ms [] = refl
rows_counted prims ms (trees.tree o ls ∷ ts) =
    length-append (object_listed prims ms 0 o ls) (rows_listed prims ms ts)
    ∙ ap (λ n. n + length (rows_listed prims ms ts)) (object_counted prims ms 0 o ls)
    ∙ ap (λ n. object_ids prims ms 0 o ls + n) (rows_counted prims ms ts)
    ∙ sym (sum_by-cons (λ t. object_ids prims ms 0 (place_of t) (lists_of t)) (trees.tree o ls) ts)

printed_trees : (listed : Bool) (ts printed : List Tree) → printed ≡ (if listed then ts else take 1 ts) → map tree_view printed ≡ (if listed then map tree_view ts else take 1 (map tree_view ts))
printed_trees true ts printed is = ap (map tree_view) is
printed_trees false [] printed is = ap (map tree_view) is
printed_trees false (t ∷ ts) printed is = ap (map tree_view) is

-- LAW: so many ids a page prints, as the objects that are gathered from the trees of the rows that are printed
pub page_counted : (prims : List Primitive) (q : Asked) (ts printed : List Tree) (objects : List ℕ) → printed ≡ (if q.listed then ts else take 1 ts) → objects ≡ rows_listed prims q.members (map tree_view printed)
    → length objects ≡ page_ids prims q (map tree_view ts)
page_counted prims q ts printed objects rows are =
    ap length are
    ∙ rows_counted prims q.members (map tree_view printed)
    ∙ ap (sum_by (λ t. object_ids prims q.members 0 (place_of t) (lists_of t))) (printed_trees q.listed ts printed rows)

-- LAW: where all rows are printed, as many as are gathered from all
pub all_counted : (prims : List Primitive) (q : Asked) (ts : List Tree) (objects : List ℕ) → q.listed ≡ true → objects ≡ rows_listed prims q.members (map tree_view ts) → length objects ≡ page_ids prims q (map tree_view ts)
all_counted prims q ts objects listed are = page_counted prims q ts ts objects (sym (ap (λ b. if b then ts else take 1 ts) listed)) are
