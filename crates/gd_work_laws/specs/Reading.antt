-- How many steps each stage of a reading takes, at most: by the list, the query, and where its page begins.
use Rattle.std.specs.Prelude.{ℕ, ◌+◌, ◌*◌, ◌/◌, List, length, map, sum_by, ◌||◌, Option, if◌then◌else◌}
use Rattle.gd_prim.specs.declared.Primitive.{Primitive}
use Rattle.gd_tree.specs.Trees.{tree_count}
use Rattle.gd_defs.specs.Asked.{Asked}
use Rattle.gd_defs.specs.Rows.{Row}
use Rattle.gd_defs.specs.Reply.{Mark, page, is_too_wide}
use Rattle.gd_defs.specs.Plan.{template_of}
use Rattle.gd_defs.specs.Template.{tree_of}
use Rattle.gd_match_laws.specs.PassedOn.{RootSet}
use Rattle.gd_match_laws.specs.Walks.{rows_listed}
use Rattle.gd_work_laws.specs.Turns.{judge_turns}
use Rattle.gd_work_laws.specs.Scan.{candidate_turns, walk_turns}

-- judging a place: 16 steps for each of its turns, and three
abbrev pub judging_steps : List Primitive → Asked → ℕ → ℕ
judging_steps prims q o = 3 + 16 * judge_turns prims (template_of q) o

-- trying it by a matcher over this one place: 48 steps for each turn, with one to come to it and one to find the end
abbrev pub trying_steps : List Primitive → Asked → ℕ → ℕ
trying_steps prims q o = 48 * (2 + candidate_turns prims q o)

-- a place that is judged, and where judging is given up tried
abbrev pub place_steps : List Primitive → Asked → ℕ → ℕ
place_steps prims q o = 64 * (2 + candidate_turns prims q o)

-- the same in turns of 48 steps
abbrev pub visit_turns : List Primitive → Asked → ℕ → ℕ
visit_turns prims q o = (4 * (2 + candidate_turns prims q o) + 2) / 3

-- visiting the candidates of a set one after another, and finding that there is none
abbrev pub visiting_most : List Primitive → Asked → RootSet → ℕ
visiting_most prims q s = 48 * (walk_turns (visit_turns prims q) prims q s + 1) + 1024

-- gathering the trees of the rows of a page
abbrev pub gathering_most : List Primitive → Asked → List Row → ℕ
gathering_most prims q rs = sum_by (λ (r : Row). place_steps prims q r.object) rs + 256

-- the steps of finding an id
abbrev pub id_steps : ℕ
id_steps = 785

-- printing: a step for each place of the trees, and the ids
abbrev pub printing_most : List Primitive → Asked → List Row → ℕ
printing_most prims q rs = sum_by (λ (r : Row). tree_count (tree_of prims (template_of q) r.object)) rs + id_steps * length (rows_listed prims q.members (map (λ (r : Row). tree_of prims (template_of q) r.object) rs)) + 256

-- the page of a query behind a mark: nothing is printed of a count, nor of what is too wide
abbrev pub page_most : List Primitive → Asked → Option Mark → ℕ
page_most prims q after = gathering_most prims q (page prims q after) + (if q.count || is_too_wide prims q after then 0 else printing_most prims q (page prims q after))

-- a whole reading: the candidates of a set are visited, and the page is gathered and printed
abbrev pub reading_most : List Primitive → Asked → Option Mark → RootSet → ℕ
reading_most prims q after s = visiting_most prims q s + page_most prims q after
