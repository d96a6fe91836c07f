-- Which frozen readings fit a query at their dateline.
use Rattle.std.specs.Prelude.{ℕ, ◌+◌, List, [], ◌∷◌, length, Bool, true, not, ◌&&◌, ◌==◌, nat_lt, nat_le, Option, Some, None, is_some, if◌then◌else◌}
use Rattle.std.specs.List.{list_all}
use Rattle.gd_grammar.specs.Mark.{Mark}
use Rattle.gd_prim.specs.declared.Primitive.{Primitive}
use Rattle.gd_prim.specs.Live.{value_at, text_of}
use Rattle.gd_tree.specs.Trees.{Trees, list_of, trees_count}
use Rattle.gd_defs.specs.Asked.{Asked}
use Rattle.gd_defs.specs.Plan.{template_of}
use Rattle.gd_bytes.specs.Frozen.{Frame, Walk, by_links, scanning, building, printing, Body, Frozen}
use Rattle.gd_runs.specs.Owed.{MembersOf, tree_fits, scan_fits, stack_fits}
use Rattle.gd_runs.specs.Shape.Ids.{page_ids}

-- a place lies below the end
abbrev pub is_inside : List Primitive → ℕ → Bool
is_inside prims p = nat_lt p (length prims)

-- a key place that is there lies below the end
abbrev pub key_inside : List Primitive → Option ℕ → Bool
key_inside prims None = true
key_inside prims (Some p) = is_inside prims p

-- a row fits a query: its places lie below the end, and it has a key for each sort word
abbrev pub row_fits : List Primitive → Asked → Mark → Bool
row_fits prims q r = is_inside prims r.object && length r.keys == length q.sort && list_all (key_inside prims) r.keys

-- built trees fit a query: each fits its template, and there are not more than rows, for a count none
abbrev pub trees_fit : List Primitive → Asked → ℕ → Trees → Bool
trees_fit prims q rows ts = list_all (tree_fits prims (template_of q)) (list_of ts)
    && (if q.count then length (list_of ts) == 0 else nat_le (length (list_of ts)) rows)

-- a walk fits: its links lie below the end, and their values are texts
abbrev pub walk_fits : List Primitive → Walk → Bool
walk_fits prims (by_links ks) = list_all (λ k. is_inside prims k && is_some (text_of (value_at prims k))) ks
walk_fits prims _ = true

-- how many candidates frames try: one, if there are any
abbrev pub tried_count : List Frame → ℕ
tried_count [] = 0
tried_count (f ∷ fs) = 1

-- what a reading does fits a query: in building, the row is one of them, no member has accepted it, and there are not more trees than rows before it, with that of the row that is tried; in printing, no more places and ids are printed than the trees have
abbrev pub body_fits : List Primitive → MembersOf → Asked → ℕ → Body → Bool
body_fits prims members q rows (scanning s) = scan_fits prims members (template_of q) s
body_fits prims members q rows (building w ts s) = trees_fit prims q rows ts && nat_le s.iter.place rows && not (is_some s.iter.accepted)
    && stack_fits prims members (template_of q) s.frames && nat_le (length (list_of ts) + tried_count s.frames) s.iter.place
body_fits prims members q rows (printing n ts walks) = trees_fit prims q rows ts && list_all (walk_fits prims) walks
    && nat_le n (trees_count ts) && nat_le (length walks) (page_ids prims q (list_of ts))

-- a frozen reading fits a query at its dateline
abbrev pub fits : List Primitive → MembersOf → Asked → Frozen → Bool
fits prims members q f = list_all (row_fits prims q) f.rows && nat_le (length f.rows) (q.limit + 1) && body_fits prims members q (length f.rows) f.body
