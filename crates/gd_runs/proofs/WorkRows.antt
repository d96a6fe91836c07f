-- Work, printed answers and counts of frames, and which image a cut may leave.
use Rattle.std.proofs.Common.{◌≡◌, refl, ℕ, List, [], ◌∷◌, codes, Result, Ok, Err, Option, Some, None, option_map, arith}
use Rattle.gd_prim.specs.Builtin.{builtin}
use Rattle.gd_defs.specs.Query.{required}
use Rattle.gd_defs.specs.Asked.{Asked}
use Rattle.gd_prim.specs.declared.End.TheVariants.{Left}
use Rattle.gd_defs.specs.Template.{template, clause, no_clauses, links_by}
use Rattle.gd_bytes.specs.Disk.{Cut}
use Rattle.gd_tree.specs.Trees.{and_list, no_lists, no_trees}
use Rattle.gd_bytes.specs.Frozen.{Frozen}
use Rattle.gd_bytes.specs.FrozenRead.{frozen_of}
use Rattle.gd_runs.specs.Owed.{left_weight}
use Rattle.gd_runs.specs.Work.{query_work, page_answers}
use Rattle.gd_runs.specs.Pace.{frame_count}
use Rattle.gd_runs.proofs.Asking.{asked_from}

-- a number of a query on the built-in list
abbrev on_builtin : (Asked → ℕ) → List ℕ → Option ℕ
on_builtin f bytes = option_map f (asked_from builtin bytes)

-- the name is printed as its operand: one row and no answer
pub operand_alone : on_builtin (λ q. page_answers builtin q None) (codes "[{\"guid\":null,\"name\":\"English\"}]") ≡ Some 1
unfolding asked_from
operand_alone = refl

-- three rows with an id each
pub three_ids : on_builtin (λ q. page_answers builtin q None) (codes "[{\"id\":null,\"type\":\"/type/namespace\"}]") ≡ Some 6
unfolding asked_from
three_ids = refl

-- a count prints none
pub count_none : on_builtin (λ q. page_answers builtin q None) (codes "[{\"return\":\"count\",\"type\":\"/type/namespace\"}]") ≡ Some 0
unfolding asked_from
count_none = refl

-- one object named twice is one place
pub named_twice : on_builtin (query_work builtin) (codes "[{\"guid|=\":[\"#00000000000000010000000000000003\",\"#00000000000000010000000000000003\"]}]") ≡ Some 1
unfolding asked_from
named_twice = refl

-- one link of that value; its object is asked for its one name
pub by_value : on_builtin (query_work builtin) (codes "[{\"name\":\"English\"}]") ≡ Some 5
unfolding asked_from
by_value = refl

-- below a literal clause the deeper frames add no weight
pub literal_frames : left_weight builtin (template [] (clause required (links_by Left) (template [] (clause required (links_by Left) (template [] no_clauses) no_clauses)) no_clauses))
    (record { place = 0; iter = record { place = 70; accepted = None }; lists = and_list no_trees no_lists })
    (record { place = 1; iter = record { place = 0; accepted = None }; lists = and_list no_trees no_lists } ∷ []) ≡ 0
literal_frames = refl

-- the frames of a text, where each iterator has two members
abbrev frames : Result Frozen ℕ → Asked → ℕ
frames (Ok f) q = frame_count builtin (λ prims hop t. 2) q f
frames (Err n) q = 0

-- a row, two places of trees, an iterator of two members, a frame with another
pub all_frames : on_builtin (frames (frozen_of (codes "f1:0:-:[0,-]:s[3,0;0,4,([8;9])]"))) (codes "[{\"sort\":\"name\",\"type\":\"/type/namespace\"}]") ≡ Some 8
unfolding asked_from
all_frames = refl

-- a cut may leave an image that is shorter already
pub short_image : Cut 9 (1 ∷ 2 ∷ 3 ∷ []) (1 ∷ 2 ∷ 3 ∷ [])
short_image = record { no_shorter = omega arith; front = refl }
