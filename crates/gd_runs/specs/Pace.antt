-- How many steps beginning, freezing and thawing may take, and how many slices of a run may leave a reading unfinished.
use Rattle.std.specs.Prelude.{◌≡◌, ℕ, ◌+◌, ◌-◌, ◌*◌, ◌≤◌, max, List, [], ◌∷◌, ◌++◌, length, take, sum_by, Bool, false, not, ◌&&◌, ◌==◌, Option, Some, None, is_some, Result, Ok, Err, if◌then◌else◌, codes, bytes_eq}
use Rattle.std.specs.Bool.{MatchBool}
use Rattle.gd_prim.specs.declared.Primitive.{Primitive}
use Rattle.gd_prim.specs.declared.Batch.{Batch}
use Rattle.gd_defs.specs.History.{prims_at}
use Rattle.gd_defs.specs.Query.{Query}
use Rattle.gd_defs.specs.Asked.{Asked, Unknown, asked_query}
use Rattle.gd_defs.specs.Template.{Template, template, Clauses, no_clauses, clause}
use Rattle.gd_defs.specs.Plan.{template_of}
use Rattle.gd_defs.specs.Cost.{resolving}
use Rattle.gd_defs.specs.Reply.{Mark}
use Rattle.gd_runs.specs.Work.{first_left}
use Rattle.gd_runs.specs.Request.{ReadRequest, ReadSet, one_query, queries, asks_page}
use Rattle.gd_bytes.specs.Frozen.{Frame, Walk, by_links, Body, scanning, building, printing, Frozen}
use Rattle.gd_runs.specs.Owed.{MembersOf}
use Rattle.gd_tree.specs.Trees.{TreeLists, no_lists, and_list, trees_count, lists_count}
use Rattle.gd_runs.specs.Legal.{batches}
use Rattle.gd_runs.specs.Explained.{Numbered, lines_of}
use Rattle.gd_runs.specs.Input.{InputFault}
use Rattle.gd_runs.specs.Core.{Event, begin, slice, freeze, thaw, Reading, State, opened, said, frozen_line}
use Rattle.gd_runs.specs.Replay.{event_from, LineStep}

-- ---- the frames of a frozen text

-- how many positions an iterator of so many members has: one for each, and one at least
abbrev pub position_count : ℕ → ℕ
position_count members = max 1 members

abbrev mutual
  -- how much a frame with the frames below it counts: one, and the positions of its iterator, of which a frame beyond the template has one
  pub frames_count : List Primitive → MembersOf → Template → Frame → List Frame → ℕ
  frames_count prims members (template cs clauses) f deeper = clause_frames prims members clauses f.lists deeper

  -- how much a frame with the frames below it counts, by the clauses of its template
  pub clause_frames : List Primitive → MembersOf → Clauses → TreeLists → List Frame → ℕ
  clause_frames prims members no_clauses ls deeper = 2 * (1 + length deeper)
  clause_frames prims members (clause mode hop t rest) no_lists deeper = 2 * (1 + length deeper)
  clause_frames prims members (clause mode hop t rest) (and_list ts no_lists) [] = 1 + position_count (members prims (Some hop) t)
  clause_frames prims members (clause mode hop t rest) (and_list ts no_lists) (g ∷ gs) = 1 + position_count (members prims (Some hop) t) + frames_count prims members t g gs
  clause_frames prims members (clause mode hop t rest) (and_list ts (and_list us ls)) deeper = clause_frames prims members rest (and_list us ls) deeper

-- how much frames count, one below the other, with the places of their trees
abbrev pub stack_count : List Primitive → MembersOf → Template → List Frame → ℕ
stack_count prims members t [] = 0
stack_count prims members t (f ∷ fs) = frames_count prims members t f fs + sum_by (λ g. lists_count g.lists) (f ∷ fs)

-- how many places a walk has
abbrev pub walk_count : Walk → ℕ
walk_count (by_links ks) = length ks
walk_count w = 0

-- how much what a reading does counts: positions of iterators, frames, places of trees and of walks; the index of a row is one position
abbrev pub body_count : List Primitive → MembersOf → Template → Body → ℕ
body_count prims members t (scanning s) = position_count (members prims None t) + stack_count prims members t s.frames
body_count prims members t (building w ts s) = trees_count ts + 1 + stack_count prims members t s.frames
body_count prims members t (printing n ts ws) = trees_count ts + sum_by walk_count ws

-- how many frames a frozen reading counts: its rows, and what it does
abbrev pub frame_count : List Primitive → MembersOf → Asked → Frozen → ℕ
frame_count prims members q f = length f.rows + body_count prims members (template_of q) f.body

-- ---- bounds on single calls

-- the greatest number of steps that beginning a query takes
abbrev pub begin_steps : List Primitive → Query → ℕ
begin_steps prims q = 64 * (1 + resolving prims q)

-- the greatest number of steps that beginning several queries takes
abbrev pub begin_all_steps : List Primitive → List ReadRequest → ℕ
begin_all_steps prims rs = sum_by (λ r. begin_steps prims r.query) rs

-- the greatest number of steps that thawing takes, where the query has a meaning
abbrev pub thaw_steps : List Primitive → MembersOf → Query → Asked → Frozen → ℕ
thaw_steps prims members q a f = begin_steps prims q + 24 * frame_count prims members a f

-- how many steps are due of a frozen reading: a number that the program gives, by the batches below its dateline, whether a cursor is asked, the query and the reading
abbrev pub DueOf : Type 0
DueOf = List Batch → Bool → Query → Frozen → ℕ

-- how many steps are due of a frozen reading of a request
abbrev pub due : DueOf → List Batch → ReadRequest → Frozen → ℕ
due d batches r f = d (take f.dateline batches) (asks_page r.cursor) r.query f

-- ---- a run

-- the number of steps that a query has left first, none where it has no meaning
abbrev pub query_left : List Primitive → Option Mark → Result Asked Unknown → ℕ
query_left prims after (Err u) = 0
query_left prims after (Ok q) = first_left prims q after

-- the number of steps that a reading has left first: that of its query, those of its queries together, or what is due of it where it was thawed
abbrev pub first_number : DueOf → List Batch → Reading → ℕ
first_number d batches r = by r.thawed r.request
  where
    of_query : ReadRequest → ℕ
    of_query q = query_left (prims_at batches r.dateline) r.after (asked_query (prims_at batches r.dateline) q.query)

    by : Option Frozen → ReadSet → ℕ
    by (Some f) (one_query q) = due d batches q f
    by None (one_query q) = of_query q
    by _ (queries qs) = sum_by of_query qs

-- how many steps the reading of each session has left
abbrev pub Left : Type 0
Left = ℕ → ℕ

-- what the readings of the sessions have left, with one session anew
abbrev pub with_left : Left → ℕ → ℕ → Left
with_left a i n j = if j == i then n else a j

-- line k prints this word of the reading that a session holds
abbrev pub says_of : Option Reading → ℕ → List ℕ → List ℕ → Bool
says_of None k what reply = false
says_of (Some r) k what reply = bytes_eq reply (said r.dateline k what)

-- what is left after a session holds a reading that was made: of it its first number
abbrev pub renewed : DueOf → State → ℕ → Left → Left
renewed d t i a = by (t.sessions i).reading
  where
    by : Option Reading → Left
    by None = a
    by (Some r) = with_left a i (first_number d (batches t.history) r)

-- of a frozen reading of a query is due at most what was left, and 24 for each of its frames (no clause says this of what is frozen yet)
abbrev pub IsDueWithin : MembersOf → DueOf → List Batch → ReadRequest → Frozen → ℕ → Type 0
IsDueWithin members d batches q f left = by (asked_query (prims_at batches f.dateline) q.query)
  where
    by : Result Asked Unknown → Type 0
    by (Err u) = Unit {0}
    by (Ok a) = due d batches q f ≤ left + 24 * frame_count (prims_at batches f.dateline) members a f

-- of each text that line k may print of a reading is due no more than that
abbrev pub FreezePace : MembersOf → DueOf → State → ℕ → List ℕ → Option Reading → ℕ → Type 0
FreezePace members d s k reply None left = Unit {0}
FreezePace members d s k reply (Some r) left = by r.request
  where
    by : ReadSet → Type 0
    by (one_query q) = (f : Frozen) → reply ≡ frozen_line k r f → IsDueWithin members d (batches s.history) q f left
    by (queries qs) = Unit {0}

-- a reading that began is held: its steps are counted, and those of a reading that was thawed are not
abbrev pub is_counted : Option Reading → Bool
is_counted None = false
is_counted (Some r) = not (is_some r.thawed)

-- what the readings have left behind an event that printed this reply: a slice that was unfinished takes its budget off, which they had left
abbrev pub Pace : MembersOf → DueOf → State → ℕ → Event → List ℕ → State → Left → Left → Type 0
Pace members d s k (begin i r) reply t a b = b ≡ (if says_of (t.sessions i).reading k (codes "begun") reply then renewed d t i a else a)
Pace members d s k (slice i budget) reply t a b =
    MatchBool (is_counted (s.sessions i).reading && says_of (s.sessions i).reading k (codes "unfinished") reply) ((budget ≤ a i) × (b ≡ with_left a i (a i - budget))) (b ≡ a)
Pace members d s k e reply t a b = b ≡ a

-- what the readings have left behind a line that printed this reply; behind one that is no event it is as before
abbrev pub LinePace : MembersOf → DueOf → State → ℕ → Result Event InputFault → List ℕ → State → Left → Left → Type 0
LinePace members d s k (Err f) reply t a b = b ≡ a
LinePace members d s k (Ok e) reply t a b = Pace members d s k e reply t a b

-- lines, the first of them line k, print an output and make a state, within what the readings have left
abbrev pub PacedReplies : MembersOf → DueOf → (ℕ → Bool) → State → Left → ℕ → List Numbered → List ℕ → State → Type 0
PacedReplies members d may s a k [] output t = (output ≡ []) × (t ≡ s)
PacedReplies members d may s a k (l ∷ ls) output t = (reply : List ℕ) × (mid : State) × (b : Left) × (rest : List ℕ)
    × LineStep members may s k l.bytes reply mid × LinePace members d s k (event_from l.bytes) reply mid a b × (output ≡ reply ++ 10 ∷ rest) × PacedReplies members d may mid b (k + 1) ls rest t

-- the lines of an input print an output and make a state, on a store that was opened with these batches, and no reading is unfinished too often
abbrev pub PacedReplays : MembersOf → DueOf → (ℕ → Bool) → List Batch → List ℕ → List ℕ → State → Type 0
PacedReplays members d may loaded input output t = PacedReplies members d may (opened loaded) (λ i. 0) 0 (lines_of input) output t
