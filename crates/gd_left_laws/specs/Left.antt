-- How many turns are left of a scan, at most, where it stands: each move that is made lowers this.
use Rattle.std.specs.Prelude.{◌≡◌, ℕ, ◌+◌, ◌≤◌, List, [], ◌∷◌, length, map, filter, sum_by, nat_le, nat_lt, slice_get, Bool, true, not, Option, Some, None, if◌then◌else◌}
use Rattle.std.specs.Option.{option_map_or}
use Rattle.std.specs.Ordering.{nat_cmp}
use Rattle.gd_prim.specs.declared.Primitive.{Primitive}
use Rattle.gd_prim.specs.declared.End.{End}
use Rattle.gd_prim.specs.declared.End.TheVariants.{Typ}
use Rattle.gd_prim.specs.End.{places_with}
use Rattle.gd_prim.specs.Live.{places_where, end_at}
use Rattle.gd_tree.specs.Trees.{TreeLists, no_lists, and_list}
use Rattle.gd_defs.specs.Property.{near_of}
use Rattle.gd_defs.specs.Asked.{Asked}
use Rattle.gd_defs.specs.Template.{Hop, links_by, end_here, Template, template, Clauses, no_clauses, clause, led_to, passes_template}
use Rattle.gd_bytes.specs.Frozen.{IterAt, Frame, Scan}
use Rattle.gd_order_laws.specs.Window.{In, Rising}
use Rattle.gd_runs.specs.Owed.{ScanOrder, Candidate}
use Rattle.gd_runs.specs.RootSets.{RootSet, everything, named_places, links_of}
use Rattle.gd_work_laws.specs.PassedOn.{FrameMoves, begins, passes_over, descends, takes, below_moves, below_ends, next_begins, later_moves, StackMoves, frame_moves, ScanMoves, scan_passes_over, picks, frames_move, gives, Runs, stays, moves}
use Rattle.gd_work_laws.specs.Turns.{typ_asked, constraints_of, build_turns, clauses_build_turns, judge_turns}
use Rattle.gd_work_laws.specs.Scan.{candidate_turns, first_turns}

-- ---- a clause

-- how many of the links that are looked at are left from a place on
abbrev pub links_from : List Primitive → End → Option ℕ → ℕ → ℕ → ℕ
links_from prims e None place from = length (filter (nat_le from) (places_with e place prims))
links_from prims e (Some typ) place from = if nat_lt (length (places_with Typ typ prims)) (length (places_with e place prims))
    then length (filter (nat_le from) (places_with Typ typ prims)) else length (filter (nat_le from) (places_with e place prims))

-- how many places that are looked at where a hop leads are left from a place on
abbrev pub looked_from : List Primitive → Hop → Template → ℕ → ℕ → ℕ
looked_from prims (links_by e) t place from = links_from prims e (typ_asked (constraints_of t)) place from
looked_from prims (end_here e) t place from = length (filter (nat_le from) (led_to prims (end_here e) place))

-- what is left of a clause from a place on
abbrev pub clause_from : List Primitive → Hop → Template → ℕ → ℕ → ℕ
clause_from prims hop t place from = looked_from prims hop t place from + sum_by (judge_turns prims t) (filter (nat_le from) (led_to prims hop place))

-- the turns of a clause that has begun besides those of its places
abbrev pub hop_left : Hop → ℕ
hop_left (links_by e) = 2
hop_left (end_here e) = 0

-- ---- frames

abbrev mutual
  -- what is left of frames, one below the other
  pub stack_left : List Primitive → Template → List Frame → ℕ
  stack_left prims (template cs _) [] = 0
  stack_left prims (template cs clauses) (f ∷ fs) = 1 + clauses_left prims clauses f.place f.iter.place f.lists fs

  -- what is left of clauses at a place, with the position of the iterator over the current one, its lists and the frames below it
  pub clauses_left : List Primitive → Clauses → ℕ → ℕ → TreeLists → List Frame → ℕ
  clauses_left prims no_clauses place from ls gs = 0
  clauses_left prims (clause mode hop t rest) place from no_lists gs = clauses_build_turns prims (clause mode hop t rest) place
  clauses_left prims (clause mode hop t rest) place from (and_list ts no_lists) gs = hop_left hop + clause_from prims hop t place from + stack_left prims t gs + clauses_build_turns prims rest place
  clauses_left prims (clause mode hop t rest) place from (and_list ts (and_list us ls)) gs = clauses_left prims rest place from (and_list us ls) gs

-- ---- a scan

-- what is left of the members of a set from a place on, where each has so many turns
abbrev pub members_from : (ℕ → ℕ) → List ℕ → ℕ → ℕ
members_from h members from = sum_by h (filter (nat_le from) members)

-- what is left of a scan of a set
abbrev pub scan_left : List Primitive → Template → (ℕ → ℕ) → List ℕ → Scan → ℕ
scan_left prims t h members s = members_from h members s.iter.place + stack_left prims t s.frames

-- ---- moves that do not go back

abbrev mutual
  -- where an iterator passes over places, it does not go back
  pub FrameGoesOn : {prims : List Primitive} {clauses : Clauses} {f : Frame} {ls : TreeLists} {gs : List Frame} {d : ℕ} {i : IterAt} {ks : TreeLists} {hs : List Frame} → FrameMoves prims clauses f ls gs d i ks hs → Type 0
  FrameGoesOn (begins mode hop t rest f i at) = Unit {0}
  FrameGoesOn (passes_over mode hop t rest f ts gs i same) = f.iter.place ≤ i.place
  FrameGoesOn (descends mode hop t rest f ts x i j found) = Unit {0}
  FrameGoesOn (takes mode hop t rest f ts x i given found) = Unit {0}
  FrameGoesOn (below_moves mode hop t rest f ts gs d hs below) = StackGoesOn below
  FrameGoesOn (below_ends mode hop cs inner rest f g ts o ends) = Unit {0}
  FrameGoesOn (next_begins mode hop t m h u rest f ts i ended met at) = Unit {0}
  FrameGoesOn (later_moves mode hop t rest f ts us vs ls ks gs d i hs later) = FrameGoesOn later

  pub StackGoesOn : {prims : List Primitive} {t : Template} {fs : List Frame} {d : ℕ} {gs : List Frame} → StackMoves prims t fs d gs → Type 0
  StackGoesOn (frame_moves cs _ f gs d i ls hs move) = FrameGoesOn move

-- a scan that passes over places does not go back
abbrev pub ScanGoesOn : {prims : List Primitive} {order : ScanOrder} {t : Template} {s : Scan} {cs : List Candidate} {e : Scan} → ScanMoves prims order t s cs e → Type 0
ScanGoesOn (scan_passes_over t s i same) = s.iter.place ≤ i.place
ScanGoesOn (picks t s c i j none found) = Unit {0}
ScanGoesOn (frames_move t s d fs below) = StackGoesOn below
ScanGoesOn (gives cs _ s f n o frames ends) = Unit {0}

-- no scan of a run goes back
abbrev pub RunGoesOn : {prims : List Primitive} {order : ScanOrder} {t : Template} {s : Scan} {cs : List Candidate} {e : Scan} → Runs prims order t s cs e → Type 0
RunGoesOn (stays s) = Unit {0}
RunGoesOn (moves s m e cs ds one rest) = ScanGoesOn one × RunGoesOn rest

-- how many moves of a run are made: to pass over places is none
abbrev mutual
  pub frame_count : {prims : List Primitive} {clauses : Clauses} {f : Frame} {ls : TreeLists} {gs : List Frame} {d : ℕ} {i : IterAt} {ks : TreeLists} {hs : List Frame} → FrameMoves prims clauses f ls gs d i ks hs → ℕ
  frame_count (begins mode hop t rest f i at) = 1
  frame_count (passes_over mode hop t rest f ts gs i same) = 0
  frame_count (descends mode hop t rest f ts x i j found) = 1
  frame_count (takes mode hop t rest f ts x i given found) = 1
  frame_count (below_moves mode hop t rest f ts gs d hs below) = stack_count below
  frame_count (below_ends mode hop cs inner rest f g ts o ends) = 1
  frame_count (next_begins mode hop t m h u rest f ts i ended met at) = 1
  frame_count (later_moves mode hop t rest f ts us vs ls ks gs d i hs later) = frame_count later

  pub stack_count : {prims : List Primitive} {t : Template} {fs : List Frame} {d : ℕ} {gs : List Frame} → StackMoves prims t fs d gs → ℕ
  stack_count (frame_moves cs _ f gs d i ls hs move) = frame_count move

abbrev pub scan_count : {prims : List Primitive} {order : ScanOrder} {t : Template} {s : Scan} {cs : List Candidate} {e : Scan} → ScanMoves prims order t s cs e → ℕ
scan_count (scan_passes_over t s i same) = 0
scan_count (picks t s c i j none found) = 1
scan_count (frames_move t s d fs below) = stack_count below
scan_count (gives cs _ s f n o frames ends) = 1

abbrev pub run_count : {prims : List Primitive} {order : ScanOrder} {t : Template} {s : Scan} {cs : List Candidate} {e : Scan} → Runs prims order t s cs e → ℕ
run_count (stays s) = 0
run_count (moves s m e cs ds one rest) = scan_count one + run_count rest

-- ---- root sets

-- the members of a set: places, or links
abbrev pub set_members : List Primitive → RootSet → List ℕ
set_members prims everything = places_where (λ p. true) prims
set_members prims (named_places places) = places
set_members prims (links_of a c links) = links

-- the turns of a member of a set
abbrev pub member_turns : List Primitive → Asked → RootSet → ℕ → ℕ
member_turns prims q everything x = 1 + candidate_turns prims q x
member_turns prims q (named_places places) x = 1 + candidate_turns prims q x
member_turns prims q (links_of a c links) k = 1 + option_map_or (λ o. first_turns prims a c o + candidate_turns prims q o) (end_at (near_of a.property) prims k) 0

-- the turns of a row with a number
abbrev pub row_turns : List Primitive → Asked → List ℕ → ℕ → ℕ
row_turns prims q os k = option_map_or (λ o. 1 + candidate_turns prims q o) (slice_get os k) 0

-- the members of an order are those of a list in rising order, and each has the turns of its candidate's tree, where that passes
pub record Pays (prims : List Primitive) (t : Template) (order : ScanOrder) (h : ℕ → ℕ) (members : List ℕ) : Type 0 where
  pub rises : Rising nat_cmp (map (λ c. c.0) order)
  pub there : (c : ℕ × ℕ) → In c order → In c.0 members
  pub turns : (c : ℕ × ℕ) → In c order → passes_template prims t c.1 ≡ true → 1 + build_turns prims t c.1 ≤ h c.0

-- ---- ids

-- how many of objects are not known, one after another, each as often as it stands there
abbrev pub ids_left : (ℕ → Bool) → List ℕ → ℕ
ids_left known os = length (filter (λ o. not (known o)) os)
