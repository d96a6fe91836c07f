-- Frames that a matcher comes to fit its template, apart from where their iterators stand.
use Rattle.std.specs.Prelude.{◌≡◌, ℕ, List, [], ◌∷◌, length, true, ◌&&◌, Some, None}
use Rattle.std.specs.List.{list_all}
use Rattle.gd_prim.specs.declared.Primitive.{Primitive}
use Rattle.gd_tree.specs.Trees.{Trees, TreeLists, no_lists, and_list, place_of, list_of}
use Rattle.gd_defs.specs.Template.{Template, template, Clauses, no_clauses, clause, Hop, meets_constraints, led_to, is_answer, tree_of}
use Rattle.gd_bytes.specs.Frozen.{Frame, Scan}
use Rattle.gd_runs.specs.Owed.{ScanOrder, Candidate, MembersOf, is_among, tree_fits, iter_fits, stack_fits, scan_fits}
use Rattle.gd_match_laws.specs.Moves.{Runs}

-- trees are of places that a hop leads to, and fit a template
abbrev pub TreesFit : List Primitive → Hop → Template → ℕ → Trees → Type 0
TreesFit prims hop t p ts = list_all (λ u. is_among (led_to prims hop p) (place_of u) && tree_fits prims t u) (list_of ts) ≡ true

abbrev mutual
  -- a frame fits a template, with the frames below it, wherever their iterators stand; a frame may have no list yet
  pub Grows : List Primitive → Template → Frame → List Frame → Type 0
  Grows prims (template cs clauses) f deeper = (meets_constraints prims cs f.place ≡ true) × ListsGrow prims clauses f.place f.lists deeper

  -- its lists fit clauses, and the frames below it fit the current one
  pub ListsGrow : List Primitive → Clauses → ℕ → TreeLists → List Frame → Type 0
  ListsGrow prims no_clauses p no_lists [] = Unit {0}
  ListsGrow prims no_clauses p no_lists (g ∷ gs) = ⊥
  ListsGrow prims no_clauses p (and_list ts ls) deeper = ⊥
  ListsGrow prims (clause mode hop t rest) p no_lists [] = Unit {0}
  ListsGrow prims (clause mode hop t rest) p no_lists (g ∷ gs) = ⊥
  ListsGrow prims (clause mode hop t rest) p (and_list ts no_lists) [] = TreesFit prims hop t p ts
  ListsGrow prims (clause mode hop t rest) p (and_list ts no_lists) (g ∷ gs) = TreesFit prims hop t p ts × ((is_among (led_to prims hop p) g.place ≡ true) × Grows prims t g gs)
  ListsGrow prims (clause mode hop t rest) p (and_list ts (and_list us ls)) deeper = TreesFit prims hop t p ts × ListsGrow prims rest p (and_list us ls) deeper

-- frames, one below the other, if there are any
abbrev pub StackGrows : List Primitive → Template → List Frame → Type 0
StackGrows prims t [] = Unit {0}
StackGrows prims t (f ∷ fs) = Grows prims t f fs

abbrev mutual
  -- the iterators of a frame and of the frames below it stand where a text can say it, and each has a list
  pub IsPlaced : List Primitive → MembersOf → ℕ → Template → Frame → List Frame → Type 0
  IsPlaced prims members end (template cs clauses) f deeper = ListsPlaced prims members end clauses f f.lists deeper

  pub ListsPlaced : List Primitive → MembersOf → ℕ → Clauses → Frame → TreeLists → List Frame → Type 0
  ListsPlaced prims members end no_clauses f ls deeper = ⊥
  ListsPlaced prims members end (clause mode hop t rest) f no_lists deeper = ⊥
  ListsPlaced prims members end (clause mode hop t rest) f (and_list ts no_lists) [] = iter_fits end (members prims (Some hop) t) f.iter ≡ true
  ListsPlaced prims members end (clause mode hop t rest) f (and_list ts no_lists) (g ∷ gs) = (iter_fits end (members prims (Some hop) t) f.iter ≡ true) × IsPlaced prims members end t g gs
  ListsPlaced prims members end (clause mode hop t rest) f (and_list ts (and_list us ls)) deeper = ListsPlaced prims members end rest f (and_list us ls) deeper

-- those of a scan, and its own
abbrev pub StackPlaced : List Primitive → MembersOf → Template → List Frame → Type 0
StackPlaced prims members t [] = Unit {0}
StackPlaced prims members t (f ∷ fs) = IsPlaced prims members (length prims) t f fs

-- ---- laws

-- Frames stay so by the moves of a scan.
abbrev pub RunsGrow : Type 0
RunsGrow = (prims : List Primitive) (order : ScanOrder) (t : Template) (s m : Scan) (cs : List Candidate) → Runs prims order t s cs m → StackGrows prims t s.frames → StackGrows prims t m.frames

-- What fits is so.
abbrev pub FitsGrow : Type 0
FitsGrow = (prims : List Primitive) (members : MembersOf) (t : Template) (fs : List Frame) → stack_fits prims members t fs ≡ true → StackGrows prims t fs

-- Where the iterators stand in place, that is all.
abbrev pub GrownFit : Type 0
GrownFit = (prims : List Primitive) (members : MembersOf) (t : Template) (fs : List Frame) → StackGrows prims t fs → StackPlaced prims members t fs → stack_fits prims members t fs ≡ true

-- A position that a scan comes to, from one that fits, fits where its iterators stand in place.
abbrev pub RunsFit : Type 0
RunsFit = (prims : List Primitive) (members : MembersOf) (order : ScanOrder) (t : Template) (s m : Scan) (cs : List Candidate) → scan_fits prims members t s ≡ true → Runs prims order t s cs m
    → iter_fits (length prims) (members prims None t) m.iter ≡ true → StackPlaced prims members t m.frames → scan_fits prims members t m ≡ true

-- The tree of an answer fits.
abbrev pub TreesOfFit : Type 0
TreesOfFit = (prims : List Primitive) (t : Template) (p : ℕ) → is_answer prims t p ≡ true → tree_fits prims t (tree_of prims t p) ≡ true
