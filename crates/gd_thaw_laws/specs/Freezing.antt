-- A reading that went on from a position has one that fits.
use Rattle.std.specs.Prelude.{◌≡◌, ◌≤◌, ℕ, ◌+◌, List, ◌++◌, length, true, false, Option, None}
use Rattle.std.specs.List.{list_all}
use Rattle.gd_prim.specs.declared.Primitive.{Primitive}
use Rattle.gd_prim.specs.declared.Batch.{Batch}
use Rattle.gd_tree.specs.Trees.{Trees, append, trees_of}
use Rattle.gd_defs.specs.Asked.{Asked}
use Rattle.gd_defs.specs.Plan.{template_of}
use Rattle.gd_defs.specs.Reply.{Mark}
use Rattle.gd_defs.specs.Rows.{Row}
use Rattle.gd_defs.specs.Template.{Template}
use Rattle.gd_bytes.specs.Frozen.{Scan, scanning, building, Frozen}
use Rattle.gd_runs.specs.Core.{frozen_fits}
use Rattle.gd_runs.specs.Request.{ReadRequest}
use Rattle.gd_runs.specs.Owed.{ScanOrder, Candidate, MembersOf, iter_fits, tree_fits, scan_fits}
use Rattle.gd_runs.specs.Thawed.{built_trees, thawed_reply}
use Rattle.gd_runs.specs.Fitting.{row_fits, tried_count, body_fits, fits}
use Rattle.gd_match_laws.specs.Moves.{Runs}
use Rattle.gd_match_laws.specs.Rows.{rows_order}
use Rattle.gd_window.specs.Kept.{Kept}
use Rattle.gd_suspended_laws.specs.Standing.{marks_of}
use Rattle.gd_thaw_laws.specs.Grown.{StackGrows, StackPlaced}
use Rattle.gd_thaw_laws.specs.Gone.{HasGone, RowsTold}

-- On a later store a frozen reading owes and fits as before.
abbrev pub LaterOwes : Type 0
LaterOwes = (bs cs : List Batch) (k : ℕ) (r : ReadRequest) (f : Frozen) → f.dateline ≤ length bs → thawed_reply (bs ++ cs) k r f ≡ thawed_reply bs k r f

abbrev pub LaterFits : Type 0
LaterFits = (members : MembersOf) (bs cs : List Batch) (r : ReadRequest) (f : Frozen) → f.dateline ≤ length bs → frozen_fits members (bs ++ cs) r f ≡ frozen_fits members bs r f

-- The rows of a reading that went on from a position fit, and are not too many, where those fit that it went on with.
abbrev pub GoneRowsFit : Type 0
GoneRowsFit = RowsTold → (prims : List Primitive) (members : MembersOf) (q : Asked) (after : Option Mark) (order : ScanOrder) (kept : List Mark) (from s : Scan) (w : Kept)
    → list_all (row_fits prims q) kept ≡ true → scan_fits prims members (template_of q) from ≡ true → HasGone prims q after order kept from s w → (list_all (row_fits prims q) (marks_of w) ≡ true) × (length (marks_of w) ≤ q.limit + 1)

-- So its position fits, where its iterators stand in place.
abbrev pub GoneFits : Type 0
GoneFits = RowsTold → (prims : List Primitive) (members : MembersOf) (q : Asked) (order : ScanOrder) (kept : List Mark) (from s : Scan) (w : Kept) (n : ℕ) (after : Option Mark)
    → list_all (row_fits prims q) kept ≡ true → scan_fits prims members (template_of q) from ≡ true → HasGone prims q after order kept from s w
    → iter_fits (length prims) (members prims None (template_of q)) s.iter ≡ true → StackPlaced prims members (template_of q) s.frames
    → fits prims members q (record { dateline = n; after = after; rows = marks_of w; body = scanning s }) ≡ true

-- The trees that a run gives fit.
abbrev pub GivenFit : Type 0
GivenFit = (prims : List Primitive) (order : ScanOrder) (t : Template) (s m : Scan) (cs : List Candidate) → Runs prims order t s cs m → StackGrows prims t s.frames → list_all (tree_fits prims t) (built_trees cs) ≡ true

-- A reading that builds trees of the rows of a page goes on to what fits, where its iterators stand in place and the one over the rows does not go back.
abbrev pub BuildsFit : Type 0
BuildsFit = (prims : List Primitive) (members : MembersOf) (q : Asked) (page : List Row) (rows w v : ℕ) (ts : Trees) (s m : Scan) (cs : List Candidate) → q.count ≡ false
    → body_fits prims members q rows (building w ts s) ≡ true → Runs prims (rows_order page) (template_of q) s cs m → s.iter.place ≤ m.iter.place
    → m.iter.place ≤ rows → m.iter.accepted ≡ None → StackPlaced prims members (template_of q) m.frames
    → body_fits prims members q rows (building v (append ts (trees_of (built_trees cs))) m) ≡ true

-- Where a reading that builds trees has no more trees than rows before the one at which it stands, the row that it tries counted with them, it stays so: so it never has more trees than rows.
abbrev pub BuildsFew : Type 0
BuildsFew = (prims : List Primitive) (t : Template) (page : List Row) (n : ℕ) (s m : Scan) (cs : List Candidate) → Runs prims (rows_order page) t s cs m → s.iter.place ≤ m.iter.place
    → n + tried_count s.frames ≤ s.iter.place → n + length (built_trees cs) + tried_count m.frames ≤ m.iter.place
