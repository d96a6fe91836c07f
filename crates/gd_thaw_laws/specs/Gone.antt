-- Where a reading stands that goes on with kept rows from a position, as one does that was thawed.
use Rattle.std.specs.Prelude.{◌≡◌, ◌<◌, ◌≤◌, ℕ, List, [], ◌++◌, map, true, false, Bool, Option}
use Rattle.std.specs.List.{list_any}
use Rattle.std.specs.Ordering.{nat_cmp}
use Rattle.gd_prim.specs.declared.Primitive.{Primitive}
use Rattle.gd_defs.specs.Asked.{Asked}
use Rattle.gd_defs.specs.Plan.{template_of}
use Rattle.gd_defs.specs.Reply.{Mark, mark_row}
use Rattle.gd_defs.specs.Template.{passes_template, weight}
use Rattle.gd_bytes.specs.Frozen.{Scan, Body, scanning}
use Rattle.gd_runs.specs.Owed.{ScanOrder, Candidate, MembersOf, scan_fits, weighs_too_much}
use Rattle.gd_runs.specs.Thawed.{window, answering, body_answer}
use Rattle.gd_order_laws.specs.Window.{Rising}
use Rattle.gd_match_laws.specs.PassedOn.{start}
use Rattle.gd_match_laws.specs.Moves.{Runs}
use Rattle.gd_window.specs.declared.row.Row.{Row}
use Rattle.gd_window.specs.Kept.{Kept, HasSeen}
use Rattle.gd_window.specs.Laws.{with_values, ObjectsAreTold, MarksAreTold, RowsToldAreAsDefined}
use Rattle.gd_suspended_laws.specs.Standing.{valued, window_of, rows_of, marks_of, rows_among, HasScanned}
use Rattle.gd_thaw_laws.specs.Thawing.{between, order_within, best_since}

-- the rows of marks, with the values of their keys
abbrev pub read_rows : List Primitive → Asked → List Mark → List Row
read_rows prims q kept = map (λ m. with_values prims q.sort (mark_row prims q.sort m)) kept

-- a scan has come from one position to another one; none of the candidates that it gave weighs too much, and the rows that were kept were offered to the window, and then those of the candidates that answer
pub record HasGone (prims : List Primitive) (q : Asked) (after : Option Mark) (order : ScanOrder) (kept : List Mark) (from s : Scan) (w : Kept) : Type 0 where
  pub given : List Candidate
  pub runs : Runs prims order (template_of q) from given s
  pub light : list_any weighs_too_much given ≡ false
  pub is : w ≡ window_of prims q after w.rows
  pub seen : HasSeen w (read_rows prims q kept ++ map (valued prims q) (answering given))

-- places were visited: none of those that pass weighs too much, and the rows that were kept were offered to the window, and then those of the places that answer
pub record HasVisitedSince (prims : List Primitive) (q : Asked) (after : Option Mark) (kept : List Mark) (places : List ℕ) (w : Kept) : Type 0 where
  pub light : (o : ℕ) → Rattle.gd_order_laws.specs.Window.In o places → passes_template prims (template_of q) o ≡ true → weight prims (template_of q) o ≤ 65_536
  pub is : w ≡ window_of prims q after w.rows
  pub seen : HasSeen w (read_rows prims q kept ++ rows_among prims q places)

-- what is known of rows with the values of their keys
pub record RowsTold : Type 0 where
  pub objects : ObjectsAreTold
  pub marks : MarksAreTold
  pub behind : RowsToldAreAsDefined

-- ---- laws

-- A reading goes on at a position with a window to which its kept rows were offered.
abbrev pub GoesAtOnce : Type 0
GoesAtOnce = (prims : List Primitive) (q : Asked) (after : Option Mark) (order : ScanOrder) (kept : List Mark) (s : Scan) (w : Kept) → w ≡ window_of prims q after w.rows → HasSeen w (read_rows prims q kept) → HasGone prims q after order kept s s w

-- A reading that began at its start has gone from there, with no rows.
abbrev pub ScannedHasGone : Type 0
ScannedHasGone = (prims : List Primitive) (q : Asked) (after : Option Mark) (order : ScanOrder) (s : Scan) (w : Kept) → HasScanned prims q after order s w → HasGone prims q after order [] start s w

-- It goes on by a run whose rows are offered.
abbrev pub GoesOn : Type 0
GoesOn = (prims : List Primitive) (q : Asked) (after : Option Mark) (order : ScanOrder) (kept : List Mark) (from s m : Scan) (w v : Kept) (cs : List Candidate) → HasGone prims q after order kept from s w
    → Runs prims order (template_of q) s cs m → list_any weighs_too_much cs ≡ false → v ≡ record w { rows = v.rows }
    → ((offered : List Row) → HasSeen w offered → HasSeen v (offered ++ map (valued prims q) (answering cs))) → HasGone prims q after order kept from m v

-- Where the candidates of an order from one place up to another were visited, a scan between candidates may go from there to there.
abbrev pub VisitsGo : Type 0
VisitsGo = (prims : List Primitive) (q : Asked) (after : Option Mark) (order : ScanOrder) (kept : List Mark) (a b : ℕ) (w : Kept) → Rising nat_cmp (map (λ c. c.0) order) → a ≤ b
    → HasVisitedSince prims q after kept (map (λ c. c.1) (order_within order a b)) w → HasGone prims q after order kept (between a) (between b) w

-- Its window keeps the best rows of all.
abbrev pub GoneKeeps : Type 0
GoneKeeps = RowsTold → (prims : List Primitive) (q : Asked) (after : Option Mark) (order : ScanOrder) (kept : List Mark) (from s : Scan) (w : Kept) → (has : HasGone prims q after order kept from s w)
    → marks_of w ≡ best_since prims q after kept has.given

-- Wherever it stands, it owes what it did where it went from.
abbrev pub GoneOwes : Type 0
GoneOwes = RowsTold → (prims : List Primitive) (members : MembersOf) (q : Asked) (after : Option Mark) (order : ScanOrder) (kept : List Mark) (from s : Scan) (w : Kept) → 0 < q.limit → scan_fits prims members (template_of q) from ≡ true
    → HasGone prims q after order kept from s w → (dateline : ℕ) (with_cursor : Bool)
    → body_answer prims q order dateline with_cursor after kept (scanning from) ≡ body_answer prims q order dateline with_cursor after (marks_of w) (scanning s)

-- The rows that its window keeps are read again from their marks.
abbrev pub GoneReads : Type 0
GoneReads = RowsTold → (prims : List Primitive) (members : MembersOf) (q : Asked) (after : Option Mark) (order : ScanOrder) (kept : List Mark) (from s : Scan) (w : Kept) → scan_fits prims members (template_of q) from ≡ true
    → HasGone prims q after order kept from s w → window prims q after (map (mark_row prims q.sort) (marks_of w)) ≡ rows_of w

-- Whatever a reading does with kept rows, it owes the same with the best of them.
abbrev pub BestOwe : Type 0
BestOwe = (prims : List Primitive) (q : Asked) (order : ScanOrder) (dateline : ℕ) (with_cursor : Bool) (after : Option Mark) (kept : List Mark) (body : Body) → 0 < q.limit
    → body_answer prims q order dateline with_cursor after kept body ≡ body_answer prims q order dateline with_cursor after (best_since prims q after kept []) body
