-- What a reading that goes on from a text is put away as.
use Rattle.std.specs.Prelude.{◌≡◌, List, min, true, Option, None, Some}
use Rattle.gd_grammar.specs.Mark.{Mark}
use Rattle.gd_prim.specs.declared.Batch.{Batch}
use Rattle.gd_prim.specs.History.{prims_of}
use Rattle.gd_defs.specs.Plan.{template_of}
use Rattle.gd_defs.specs.Reply.{Answer}
use Rattle.gd_bytes.specs.Frozen.{Scan, Body, Frozen, Fits, scanning, building, printing}
use Rattle.gd_frozen.specs.Meaning.{scan_of}
use Rattle.gd_frozen.specs.Pieces.{trees_in}
use Rattle.gd_runs.specs.Fitting.{fits}
use Rattle.gd_plan.specs.Asked.{asked_view}
use Rattle.gd_roots.specs.PassedOn.{stands}
use Rattle.gd_shape.specs.Shaping.{walks_told}
use Rattle.gd_suspended_laws.specs.Standing.{marks_of}
use Rattle.gd_thaw_laws.specs.Spelled.{one_member}
use Rattle.gd_thaw_laws.specs.Told.{told}
use Rattle.gd_thawed.specs.Query.{owed_by_text}
use Rattle.gd_thawed.specs.Stages.{trees_built}
use Rattle.gd_thawed.specs.Subject.{asked_by, after_of, marks_in}
use Rattle.gd_thawed.specs.declared.building.Building.{Building}
use Rattle.gd_thawed.specs.declared.keying.Keying.{Keying}
use Rattle.gd_thawed.specs.declared.printing.Printing.{Printing}
use Rattle.gd_thawed.specs.declared.query.ThawedQuery.{ThawedQuery}
use Rattle.gd_thawed.specs.declared.scanning.Scanning.{Scanning}
use Rattle.gd_thawed.specs.declared.stage.Stage.{Stage}
use Rattle.gd_thawed.specs.declared.stage.Stage.TheVariants as stage
use Rattle.gd_thawed.specs.declared.subject.Subject.{Subject}

-- a frozen reading is one of a reading: it has a text, its dateline and mark are those of the reading, it fits the query that is read, and it owes the same answer
pub record Freezes (batches : List Batch) (owed : Answer) (s : Subject) (f : Frozen) : Type 0 where
  pub spelled : Fits f
  pub dateline : f.dateline ≡ s.dateline
  pub after : f.after ≡ after_of s.after
  pub fitting : fits (prims_of batches) one_member (asked_by s) f ≡ true
  pub owes : owed_by_text batches (asked_by s) s.with_cursor f ≡ owed

-- a frozen reading of a subject, with these rows and this body
abbrev pub frozen_as : Subject → List Mark → Body → Frozen
frozen_as s rows body = record { dateline = s.dateline; after = after_of s.after; rows = rows; body = body }

-- the scan of a reading that scans: where its matcher stands, as that is told; or, while a row waits for its keys, where it stood before the candidate, which comes again
abbrev pub scan_told : Scanning → Scan
scan_told r = by r.found
  where
    by : Option Keying → Scan
    by None = told (template_of (asked_view r.plan)) (stands r.matcher)
    by (Some k) = scan_of r.before

-- the weights and the trees of a reading that builds, and the scan of its matcher over the rows, as that is told
abbrev pub build_told : Building → Body
build_told b = building b.weight (trees_built b) (told (template_of (asked_view b.plan)) (stands b.matcher))

-- the places that a reading that prints has counted, its trees, and the walks with which its page began, with those of the ids that it has found since
abbrev pub print_told : Printing → Body
print_told p = printing (min p.shape.printed p.places) (trees_in p.trees) (walks_told p.shape)

-- where a reading stands: with the rows of its window while it scans, and behind its scan with those with which it began to build; one that gave its answer stands nowhere
abbrev pub standing : ThawedQuery → Option Frozen
standing r = by r.stage
  where
    by : Stage → Option Frozen
    by (stage.Scanning x) = Some (frozen_as r.subject (marks_of r.window) (scanning (scan_told x)))
    by (stage.Building b) = Some (frozen_as r.subject (marks_in b.rows.items) (build_told b))
    by (stage.Printing p) = Some (frozen_as r.subject (marks_in p.rows.items) (print_told p))
    by stage.Spent = None
