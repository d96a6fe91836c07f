use Rattle.std.proofs.Common.{◌≡◌, take}
use Rattle.gd_prim.specs.History.{prims_of}
use Rattle.gd_plan.specs.Asked.{asked_view}
use Rattle.gd_window.specs.Kept.{HasSeen}
use Rattle.gd_thaw_laws.specs.Gone.{read_rows}
use Rattle.gd_thawed.specs.Subject.{marks_in}
use Rattle.gd_thawed.proofs.rows.offer_marks.Given as goal

abbrev pub invariant-loop-mark : goal.invariant-loop-mark
invariant-loop-mark l = record {
  seen : HasSeen l.window (read_rows (prims_of l.view) (asked_view l.asked) (marks_in (take l.mark-index l.marks)));
  stays : l.window ≡ record l.initial.window { rows = l.window.rows };
}
