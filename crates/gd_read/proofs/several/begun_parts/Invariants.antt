use Rattle.std.proofs.Common.{◌≡◌, ◌≤◌, ◌+◌, map}
use Rattle.std.specs.Prelude.{All}
use Rattle.gd_prim.specs.History.{prims_of}
use Rattle.gd_runs.specs.Pace.{begin_all_steps}
use Rattle.gd_mql.specs.Requests.{read_view}
use Rattle.gd_read.specs.Paid.{PartIsPaid}
use Rattle.gd_read.specs.Several.{part_request, PartGoes}
use Rattle.gd_read.proofs.several.begun_parts.Given as goal

abbrev pub invariant-loop-request : goal.invariant-loop-request
invariant-loop-request g l = record {
  go : All (PartGoes l.view) l.parts.items;
  paid : All (PartIsPaid l.view) l.parts.items;
  requests : map part_request l.parts.items ≡ map read_view l.yielded;
  work : l.steps ≤ l.initial.steps + begin_all_steps (prims_of l.view) (map read_view l.yielded);
  later : l.initial.steps ≤ l.steps;
}
