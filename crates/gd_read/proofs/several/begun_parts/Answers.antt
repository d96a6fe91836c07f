use Rattle.std.proofs.Common.{rules}
use Rattle.gd_prim.specs.History.{prims_of}
use Rattle.gd_read.specs.Paid.{PartIsPaid}
use Rattle.gd_read.specs.Several.{PartGoes}
use Rattle.gd_read.proofs.Paid.{parts_more, asked_more}
use Rattle.gd_read.proofs.Starts.{parts_more_start}
use Rattle.gd_read.proofs.several.begun_parts.Goals as goal

pub loop-request-preserved : goal.loop-request-preserved
loop-request-preserved g c = record {
  go = parts_more (PartGoes c.args.view.now) c.loop-request.parts.items c.push.new.self.items c.in_ok-begun_part.field-0 c.in_ok-push.ensures.items c.loop-request.invariant.go c.in_ok-begun_part.ensures.goes;
  paid = parts_more (PartIsPaid c.args.view.now) c.loop-request.parts.items c.push.new.self.items c.in_ok-begun_part.field-0 c.in_ok-push.ensures.items c.loop-request.invariant.paid c.in_ok-begun_part.ensures.paid;
  requests =
      asked_more c.loop-request.parts.items c.push.new.self.items c.in_ok-begun_part.field-0 c.loop-request.yielded c.in-Some.request c.in_ok-push.ensures.items c.loop-request.invariant.requests c.in_ok-begun_part.ensures.request;
  work = parts_more_start (prims_of c.args.view.now) c.loop-request.yielded c.in-Some.request c.args.steps.now c.loop-request.steps c.begun_part.new.steps c.loop-request.invariant.work c.begun_part.ensures.work;
  later = search rules;
}
