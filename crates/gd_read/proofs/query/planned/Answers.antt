use Rattle.gd_plan.specs.Asked.{asked_view}
use Rattle.gd_read.proofs.Begun.{is_asked}
use Rattle.gd_read.proofs.query.planned.Goals as goal

pub begun-requires : goal.begun-requires
begun-requires g c = record {
  asked = is_asked c.args.view.now (record { request = c.args.request; dateline = c.dateline.result; after = c.args.after }) (asked_view c.args.plan) c.end-end.result
      c.dateline.ensures.dateline c.requires.planned c.end-end.ensures.held c.end-end.ensures.end c.end-end.ensures.few c.args.request.spells c.requires.mark;
}
