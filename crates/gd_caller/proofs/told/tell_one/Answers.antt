use Rattle.std.proofs.Common.{refl}
use Rattle.gd_writer.specs.Outcomes.{kept_view}
use Rattle.gd_caller.proofs.Tells.{told_one}
use Rattle.gd_caller.proofs.told.tell_one.Goals as goal

pub returns : goal.returns
returns c =
    told_one c.args.first c.args.written.line (kept_view c.args.written.outcome) c.number_of.result c.tell.result c.args.numbers.now.items _ c.args.replies.now.items c.put.new.replies.items
    c.requires.within.0 c.number_of.ensures c.tell.ensures refl c.put.ensures
