use Rattle.gd_writer.proofs.Ended.{counted_follows}
use Rattle.gd_writer.proofs.desk.Desk.end_doubt.Goals as goal

pub show_with-shown-requires-clause-follows : goal.show_with-shown-requires-clause-follows
show_with-shown-requires-clause-follows g c =
    let old = c.args.self.now in
    counted_follows old.ledger c.settle.new.self old.copies old.copies c.in-Ok-Some.batch (rw c.in-Ok-Some.field-0-is at c.in-Ok-Some.ensures.ends) c.requires.aligned c.requests-stored.ensures.history
