use Rattle.std.proofs.Common.{◌≡◌, Some, refl, rules}
use Rattle.gd_dump.proofs.Taken.{takes_ok, takes_err}
use Rattle.gd_dump.proofs.reader.DumpReader.feed_on.Goals as goal

pub returns-in-Ok-clause-fed : goal.returns-in-Ok-clause-fed
returns-in-Ok-clause-fed c = takes_ok c.args.self.now c.take.new.self c.args.piece.now c.in-Ok.batches c.requires c.in-Ok.ensures.takes

pub returns-in-Err-clause-fed : goal.returns-in-Err-clause-fed
returns-in-Err-clause-fed c =
    let same : c.self.inside.progress ≡ c.take.new.self.progress = search rules in
    takes_err c.args.self.now c.take.new.self (record { progress = c.self.inside.progress; held = c.self.inside.held.items; read = c.self.inside.read; fault = Some c.in-Err.fault }) c.args.piece.now c.in-Err.fault c.requires refl same c.in-Err.ensures.takes
