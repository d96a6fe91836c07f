use Rattle.std.proofs.Common.{◌≡◌, ◌∙◌, length, sym, ap, arith, rules}
use Rattle.gd_dump.proofs.Taken.{finished_ok, finished_bad}
use Rattle.gd_dump.proofs.reader.DumpReader.ended.Goals as goal

pub returns-in-Closed : goal.returns-in-Closed
returns-in-Closed c = finished_ok c.args.self.now c.in-Closed.first c.requires (ap (λ v. v.progress.stage) (sym c.self.view_is) ∙ c.in-Closed.is)

pub returns-in_default : goal.returns-in_default
returns-in_default c =
    let read : c.self.inside.read ≡ c.args.self.now.read = search rules in
    let held : c.len.result ≡ length c.args.self.now.held = search rules in
    let stage : c.self.inside.progress.stage ≡ c.args.self.now.progress.stage = search rules in
    let added = c.saturating_add.ensures in
    finished_bad c.args.self.now c.saturating_add.result c.requires (λ first is. c.in_default.not-Closed first (stage ∙ is)) (λ small. omega (arith, added, small, read, held))
