use Rattle.std.proofs.Common.{◌≤◌, ◌+◌, sym, arith}
use Rattle.gd_tree.specs.Bounds.{json_depth}
use Rattle.gd_json.specs.View.{view}
use Rattle.gd_form_laws.specs.WriteFaults.{change_fault}
use Rattle.gd_form_laws.specs.SpelledChange.{spelled_change, entries_depth}
use Rattle.gd_form_laws.proofs.Entries.{other-refused}
use Rattle.gd_form_laws.proofs.ChangeNesting.{change-depth}
use Rattle.gd_mql.proofs.Shown.{nothing}
use Rattle.gd_mql.proofs.request.ChangeRequest.change.Goals as goal

pub unreachable-requires : goal.unreachable-requires
unreachable-requires c = let q = view c.args.self.now.query in other-refused q (sym c.in-None.ensures) (nothing (change_fault q) c.args.self.now.spells)

pub returns-clause-depth : goal.returns-clause-depth
returns-clause-depth c =
    let deep : json_depth (view c.args.self.now.query) ≤ 14 = c.args.self.now.shallow in
    let below : 1 + entries_depth (spelled_change (view c.args.self.now.query)).members ≤ json_depth (view c.args.self.now.query) = change-depth (view c.args.self.now.query) in
    omega arith
