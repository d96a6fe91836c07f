use Rattle.std.proofs.Common.{arith}
use Rattle.gd_mql.proofs.Shown.{default_view, clause_members}
use Rattle.gd_mql.proofs.clause.Clause.members.Goals as goal

pub returns-then-is_empty : goal.returns-then-is_empty
returns-then-is_empty c = default_view c.args.self.now.root c.args.self.now.members.now (grind arith)

pub returns : goal.returns
returns c = clause_members c.args.self.now.root c.args.self.now.members.now (grind arith)
