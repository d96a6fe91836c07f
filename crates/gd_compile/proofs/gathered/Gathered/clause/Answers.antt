use Rattle.gd_compile.proofs.Gathers.{whole_clause}
use Rattle.gd_compile.proofs.gathered.Gathered.clause.Goals as goal

pub returns : goal.returns
returns c = whole_clause c.args.self.members.items c.args.self.sort c.unwrap_or.result c.new.result c.unwrap_or.ensures c.new.ensures.items
