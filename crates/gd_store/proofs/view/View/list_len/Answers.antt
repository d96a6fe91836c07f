use Rattle.std.proofs.Common.{arith}
use Rattle.gd_store.proofs.History.{past_seventy}
use Rattle.gd_store.proofs.view.View.list_len.Goals as goal

pub returns-clause-work : goal.returns-clause-work
returns-clause-work g c = omega (arith, c.link_count.ensures.work, past_seventy c.args.self.now)
