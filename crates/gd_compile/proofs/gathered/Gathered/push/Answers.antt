use Rattle.gd_compile.proofs.Gathers.{member_pushed}
use Rattle.gd_compile.proofs.gathered.Gathered.push.Goals as goal

pub returns : goal.returns
returns c = λ d. member_pushed c.args.self.now.members.items c.push.new.self.items c.args.member c.args.self.now.sort d c.in_ok-push.ensures.items
