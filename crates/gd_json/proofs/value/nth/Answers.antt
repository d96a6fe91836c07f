use Rattle.gd_json.proofs.Parts.{member_found, member_missing}
use Rattle.gd_json.proofs.value.nth.Goals as goal

pub returns-in-Some : goal.returns-in-Some
returns-in-Some c = member_found c.args.members.now.items c.args.index c.in-Some.member (rw c.deref.ensures.value at c.in-Some.ensures.lookup)

pub returns-in-None : goal.returns-in-None
returns-in-None c = member_missing c.args.members.now.items c.args.index (rw c.deref.ensures.value at c.in-None.ensures.lookup)
