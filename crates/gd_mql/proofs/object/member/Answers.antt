use Rattle.std.proofs.Common.{true, false, sym, ◌∙◌, arith}
use Rattle.gd_json.proofs.Parts.{get-drop}
use Rattle.gd_mql.proofs.object.member.Goals as goal

pub returns-then-eq : goal.returns-then-eq
returns-then-eq c =
    sym (c.loop-member.invariant ∙ get-drop c.args.name.now c.args.members.now c.loop-member.member-index c.member-item.result true (grind arith) (grind arith) (grind arith))

pub loop-member-preserved : goal.loop-member-preserved
loop-member-preserved c =
    c.loop-member.invariant ∙ get-drop c.args.name.now c.args.members.now c.loop-member.member-index c.member-item.result false (grind arith) (grind arith) (grind arith)
