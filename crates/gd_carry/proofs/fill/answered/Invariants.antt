use Rattle.std.proofs.Common.{◌≡◌, drop, map}
use Rattle.gd_json.specs.View.{member_view, members_view}
use Rattle.gd_defs.specs.Write.Carried.{answered}
use Rattle.gd_carry.specs.Printed.{pairs_before}
use Rattle.gd_carry.proofs.fill.answered.Given as goal

abbrev pub invariant-loop-i : goal.invariant-loop-i
invariant-loop-i l = pairs_before (map member_view l.members.items) (answered l.answer (members_view (drop l.i l.form))) ≡ answered l.answer (members_view l.form)
