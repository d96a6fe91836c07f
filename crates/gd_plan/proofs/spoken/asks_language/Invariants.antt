use Rattle.std.proofs.Common.{◌≡◌, drop}
use Rattle.gd_defs.specs.Asked.Forms.{asks_language}
use Rattle.gd_plan.specs.Asked.{members_view}
use Rattle.gd_plan.proofs.spoken.asks_language.Given as goal

abbrev pub invariant-loop-member : goal.invariant-loop-member
invariant-loop-member l = asks_language (members_view (drop l.member-index l.members)) ≡ asks_language (members_view l.members)
