use Rattle.std.proofs.Common.{◌≡◌, drop}
use Rattle.gd_json.specs.View.{members_view}
use Rattle.gd_defs.specs.Change.{first_code, part_code}
use Rattle.gd_mql.proofs.write_parts.first_part_code.Given as goal

abbrev pub invariant-loop-part : goal.invariant-loop-part
invariant-loop-part l = first_code (part_code (members_view l.form)) (members_view l.form) ≡ first_code (part_code (members_view l.form)) (members_view (drop l.part-index l.form))
