use Rattle.std.proofs.Common.{sym, ◌∙◌}
use Rattle.gd_fault.proofs.Keys.{is_path-parts}
use Rattle.gd_fault.proofs.ids.is_path.Goals as goal

pub returns : goal.returns
returns c = c.has_id_keys.ensures ∙ sym (is_path-parts c.args.text.now (cc) (cc))
