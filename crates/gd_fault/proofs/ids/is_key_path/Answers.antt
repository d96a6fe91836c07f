use Rattle.std.proofs.Common.{◌∙◌, sym}
use Rattle.gd_fault.proofs.Keys.{key_path-parts, key_path-other}
use Rattle.gd_fault.proofs.ids.is_key_path.Goals as goal

pub returns-then-not-starts_with_slash : goal.returns-then-not-starts_with_slash
returns-then-not-starts_with_slash c = sym (key_path-other c.args.text.now (cc))

pub returns : goal.returns
returns c = c.behind_slash_keys.ensures ∙ sym (key_path-parts c.args.text.now (cc))
