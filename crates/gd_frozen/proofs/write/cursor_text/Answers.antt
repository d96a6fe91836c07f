use Rattle.std.proofs.Common.{rules}
use Rattle.gd_bytes.proofs.CursorLaws.{cursor_whole}
use Rattle.gd_frozen.specs.Meant.{meant}
use Rattle.gd_frozen.proofs.write.cursor_text.Goals as goal

pub returns-clause-again : goal.returns-clause-again
returns-clause-again c = cursor_whole (meant c.args.cursor.now) c.into_bytes.result.items (c.requires, search rules)
