use Rattle.std.proofs.Common.{arith}
use Rattle.gd_mql.specs.Changes.{setting_view}
use Rattle.gd_mql.proofs.Written.{forms_code}
use Rattle.gd_mql.proofs.change_form.list_code.Goals as goal

pub returns-then-are_forms : goal.returns-then-are_forms
returns-then-are_forms c = forms_code (setting_view c.args.setting) c.args.items.now (grind arith) c.if-are_forms.ensures
