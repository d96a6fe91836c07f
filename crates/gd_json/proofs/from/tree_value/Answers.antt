use Rattle.std.proofs.Common.{sym, ap, subst, arith}
use Rattle.gd_base.specs.Answers.{Gives}
use Rattle.json.specs.Value.{value_view}
use Rattle.gd_json.specs.View.{view}
use Rattle.gd_json.specs.Text.{reading_of}
use Rattle.gd_json.specs.declared.from.JsonFault.TheVariants.{Memory as no_memory}
use Rattle.gd_json.proofs.Readings.{has_data}
use Rattle.gd_json.proofs.from.tree_value.Goals as goal

pub returns-then-is_readable : goal.returns-then-is_readable
returns-then-is_readable c =
    subst (λ e. Gives view no_memory e c.convert.result) (sym (ap reading_of (has_data (value_view c.args.tree.now) (grind arith)))) c.convert.ensures
