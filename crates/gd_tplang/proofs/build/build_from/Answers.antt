use Rattle.std.proofs.Common.{subst}
use Rattle.gd_template.specs.Built.{view}
use Rattle.gd_grammar.specs.Choice.{seen_at}
use Rattle.gd_tplang.specs.Meaning.{meaning}
use Rattle.gd_tplang.specs.Stop.{Stopped}
use Rattle.gd_tplang.specs.Written.{template_at}
use Rattle.gd_tplang.proofs.Built.{shallow_depth, shallow_means, shallow_never}
use Rattle.gd_tplang.proofs.build.build_from.Goals as goal

pub whole-requires : goal.whole-requires
whole-requires c = shallow_depth c.args.bytes.now c.requires

pub unreachable-requires : goal.unreachable-requires
unreachable-requires c =
    let bytes = c.args.bytes.now in
    shallow_never c.in-Err-Bad.field-0-0 bytes c.requires (subst (λ e. Stopped e (seen_at meaning (template_at 32) bytes)) c.in-Err-Bad.field-0-is c.in-Err-Bad.ensures)

pub returns-in-Ok : goal.returns-in-Ok
returns-in-Ok c = shallow_means c.args.bytes.now c.requires (view c.in-Ok.template) c.in-Ok._rest.now c.in-Ok.ensures
