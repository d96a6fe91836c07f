use Rattle.std.proofs.Common.{◌≡◌, ◌∙◌, arith}
use Rattle.gd_json.specs.View.{members_view}
use Rattle.gd_form_laws.specs.Spelled.{spelled_directives}
use Rattle.gd_mql.specs.Directives.{directives_view}
use Rattle.gd_mql.proofs.Shown.{default_heads, clause_heads}
use Rattle.gd_mql.proofs.clause.Clause.directives.Goals as goal

pub returns-then-is_empty : goal.returns-then-is_empty
returns-then-is_empty c = default_heads c.args.self.now.root c.args.self.now.members.now (grind arith)

pub returns : goal.returns
returns c =
    let parts : directives_view (record { mode = c.spelled_mode.result; limit = c.spelled_limit.result; count = c.has.result }) ≡ spelled_directives (members_view c.args.self.now.members.now) = cc in
    parts ∙ clause_heads c.args.self.now.root c.args.self.now.members.now (grind arith) c.args.self.now.spells
