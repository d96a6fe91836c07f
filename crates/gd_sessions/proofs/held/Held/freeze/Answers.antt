use Rattle.std.proofs.Common.{sym, ap, subst, ◌∙◌}
use Rattle.std.specs.Str.{IsUtf8}
use Rattle.std.proofs.lemmas.Result.{IfOk-weaker}
use Rattle.gd_held.specs.Held.{reads}
use Rattle.gd_sessions.proofs.Freezing.{told_line, told_utf8, tells_frozen}
use Rattle.gd_sessions.proofs.held.Held.freeze.Goals as goal

pub frozen_line-requires-clause-utf8 : goal.frozen_line-requires-clause-utf8
frozen_line-requires-clause-utf8 c =
    subst IsUtf8 (sym c.as_slice.ensures.value)
    (told_utf8 c.args.store.now c.in-Some.dateline c.in-Some-2.text.items (reads c.args.self.now.state) (sym c.in-Some.is ∙ c.dateline.ensures) (rw c.in-Some-2.is at c.in_ok-text.ensures))

pub returns-in-Some-2 : goal.returns-in-Some-2
returns-in-Some-2 c = IfOk-weaker c.frozen_line.result _ _
    (λ reply is. tells_frozen c.args.store.now c.in-Some.dateline c.in-Some-2.text.items c.args.line (reads c.args.self.now.state) reply.items (sym c.in-Some.is ∙ c.dateline.ensures) (rw c.in-Some-2.is at c.in_ok-text.ensures)
    (is ∙ ap (told_line c.in-Some.dateline c.args.line) c.as_slice.ensures.value)) c.frozen_line.ensures
