use Rattle.std.proofs.Common.{◌∙◌, sym}
use Rattle.gd_journal.proofs.opening.see.Goals as goal

pub returns-clause-seen : goal.returns-clause-seen
returns-clause-seen g c = λ f is.
    let u = c.find_end.ensures.untouched in
    let was = sym u.same ∙ is in
    (λ b now. c.in_ok-len.ensures.only f was b (u.now b now), c.in_ok-end.ensures.ends f was)
