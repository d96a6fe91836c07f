use Rattle.std.proofs.Common.{◌∙◌}
use Rattle.gd_journal.proofs.Heads.{fresh}
use Rattle.gd_journal.proofs.opening.create.Goals as goal

pub returns-clause-rests : goal.returns-clause-rests
returns-clause-rests g c = λ f0 told f now.
    let b1 = c.in_ok-write_at.ensures.content.forth f0 told in
    let b2 = c.in_ok-cut.ensures.content.forth b1.0 b1.1 in
    let last = c.in_ok-sync.ensures.durable b2.0 (c.sync.ensures.stays.content ∙ b2.1) f now in
    fresh f0 b1.0 f (c.requires.short f0 told) b1.2 (last ∙ b2.2)
