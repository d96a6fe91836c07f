use Rattle.std.proofs.Common.{ℕ, List, length, ap, ◌∙◌}
use Rattle.gd_postings.specs.Postings.{ids_below}
use Rattle.gd_postings.proofs.Split.{is_count}
use Rattle.gd_postings.proofs.postings.Postings.len_below.Goals as goal

pub returns-clause-len : goal.returns-clause-len
returns-clause-len g c =
    is_count c.as_slice.result.now c.args.end c.cut.result c.cut.ensures.split
    ∙ ap (λ (ids : List ℕ). length (ids_below c.args.end ids)) c.as_slice.ensures.ids
