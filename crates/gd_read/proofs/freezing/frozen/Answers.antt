use Rattle.std.proofs.Common.{subst, ◌≤◌}
use Rattle.gd_frozen.specs.Meaning.{reading_of}
use Rattle.gd_read.proofs.Frozen.{is_frozen}
use Rattle.gd_read.proofs.freezing.frozen.Goals as goal

pub returns : goal.returns
returns c =
    is_frozen c.args.view.now c.args.subject.now (reading_of (record { dateline = c.dateline.result; after = c.row_after.result; rows = c.args.rows; body = c.args.body })) c.dateline.ensures.dateline
    (subst (λ n. n ≤ 4_194_303) c.dateline.ensures.dateline c.dateline.ensures.few) c.row_after.ensures c.args.subject.now.request.spells c.requires
