use Rattle.std.proofs.Common.{sym, ◌∙◌}
use Rattle.gd_lookup.proofs.Counted.{counted_as}
use Rattle.gd_lookup.proofs.keeping.count_in.Goals as goal

pub returns-in-Ok-Some-clause-only : goal.returns-in-Ok-Some-clause-only
returns-in-Ok-Some-clause-only c dateline kept small plain line =
    counted_as c.args.cache.now c.args.key c.in-Some.text c.in-Ok-Some.dateline dateline c.in-Ok-Some.kept kept c.count.new.self c.in-Some.is c.count.ensures (sym c.in-Ok-Some.field-0-is ∙ c.in-Ok-Some.ensures.complete dateline kept small plain line)
