use Rattle.std.proofs.Common.{◌≡◌, ◌∙◌, ap, subst, List, ℕ, Some, None, length, nat_lt}
use Rattle.std.specs.Prelude.{IfOk, if◌then◌else◌}
use Rattle.std.specs.List.{filter}
use Rattle.std.specs.Map.{keys_of}
use Rattle.std.specs.Option.{option_copied}
use Rattle.gd_valueidx.specs.Runs.{is_from, is_to}
use Rattle.gd_valueidx.proofs.Ranked.{between_is}
use Rattle.gd_valueidx.proofs.between.between.Goals as goal

pub returns-clause-numbers : goal.returns-clause-numbers
returns-clause-numbers g c =
    let keys = keys_of c.args.lists.now.entries in
    let lo = option_copied c.args.lo in
    let hi = option_copied c.args.hi in
    let same = ap (filter (is_to keys hi)) c.place_from-start.ensures.rest ∙ ap (λ (ns : List ℕ). filter (is_to keys hi) (filter (is_from keys lo) ns)) c.requires ∙ between_is keys lo hi in
    subst (λ (ns : List ℕ). IfOk c.gather.result (λ found. found ≡ (if nat_lt c.args.most (length ns) then None else Some ns))) same c.gather.ensures.numbers
