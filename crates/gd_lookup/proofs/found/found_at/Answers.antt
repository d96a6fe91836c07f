use Rattle.std.proofs.Common.{rules, ◌≡◌, option_map}
use Rattle.gd_lookup.specs.Found.{found_line}
use Rattle.gd_lookup.proofs.Right.{all_right}
use Rattle.gd_lookup.proofs.found.found_at.Goals as goal

pub returns-in-Some-clause-right : goal.returns-in-Some-clause-right
returns-in-Some-clause-right c =
    let found : option_map (λ bytes. bytes.items) c.short.result ≡ found_line c.args.cache.now c.args.text.now c.args.dateline c.args.line = search rules in
    all_right (λ bytes. bytes.items) c.args.cache.now c.args.text.now c.args.dateline c.args.line c.short.result found
