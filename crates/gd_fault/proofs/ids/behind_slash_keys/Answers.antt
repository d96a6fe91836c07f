use Rattle.std.proofs.Common.{lit<, rules, tests}
use Rattle.gd_defs.specs.Ids.{is_key}
use Rattle.std.proofs.lemmas.Iterator.Adapters.{YieldsList-from_skip}
use Rattle.std.proofs.lemmas.Iterator.Search.{all_from_yields_List}
use Rattle.std.proofs.lemmas.Iterator.Splits.{YieldsList-from_str_split}
use Rattle.gd_fault.proofs.ids.behind_slash_keys.Goals as goal

pub returns : goal.returns
returns c =
    let parts = YieldsList-from_str_split {s = c.split.result} 47 c.args.path.now (lit< tt) c.split.ensures.text c.split.ensures.has_more c.split.ensures.pattern in
    let source = rw (← c.skip.ensures.source) at parts in
    all_from_yields_List is_key _ _ _ c.all.ensures.ran (YieldsList-from_skip {s = c.skip.result} 1 source c.skip.ensures.count) (λ x b q k. search (rules, tests))
