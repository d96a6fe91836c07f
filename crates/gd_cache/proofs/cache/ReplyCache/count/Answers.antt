use Rattle.std.proofs.Common.{ap, sym, ◌∙◌}
use Rattle.std.specs.Map.{lookup}
use Rattle.gd_cache.specs.Hits.{same_key}
use Rattle.gd_cache.proofs.Absent.{promoted-absent, not_there}
use Rattle.gd_cache.proofs.cache.ReplyCache.count.Goals as goal

pub keep-requires : goal.keep-requires
keep-requires c =
    let test = same_key c.args.key in
    let pairs = c.args.self.now.pairs in
    let none = not_there (lookup test pairs) (sym c.find.ensures.answer ∙ c.if-find.false) in
    ap (λ s. lookup test s.pairs) c.find.ensures.now ∙ ap (lookup test) (promoted-absent test pairs none) ∙ none
