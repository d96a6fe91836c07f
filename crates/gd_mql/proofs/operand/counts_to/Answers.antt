use Rattle.std.proofs.Common.{◌≡◌, ℕ, sym, subst, rules}
use Rattle.std.specs.Int.{is_in_range}
use Rattle.gd_json.proofs.Parts.{items_len-items_view}
use Rattle.gd_mql.proofs.operand.counts_to.Goals as goal

pub returns : goal.returns
returns c = subst (λ (n : ℕ). c.contains.result ≡ is_in_range 1 c.args.most n) (sym (items_len-items_view c.args.items.now)) (search rules)
