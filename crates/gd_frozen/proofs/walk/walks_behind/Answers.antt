use Rattle.std.proofs.Common.{◌≡◌, sym, subst, ap, ℕ, List, Ok, map}
use Rattle.gd_grammar.specs.Grammar.{Reads}
use Rattle.gd_bytes.specs.Frozen.{Walk}
use Rattle.gd_bytes.specs.FrozenRead.{walk_at}
use Rattle.gd_frozen.specs.FrozenAt.{one_or_more_at}
use Rattle.gd_frozen.specs.Halts.{Gets}
use Rattle.gd_frozen.specs.Meaning.{walk_of}
use Rattle.gd_frozen.specs.WalkSteps.{some_walks_at, walks_behind_at}
use Rattle.gd_frozen.proofs.Others.{closed_at_once, not_closed, shut}
use Rattle.gd_frozen.proofs.walk.walks_behind.Goals as goal

pub returns-in-Some : goal.returns-in-Some
unfolding walks_behind_at
returns-in-Some c = search (closed_at_once (one_or_more_at 59 walk_at) c.args.bytes.now c.in-Some.behind.now c.in-Some.ensures, c.new.ensures.items)

pub returns-in-None : goal.returns-in-None
unfolding walks_behind_at some_walks_at
returns-in-None c = subst (λ (r : Reads (List Walk)). Gets (λ x. (map walk_of x.0.items, x.1.now)) r c.further_walks.result) (ap shut (sym (not_closed (one_or_more_at 59 walk_at) c.args.bytes.now c.in-None.ensures))) c.further_walks.ensures
