use Rattle.std.proofs.Common.{◌<◌, ◌≤◌, length, sym, rules}
use Rattle.gd_prim.specs.History.{prims_of}
use Rattle.gd_leaf.specs.Rising.{rises_of}
use Rattle.gd_leaf.proofs.Firsts.{first_below, past_below, no_first_below}
use Rattle.gd_leaf.proofs.listed.Listed.first.Goals as goal

pub returns-then-place-clause-first : goal.returns-then-place-clause-first
returns-then-place-clause-first g c =
    let less : c.in-Some.id < length (prims_of c.args.view.now) = search rules in
    sym (first_below c.args.from (length (prims_of c.args.view.now)) 0 c.in-Some.id c.args.self.now.ids.ids (rises_of c.args.self.now.ids.ids c.args.self.now.rises) c.in-Some.ensures.first less)

pub returns-else-place-clause-first : goal.returns-else-place-clause-first
returns-else-place-clause-first g c =
    let past : length (prims_of c.args.view.now) ≤ c.in-Some.id = search rules in
    sym (past_below c.args.from (length (prims_of c.args.view.now)) 0 c.in-Some.id c.args.self.now.ids.ids (rises_of c.args.self.now.ids.ids c.args.self.now.rises) c.in-Some.ensures.first past)

pub returns-in-None-clause-first : goal.returns-in-None-clause-first
returns-in-None-clause-first g c = sym (no_first_below c.args.from (length (prims_of c.args.view.now)) c.args.self.now.ids.ids c.in-None.ensures.first)
