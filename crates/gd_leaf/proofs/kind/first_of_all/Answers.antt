use Rattle.std.proofs.Common.{◌<◌, ◌≤◌, length, sym, arith, rules}
use Rattle.gd_prim.specs.History.{prims_of}
use Rattle.gd_leaf.proofs.Firsts.{first_all, none_all}
use Rattle.gd_leaf.proofs.kind.first_of_all.Goals as goal

pub returns-then-place-clause-first : goal.returns-then-place-clause-first
returns-then-place-clause-first g c =
    let past : length (prims_of c.args.view.now) ≤ c.args.from = search rules in
    sym (none_all 0 (length (prims_of c.args.view.now)) c.args.from (omega (arith, past)))

pub returns-clause-first : goal.returns-clause-first
returns-clause-first g c =
    let there : c.args.from < length (prims_of c.args.view.now) = search rules in
    sym (first_all 0 (length (prims_of c.args.view.now)) c.args.from (omega arith) (omega (arith, there)))
