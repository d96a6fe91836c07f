use Rattle.std.proofs.Common.{◌<◌, ◌∙◌, ap, arith}
use Rattle.gd_store.specs.Valued.{number_in}
use Rattle.gd_store.proofs.Stored.{front_at}
use Rattle.gd_store.proofs.Valued.{number_small}
use Rattle.gd_store.proofs.store.Store.number_of.Goals as goal

pub overflow_cast-result : goal.overflow_cast-result
overflow_cast-result g c =
    let small : c.in-Some.number < 2_097_151 = number_small c.args.value.now c.self.inside.prims c.end.result c.in-Some.number 2_097_151 c.in-Some.ensures.number c.self.invariant.few_prims in
    omega (arith, small)

pub returns-in-Some-clause-number : goal.returns-in-Some-clause-number
returns-in-Some-clause-number g c =
    c.in-Some.ensures.number ∙ ap (number_in c.args.value.now)
    (front_at c.self.inside.prims c.self.inside.requests.items c.self.inside.text c.args.self.now c.end.result c.args.dateline c.self.invariant c.self.view_is c.end.ensures)

pub returns-in-None-clause-number : goal.returns-in-None-clause-number
returns-in-None-clause-number g c =
    c.in-None.ensures.number ∙ ap (number_in c.args.value.now)
    (front_at c.self.inside.prims c.self.inside.requests.items c.self.inside.text c.args.self.now c.end.result c.args.dateline c.self.invariant c.self.view_is c.end.ensures)
